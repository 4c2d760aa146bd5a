-- A table that its counts alone refuse is refused alike in either order.
use mathlib.Core.Bool.{Bool, true, false, ◌||◌}
use mathlib.Core.List.{List}
use mathlib.Core.Logic.{◌⊎◌, inl, inr}
use mathlib.Core.Path.{◌≡◌, refl, sym, ap, ◌∙◌}
use native.Mathlib.Omega.{arith}
use borrow.Author.Tests.{ltb-true, lt-ltb}
use Prim.Native.Nat.{ℕ, ◌<◌, ◌%◌}
use lib.Dec.{ltb, eqb}
use lib.ListN.{length}
use Rattle.std.specs.Prelude.{Some, None}
use Rattle.demand.specs.Limits.{tasks_most, handlers_most}
use Rattle.demand.specs.Refusals.{uneven, miscounted, table_tests, table_refusal}
use Rattle.demand.specs.Rows.{tasks_of, handlers_of}
use Rattle.demand.specs.Tests.{pick}
use Rattle.demand.specs.declared.table.Kind.{Kind}
use Rattle.demand.specs.declared.table.Kind.TheVariants.{Task, Handler}
use Rattle.demand.proofs.Chains.{first-at}
use Rattle.demand.proofs.Inside.Slices.{rows-count}
use Rattle.demand.proofs.Refusals.{neither}
use Rattle.columns.specs.Held.{most_numbers, unheld, table_unheld, held_of, table_held, RefusedAlike}
use Rattle.columns.specs.Order.{by_column, row_order}
use Rattle.columns.proofs.Order.{whole, order-length}

either : (a b : Bool) → (a || b) ≡ true → (a ≡ true) ⊎ (b ≡ true)
either true b e = inl refl
either false b e = inr e

or_left : (a b : Bool) → a ≡ true → (a || b) ≡ true
or_left true b e = refl
or_left false b e = absurd (let z : ◌≡◌ {A = ℕ} 0 1 = ap (λ (x : Bool). pick x 1 0) e in omega arith)

or_right : (a b : Bool) → b ≡ true → (a || b) ≡ true
or_right true b e = refl
or_right false b e = e

-- A list too long for a table has too many rows.
long-task : (t : List ℕ) → uneven Task t ≡ false → ltb (most_numbers Task) (length t) ≡ true → ltb tasks_most (length (tasks_of t)) ≡ true
long-task t e l =
    let long : most_numbers Task < length t = ltb-true (most_numbers Task) (length t) l in
    lt-ltb tasks_most (length (tasks_of t)) (omega (arith, rows-count Task t, whole Task t e))

long-handler : (h : List ℕ) → uneven Handler h ≡ false → ltb (most_numbers Handler) (length h) ≡ true
    → ltb handlers_most (length (handlers_of h)) ≡ true
long-handler h e l =
    let long : most_numbers Handler < length h = ltb-true (most_numbers Handler) (length h) l in
    lt-ltb handlers_most (length (handlers_of h)) (omega (arith, rows-count Handler h, whole Handler h e))

-- In whole rows, only the length is left to refuse it.
long : (kind : Kind) (s : List ℕ) → uneven kind s ≡ false → unheld kind s ≡ true → ltb (most_numbers kind) (length s) ≡ true
long kind s e u = go (either (ltb (most_numbers kind) (length s)) (uneven kind s) u)
  where
    go : (ltb (most_numbers kind) (length s) ≡ true) ⊎ (uneven kind s ≡ true) → ltb (most_numbers kind) (length s) ≡ true
    go (inl l) = l
    go (inr x) = absurd (let z : ◌≡◌ {A = ℕ} 0 1 = ap (λ (b : Bool). pick b 0 1) (sym x ∙ e) in omega arith)

too_many : (t h : List ℕ) → uneven Task t ≡ false → uneven Handler h ≡ false → table_unheld t h ≡ true → miscounted (tasks_of t) (handlers_of h) ≡ true
too_many t h et eh u = go (either (unheld Task t) (unheld Handler h) u)
  where
    go : (unheld Task t ≡ true) ⊎ (unheld Handler h ≡ true) → miscounted (tasks_of t) (handlers_of h) ≡ true
    go (inl a) =
        or_left (eqb (length (tasks_of t)) 0 || ltb tasks_most (length (tasks_of t))) (ltb handlers_most (length (handlers_of h)))
        (or_right (eqb (length (tasks_of t)) 0) (ltb tasks_most (length (tasks_of t))) (long-task t et (long Task t et a)))
    go (inr b) =
        or_right (eqb (length (tasks_of t)) 0 || ltb tasks_most (length (tasks_of t))) (ltb handlers_most (length (handlers_of h)))
        (long-handler h eh (long Handler h eh b))

-- The number is 1 or 2, and the counts alone tell which.
refused-by-counts : (t h : List ℕ) → table_unheld t h ≡ true → table_refusal t h ≡ pick (uneven Task t || uneven Handler h) 1 2
unfolding table_refusal table_tests
refused-by-counts t h u = go (uneven Task t || uneven Handler h) refl
  where
    go : (b : Bool) → (uneven Task t || uneven Handler h) ≡ b → table_refusal t h ≡ pick b 1 2
    go true e = sym (first-at (table_tests t h) 0 tt e)
    go false e =
        let even = neither (uneven Task t) (uneven Handler h) e in
        sym (first-at (table_tests t h) 1 (e, tt) (too_many t h even.0 even.1 u))

pub refused-alike : RefusedAlike
refused-alike t h u = record { same = here ∙ sym there; some = positive (uneven Task t || uneven Handler h) here }
  where
    -- counts and so tests are the same
    same_test : (test : ℕ → ℕ → Bool) → test (length (row_order Task t)) (length (row_order Handler h)) ≡ test (length t) (length h)
    same_test test =
        ap (λ (n : ℕ). test n (length (row_order Handler h))) (order-length by_column Task t)
        ∙ ap (λ (m : ℕ). test (length t) m) (order-length by_column Handler h)

    here : table_refusal t h ≡ pick (uneven Task t || uneven Handler h) 1 2
    here = refused-by-counts t h u

    refuses : ℕ → ℕ → Bool
    refuses n m = (ltb (most_numbers Task) n || ltb 0 (n % 3)) || (ltb (most_numbers Handler) m || ltb 0 (m % 2))

    odd : ℕ → ℕ → Bool
    odd n m = ltb 0 (n % 3) || ltb 0 (m % 2)

    there : table_refusal (row_order Task t) (row_order Handler h) ≡ pick (uneven Task t || uneven Handler h) 1 2
    there =
        refused-by-counts (row_order Task t) (row_order Handler h) (same_test refuses ∙ u)
        ∙ ap (λ (b : Bool). pick b 1 2) (same_test odd)

    positive : (b : Bool) → table_refusal t h ≡ pick b 1 2 → 0 < table_refusal t h
    positive true e = omega arith
    positive false e = omega arith

-- ---- what the code holds

pub held_none : (t h : List ℕ) → table_unheld t h ≡ true → table_held t h ≡ None
unfolding table_held
held_none t h u = rw u

pub held_both : (t h : List ℕ) → table_unheld t h ≡ false → table_held t h ≡ Some (held_of t h)
unfolding table_held
held_both t h u = rw u
