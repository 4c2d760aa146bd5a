-- The least lengths of fixed priorities in another order (specs/Responses): rows of different periods keep their order of priority
-- wherever they stand.
use mathlib.Core.Bool.{Bool, true, false, ◌||◌, ◌&&◌}
use mathlib.Core.List.{List, [], ◌∷◌}
use mathlib.Core.Logic.{◌⊎◌, inl, inr}
use mathlib.Core.Path.{◌≡◌, refl, ap, sym, ◌∙◌}
use native.Mathlib.Nat.{zero-add, eq-zero-or-pos}
use native.Mathlib.Omega.{arith}
use borrow.Author.Tests.{lt-ltb, le-ltb, eq-eqb, ne_eqb}
use lib.Dec.{ltb, eqb}
use lib.ListN.{length, get_or, replicate, length-replicate, get_or-replicate, get_or-eq_default}
use Prim.Native.Nat.{ℕ, zero, suc, ◌+◌, ◌≤◌, ◌<◌}
use Rattle.std.specs.Prelude.{Result}
use Rattle.demand.specs.Demands.{called_by}
use Rattle.demand.specs.Limits.{tasks_most}
use Rattle.demand.specs.Refusals.{InRange, table_refusal}
use Rattle.demand.specs.Rows.{Row, row_at, total, tasks_of, handlers_of}
use Rattle.demand.specs.Tests.{pick}
use Rattle.demand.proofs.Divide.{le-or-lt}
use Rattle.demand.proofs.Refusals.{refusal-in-range}
use Rattle.demand.specs.declared.refusal.Refusal.{Refusal}
use Rattle.priority.specs.Answers.{Figures, figures, figures_by, no_lengths, ResponsesSay}
use Rattle.priority.specs.Asked.{above, asked_from, asked}
use Rattle.priority.specs.Responses.{least_to, response, leasts}
use Rattle.priority.proofs.Inside.Search.{listed_at}
use Rattle.units.specs.Orders.{Shuffled, Exchanged, went_to}
use Rattle.units.specs.Orders.Shuffled.{nothing, same, swapped, then}
use Rattle.units.specs.Orders.Exchanged.{unmoved, behind, exchanged, onward}
use Rattle.units.specs.Responses.{OwnResponse}
use Rattle.units.proofs.Orders.{total-shuffled, called-shuffled}
use Rattle.units.proofs.OtherOrder.{table-shuffled}

-- ---- where a row went

shuffled-same : (rs : List Row) → Shuffled rs rs
shuffled-same [] = nothing
shuffled-same (r ∷ rs) = same (shuffled-same rs)

pub exchanged-shuffled : {rs qs : List Row} → Exchanged rs qs → Shuffled rs qs
exchanged-shuffled (unmoved {rs}) = shuffled-same rs
exchanged-shuffled (behind e) = same (exchanged-shuffled e)
exchanged-shuffled (exchanged apart) = swapped
exchanged-shuffled (onward e f) = then (exchanged-shuffled e) (exchanged-shuffled f)

-- The row is there.
pub row-went : {rs qs : List Row} (e : Exchanged rs qs) (i : ℕ) → row_at qs (went_to e i) ≡ row_at rs i
unfolding went_to
row-went unmoved i = refl
row-went (behind e) zero = refl
row-went (behind e) (suc i) = row-went e i
row-went (exchanged apart) zero = refl
row-went (exchanged apart) (suc zero) = refl
row-went (exchanged apart) (suc (suc i)) = refl
row-went (onward e f) i = row-went f (went_to e i) ∙ row-went e i

pub went-within : {rs qs : List Row} (e : Exchanged rs qs) (i : ℕ) → i < length rs → went_to e i < length qs
unfolding went_to
went-within unmoved i h = h
went-within (behind e) zero h = omega arith
went-within (behind e) (suc i) h = omega (arith, went-within e i (omega arith))
went-within (exchanged apart) zero h = omega arith
went-within (exchanged apart) (suc zero) h = omega arith
went-within (exchanged apart) (suc (suc i)) h = omega arith
went-within (onward e f) i h = went-within f (went_to e i) (went-within e i h)

-- ---- what is asked

-- the work of a row that is above r by its period alone, or by its period and its place
abbrev sooner : Row → ℕ → Row → ℕ
sooner r l q = pick (ltb q.period r.period) (called_by l q) 0

abbrev sooner_or_tied : Row → ℕ → Row → ℕ
sooner_or_tied r l q = pick (ltb q.period r.period || eqb q.period r.period) (called_by l q) 0

-- A row at a later place is above by its period alone ..
place-later : (i j : ℕ) (r : Row) (l : ℕ) (q : Row) → i < j → pick (eqb j i || above i r j q) (called_by l q) 0 ≡ sooner r l q
place-later i j r l q h =
    rw (ne_eqb j i (λ e. omega arith), le-ltb j i (omega arith)) (go (ltb q.period r.period) (eqb q.period r.period))
  where
    go : (a b : Bool) → pick (false || (a || (b && false))) (called_by l q) 0 ≡ pick a (called_by l q) 0
    go true b = refl
    go false true = refl
    go false false = refl

-- .. and one at an earlier place on a tie too.
place-earlier : (i j : ℕ) (r : Row) (l : ℕ) (q : Row) → j < i → pick (eqb j i || above i r j q) (called_by l q) 0 ≡ sooner_or_tied r l q
place-earlier i j r l q h =
    rw (ne_eqb j i (λ e. omega arith), lt-ltb j i h) (go (ltb q.period r.period) (eqb q.period r.period))
  where
    go : (a b : Bool) → pick (false || (a || (b && true))) (called_by l q) 0 ≡ pick (a || b) (called_by l q) 0
    go true b = refl
    go false true = refl
    go false false = refl

place-own : (j : ℕ) (r : Row) (l : ℕ) (q : Row) (b : Bool) → pick (eqb j j || b) (called_by l q) 0 ≡ called_by l q
place-own j r l q b = rw (eq-eqb j j refl)

-- Of different periods both say the same.
sooner-apart : (r : Row) (l : ℕ) (q : Row) → (q.period ≡ r.period → ⊥) → sooner r l q ≡ sooner_or_tied r l q
sooner-apart r l q apart = rw (ne_eqb q.period r.period apart) (go (ltb q.period r.period))
  where
    go : (a : Bool) → pick a (called_by l q) 0 ≡ pick (a || false) (called_by l q) 0
    go true = refl
    go false = refl

-- Behind a row the places do not count, and so not their order.
asked-behind : (i j : ℕ) (qs : List Row) (r : Row) (l : ℕ) → i < j → asked_from j qs i r l ≡ total (sooner r l) qs
unfolding asked_from total
asked-behind i j [] r l h = refl
asked-behind i j (q ∷ qs) r l h = rw (place-later i j r l q h, asked-behind i (suc j) qs r l (omega arith))

asked-behind-same : (i k j : ℕ) {qs os : List Row} (r : Row) (l : ℕ) → i < j → k < j → Shuffled qs os
    → asked_from j qs i r l ≡ asked_from j os k r l
asked-behind-same i k j {qs} {os} r l h g s = asked-behind i j qs r l h ∙ total-shuffled (sooner r l) s ∙ sym (asked-behind k j os r l g)

-- Two neighbours of different periods are exchanged: for the first, for the second, for any behind them.
module _ (r q : Row) (rs : List Row) (apart : r.period ≡ q.period → ⊥) (j l : ℕ) where
  asked-first : asked_from j (r ∷ q ∷ rs) j r l ≡ asked_from j (q ∷ r ∷ rs) (suc j) r l
  unfolding asked_from
  asked-first =
      omega (
        arith,
        place-own j r l r (above j r j r),
        place-own (suc j) r l r (above (suc j) r (suc j) r),
        place-later j (suc j) r l q (omega arith),
        place-earlier (suc j) j r l q (omega arith),
        sooner-apart r l q (λ e. apart (sym e)),
        asked-behind-same j (suc j) (suc (suc j)) r l (omega arith) (omega arith) (shuffled-same rs),
      )

  asked-second : asked_from j (r ∷ q ∷ rs) (suc j) q l ≡ asked_from j (q ∷ r ∷ rs) j q l
  unfolding asked_from
  asked-second =
      omega (
        arith,
        place-own j q l q (above j q j q),
        place-own (suc j) q l q (above (suc j) q (suc j) q),
        place-later j (suc j) q l r (omega arith),
        place-earlier (suc j) j q l r (omega arith),
        sooner-apart q l r apart,
        asked-behind-same (suc j) j (suc (suc j)) q l (omega arith) (omega arith) (shuffled-same rs),
      )

  asked-third : (i : ℕ) (o : Row) → suc j < i → asked_from j (r ∷ q ∷ rs) i o l ≡ asked_from j (q ∷ r ∷ rs) i o l
  unfolding asked_from
  asked-third i o h =
      omega (
        arith,
        place-earlier i j o l r (omega arith),
        place-earlier i (suc j) o l q h,
        place-earlier i j o l q (omega arith),
        place-earlier i (suc j) o l r h,
      )

asked-went : {rs qs : List Row} (e : Exchanged rs qs) (j i l : ℕ)
    → asked_from j rs (j + i) (row_at rs i) l ≡ asked_from j qs (j + went_to e i) (row_at rs i) l
unfolding went_to asked_from
asked-went unmoved j i l = refl
asked-went (behind {r} {rs} {qs} e) j zero l =
    omega (arith, asked-behind-same (j + 0) (j + 0) (suc j) r l (omega arith) (omega arith) (exchanged-shuffled e))
asked-went (behind {r} {rs} {qs} e) j (suc i) l =
    let was : j + suc i ≡ suc j + i = omega arith in
    let now : j + suc (went_to e i) ≡ suc j + went_to e i = omega arith in
    rw (was, now)
    (omega (
      arith,
      place-earlier (suc j + i) j (row_at rs i) l r (omega arith),
      place-earlier (suc j + went_to e i) j (row_at rs i) l r (omega arith),
      asked-went e (suc j) i l,
    ))
asked-went (exchanged {r} {q} {rs} apart) j zero l =
    let was : j + 0 ≡ j = omega arith in
    let now : j + 1 ≡ suc j = omega arith in
    rw (was, now) (asked-first r q rs apart j l)
asked-went (exchanged {r} {q} {rs} apart) j (suc zero) l =
    let was : j + 1 ≡ suc j = omega arith in
    let now : j + 0 ≡ j = omega arith in
    rw (was, now) (asked-second r q rs apart j l)
asked-went (exchanged {r} {q} {rs} apart) j (suc (suc i)) l = asked-third r q rs apart j l (j + suc (suc i)) (row_at rs i) (omega arith)
asked-went (onward {rs} {qs} {os} e f) j i l =
    asked-went e j i l ∙ (rw (row-went e i) at (asked-went f j (went_to e i) l))

module _ {ts hs us is : List Row} (e : Exchanged ts us) (s : Shuffled hs is) where
  pub asked-own : (i l : ℕ) → asked ts hs i l ≡ asked us is (went_to e i) l
  unfolding asked
  asked-own i l =
      let own : asked_from 0 ts i (row_at ts i) l ≡ asked_from 0 us (went_to e i) (row_at ts i) l =
      rw (zero-add i, zero-add (went_to e i)) at (asked-went e 0 i l) in
      rw (row-went e i) (omega (arith, called-shuffled s l, own))

  pub response-own : (i : ℕ) → response ts hs i ≡ response us is (went_to e i)
  unfolding response
  response-own i = rw (row-went e i) (λ j. least_to (λ l. asked-own i l j) (row_at ts i).deadline)

-- ---- the answer

-- The length of a task in the answer to a table: its response where the table is not refused, else 0.
module _ (t h : List ℕ) (p : Result (List ℕ) Refusal) (says : ResponsesSay t h p) where
  least-found : table_refusal t h ≡ 0 → (i : ℕ) → i < length (tasks_of t) → get_or (figures p).least i 0 ≡ response (tasks_of t) (handlers_of h) i
  unfolding figures figures_by leasts
  least-found none i row =
      let fair : InRange (tasks_of t) (handlers_of h) = refusal-in-range t h none in
      let is : figures p ≡ figures_by 0 (leasts (tasks_of t) (handlers_of h)) = rw none at says.figured in
      ap (λ (f : Figures). get_or f.least i 0) is
      ∙ listed_at (response (tasks_of t) (handlers_of h)) tasks_most i (omega (arith, fair.tasks-most))

  least-refused : 0 < table_refusal t h → (i : ℕ) → get_or (figures p).least i 0 ≡ 0
  unfolding figures figures_by no_lengths
  least-refused some i =
      let is : (figures p).least ≡ pick (eqb (table_refusal t h) 0) (leasts (tasks_of t) (handlers_of h)) no_lengths =
      ap (λ (f : Figures). f.least) says.figured in
      let refused : eqb (table_refusal t h) 0 ≡ false = ne_eqb (table_refusal t h) 0 (λ e. omega arith) in
      ap (λ (ls : List ℕ). get_or ls i 0) (is ∙ ap (λ (b : Bool). pick b (leasts (tasks_of t) (handlers_of h)) no_lengths) refused)
      ∙ zeros tasks_most i
    where
      zeros : (n k : ℕ) → get_or {A = ℕ} (replicate n 0) k 0 ≡ 0
      zeros n k = go (le-or-lt n k)
        where
          go : (n ≤ k) ⊎ (k < n) → get_or {A = ℕ} (replicate n 0) k 0 ≡ 0
          go (inl past) = get_or-eq_default (replicate n 0) 0 (omega (arith, length-replicate {A = ℕ} n 0))
          go (inr short) = get_or-replicate {A = ℕ} n k 0 0 short

-- M-104: each task keeps its own least length, wherever its row stands.
pub own-response : OwnResponse
unfolding OwnResponse
own-response t h t' h' p q e lt s lh says says' i row = go (eq-zero-or-pos (table_refusal t h))
  where
    same_number : table_refusal t h ≡ table_refusal t' h'
    same_number = table-shuffled t h t' h' (exchanged-shuffled e) lt s lh

    go : (table_refusal t h ≡ 0) ⊎ (0 < table_refusal t h) → get_or (figures p).least i 0 ≡ get_or (figures q).least (went_to e i) 0
    go (inl none) =
        least-found t h p says none i row
        ∙ response-own e s i
        ∙ sym (least-found t' h' q says' (sym same_number ∙ none) (went_to e i) (went-within e i row))
    go (inr some) = least-refused t h p says some i ∙ sym (least-refused t' h' q says' (omega (arith, some, same_number)) (went_to e i))
