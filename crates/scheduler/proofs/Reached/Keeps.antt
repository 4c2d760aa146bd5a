-- What a tick does to one row, to the places past the last, and to the late row: the pieces of `StepInBounds`.
--   Came ..   what an arrival makes of a row: nothing came, or a legal arrival
use mathlib.Core.Bool.{Bool, true, false, not, ◌&&◌, false≢true}
use mathlib.Core.List.{List}
use mathlib.Core.Path.{◌≡◌, refl, sym, ap, ◌∙◌}
use native.Mathlib.Omega.{arith}
use borrow.Author.Tests.{ltb-true, ltb-false, eqb-true, eqb-false, le-ltb, lt-ltb, lt-leb, eq-eqb, ne_eqb}
use Prim.Native.Nat.{ℕ, ◌+◌, ◌-◌, ◌≤◌, ◌<◌}
use lib.Dec.{ltb, eqb}
use lib.ListN.{length, get_or, drop, length-set}
use lib.Seq.{drop-set-lt, get_or-set_same, get_or-set_other, set_out}
use Rattle.std.specs.Prelude.{Option, None, Some}
use Rattle.demand.specs.Rows.{Row}
use Rattle.scheduler.specs.Bounds.{passed, names}
use Rattle.scheduler.specs.Tick.{ahead, next_after, GoesTo, less, paid, is_late, late_row, is_task}
use Rattle.scheduler.specs.declared.Ran.{Ran}
use Rattle.scheduler.specs.declared.Ran.TheVariants.{Handler, Task, Idle}
use Rattle.scheduler.proofs.Steps.Scan.{any_at, first-here, Found, find}
use Rattle.scheduler.proofs.Steps.Scan.Found.{nowhere, first}

-- ---- one row

pub data Came (clock : ℕ) (row : Row) (next w next' : ℕ) : Type 0 where
  nothing : w ≡ 0 → next' ≡ next → Came clock row next w next'
  legal : 0 < w → next' ≡ clock + row.period → next ≤ clock → w ≤ row.cost → Came clock row next w next'

pub came : (clock : ℕ) (row : Row) (next w : ℕ) → (not (eqb w 0) && ltb clock next) ≡ false → ltb row.cost w ≡ false → Came clock row next w (next_after clock row w next)
came clock row next w timely light = go (eqb w 0) refl
  where
    go : (b : Bool) → eqb w 0 ≡ b → Came clock row next w (next_after clock row w next)
    go true e = nothing (eqb-true w 0 e) (rw e)
    go false e =
        let some : w ≡ 0 → ⊥ = eqb-false w 0 e in
        legal (omega arith) (rw e) (ltb-false clock next (rw e at timely)) (ltb-false row.cost w light)

-- A tick that an arrival moves, and one without an arrival.
pub ahead-moves : (clock ticks w old : ℕ) → 0 < w → ahead clock ticks w old ≡ clock + ticks
ahead-moves clock ticks w old some = rw (ne_eqb w 0 (λ none. omega arith))

pub ahead-stays : (clock ticks w old : ℕ) → w ≡ 0 → ahead clock ticks w old ≡ old
ahead-stays clock ticks w old none = rw (eq-eqb w 0 none)

-- ---- the tick takes work, and gives none

less-le : (xs : List ℕ) (j k : ℕ) → get_or (less xs j) k 0 ≤ get_or xs k 0
less-le xs j k = go (eqb k j) (ltb j (length xs)) refl refl
  where
    go : (t u : Bool) → eqb k j ≡ t → ltb j (length xs) ≡ u → get_or (less xs j) k 0 ≤ get_or xs k 0
    go true true p q =
        let e : k ≡ j = eqb-true k j p in
        rw (e, get_or-set_same xs j (get_or xs j 0 - 1) 0 (ltb-true j (length xs) q)) (omega arith)
    go true false p q = rw (set_out xs j (get_or xs j 0 - 1) (ltb-false j (length xs) q)) (omega arith)
    go false u p q = rw (get_or-set_other xs j k (get_or xs j 0 - 1) 0 (eqb-false k j p)) (omega arith)

pub paid-le : (owed : List ℕ) (n : ℕ) (ran : Ran) (k : ℕ) → get_or (paid owed n ran) k 0 ≤ get_or owed k 0
paid-le owed n (Handler i) k = less-le owed (n + i) k
paid-le owed n (Task i) k = less-le owed i k
paid-le owed n Idle k = omega arith

pub paid-length : (owed : List ℕ) (n : ℕ) (ran : Ran) → length (paid owed n ran) ≡ length owed
paid-length owed n (Handler i) = simp length-set
paid-length owed n (Task i) = simp length-set
paid-length owed n Idle = refl

-- Places past the last row stay as they are.
pub paid-drop : (key : ℕ → ℕ) (owed : List ℕ) (n m : ℕ) (ran : Ran) → GoesTo key owed n m ran → drop (n + m) (paid owed n ran) ≡ drop (n + m) owed
unfolding GoesTo
paid-drop key owed n m (Handler i) g = drop-set-lt (n + m) owed (n + i) _ (omega (arith, g.row))
paid-drop key owed n m (Task i) g = drop-set-lt (n + m) owed i _ (omega (arith, g.row))
paid-drop key owed n m Idle g = refl

-- ---- who is late

pub names_same : (l : Option ℕ) → (is_task l && not (names l l)) ≡ false
names_same None = refl
names_same (Some i) = rw (eq-eqb i i refl)

pub not_named : (l : Option ℕ) → (not (is_task l) && is_task l) ≡ false
not_named None = refl
not_named (Some i) = refl

-- Nobody is named: no task is late.
pub nobody-late : (clock : ℕ) (due : ℕ → ℕ) (owed : List ℕ) (n k : ℕ) → is_task (late_row clock due owed n) ≡ false → k < n → 0 < get_or owed k 0 → due k ≡ clock → ⊥
unfolding late_row
nobody-late clock due owed n k e l w same = go (find (is_late clock due owed) n)
  where
    go : Found (is_late clock due owed) n → ⊥
    go (first i m q none) = false≢true (sym e ∙ ap is_task (first-here (is_late clock due owed) Some i n None none q m))
    go (nowhere none) = false≢true (sym (any_at (is_late clock due owed) n k none l) ∙ rw (lt-ltb 0 (get_or owed k 0) w, eq-eqb (due k) clock same))

-- A task owed work is not past its deadline, where that lies ahead or, in a run that is over, is now.
pub not-missed : (over : Bool) (clock due owed : ℕ) → (0 < owed → clock ≤ due) → (over ≡ false → 0 < owed → due ≡ clock → ⊥) → (ltb 0 owed && passed over clock due) ≡ false
not-missed over clock due owed ahead apart = go over (ltb 0 owed) refl refl
  where
    go : (v b : Bool) → over ≡ v → ltb 0 owed ≡ b → (b && passed v clock due) ≡ false
    go v false ev eb = refl
    go true true ev eb = le-ltb due clock (ahead (ltb-true 0 owed eb))
    go false true ev eb =
        let work : 0 < owed = ltb-true 0 owed eb in
        let some : due ≡ clock → ⊥ = apart ev work in
        lt-leb due clock (omega (arith, ahead work))
