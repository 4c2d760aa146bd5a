-- The worked tables (specs/Cases), by one computed test of a case and one computation over the list.
--   right a n l          == l is the least length up to n with room for a, by the test: looked for no further than l where it is not 0
--   right_from ts hs i ls == each of ls is the response of its task, the first that of task i
--   holds c              == the test of a case; all_hold cs of each
use mathlib.Core.Bool.{Bool, true, false, ◌&&◌}
use mathlib.Core.List.{List, [], ◌∷◌}
use mathlib.Core.Logic.{◌⊎◌, inl, inr}
use mathlib.Core.Path.{◌≡◌, refl, sym, ap, ◌∙◌}
use native.Mathlib.Nat.{zero-add}
use native.Mathlib.Omega.{arith}
use borrow.Author.Tests.{eqb-true, ltb-true}
use lib.Dec.{eqb, ltb, eqb-suc-zero}
use lib.ListN.{length, get_or, get_or-eq_default}
use Prim.Native.Nat.{ℕ, zero, suc, ◌+◌, ◌≤◌, ◌<◌}
use Rattle.demand.specs.Demands.{called}
use Rattle.demand.specs.Limits.{tasks_most}
use Rattle.demand.specs.Refusals.{table_tests, table_refusal}
use Rattle.demand.specs.Rows.{Row, row_at, tasks_of, handlers_of, total, some}
use Rattle.demand.specs.Tests.{pick, first_refusal}
use Rattle.demand.proofs.Divide.{le-or-lt}
use Rattle.priority.specs.Answers.{no_lengths, figures_by}
use Rattle.priority.specs.Asked.{asked_from, asked}
use Rattle.priority.specs.Cases.{Case, cases, sheet_of, CaseHolds, EveryCase}
use Rattle.priority.specs.Responses.{least_to, response, listed, leasts}
use Rattle.priority.proofs.Inside.Search.{listed_same, listed-zeros, response-past}
use Rattle.priority.proofs.Response.{Least, least-told, below-least}

-- ---- one response

unfoldable right : (ℕ → ℕ) → ℕ → ℕ → Bool
right a n zero = eqb (least_to a n) 0
right a n (suc l) = eqb (least_to a (suc l)) (suc l) && ltb l n

both : (a b : Bool) → (a && b) ≡ true → (a ≡ true) × (b ≡ true)
both true b e = (refl, e)
both false b e = (e, cc)

-- The least up to l, where that is l, is the least up to any n from there on.
right_is : (a : ℕ → ℕ) (n l : ℕ) → right a n l ≡ true → least_to a n ≡ l
unfolding right
right_is a n zero e = eqb-true (least_to a n) 0 e
right_is a n (suc l) e =
    let parts = both (eqb (least_to a (suc l)) (suc l)) (ltb l n) e in
    let same : least_to a (suc l) ≡ suc l = eqb-true (least_to a (suc l)) (suc l) parts.0 in
    let short : l < n = ltb-true l n parts.1 in
    let here : Least a (suc l) (least_to a (suc l)) = (least-told a (suc l)).least (omega arith) in
    let is : Least a (suc l) (suc l) = rw same at here in
    below-least a n (suc l) is.shorter (omega arith) (omega arith) is.room

-- ---- those of a table

unfoldable right_from : List Row → List Row → ℕ → List ℕ → Bool
right_from ts hs i [] = true
right_from ts hs i (l ∷ ls) = right (asked ts hs i) (row_at ts i).deadline l && right_from ts hs (suc i) ls

right-at : (ts hs : List Row) (i : ℕ) (ls : List ℕ) → right_from ts hs i ls ≡ true → (k : ℕ) → k < length ls → response ts hs (i + k) ≡ get_or ls k 0
unfolding right_from response
right-at ts hs i [] e k h = absurd (omega arith)
right-at ts hs i (l ∷ ls) e zero h =
    let parts = both (right (asked ts hs i) (row_at ts i).deadline l) (right_from ts hs (suc i) ls) e in
    let same : i + 0 ≡ i = omega arith in
    rw same (right_is (asked ts hs i) (row_at ts i).deadline l parts.0)
right-at ts hs i (l ∷ ls) e (suc k) h =
    let parts = both (right (asked ts hs i) (row_at ts i).deadline l) (right_from ts hs (suc i) ls) e in
    let same : i + suc k ≡ suc i + k = omega arith in
    rw same (right-at ts hs (suc i) ls parts.1 k (omega arith))

-- So all of them are those of the case, and zeros past them.
right-leasts : (ts hs : List Row) (ls : List ℕ) → length ls ≡ length ts → right_from ts hs 0 ls ≡ true → leasts ts hs ≡ listed (λ i. get_or ls i 0) tasks_most
unfolding leasts
right-leasts ts hs ls same e = listed_same (response ts hs) (λ i. get_or ls i 0) tasks_most (λ k h. go k (le-or-lt (length ls) k))
  where
    go : (k : ℕ) → (length ls ≤ k) ⊎ (k < length ls) → response ts hs k ≡ get_or ls k 0
    go k (inl past) = response-past ts hs k (omega arith) ∙ sym (get_or-eq_default ls 0 past)
    go k (inr row) = ap (λ (i : ℕ). response ts hs i) (sym (zero-add k)) ∙ right-at ts hs 0 ls e k row

-- ---- the test of a case

unfoldable told : ℕ → Case → Bool
told zero c = eqb (length c.least) (length (tasks_of c.tasks)) && right_from (tasks_of c.tasks) (handlers_of c.handlers) 0 c.least
told (suc k) c = eqb (length c.least) 0

unfoldable holds : Case → Bool
holds c = eqb (table_refusal c.tasks c.handlers) c.code && told c.code c

none-listed : (ls : List ℕ) → length ls ≡ 0 → no_lengths ≡ listed (λ i. get_or ls i 0) tasks_most
unfolding no_lengths
none-listed ls e = listed-zeros (λ i. get_or ls i 0) tasks_most (λ k h. get_or-eq_default ls 0 (omega arith))

told-figures : (k : ℕ) (c : Case) → told k c ≡ true
    → pick (eqb k 0) (leasts (tasks_of c.tasks) (handlers_of c.handlers)) no_lengths ≡ listed (λ i. get_or c.least i 0) tasks_most
unfolding told
told-figures zero c e =
    let ts = tasks_of c.tasks in
    let hs = handlers_of c.handlers in
    let parts = both (eqb (length c.least) (length ts)) (right_from ts hs 0 c.least) e in
    right-leasts ts hs c.least (eqb-true (length c.least) (length ts) parts.0) parts.1
told-figures (suc k) c e = rw (eqb-suc-zero k) (none-listed c.least (eqb-true (length c.least) 0 e))

holds-case : (c : Case) → holds c ≡ true → CaseHolds c
unfolding holds figures_by
holds-case c e =
    let parts = both (eqb (table_refusal c.tasks c.handlers) c.code) (told c.code c) e in
    let code : table_refusal c.tasks c.handlers ≡ c.code = eqb-true (table_refusal c.tasks c.handlers) c.code parts.0 in
    let least = told-figures c.code c parts.1 in
    let is : figures_by (table_refusal c.tasks c.handlers) (leasts (tasks_of c.tasks) (handlers_of c.handlers)) ≡ sheet_of c =
    rw code (λ i. record { code = c.code; least = least i }) in
    record { holds = is; only = λ p says. says.figured ∙ is }

-- ---- all of them

unfoldable all_hold : List Case → Bool
all_hold [] = true
all_hold (c ∷ cs) = holds c && all_hold cs

every-case : (cs : List Case) → all_hold cs ≡ true → EveryCase cs
unfolding all_hold
every-case [] e = tt
every-case (c ∷ cs) e =
    let parts = both (holds c) (all_hold cs) e in
    (holds-case c parts.0, every-case cs parts.1)

-- The one computation: here the definitions are opened, crate demand's too, since only numbers are left to find.
all-hold : all_hold cases ≡ true
unfolding all_hold holds told right_from right least_to asked asked_from cases table_refusal table_tests first_refusal called total some tasks_of handlers_of
all-hold = refl

pub cases-hold : EveryCase cases
cases-hold = every-case cases all-hold
