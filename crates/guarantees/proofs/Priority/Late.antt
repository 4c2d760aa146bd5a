-- A task without a response: the synchronous run by priority is late by its first deadline. So responses are exact.
--   on-time-or   a list of tasks is on time or it is not
--   FirstLate    the first clock up to d at which the machine is late
use mathlib.Core.Bool.{true≢false}
use mathlib.Core.List.{List, [], ◌∷◌}
use mathlib.Core.Logic.{◌⊎◌, inl, inr}
use mathlib.Core.Path.{◌≡◌, sym, subst, ◌∙◌}
use native.Mathlib.Nat.{eq-or-lt_of_le, eq-zero-or-pos}
use native.Mathlib.Omega.{arith}
use Prim.Native.Nat.{ℕ, zero, suc, ◌+◌, ◌≤◌, ◌<◌}
use lib.ListN.{length}
use Rattle.demand.proofs.Divide.{le-or-lt}
use Rattle.demand.proofs.Inside.Places.{each_at}
use Rattle.demand.proofs.Inside.Sizes.{tasks-valid, handlers-positive}
use Rattle.demand.proofs.Refusals.{refusal-in-range}
use Rattle.demand.specs.Demands.{called}
use Rattle.demand.specs.Limits.{ticks_most}
use Rattle.demand.specs.Refusals.{table_refusal, FairRow}
use Rattle.demand.specs.Rows.{Row, row_at, tasks_of, handlers_of, Sound}
use Rattle.machine.specs.Live.{Live, due_of, period_of, idle, OnTime}
use Rattle.machine.specs.Machine.{sync_by}
use Rattle.machine.proofs.Invariant.{idle-before, on-time}
use Rattle.machine.proofs.Priority.Above.{fixed, above_called}
use Rattle.machine.proofs.Priority.Undone.{fixed-late-at, fixed-late}
use Rattle.priority.specs.Responses.{response}
use Rattle.priority.proofs.Response.{response-none}
use Rattle.guarantees.specs.Patterns.{pattern_to}
use Rattle.guarantees.specs.Priority.{length_of, LateBy, LateByPriority, RespondsExactly}
use Rattle.guarantees.specs.Synchronous.{beat_of}
use Rattle.guarantees.proofs.FirstLate.{first-late}
use Rattle.guarantees.proofs.Priority.Asked.{asked_is}
use Rattle.guarantees.proofs.Priority.Said.{says-table, says-length}

-- ---- the first clock at which the machine is late

on-time-or : (t : ℕ) (xs : List Live) → OnTime t xs ⊎ (¬ OnTime t xs)
on-time-or t [] = inl tt
on-time-or t (x ∷ xs) = go (eq-zero-or-pos x.owed) (le-or-lt (due_of x) t) (le-or-lt t (due_of x)) (on-time-or t xs)
  where
    go : (x.owed ≡ 0) ⊎ (0 < x.owed) → (due_of x ≤ t) ⊎ (t < due_of x) → (t ≤ due_of x) ⊎ (due_of x < t)
        → OnTime t xs ⊎ (¬ OnTime t xs) → OnTime t (x ∷ xs) ⊎ (¬ OnTime t (x ∷ xs))
    go o a b (inr late) = inr (λ on. late on.1)
    go (inl none) a b (inl rest) = inl (λ e. none, rest)
    go (inr some) (inl a) (inl b) (inl rest) = inr (λ on. let none : x.owed ≡ 0 = on.0 (omega arith) in omega arith)
    go (inr some) (inl a) (inr b) (inl rest) = inl (λ e. absurd (omega arith), rest)
    go (inr some) (inr a) b (inl rest) = inl (λ e. absurd (omega arith), rest)

record FirstLate (state : ℕ → List Live) (d : ℕ) : Type 0 where
  clock : ℕ
  by : clock ≤ d
  before : (n : ℕ) → n < clock → OnTime n (state n)
  late : ¬ OnTime clock (state clock)

-- Up to d all are on time, or there is a first that is not.
first_or_none : (state : ℕ → List Live) (d : ℕ) → ((n : ℕ) → n ≤ d → OnTime n (state n)) ⊎ FirstLate state d
first_or_none state zero = go (on-time-or 0 (state 0))
  where
    go : OnTime 0 (state 0) ⊎ (¬ OnTime 0 (state 0)) → ((n : ℕ) → n ≤ 0 → OnTime n (state n)) ⊎ FirstLate state 0
    go (inl on) = inl (λ n h. let same : 0 ≡ n = omega arith in subst (λ (m : ℕ). OnTime m (state m)) same on)
    go (inr late) = inr (record { clock = 0; by = omega arith; before = λ n h. absurd (omega arith); late = late })
first_or_none state (suc d) = go (first_or_none state d) (on-time-or (suc d) (state (suc d)))
  where
    go : ((n : ℕ) → n ≤ d → OnTime n (state n)) ⊎ FirstLate state d → OnTime (suc d) (state (suc d)) ⊎ (¬ OnTime (suc d) (state (suc d)))
        → ((n : ℕ) → n ≤ suc d → OnTime n (state n)) ⊎ FirstLate state (suc d)
    go (inr f) here = inr (record { clock = f.clock; by = omega (arith, f.by); before = f.before; late = f.late })
    go (inl all) (inr late) = inr (record { clock = suc d; by = omega arith; before = λ n h. all n (omega arith); late = late })
    go (inl all) (inl on) = inl (λ n h. up_to n (eq-or-lt_of_le h))
      where
        up_to : (n : ℕ) → (n ≡ suc d) ⊎ (n < suc d) → OnTime n (state n)
        up_to n (inl same) = subst (λ (m : ℕ). OnTime m (state m)) (sym same) on
        up_to n (inr less) = all n (omega arith)

-- ---- a task without a response

module _ (t h : List ℕ) (e : table_refusal t h ≡ 0) (i : ℕ) (place : i < length (tasks_of t)) (none : response (tasks_of t) (handlers_of h) i ≡ 0) where
  abbrev ts : List Row
  ts = tasks_of t

  abbrev hs : List Row
  hs = handlers_of h

  abbrev d : ℕ
  d = (row_at (tasks_of t) i).deadline

  abbrev state : ℕ → List Live
  state n = (sync_by fixed n (tasks_of t) (handlers_of h)).tasks

  fair : FairRow (row_at ts i)
  fair = each_at FairRow ts (refusal-in-range t h e).tasks i place

  sound : Sound (row_at ts i)
  sound = each_at Sound ts (tasks-valid t h e) i place

  -- No length up to its deadline has room.
  crowded : (l : ℕ) → 0 < l → l ≤ d → l < called hs l + above_called (row_at ts i).period (suc i) 0 ts l
  crowded l from upto = omega (arith, response-none ts hs i none l from upto, asked_is ts hs i l)

  machine-late : ¬ OnTime d (state d)
  machine-late = fixed-late ts hs (tasks-valid t h e) (handlers-positive t h e) i place fair.cost.least crowded

  -- A fresh table is owed nothing.
  fresh-on-time : OnTime 0 (state 0)
  unfolding sync_by
  fresh-on-time = on-time 0 (idle ts) (idle-before 1 ts)

  first : FirstLate state d
  first = go (first_or_none state d)
    where
      go : ((n : ℕ) → n ≤ d → OnTime n (state n)) ⊎ FirstLate state d → FirstLate state d
      go (inl all) = absurd (machine-late (all d (omega arith)))
      go (inr f) = f

  positive : (l : ℕ) → ¬ OnTime l (state l) → 1 ≤ l
  positive zero late = absurd (late fresh-on-time)
  positive (suc l) late = omega arith

  pub late_by : LateBy t h i
  late_by =
      let there = fixed-late-at ts hs (tasks-valid t h e) (handlers-positive t h e) i place fair.cost.least crowded in
      let soon : first.clock ≤ ticks_most = omega (arith, first.by, sound.fits, fair.period.most) in
      record {
        owed = there.0;
        due = there.1;
        clock = first.clock;
        by = first.by;
        late = first-late period_of t h e first.clock (positive first.clock first.late) soon first.before first.late;
      }

pub late-by-priority : LateByPriority
late-by-priority t h p says accepted i place none =
    late_by t h (says-table t h p says accepted) i place (sym (says-length t h p says accepted i place) ∙ none)

-- So where no run by priority is ever over every task has a response.
pub responds-exactly : RespondsExactly
responds-exactly t h p says accepted never = record { says = says; accepted = accepted; each = λ i place. go i place (eq-zero-or-pos (length_of p i)) }
  where
    go : (i : ℕ) → i < length (tasks_of t) → (length_of p i ≡ 0) ⊎ (0 < length_of p i) → 0 < length_of p i
    go i place (inr some) = some
    go i place (inl none) =
        let l : LateBy t h i = late-by-priority t h p says accepted i place none in
        absurd (true≢false (sym l.late.over ∙ never (pattern_to (beat_of t h) l.clock)))
