-- Our own segments are of rows of the table, in order and within the span: the judge reads them.
--   Known n m ss   each of the segments ss is of a row of a table of n tasks and m handlers
--   Rowed n m w    w is such a row, or nobody
use mathlib.Core.Bool.{false}
use mathlib.Core.List.{List, [], ◌∷◌, ◌++◌}
use mathlib.Core.Logic.{◌⊎◌, inl, inr}
use mathlib.Core.Path.{◌≡◌, refl, sym, ap, subst, ◌∙◌}
use native.Mathlib.Nat.{mul-mod_right, mul-div_cancel_left}
use native.Mathlib.Omega.{arith}
use borrow.Author.Tests.{le-ltb, lt-leb}
use Prim.Native.Nat.{ℕ, zero, suc, ◌*◌, ◌/◌, ◌%◌, ◌≤◌}
use lib.ListN.{length}
use Rattle.demand.specs.Refusals.{table_refusal}
use Rattle.demand.specs.Rows.{tasks_of, handlers_of}
use Rattle.guarantees.specs.Synchronous.{beat_of, sync_run}
use Rattle.machine.specs.Live.{due_of}
use Rattle.own_segments.proofs.Drawings.{Moves, moves, segments-right}
use Rattle.own_segments.proofs.Drawings.Moves.{goes_on, begins}
use Rattle.own_segments.proofs.Lists.{numbers-length, numbers-back}
use Rattle.own_segments.proofs.Orders.{last_to, last-from}
use Rattle.own_segments.proofs.Runs.{sync-tasks, sync-handlers}
use Rattle.own_segments.specs.Drawn.{Drawing, ended, drawn, segments_to, numbers_of}
use Rattle.own_segments.specs.Own.{who_ran, ran_of, own}
use Rattle.own_segments.specs.Promise.{own_segments}
use Rattle.scheduler.proofs.Steps.Answers.{Outcome, outcome}
use Rattle.scheduler.proofs.Steps.Answers.Outcome.{stays, goes}
use Rattle.scheduler.proofs.Steps.Goes.{goes-to}
use Rattle.scheduler.specs.Tick.{GoesTo, owed_with, key_in, ran_by, ticked_by}
use Rattle.scheduler.specs.declared.Ran.{Ran}
use Rattle.scheduler.specs.declared.Ran.TheVariants.{Handler, Task, Idle}
use Rattle.scheduler.specs.declared.Stepped.{Stepped}
use Rattle.segments.specs.Given.{Who, nobody, task, handler}
use Rattle.segments.specs.Promise.{segments_most, unknown, disordered, unreadable}
use Rattle.segments.specs.Segments.{Seg, segment_width, InOrder}

abbrev pub Rowed : ℕ → ℕ → Who → Type 0
Rowed n m w = (w ≡ nobody) ⊎ (unknown n m w ≡ false)

abbrev pub Known : ℕ → ℕ → List Seg → Type 0
Known n m [] = Unit
Known n m (s ∷ ss) = (unknown n m s.who ≡ false) × Known n m ss

known-append : (n m : ℕ) (ss : List Seg) (s : Seg) → Known n m ss → unknown n m s.who ≡ false → Known n m (ss ++ (s ∷ []))
known-append n m [] s k e = (e, tt)
known-append n m (x ∷ ss) s k e = (k.0, known-append n m ss s k.1 e)

-- ---- of any schedule that names rows of the table

module _ (n m : ℕ) where
  known-ended : (w : Who) (done : List Seg) (from t : ℕ) → Known n m done → Rowed n m w → Known n m (ended w done from t)
  known-ended nobody done from t k r = k
  known-ended (task i) done from t k (inl e) = absurd (let z : ◌≡◌ {A = ℕ} 0 1 = cc in omega arith)
  known-ended (task i) done from t k (inr e) = known-append n m done (record { who = task i; from = from; to = t }) k e
  known-ended (handler i) done from t k (inl e) = absurd (let z : ◌≡◌ {A = ℕ} 0 1 = cc in omega arith)
  known-ended (handler i) done from t k (inr e) = known-append n m done (record { who = handler i; from = from; to = t }) k e

  module _ (σ : ℕ → Who) (rowed : (x : ℕ) → Rowed n m (σ x)) where
    known-drawn : (t : ℕ) → Known n m (drawn σ t).done × Rowed n m (drawn σ t).who
    unfolding drawn
    known-drawn zero = (tt, inl refl)
    known-drawn (suc t) = go (moves (drawn σ t) t (σ t)) (known-drawn t)
      where
        go : Moves (drawn σ t) t (σ t) → Known n m (drawn σ t).done × Rowed n m (drawn σ t).who
            → Known n m (drawn σ (suc t)).done × Rowed n m (drawn σ (suc t)).who
        go (goes_on same e) k = subst (λ (d : Drawing). Known n m d.done × Rowed n m d.who) (sym e) k
        go (begins apart e) k =
            subst (λ (d : Drawing). Known n m d.done × Rowed n m d.who) (sym e)
            (known-ended (drawn σ t).who (drawn σ t).done (drawn σ t).from t k.0 k.1, rowed t)

    pub known-segments : (L : ℕ) → Known n m (segments_to σ L)
    unfolding segments_to
    known-segments L = let k = known-drawn L in known-ended (drawn σ L).who (drawn σ L).done (drawn σ L).from L k.0 k.1

-- In order, within the span and of known rows: nothing is misplaced.
ordered : (n m L a : ℕ) (ss : List Seg) → InOrder a ss → last_to a ss ≤ L → Known n m ss → disordered n m L a ss ≡ false
unfolding disordered last_to
ordered n m L a [] o l k = refl
ordered n m L a (s ∷ ss) o l k =
    rw (
      k.0,
      le-ltb s.from a o.0,
      lt-leb s.to s.from o.1,
      le-ltb L s.to (let q : s.to ≤ L = omega (arith, last-from s.to ss o.2) in q),
    )
    (ordered n m L s.to ss o.2 l k.1)

-- ---- of our own

module _ (t h : List ℕ) (e : table_refusal t h ≡ 0) where
  rowed-ran : (key : ℕ → ℕ) (owed : List ℕ) (n m : ℕ) (ran : Ran) → GoesTo key owed n m ran → Rowed n m (who_ran ran)
  unfolding GoesTo
  rowed-ran key owed n m (Handler i) g = inr (lt-leb m i g.row)
  rowed-ran key owed n m (Task i) g = inr (lt-leb n i g.row)
  rowed-ran key owed n m Idle g = inl refl

  own-rowed : (x : ℕ) → Rowed (length (tasks_of t)) (length (handlers_of h)) (own t h x)
  unfolding own ticked_by
  own-rowed x = go (outcome due_of (sync_run t h x) (beat_of t h x))
    where
      go : Outcome due_of (sync_run t h x) (beat_of t h x) → Rowed (length (tasks_of t)) (length (handlers_of h)) (own t h x)
      go (stays k q) = inl (ap (λ (s : Stepped). who_ran (ran_of s.answer)) q)
      go (goes none q) =
          subst (λ (w : Who). Rowed (length (tasks_of t)) (length (handlers_of h)) w)
          (sym (ap (λ (s : Stepped). who_ran (ran_of s.answer)) q))
          (subst (λ (n : ℕ). Rowed n (length (handlers_of h)) (who_ran (ran_by due_of (sync_run t h x) (beat_of t h x)))) (sync-tasks t h e x)
          (subst (λ (m : ℕ). Rowed (sync_run t h x).task_count m (who_ran (ran_by due_of (sync_run t h x) (beat_of t h x))))
          (sync-handlers t h e x)
          (rowed-ran (key_in due_of (sync_run t h x) (beat_of t h x)) (owed_with (sync_run t h x) (beat_of t h x)) _ _ _ (goes-to _ _ _ _))))

  pub own-readable-by : (L : ℕ) → length (own_segments t h L) ≤ segments_most → unreadable t h (numbers_of (own_segments t h L)) L ≡ false
  own-readable-by L few =
      let ss : List Seg = own_segments t h L in
      let right = segments-right (own t h) L in
      let long : length (numbers_of ss) ≡ 4 * length ss = numbers-length ss in
      let whole : length (numbers_of ss) % segment_width ≡ 0 = ap (λ (x : ℕ). x % 4) long ∙ mul-mod_right 4 (length ss) in
      let count : length (numbers_of ss) / segment_width ≡ length ss
      = ap (λ (x : ℕ). x / 4) long ∙ mul-div_cancel_left (length ss) (omega arith) in
      rw (
        le-ltb 0 (length (numbers_of ss) % segment_width) (let q : length (numbers_of ss) % segment_width ≤ 0 = omega (arith, whole) in q),
        le-ltb segments_most (length (numbers_of ss) / segment_width)
            (let q : length (numbers_of ss) / segment_width ≤ segments_most = omega (arith, count) in q),
        numbers-back ss,
      )
      (ordered (length (tasks_of t)) (length (handlers_of h)) L 0 ss right.in_order right.before
      (known-segments _ _ (own t h) own-rowed L))
