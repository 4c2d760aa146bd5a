-- A piece as the code finds it: after its first tick, and whole.
--   Ends r ran k   where so many ticks of ran alone come from run r
use mathlib.Core.Bool.{Bool, true, false, false≢true}
use mathlib.Core.List.{List}
use mathlib.Core.Logic.{◌⊎◌, inl, inr}
use mathlib.Core.Path.{◌≡◌, refl, sym, ap, subst, ◌∙◌}
use native.Mathlib.Omega.{arith}
use Prim.Native.Nat.{ℕ, zero, suc, ◌+◌, ◌-◌, ◌≤◌, ◌<◌, min}
use lib.ListN.{get_or}
use Rattle.std.specs.Prelude.{None}
use Rattle.advance.proofs.Firsts.{First, first-most, first-le, first-is}
use Rattle.advance.proofs.Firsts.First.{last, of}
use Rattle.advance.proofs.Paid.{paid-zero, paid-still, paid-off, goes-work, pays-by}
use Rattle.advance.proofs.Slides.{Lasting, Lone, lone, went_back}
use Rattle.advance.proofs.Stretches.{stretch-zero, stretch-next}
use Rattle.advance.specs.Inside.Alone.{work_of, first_due, lasts, lasts_in, paid_by, PayableBy, slid, Follows, piece_after}
use Rattle.advance.specs.Promise.{GoesOnTo}
use Rattle.advance.specs.Stretch.{quiet, quietly, stretch}
use Rattle.demand.proofs.Divide.{le-or-lt}
use Rattle.demand.specs.Limits.{tasks_most, ticks_most}
use Rattle.scheduler.proofs.Steps.Answers.{Passed, passed}
use Rattle.scheduler.proofs.Steps.Clauses.{clauses, clauses-fit, clauses-due}
use Rattle.scheduler.proofs.Steps.Goes.{goes-to}
use Rattle.scheduler.specs.Scans.{at}
use Rattle.scheduler.specs.Tick.{GoesTo}
use Rattle.scheduler.specs.declared.Ran.{Ran}
use Rattle.scheduler.specs.declared.Run.{Run}
use Rattle.scheduler.specs.declared.Stepped.{Stepped}

-- ---- how long the same one goes on

module _ (r : Run) (ran : Ran) (left : ℕ) where
  abbrev work : ℕ
  work = work_of r.owed r.task_count ran

  abbrev first : ℕ
  first = first_due r.due r.owed r.task_count

  over_none : r.over ≡ true → lasts_in r ran left ≡ 0
  unfolding lasts_in
  over_none over = rw over

  lasts-is : r.over ≡ false → lasts_in r ran left ≡ min left (min work (first - r.clock))
  unfolding lasts_in
  lasts-is going = rw going

  -- Over, none are left.
  some-going : 0 < lasts_in r ran left → r.over ≡ false
  some-going some = go r.over refl
    where
      go : (b : Bool) → r.over ≡ b → r.over ≡ false
      go true over = absurd (omega (arith, over_none over))
      go false going = going

  pub lasts-le : lasts_in r ran left ≤ left
  lasts-le = go r.over refl
    where
      go : (b : Bool) → r.over ≡ b → lasts_in r ran left ≤ left
      go true over = omega (arith, over_none over)
      go false going = omega (arith, lasts-is going)

  lasts-lasting : 0 < lasts_in r ran left → (d : ℕ) → d ≤ lasts_in r ran left → Lasting r ran d
  lasts-lasting some d l =
      let is = lasts-is (some-going some) in
      record {
        within = omega (arith, first-most r.due r.owed r.task_count);
        work = omega arith;
        timely = λ j m owes. omega (arith, first-le r.due r.owed r.task_count j m owes);
      }

-- ---- where that comes

pub record Ends (r : Run) (ran : Ran) (k : ℕ) (e : Run) : Type 0 where
  pub clock : e.clock ≡ r.clock + k
  pub owed : e.owed ≡ paid_by r.owed r.task_count ran k
  pub due : e.due ≡ r.due
  pub tasks : e.task_count ≡ r.task_count

module _ (r : Run) (ran : Ran) (left : ℕ) (follows : Follows r ran) where
  abbrev k : ℕ
  k = lasts_in r ran left

  lone-after : 0 < k → (d : ℕ) → suc d ≡ k → Lone r ran d
  lone-after some d e =
      let lasting = lasts-lasting r ran left some (suc d) (omega arith) in
      let going = some-going r ran left some in
      lone r ran follows.inside going (follows.same going (omega (arith, lasting.work))) d lasting

  pub each_after : (i : ℕ) → i < k → GoesOnTo ran (stretch i r)
  each_after i l =
      let d : ℕ = k - 1 in
      let e : suc d ≡ k = omega arith in
      (lone-after (omega arith) d e).each i (omega arith)

  ends : Ends r ran k (stretch k r)
  ends = go k refl
    where
      go : (n : ℕ) → k ≡ n → Ends r ran n (stretch n r)
      go zero e = record {
        clock = ap (λ (x : Run). x.clock) (stretch-zero r) ∙ (let z : r.clock ≡ r.clock + 0 = omega arith in z);
        owed = ap (λ (x : Run). x.owed) (stretch-zero r) ∙ sym (paid-zero r.owed r.task_count ran);
        due = ap (λ (x : Run). x.due) (stretch-zero r);
        tasks = ap (λ (x : Run). x.task_count) (stretch-zero r);
      }
      go (suc d) e =
          let end = (lone-after (omega arith) d (sym e)).end in
          record {
            clock = ap (λ (x : Run). x.clock) end;
            owed = ap (λ (x : Run). x.owed) end;
            due = ap (λ (x : Run). x.due) end;
            tasks = ap (λ (x : Run). x.task_count) end;
          }

  -- ---- and that the next tick is not its own

  -- Its work is not done, ..
  more-work : GoesOnTo ran (stretch k r) → r.clock + k < ticks_most → k < work r ran left
  more-work w soon = go (le-or-lt (work r ran left) k)
    where
      e : Run
      e = stretch k r

      some : 0 < work_of (paid_by r.owed r.task_count ran k) r.task_count ran
      some =
          let goes : GoesTo (at e.due) e.owed e.task_count e.handler_count ran
          = subst (GoesTo (at e.due) e.owed e.task_count e.handler_count) (went_back e ran w).1
          (goes-to (at e.due) e.owed e.task_count e.handler_count) in
          let owes = goes-work (at e.due) e.owed e.task_count e.handler_count ran goes in
          subst (λ (x : List ℕ). 0 < work_of x r.task_count ran) ends.owed
          (subst (λ (n : ℕ). 0 < work_of e.owed n ran) ends.tasks owes)

      -- Without any to begin with there is no tick.
      none-zero : work r ran left ≡ 0 → k ≡ 0
      none-zero z = go (le-or-lt k 0)
        where
          go : (k ≤ 0) ⊎ (0 < k) → k ≡ 0
          go (inl h) = omega arith
          go (inr h) = absurd (omega (arith, (lasts-lasting r ran left h k (omega arith)).work))

      none : work r ran left ≤ k → (x : ℕ) → work r ran left ≡ x → ⊥
      none l zero z =
          let same : paid_by r.owed r.task_count ran k ≡ r.owed
          = ap (λ (y : ℕ). paid_by r.owed r.task_count ran y) (none-zero z) ∙ paid-zero r.owed r.task_count ran in
          omega (arith, subst (λ (xs : List ℕ). 0 < work_of xs r.task_count ran) same some)
      none l (suc x) z = omega (arith, some, paid-off r.owed r.task_count ran k (omega arith) l (omega arith))

      go : (work r ran left ≤ k) ⊎ (k < work r ran left) → k < work r ran left
      go (inr l) = l
      go (inl l) = absurd (none l (work r ran left) refl)

  -- .. and no task owed work has come to its deadline.
  more-time : GoesOnTo ran (stretch k r) → k < work r ran left → r.clock + k < ticks_most → r.clock + k < first r ran left
  more-time w busy soon = go (first-is r.due r.owed r.task_count) (le-or-lt (first r ran left) (r.clock + k))
    where
      e : Run
      e = stretch k r

      p : Passed e (quiet e)
      p = passed e (quiet e) (went_back e ran w).0

      go : First r.due r.owed r.task_count (first r ran left)
          → (first r ran left ≤ r.clock + k) ⊎ (r.clock + k < first r ran left)
          → r.clock + k < first r ran left
      go f (inr l) = l
      go (last q) (inl l) = absurd (omega arith)
      go (of j m owes q) (inl l) =
          let still : 0 < get_or e.owed j 0
          = subst (λ (x : List ℕ). 0 < get_or x j 0) (sym ends.owed) (paid-still r.owed r.task_count ran k j busy owes) in
          let due : get_or e.due j 0 ≡ get_or r.due j 0 = ap (λ (x : List ℕ). get_or x j 0) ends.due in
          let there : j < e.task_count = omega (arith, ends.tasks) in
          absurd (omega (arith, ends.clock, due, clauses-due e (clauses e p.in_bounds) p.going j there still))

  pub longest-after : k < left → GoesOnTo ran (stretch k r) → ⊥
  longest-after l w = go r.over refl
    where
      e : Run
      e = stretch k r

      p : Passed e (quiet e)
      p = passed e (quiet e) (went_back e ran w).0

      go : (b : Bool) → r.over ≡ b → ⊥
      go true over =
          let same : e ≡ r = ap (λ (n : ℕ). stretch n r) (over_none r ran left over) ∙ stretch-zero r in
          false≢true (sym p.going ∙ ap (λ (x : Run). x.over) same ∙ over)
      go false going =
          let soon : r.clock + k < ticks_most = omega (arith, p.soon, ends.clock) in
          let busy = more-work w soon in
          omega (arith, lasts-is r ran left going, more-time w busy soon)

  -- ---- as the code makes it

  module _ (more : ℕ) (is : more ≡ k) where
    pub made-pays : (more ≡ 0 → ⊥)
        → (r.task_count ≤ tasks_most) × PayableBy r.owed r.task_count ran (more - 1) × (r.clock + (more - 1) ≤ ticks_most)
    made-pays some =
        let lasting = lasts-lasting r ran left (omega arith) more (omega arith) in (
          (clauses-fit r (clauses r follows.inside)).tasks,
          pays-by r.owed r.task_count ran (more - 1) follows.placed (omega (arith, lasting.work)),
          omega (arith, lasting.within),
        )

    pub made-few : (more ≡ 0 → ⊥) → more ≤ ticks_most
    made-few some = omega (arith, (lasts-lasting r ran left (omega arith) more (omega arith)).within)

    pub made_none : more ≡ 0 → record { run = r; ran = ran; ticks = 1; refusal = None } ≡ piece_after r ran left
    unfolding piece_after
    made_none e =
        let zero_left : k ≡ 0 = omega arith in
        let run : r ≡ stretch k r = sym (ap (λ (n : ℕ). stretch n r) zero_left ∙ stretch-zero r) in
        let ticks : 1 ≡ k + 1 = omega arith in
        λ i. record { run = run i; ran = ran; ticks = ticks i; refusal = None }

    pub made_some : (before : Run) (step : Stepped) → (more ≡ 0 → ⊥) → before ≡ slid r ran (more - 1) → step ≡ quietly before
        → record { run = step.run; ran = ran; ticks = more + 1; refusal = None } ≡ piece_after r ran left
    unfolding piece_after
    made_some before step some eb el =
        let d : ℕ = more - 1 in
        let e : suc d ≡ k = omega arith in
        let slides : before ≡ stretch d r = eb ∙ sym (lone-after (omega arith) d e).before in
        let run : step.run ≡ stretch k r
        = ap (λ (x : Stepped). x.run) el ∙ ap (λ (x : Run). (quietly x).run) slides
        ∙ sym (stretch-next r d) ∙ ap (λ (n : ℕ). stretch n r) e in
        let ticks : more + 1 ≡ k + 1 = omega arith in
        λ i. record { run = run i; ran = ran; ticks = ticks i; refusal = None }

-- From what the code has in hand.
pub lasts-made : (r : Run) (ran : Ran) (left work first more : ℕ) → work ≡ work_of r.owed r.task_count ran
    → first ≡ first_due r.due r.owed r.task_count → more ≡ lasts r.over r.clock left work first → more ≡ lasts_in r ran left
unfolding lasts_in
lasts-made r ran left work first more ew ef em = em ∙ rw (ew, ef)
