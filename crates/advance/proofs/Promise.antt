-- What meets the promise of `next_piece`, and that it allows one answer.
use mathlib.Core.List.{List}
use mathlib.Core.Logic.{◌⊎◌, inl, inr}
use mathlib.Core.Path.{◌≡◌, refl, sym, ap, subst, ◌∙◌}
use native.Mathlib.Nat.{eq-zero-or-pos, not-suc-le-zero}
use native.Mathlib.Omega.{arith}
use Prim.Native.Nat.{ℕ, zero, suc, ◌+◌, ◌-◌, ◌≤◌, ◌<◌}
use Rattle.std.specs.Prelude.{None, Some, Result, Ok, Err}
use Rattle.advance.proofs.Paid.{goes-work, goes_on, goes-placed, work-more}
use Rattle.advance.proofs.Numbers.{number-in-once}
use Rattle.advance.proofs.Pieces.{lasts-le, each_after, longest-after}
use Rattle.advance.proofs.Quietly.{tick_on, quiet_step, quiet-inside}
use Rattle.advance.proofs.Slides.{went_on, went_back}
use Rattle.advance.proofs.Stretches.{stretch-zero, stretch-next, stretch-add}
use Rattle.advance.specs.Inside.Alone.{work_of, lasts_in, paid_by, runner, Follows, no_tick, piece_after}
use Rattle.advance.specs.Promise.{WentTo, GoesOnTo, PieceSays, PieceUnique}
use Rattle.advance.specs.Stretch.{quiet, quietly, stretch, number_in}
use Rattle.advance.specs.declared.Piece.{Piece}
use Rattle.demand.proofs.Divide.{le-or-lt}
use Rattle.demand.proofs.Numbered.{number-pos}
use Rattle.demand.specs.Numbered.{number_of, refusal_at, refused}
use Rattle.demand.specs.declared.refusal.Refusal.{Refusal}
use Rattle.machine.specs.Live.{due_of}
use Rattle.scheduler.proofs.Steps.Answers.{passed, step-refused, step-known}
use Rattle.scheduler.proofs.Steps.Clauses.{clauses, clauses-fit}
use Rattle.scheduler.proofs.Steps.Goes.{goes-to}
use Rattle.scheduler.specs.Bounds.{InBounds}
use Rattle.scheduler.specs.Scans.{at}
use Rattle.scheduler.specs.Steps.{step_refusal}
use Rattle.scheduler.specs.Tick.{GoesTo, goes_to}
use Rattle.scheduler.specs.declared.Ran.{Ran}
use Rattle.scheduler.specs.declared.Ran.TheVariants.{Idle}
use Rattle.scheduler.specs.declared.Run.{Run}
use Rattle.scheduler.specs.declared.Stepped.{Stepped}
use Rattle.scheduler.specs.declared.Ticked.{Ticked}

-- A run with a step that is refused does not go on to anybody.
not_on : (r : Run) (ran : Ran) → 0 < step_refusal r (quiet r) → GoesOnTo ran r → ⊥
not_on r ran some w = omega (arith, (went_back r ran w).0)

not-refused : (ran : Ran) (e : Refusal) → WentTo ran (Err e) → ⊥
unfolding WentTo
not-refused ran e w = w

-- ---- no tick

module _ (r : Run) (most : ℕ) (s : Stepped) (is : s ≡ quietly r) where
  -- The number of a step's refusal.
  refused-number : (e : Refusal) → s.answer ≡ Err e → number_of e ≡ step_refusal r (quiet r)
  refused-number e q = go (eq-zero-or-pos (step_refusal r (quiet r)))
    where
      answer : (quietly r).answer ≡ Err e
      answer = ap (λ (x : Stepped). x.answer) (sym is) ∙ q

      go : (step_refusal r (quiet r) ≡ 0) ⊎ (0 < step_refusal r (quiet r)) → number_of e ≡ step_refusal r (quiet r)
      go (inl none) =
          absurd (not-refused (runner r) e (subst (WentTo (runner r)) answer (went_on r (runner r) none refl)))
      go (inr some) =
          let apart : step_refusal r (quiet r) ≡ 0 → ⊥ = λ z. omega arith in
          let told : ◌≡◌ {A = Result Ticked Refusal} (Err (refusal_at (step_refusal r (quiet r)))) (Err e)
          = sym (ap (λ (x : Stepped). x.answer) (step-refused due_of r (quiet r) (step_refusal r (quiet r)) refl apart)) ∙ answer in
          ap refused (sym told) ∙ step-known r (quiet r) apart

  pub says-refused : (e : Refusal) → s.answer ≡ Err e → PieceSays r most (no_tick r (Some e))
  says-refused e q =
      let number = refused-number e q in
      let some = number-pos e in
      record {
        number = number;
        run = sym (stretch-zero r);
        at_most = omega arith;
        some = λ none asked. absurd (omega (arith, some));
        alone = λ i l. absurd (not-suc-le-zero l);
        longest = λ asked w. not_on r Idle (omega (arith, number, some)) w;
        nobody = λ none. refl;
      }

  module _ (t : Ticked) (e : s.answer ≡ Ok t) where
    -- Accepted, and to whom it went.
    went : (step_refusal r (quiet r) ≡ 0) × (runner r ≡ t.ran)
    went =
        let w : WentTo t.ran (Ok t) = unfold WentTo in refl in
        went_back r t.ran (subst (WentTo t.ran) (sym (ap (λ (x : Stepped). x.answer) (sym is) ∙ e)) w)

    pub says_none : most ≡ 0 → PieceSays r most (no_tick r None)
    says_none none = record {
      number = sym went.0;
      run = sym (stretch-zero r);
      at_most = omega arith;
      some = λ z asked. absurd (omega arith);
      alone = λ i l. absurd (not-suc-le-zero l);
      longest = λ asked w. omega arith;
      nobody = λ z. refl;
    }

    -- ---- after the first tick

    ticked : s ≡ tick_on r
    ticked = is ∙ quiet_step r went.0

    goes : GoesTo (at r.due) r.owed r.task_count r.handler_count t.ran
    goes =
        subst (GoesTo (at r.due) r.owed r.task_count r.handler_count) went.1
        (goes-to (at r.due) r.owed r.task_count r.handler_count)

    pub says-follows : Follows s.run t.ran
    says-follows =
        let p = passed r (quiet r) went.0 in
        let fit = clauses-fit r (clauses r p.in_bounds) in
        subst (λ (x : Run). Follows x t.ran) (sym (ap (λ (x : Stepped). x.run) ticked))
        (record {
          inside = subst (λ (x : Stepped). InBounds x.run) (quiet_step r went.0) (quiet-inside r p.in_bounds);
          placed = goes-placed (at r.due) r.owed r.task_count r.handler_count t.ran fit.tasks fit.handlers goes;
          same = λ going some. after_same some;
        })
      where
        after_same : 0 < work_of (tick_on r).run.owed r.task_count t.ran → runner (tick_on r).run ≡ t.ran
        after_same some =
            let owed = ap (λ (x : Ran). paid_by r.owed r.task_count x 1) went.1 in
            let left = subst (λ (x : List ℕ). 0 < work_of x r.task_count t.ran) owed some in
            let more = work-more r.owed r.task_count t.ran
            (goes-work (at r.due) r.owed r.task_count r.handler_count t.ran goes) left in
            ap (λ (x : List ℕ). goes_to (at r.due) x r.task_count r.handler_count) owed
            ∙ goes_on (at r.due) r.owed r.task_count r.handler_count t.ran 1 went.1 more

    first_run : stretch 1 r ≡ s.run
    first_run = stretch-next r 0 ∙ ap (λ (x : Run). (quietly x).run) (stretch-zero r) ∙ ap (λ (x : Stepped). x.run) (sym is)

    behind : (i : ℕ) → stretch (suc i) r ≡ stretch i s.run
    behind i =
        ap (λ (n : ℕ). stretch n r) (let e : suc i ≡ 1 + i = omega arith in e) ∙ stretch-add r 1 i ∙ ap (λ (x : Run). stretch i x) first_run

    pub says-whole : (most ≡ 0 → ⊥) → (p : Piece) → p ≡ piece_after s.run t.ran (most - 1) → PieceSays r most p
    unfolding piece_after
    says-whole asked p ep = subst (PieceSays r most) (sym ep) says
      where
        k : ℕ
        k = lasts_in s.run t.ran (most - 1)

        next : k + 1 ≡ suc k
        next = omega arith

        le : k ≤ most - 1
        le = lasts-le s.run t.ran (most - 1)

        each : (i : ℕ) → i < k + 1 → GoesOnTo t.ran (stretch i r)
        each zero l = subst (GoesOnTo t.ran) (sym (stretch-zero r)) (went_on r t.ran went.0 went.1)
        each (suc i) l = subst (GoesOnTo t.ran) (sym (behind i)) (each_after s.run t.ran (most - 1) says-follows i (omega arith))

        says : PieceSays r most (piece_after s.run t.ran (most - 1))
        says = record {
          number = sym went.0;
          run = sym (behind k) ∙ ap (λ (n : ℕ). stretch n r) (sym next);
          at_most = omega (arith, le);
          some = λ z m. omega arith;
          alone = each;
          longest = λ l w. longest-after s.run t.ran (most - 1) says-follows (omega arith) w;
          nobody = λ z. absurd (omega arith);
        }

-- ---- one answer

module _ (r : Run) (most : ℕ) where
  -- Ticks of one that another stops short of.
  not_short : (p q : Piece) → PieceSays r most p → PieceSays r most q → p.ran ≡ q.ran → p.ticks < q.ticks → ⊥
  not_short p q a b same l =
      a.longest (omega (arith, b.at_most))
      (subst (λ (x : Ran). GoesOnTo x p.run) (sym same) (subst (GoesOnTo q.ran) (sym a.run) (b.alone p.ticks l)))

  -- Where one has no tick, there is none.
  both-none : (p q : Piece) → PieceSays r most p → PieceSays r most q → p.ticks ≡ 0 → q.ticks ≡ 0
  both-none p q a b z = go (eq-zero-or-pos q.ticks) (eq-zero-or-pos (number_in p.refusal))
    where
      go : (q.ticks ≡ 0) ⊎ (0 < q.ticks) → (number_in p.refusal ≡ 0) ⊎ (0 < number_in p.refusal) → q.ticks ≡ 0
      go (inl none) n = none
      go (inr some) (inl n) = absurd (omega (arith, a.some n (omega (arith, b.at_most))))
      go (inr some) (inr n) =
          let same = ap (λ (x : Run). step_refusal x (quiet x)) (stretch-zero r) in
          absurd (omega (arith, a.number, same, (went_back (stretch 0 r) q.ran (b.alone 0 some)).0))

  same-ran : (p q : Piece) → PieceSays r most p → PieceSays r most q → p.ran ≡ q.ran
  same-ran p q a b = go (eq-zero-or-pos p.ticks)
    where
      go : (p.ticks ≡ 0) ⊎ (0 < p.ticks) → p.ran ≡ q.ran
      go (inl z) = a.nobody z ∙ sym (b.nobody (both-none p q a b z))
      go (inr some) = there (eq-zero-or-pos q.ticks)
        where
          there : (q.ticks ≡ 0) ⊎ (0 < q.ticks) → p.ran ≡ q.ran
          there (inl z) = absurd (omega (arith, both-none q p b a z))
          there (inr m) = sym (went_back (stretch 0 r) p.ran (a.alone 0 some)).1 ∙ (went_back (stretch 0 r) q.ran (b.alone 0 m)).1

pub piece-unique : PieceUnique
piece-unique r most p q a b =
    let ran = same-ran r most p q a b in
    let ticks : p.ticks ≡ q.ticks = go (le-or-lt p.ticks q.ticks) (le-or-lt q.ticks p.ticks) in
    let run : p.run ≡ q.run = a.run ∙ ap (λ (n : ℕ). stretch n r) ticks ∙ sym b.run in
    let refusal : p.refusal ≡ q.refusal = number-in-once p.refusal q.refusal (a.number ∙ sym b.number) in
    λ i. record { run = run i; ran = ran i; ticks = ticks i; refusal = refusal i }
  where
    go : (p.ticks ≤ q.ticks) ⊎ (q.ticks < p.ticks) → (q.ticks ≤ p.ticks) ⊎ (p.ticks < q.ticks) → p.ticks ≡ q.ticks
    go (inl l) (inl m) = omega arith
    go (inl l) (inr m) = absurd (not_short r most p q a b (same-ran r most p q a b) m)
    go (inr l) m = absurd (not_short r most q p b a (same-ran r most q p b a) l)
