-- Many steps without arrivals.
use mathlib.Core.Path.{◌≡◌, refl, ap, ◌∙◌}
use native.Mathlib.Nat.{add-zero, add-suc}
use native.Mathlib.Omega.{arith}
use Prim.Native.Nat.{ℕ, zero, suc, ◌+◌, ◌<◌}
use Rattle.advance.specs.Stretch.{quiet, quietly, stretch, accepted, taken}
use Rattle.advance.proofs.Quietly.{quiet-inside, quiet_step}
use Rattle.machine.specs.Live.{due_of}
use Rattle.scheduler.proofs.Steps.Answers.{step-refused}
use Rattle.scheduler.specs.Bounds.{InBounds}
use Rattle.scheduler.specs.Steps.{step_refusal}
use Rattle.scheduler.specs.declared.Run.{Run}
use Rattle.scheduler.specs.declared.Stepped.{Stepped}

module _ (r : Run) where
  pub stretch-zero : stretch 0 r ≡ r
  unfolding stretch
  stretch-zero = refl

  pub stretch-next : (n : ℕ) → stretch (suc n) r ≡ (quietly (stretch n r)).run
  unfolding stretch
  stretch-next n = refl

  pub stretch-add : (a b : ℕ) → stretch (a + b) r ≡ stretch b (stretch a r)
  unfolding stretch
  stretch-add a zero = ap (λ (n : ℕ). stretch n r) (add-zero a)
  stretch-add a (suc b) = ap (λ (n : ℕ). stretch n r) (add-suc a b) ∙ ap (λ (x : Run). (quietly x).run) (stretch-add a b)

  pub taken-add : (a b : ℕ) → taken (a + b) r ≡ taken a r + taken b (stretch a r)
  unfolding taken
  taken-add a zero = ap (λ (n : ℕ). taken n r) (add-zero a) ∙ (let e : taken a r ≡ taken a r + 0 = omega arith in e)
  taken-add a (suc b) =
      ap (λ (n : ℕ). taken n r) (add-suc a b)
      ∙ (let last : accepted (quietly (stretch (a + b) r)).answer ≡ accepted (quietly (stretch b (stretch a r))).answer
      = ap (λ (x : Run). accepted (quietly x).answer) (stretch-add a b) in
      let e : taken (a + b) r + accepted (quietly (stretch (a + b) r)).answer
      ≡ taken a r + (taken b (stretch a r) + accepted (quietly (stretch b (stretch a r))).answer)
      = omega (arith, last, taken-add a b) in e)

  -- A run whose step is refused stays as it is.
  module _ (k : ℕ) (e : k ≡ step_refusal r (quiet r)) (some : k ≡ 0 → ⊥) where
    pub refused-stays : (n : ℕ) → stretch n r ≡ r
    unfolding stretch
    refused-stays zero = refl
    refused-stays (suc n) =
        ap (λ (x : Run). (quietly x).run) (refused-stays n) ∙ ap (λ (x : Stepped). x.run) (step-refused due_of r (quiet r) k e some)

    pub refused_none : (n : ℕ) → taken n r ≡ 0
    unfolding taken
    refused_none zero = refl
    refused_none (suc n) =
        let last : accepted (quietly (stretch n r)).answer ≡ 0
        = ap (λ (x : Run). accepted (quietly x).answer) (refused-stays n)
        ∙ ap (λ (x : Stepped). accepted x.answer) (step-refused due_of r (quiet r) k e some) in
        omega (arith, last, refused_none n)

  -- Where each is accepted, so many are taken.
  pub taken-all : (n : ℕ) → ((i : ℕ) → i < n → step_refusal (stretch i r) (quiet (stretch i r)) ≡ 0) → taken n r ≡ n
  unfolding taken
  taken-all zero each = refl
  taken-all (suc n) each =
      let last : accepted (quietly (stretch n r)).answer ≡ 1
      = ap (λ (x : Stepped). accepted x.answer) (quiet_step (stretch n r) (each n (omega arith))) in
      omega (arith, last, taken-all n (λ i l. each i (omega arith)))

  -- In bounds all along.
  pub stretch-inside : (n : ℕ) → InBounds r → InBounds (stretch n r)
  unfolding stretch
  stretch-inside zero inside = inside
  stretch-inside (suc n) inside = quiet-inside (stretch n r) (stretch-inside n inside)
