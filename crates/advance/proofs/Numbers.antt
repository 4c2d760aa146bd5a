-- A refusal, or none, and its number.
use mathlib.Core.Path.{◌≡◌, refl, sym, ap, ◌∙◌}
use native.Mathlib.Omega.{arith}
use borrow.Author.Tests.{ne_eqb}
use Rattle.std.specs.Prelude.{Option, None, Some}
use Rattle.advance.specs.Stretch.{number_in, refusal_in}
use Rattle.demand.proofs.Numbered.{refusal_at-number, number-pos}
use Rattle.demand.specs.Numbered.{number_of}
use Rattle.demand.specs.declared.refusal.Refusal.{Refusal}

-- It is that of its number.
pub refusal-in-number : (e : Option Refusal) → refusal_in (number_in e) ≡ e
unfolding refusal_in
refusal-in-number None = refl
refusal-in-number (Some e) = rw (ne_eqb (number_of e) 0 (λ z. omega (arith, number-pos e)), refusal_at-number e)

pub number-in-once : (e f : Option Refusal) → number_in e ≡ number_in f → e ≡ f
number-in-once e f same = sym (refusal-in-number e) ∙ ap refusal_in same ∙ refusal-in-number f
