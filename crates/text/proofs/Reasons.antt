-- Laws of reasons.
use mathlib.Core.Path.{◌≡◌, refl, ap, sym, ◌∙◌}
use native.Mathlib.Omega.{arith}
use Prim.Native.Nat.{ℕ, zero, suc}
use lib.Dec.{eqb-suc-zero}
use Rattle.std.specs.Prelude.{Option, Some, None}
use Rattle.demand.specs.Numbered.{number_of, refusal_at}
use Rattle.demand.specs.declared.refusal.Refusal.{Refusal}
use Rattle.demand.proofs.Numbered.{refusal_at-number, number-pos}
use Rattle.text.specs.Reasons.{reason}

-- None where there is no number,
pub reason-none : None ≡ reason 0
unfolding reason
reason-none = refl

-- else the refusal that has it.
pub reason-some : (e : Refusal) → Some e ≡ reason (number_of e)
unfolding reason
reason-some e = go (number_of e) refl
  where
    go : (k : ℕ) → number_of e ≡ k → Some e ≡ reason k
    go zero n = absurd (omega (arith, number-pos e))
    go (suc k) n = rw (eqb-suc-zero k) (ap Some (sym (refusal_at-number e) ∙ ap refusal_at n))
