-- Answers that meet their promises, and that a promise allows one answer only.
use mathlib.Core.List.{List}
use mathlib.Core.Path.{◌≡◌, refl, sym, ◌∙◌, subst}
use native.Mathlib.Omega.{arith}
use Prim.Native.Nat.{ℕ, zero, suc}
use lib.Dec.{eqb-suc-zero}
use lib.IntN.{ℤ}
use Rattle.std.specs.Prelude.{Ok, Err}
use Rattle.demand.specs.Answers.{figures, handler_figures, margin_figures, figures_by, DemandSays, HandlerSays, MarginSays}
use Rattle.demand.specs.Demands.{handled, left, margin, Negative}
use Rattle.demand.specs.Numbered.{number_of}
use Rattle.demand.specs.Rows.{Row}
use Rattle.demand.specs.Unique.{DemandUnique, HandlerUnique, MarginUnique}
use Rattle.demand.specs.declared.refusal.Refusal.{Refusal}
use Rattle.demand.proofs.Numbered.{answered-ok, answered-err, number-pos}
use Rattle.demand.proofs.Signs.{negative-fails, fails-negative}

pub demand-answered : (k n v : ℕ) → k ≡ 0 → v ≡ n → DemandSays k n (Ok v)
unfolding figures figures_by
demand-answered zero n v e q = record { answer = answered-ok zero n v e q; figured = rw q }
demand-answered (suc k) n v e q = absurd (omega arith)

pub demand-refused : (k n : ℕ) (e : Refusal) → number_of e ≡ k → DemandSays k n (Err e)
unfolding figures figures_by
demand-refused zero n e q = absurd (omega (arith, number-pos e))
demand-refused (suc k) n e q = record { answer = answered-err (suc k) n e q; figured = rw (q, eqb-suc-zero k) }

pub handler-answered : (k : ℕ) (hs : List Row) (l v m : ℕ) → k ≡ 0 → v ≡ handled hs l → m ≡ left hs l
    → HandlerSays k hs l (Ok (record { ticks = v; left = m }))
unfolding handler_figures figures_by
handler-answered zero hs l v m e q o = record { answer = answered-ok zero _ _ e (λ i. record { ticks = q i; left = o i }); figured = rw (q, o) }
handler-answered (suc k) hs l v m e q o = absurd (omega arith)

pub handler-refused : (k : ℕ) (hs : List Row) (l : ℕ) (e : Refusal) → number_of e ≡ k → HandlerSays k hs l (Err e)
unfolding handler_figures figures_by
handler-refused zero hs l e q = absurd (omega (arith, number-pos e))
handler-refused (suc k) hs l e q = record { answer = answered-err (suc k) _ e q; figured = rw (q, eqb-suc-zero k) }

pub margin-answered : (k : ℕ) (ts hs : List Row) (l : ℕ) (v : ℤ) (m : ℕ) → k ≡ 0 → v ≡ margin ts hs l → m ≡ left hs l
    → MarginSays k ts hs l (Ok (record { ticks = v; left = m }))
unfolding margin_figures figures_by
margin-answered zero ts hs l v m e q o = record {
  answer = answered-ok zero _ _ e (λ i. record { ticks = q i; left = o i });
  figured = rw (q, o);
  below = λ n. (refl, negative-fails ts hs l (subst Negative q n));
  fails = λ z f. subst Negative (sym q) (fails-negative ts hs l f);
}
margin-answered (suc k) ts hs l v m e q o = absurd (omega arith)

pub margin-refused : (k : ℕ) (ts hs : List Row) (l : ℕ) (e : Refusal) → number_of e ≡ k → MarginSays k ts hs l (Err e)
unfolding margin_figures figures_by
margin-refused zero ts hs l e q = absurd (omega (arith, number-pos e))
margin-refused (suc k) ts hs l e q = record {
  answer = answered-err (suc k) _ e q;
  figured = rw (q, eqb-suc-zero k);
  below = λ n. absurd n;
  fails = λ z f. absurd (omega (arith, z));
}

-- Two answers that the promise allows are equal.
pub demand-unique : DemandUnique
demand-unique k n r s p q = p.answer ∙ sym q.answer

pub handler-unique : HandlerUnique
handler-unique k hs l r s p q = p.answer ∙ sym q.answer

pub margin-unique : MarginUnique
margin-unique k ts hs l r s p q = p.answer ∙ sym q.answer
