-- A lower cost keeps a yes: what the verdict tells of two costs of one task.
use mathlib.Core.Bool.{Bool, true, false}
use mathlib.Core.List.{List}
use mathlib.Core.Path.{◌≡◌, subst}
use native.Mathlib.Omega.{arith}
use Prim.Native.Nat.{ℕ, ◌≤◌}
use Rattle.std.specs.Prelude.{Ok, Err}
use Rattle.demand.specs.Refusals.{Fair}
use Rattle.demand.specs.Rows.{handlers_of}
use Rattle.demand.specs.declared.refusal.Refusal.{Refusal}
use Rattle.trim.specs.Costs.{with_cost}
use Rattle.trim.specs.Inside.{is_fits, told_by, Judged}
use Rattle.trim.specs.Promise.{Gets}
use Rattle.trim.proofs.Repriced.{lighter-same, with-lighter, readable-with}
use Rattle.verdict.specs.Lightening.{YesUnderLess}
use Rattle.verdict.specs.Promise.{Word, figures, verdict_refusal, SaysBy, Says, VerdictSays}
use Rattle.verdict.specs.Promise.Word.{fits, misses}
use Rattle.verdict.specs.declared.Answer.{Answer}
use Rattle.verdict.specs.declared.Answer.TheVariants as answer
use Rattle.verdict.proofs.Lightening.{yes-under-less}

-- No word is two words.
fits-not-misses : (w : Word) → w ≡ fits → w ≡ misses → ⊥
fits-not-misses w p q = let z : ◌≡◌ {A = ℕ} 0 1 = cc in omega arith

-- A cost that fits is not above one that misses.
pub fits-over-misses : (t h : List ℕ) (i b c : ℕ) → verdict_refusal t h ≡ 0 → Fair b → b ≤ c
    → Gets (with_cost t i c) h fits → Gets (with_cost t i b) h misses → ⊥
unfolding YesUnderLess
fits-over-misses t h i b c readable fair less high low =
    fits-not-misses (figures low.answer).word
    (yes-under-less (with_cost t i c) h (with_cost t i b) h high.answer low.answer high.says high.word
    (with-lighter t i b c less)
    (lighter-same (handlers_of h))
    (readable-with t h i b readable fair)
    low.says)
    low.word

-- What the verdict tells of a readable table: a yes or a no.
pub judged-by : (t h : List ℕ) (a : Answer) (b : Bool) → VerdictSays t h (Ok a) → b ≡ is_fits a → Judged t h b
unfolding VerdictSays Says SaysBy figures
judged-by t h (answer.Fits l n) b says e =
    record { readable = says.readable; gets = record { answer = Ok (answer.Fits l n); says = says; word = rw e } }
judged-by t h (answer.Misses m l) b says e =
    record { readable = says.readable; gets = record { answer = Ok (answer.Misses m l); says = says; word = rw e } }

-- A readable table is not refused.
pub readable-answered : (t h : List ℕ) (k : Refusal) → verdict_refusal t h ≡ 0 → VerdictSays t h (Err k) → ⊥
unfolding VerdictSays Says SaysBy figures
readable-answered t h k readable says = omega (arith, says.unreadable)

-- A yes, and a no.
pub told-fits : {t h : List ℕ} {b : Bool} → Judged t h b → b ≡ true → Gets t h fits
told-fits {t} {h} told e = subst (λ (x : Bool). Gets t h (told_by x)) e told.gets

pub told-misses : {t h : List ℕ} {b : Bool} → Judged t h b → b ≡ false → Gets t h misses
told-misses {t} {h} told e = subst (λ (x : Bool). Gets t h (told_by x)) e told.gets
