-- One piece after the other, and the answer of `advance`.
--   Gone r n at left refusal   all but `left` of n ticks from run r are taken and brought it to `at`; the next is refused, if a refusal stands
use mathlib.Core.Bool.{Bool, true, false, not, ◌&&◌, false≢true}
use mathlib.Core.Logic.{◌⊎◌, inl, inr}
use mathlib.Core.Path.{◌≡◌, refl, sym, ap, ◌∙◌}
use native.Mathlib.Nat.{eq-zero-or-pos}
use native.Mathlib.Omega.{arith}
use borrow.Author.Tests.{ltb-true, lt-ltb, eqb-true, eq-eqb, ne_eqb}
use Prim.Native.Nat.{ℕ, ◌+◌, ◌-◌, ◌≤◌, ◌<◌}
use lib.Dec.{ltb, eqb}
use Rattle.std.specs.Prelude.{Option, None, Some, is_some, is_none}
use Rattle.advance.proofs.Numbers.{refusal-in-number}
use Rattle.advance.proofs.Slides.{went_back}
use Rattle.advance.proofs.Stretches.{stretch-zero, stretch-add, taken-add, taken-all, refused-stays, refused_none}
use Rattle.advance.specs.Promise.{PieceSays, AdvanceUnique}
use Rattle.advance.specs.Stretch.{quiet, stretch, taken, end_number, number_in, refusal_in, advance_of}
use Rattle.advance.specs.declared.Piece.{Piece}
use Rattle.demand.proofs.Numbered.{number-pos}
use Rattle.demand.specs.Tests.{pick}
use Rattle.demand.specs.declared.refusal.Refusal.{Refusal}
use Rattle.scheduler.specs.Steps.{step_refusal}
use Rattle.scheduler.specs.declared.Run.{Run}

pub record Gone (r : Run) (n : ℕ) (at : Run) (left : ℕ) (refusal : Option Refusal) : Type 0 where
  pub le : left ≤ n
  pub run : at ≡ stretch (n - left) r
  pub all : taken (n - left) r ≡ n - left
  pub refused : 0 < number_in refusal → (number_in refusal ≡ step_refusal at (quiet at)) × (0 < left)

none-is : (refusal : Option Refusal) (none : Bool) → is_some refusal ≡ not none → none ≡ is_none refusal
none-is refusal true e = rw e refl
none-is refusal false e = rw e refl

-- The loop's test: some are left, and no refusal stands.
pub going : (left : ℕ) (refusal : Option Refusal) (none : Bool) → is_some refusal ≡ not none → (ltb 0 left && none) ≡ true → (0 < left) × (number_in refusal ≡ 0)
going left refusal none is e = go (ltb 0 left) refusal refl (rw (none-is refusal none is) at e)
  where
    go : (b : Bool) (o : Option Refusal) → ltb 0 left ≡ b → (b && is_none o) ≡ true → (0 < left) × (number_in o ≡ 0)
    go true None q f = (ltb-true 0 left q, refl)
    go true (Some e) q f = absurd (false≢true f)
    go false o q f = absurd (false≢true f)

-- Pieces still to come, at most: one where the next is refused.
abbrev pub pieces_left : ℕ → Option Refusal → ℕ
pieces_left left refusal = pick (eqb (number_in refusal) 0) (left + 1) 0

pub gone-start : (r : Run) (n : ℕ) → Gone r n r n None
unfolding stretch taken
gone-start r n =
    let none : n - n ≡ 0 = omega arith in
    record { le = omega arith; run = rw none; all = rw none; refused = λ some. absurd (omega arith) }

-- A number beside a piece: it has no tick.
piece-none : (r : Run) (most : ℕ) (p : Piece) → PieceSays r most p → 0 < number_in p.refusal → p.ticks ≡ 0
piece-none r most p says some = go (eq-zero-or-pos p.ticks)
  where
    go : (p.ticks ≡ 0) ⊎ (0 < p.ticks) → p.ticks ≡ 0
    go (inl none) = none
    go (inr ticks) =
        let accepted = (went_back (stretch 0 r) p.ran (says.alone 0 ticks)).0 in
        let same = ap (λ (x : Run). step_refusal x (quiet x)) (stretch-zero r) in
        absurd (omega (arith, says.number, accepted, same))

module _ (r : Run) (n : ℕ) (at : Run) (left : ℕ) (refusal : Option Refusal) (gone : Gone r n at left refusal) where
  pub gone-turn : (p : Piece) → PieceSays at left p → 0 < left → Gone r n p.run (left - p.ticks) p.refusal
  gone-turn p says some =
      let ticks : n - (left - p.ticks) ≡ (n - left) + p.ticks = omega (arith, says.at_most, gone.le) in
      let each : taken p.ticks at ≡ p.ticks = taken-all at p.ticks (λ i l. (went_back (stretch i at) p.ran (says.alone i l)).0) in
      let more : taken p.ticks (stretch (n - left) r) ≡ taken p.ticks at = ap (λ (x : Run). taken p.ticks x) (sym gone.run) in
      record {
        le = omega (arith, gone.le);
        run =
            says.run ∙ ap (λ (x : Run). stretch p.ticks x) gone.run ∙ sym (stretch-add r (n - left) p.ticks)
            ∙ ap (λ (x : ℕ). stretch x r) (sym ticks);
        all = ap (λ (x : ℕ). taken x r) ticks ∙ (let e : taken ((n - left) + p.ticks) r ≡ n - (left - p.ticks) =
            omega (arith, taken-add r (n - left) p.ticks, gone.all, each, more, ticks) in e);
        refused = λ number.
            let none = piece-none at left p says number in
            let stays : p.run ≡ at = says.run ∙ ap (λ (x : ℕ). stretch x at) none ∙ stretch-zero at in
            (says.number ∙ ap (λ (x : Run). step_refusal x (quiet x)) (sym stays), omega (arith, none));
      }

  pub gone-fewer : (p : Piece) → PieceSays at left p → 0 < left → number_in refusal ≡ 0
      → pieces_left (left - p.ticks) p.refusal < pieces_left left refusal
  gone-fewer p says some e = go (eqb (number_in p.refusal) 0) refl
    where
      was : pieces_left left refusal ≡ left + 1
      was = rw (eq-eqb (number_in refusal) 0 e)

      go : (b : Bool) → eqb (number_in p.refusal) 0 ≡ b → pick b (left - p.ticks + 1) 0 < pieces_left left refusal
      go true q = omega (arith, was, says.some (eqb-true (number_in p.refusal) 0 q) some, says.at_most)
      go false q = omega (arith, was)

  -- The refusal of the number that ended them.
  ended : number_in refusal ≡ end_number n r → refusal ≡ refusal_in (end_number n r)
  ended same = sym (refusal-in-number refusal) ∙ ap refusal_in same

  -- The end: all are taken, or the next is refused.
  done : 0 < n → (left ≡ 0) ⊎ (0 < number_in refusal) → (number_in refusal ≡ 0) ⊎ (0 < number_in refusal)
      → record { run = at; ticks = n - left; refusal = refusal } ≡ advance_of r n
  unfolding advance_of end_number
  done some (inl none) (inl accepted) =
      let whole : n - left ≡ n = omega arith in
      let run : at ≡ stretch n r = gone.run ∙ ap (λ (x : ℕ). stretch x r) whole in
      let ticks : taken n r ≡ n = ap (λ (x : ℕ). taken x r) (sym whole) ∙ gone.all ∙ whole in
      let ends : number_in refusal ≡ end_number n r = unfold end_number in rw (accepted, lt-ltb 0 n some, eq-eqb (taken n r) n ticks) in
      λ i. record { run = run i; ticks = (whole ∙ sym ticks) i; refusal = ended ends i }
  done some (inr refused) (inl accepted) = absurd (omega arith)
  done some any (inr refused) =
      let next = gone.refused refused in
      let apart : number_in refusal ≡ 0 → ⊥ = λ z. omega arith in
      let whole : (n - left) + left ≡ n = omega (arith, gone.le) in
      let stays : stretch left (stretch (n - left) r) ≡ at
      = ap (λ (x : Run). stretch left x) (sym gone.run) ∙ refused-stays at (number_in refusal) next.0 apart left in
      let run : stretch n r ≡ at = ap (λ (x : ℕ). stretch x r) (sym whole) ∙ stretch-add r (n - left) left ∙ stays in
      let rest : taken left (stretch (n - left) r) ≡ 0
      = ap (λ (x : Run). taken left x) (sym gone.run) ∙ refused_none at (number_in refusal) next.0 apart left in
      let ticks : taken n r ≡ n - left = ap (λ (x : ℕ). taken x r) (sym whole)
      ∙ (let e : taken ((n - left) + left) r ≡ n - left = omega (arith, taken-add r (n - left) left, gone.all, rest) in e) in
      let short : eqb (taken n r) n ≡ false = ne_eqb (taken n r) n (λ z. omega (arith, next.1, ticks)) in
      let ends : number_in refusal ≡ end_number n r = unfold end_number in rw (lt-ltb 0 n some, short, run) next.0 in
      λ i. record { run = sym run i; ticks = sym ticks i; refusal = ended ends i }

  pub gone-end : (n ≡ 0 → ⊥) → (none : Bool) → is_some refusal ≡ not none → (ltb 0 left && none) ≡ false → record { run = at; ticks = n - left; refusal = refusal } ≡ advance_of r n
  gone-end some none is e = done (omega arith) (go (eq-zero-or-pos left) refusal (rw (none-is refusal none is) at e)) (eq-zero-or-pos (number_in refusal))
    where
      go : (left ≡ 0) ⊎ (0 < left) → (o : Option Refusal) → (ltb 0 left && is_none o) ≡ false → (left ≡ 0) ⊎ (0 < number_in o)
      go (inl z) o f = inl z
      go (inr l) (Some e) f = inr (number-pos e)
      go (inr l) None f = absurd (false≢true (sym (rw (lt-ltb 0 left l) at f)))

-- Of 0 ticks.
pub none-gone : (r : Run) (n : ℕ) (p : Piece) → n ≡ 0 → PieceSays r 0 p → record { run = r; ticks = 0; refusal = p.refusal } ≡ advance_of r n
unfolding advance_of end_number stretch taken
none-gone r n p e says = rw (e, ← says.number, refusal-in-number p.refusal)

pub advance-unique : AdvanceUnique
advance-unique r n a b p q = p ∙ sym q
