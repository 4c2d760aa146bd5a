-- What `next_piece` promises (02, M-108 and M-110): the longest stretch in which one row, or nobody, gets every tick.
--   GoesOnTo ran r       the next step of run r without arrivals is accepted, and its tick goes to ran
--   PieceSays r most p   p is the answer to `next_piece` of run r and at most so many ticks
--   AdvanceOffered       the run after `advance` is that after as many offers of nothing, so what holds of every list of offers holds of it
--   AdvanceUnique, PieceUnique   two answers that a promise allows are equal
use Rattle.std.specs.Prelude.{◌≡◌, ℕ, ◌≤◌, ◌<◌, Result, Ok, Err, replicate}
use Rattle.advance.specs.Stretch.{quiet, quietly, stretch, number_in, advance_of}
use Rattle.advance.specs.declared.Advanced.{Advanced}
use Rattle.advance.specs.declared.Piece.{Piece}
use Rattle.demand.specs.declared.refusal.Refusal.{Refusal}
use Rattle.scheduler.specs.Reached.{offered}
use Rattle.scheduler.specs.Steps.{step_refusal}
use Rattle.scheduler.specs.declared.Ran.{Ran}
use Rattle.scheduler.specs.declared.Ran.TheVariants.{Idle}
use Rattle.scheduler.specs.declared.Run.{Run}
use Rattle.scheduler.specs.declared.Ticked.{Ticked}

unfoldable pub WentTo : Ran → Result Ticked Refusal → Type 0
WentTo ran (Ok t) = t.ran ≡ ran
WentTo ran (Err e) = ⊥

abbrev pub GoesOnTo : Ran → Run → Type 0
GoesOnTo ran r = WentTo ran (quietly r).answer

pub record PieceSays (r : Run) (most : ℕ) (p : Piece) : Type 0 where
  -- the refusal of a step at once, none where it is accepted
  pub number : number_in p.refusal ≡ step_refusal r (quiet r)
  -- so many steps
  pub run : p.run ≡ stretch p.ticks r
  pub at_most : p.ticks ≤ most
  -- at least one, where one is asked for and accepted
  pub some : number_in p.refusal ≡ 0 → 0 < most → 0 < p.ticks
  -- each of them goes to the same one, ..
  pub alone : (i : ℕ) → i < p.ticks → GoesOnTo p.ran (stretch i r)
  -- .. and the next, where it is asked for, does not
  pub longest : p.ticks < most → GoesOnTo p.ran p.run → ⊥
  -- nobody is named where there is no tick
  pub nobody : p.ticks ≡ 0 → p.ran ≡ Idle

abbrev pub AdvanceOffered : Type 0
AdvanceOffered = (r : Run) (n : ℕ) → (advance_of r n).run ≡ offered (replicate n (quiet r)) r

abbrev pub AdvanceUnique : Type 0
AdvanceUnique = (r : Run) (n : ℕ) (a b : Advanced) → a ≡ advance_of r n → b ≡ advance_of r n → a ≡ b

abbrev pub PieceUnique : Type 0
PieceUnique = (r : Run) (most : ℕ) (p q : Piece) → PieceSays r most p → PieceSays r most q → p ≡ q
