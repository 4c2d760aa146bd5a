-- A stretch is so many offers of nothing, so what holds of every list of offers holds of steps and stretches in turn.
use mathlib.Core.List.{List, [], ◌∷◌, ◌++◌}
use mathlib.Core.Path.{◌≡◌, refl, sym, ap, ◌∙◌}
use native.Mathlib.Omega.{arith}
use Prim.Native.Nat.{ℕ, zero, suc, ◌+◌}
use lib.ListN.{replicate}
use Rattle.advance.proofs.Stretches.{stretch-zero, stretch-next, stretch-add}
use Rattle.advance.specs.Promise.{AdvanceOffered}
use Rattle.advance.specs.Stretch.{quiet, quietly, stretch, advance_of}
use Rattle.machine.specs.Live.{due_of}
use Rattle.scheduler.proofs.Steps.Answers.{Outcome, outcome}
use Rattle.scheduler.proofs.Steps.Answers.Outcome.{stays, goes}
use Rattle.scheduler.specs.Reached.{offered, offered_by}
use Rattle.scheduler.specs.Steps.{step_of}
use Rattle.scheduler.specs.Tick.{ticked_by}
use Rattle.scheduler.specs.declared.Run.{Run}
use Rattle.scheduler.specs.declared.Stepped.{Stepped}

-- A step keeps the count of rows, and so the list that offers nothing.
pub step-rows : (r : Run) (ws : List ℕ) → quiet (step_of r ws).run ≡ quiet r
step-rows r ws = go (outcome due_of r ws)
  where
    go : Outcome due_of r ws → quiet (step_of r ws).run ≡ quiet r
    go (stays k e) = ap (λ (x : Stepped). quiet x.run) e
    go (goes none e) = ap (λ (x : Stepped). quiet x.run) e ∙ (unfold ticked_by in refl)

-- The first tick, then the others.
pub stretch-first : (n : ℕ) (r : Run) → stretch (suc n) r ≡ stretch n (quietly r).run
stretch-first n r =
    ap (λ (x : ℕ). stretch x r) (let e : suc n ≡ 1 + n = omega arith in e)
    ∙ stretch-add r 1 n
    ∙ ap (λ (x : Run). stretch n x) (stretch-next r 0 ∙ ap (λ (x : Run). (quietly x).run) (stretch-zero r))

pub stretch-offered : (n : ℕ) (r : Run) → stretch n r ≡ offered (replicate n (quiet r)) r
unfolding offered_by
stretch-offered zero r = stretch-zero r
stretch-offered (suc n) r =
    stretch-first n r
    ∙ stretch-offered n (quietly r).run
    ∙ ap (λ (ws : List ℕ). offered (replicate n ws) (quietly r).run) (step-rows r (quiet r))

pub advance-offered : AdvanceOffered
unfolding advance_of
advance-offered r n = stretch-offered n r

-- ---- after other offers

offered-append : (before behind : List (List ℕ)) (r : Run) → offered (before ++ behind) r ≡ offered behind (offered before r)
unfolding offered_by
offered-append [] behind r = refl
offered-append (ws ∷ before) behind r = offered-append before behind (step_of r ws).run

offered-rows : (offers : List (List ℕ)) (r : Run) → quiet (offered offers r) ≡ quiet r
unfolding offered_by
offered-rows [] r = refl
offered-rows (ws ∷ offers) r = offered-rows offers (step_of r ws).run ∙ step-rows r ws

-- A stretch after offers is more offers.
pub stretch-after : (offers : List (List ℕ)) (n : ℕ) (r : Run) → stretch n (offered offers r) ≡ offered (offers ++ replicate n (quiet r)) r
stretch-after offers n r =
    stretch-offered n (offered offers r)
    ∙ ap (λ (ws : List ℕ). offered (replicate n ws) (offered offers r)) (offered-rows offers r)
    ∙ sym (offered-append offers (replicate n (quiet r)) r)
