use mathlib.Core.Path.{ap, ◌∙◌}
use native.Mathlib.Omega.{arith}
use Prim.Native.Nat.{ℕ}
use lib.ListN.{take}
use Rattle.own_segments.proofs.Rhythms.{rows_few}
use Rattle.own_segments.proofs.Runs.{step-turned, arrivals-length}
use Rattle.own_segments.proofs.turn.arriving.Goals as goal

pub slice_bounds-ws-end : goal.slice_bounds-ws-end
slice_bounds-ws-end c =
    let few = rows_few _ _ c.requires.table in
    omega (arith, few, c.count-all.ensures, c.beats-ws.ensures.0)

pub slice_bounds-step-end : goal.slice_bounds-step-end
slice_bounds-step-end c =
    let few = rows_few _ _ c.requires.table in
    arrivals-length _ _ c.requires.table _ _
    (omega (arith, few, c.count-all.ensures, c.beats-ws.ensures.0))

pub returns : goal.returns
returns c =
    let ws = ap (λ (n : ℕ). take n c.beats-ws.result) c.count-all.ensures ∙ c.beats-ws.ensures.1 in
    step-turned _ _ c.requires.table _ _ _ _ _ _ c.requires ws c.step-stepped.ensures.answer c.ran_of.ensures
