use mathlib.Core.Path.{sym, subst}
use native.Mathlib.Omega.{arith}
use Prim.Native.Nat.{ℕ}
use Rattle.demand.specs.Rows.{tasks_of, handlers_of}
use Rattle.priority.specs.Inside.Climb.{Climbing}
use Rattle.priority.specs.Inside.Ranks.{claimed}
use Rattle.priority.proofs.Inside.Climb.{claimed-mono, climb-start, climb-turn}
use Rattle.priority.proofs.climb.up.Goals as goal

pub loop-at-init : goal.loop-at-init
loop-at-init c = let x = c.args in climb-start (claimed (tasks_of x.tasks.now) (handlers_of x.handlers.now) x.end) x.l

pub claimed-work-requires : goal.claimed-work-requires
claimed-work-requires c = (c.requires.0, omega (arith, c.requires.1))

pub returns-then-work-at : goal.returns-then-work-at
returns-then-work-at c = record { climbing = c.loop-at.invariant; room = λ h. omega (arith, c.claimed-work.ensures) }

pub loop-at-preserved : goal.loop-at-preserved
loop-at-preserved c =
    let x = c.args in
    let a = claimed (tasks_of x.tasks.now) (handlers_of x.handlers.now) x.end in
    let at = c.loop-at.at in
    subst (λ (n : ℕ). Climbing a x.l n) (sym c.claimed-work.ensures)
    (climb-turn a (claimed-mono (tasks_of x.tasks.now) (handlers_of x.handlers.now) x.end) x.l at (omega (arith, c.claimed-work.ensures))
    c.loop-at.invariant)

pub returns : goal.returns
returns c = record { climbing = c.loop-at.invariant; room = λ h. absurd (omega arith) }
