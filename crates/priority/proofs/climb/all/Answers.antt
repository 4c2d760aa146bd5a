use mathlib.Core.List.{List}
use mathlib.Core.Path.{ap}
use native.Mathlib.Omega.{arith}
use Prim.Native.Nat.{ℕ, ◌+◌, ◌%◌, ◌≤◌, ◌<◌}
use lib.ListN.{length}
use Rattle.demand.specs.Limits.{figure_most}
use Rattle.demand.specs.Refusals.{FairRow, InRange}
use Rattle.demand.specs.Rows.{Row, row_at, tasks_of, handlers_of, Sound}
use Rattle.demand.proofs.Inside.Places.{each_at}
use Rattle.demand.proofs.Refusals.{refusal-in-range}
use Rattle.priority.specs.Inside.Ranks.{past_ranks}
use Rattle.priority.proofs.Inside.Climb.{tasks-fewer}
use Rattle.priority.proofs.Inside.Search.{next-from, next-at, search-start, search-turn, search-end}
use Rattle.priority.proofs.climb.all.Goals as goal

pub next-rank-requires : goal.next-rank-requires
next-rank-requires c = tasks-fewer _ _ (refusal-in-range _ _ c.requires)

pub loop-rank-init : goal.loop-rank-init
loop-rank-init c =
    let t = c.args.tasks.now in
    let h = c.args.handlers.now in
    let g = refusal-in-range t h c.requires in
    rw c.next-rank.ensures (search-start (tasks_of t) (handlers_of h) g, next-at 0 (tasks_of t) g.tasks-most)

-- A deadline is at most the greatest period.
deadline-most : (ts hs : List Row) (k : ℕ) → InRange ts hs → k < length ts → (row_at ts k).deadline ≤ figure_most
deadline-most ts hs k g h =
    let fair : FairRow (row_at ts k) = each_at FairRow ts g.tasks k h in
    let sound : Sound (row_at ts k) = each_at Sound ts g.deadlines k h in
    omega (arith, fair.period.most, sound.fits)

pub up-l-requires : goal.up-l-requires
up-l-requires c =
    let loop = c.loop-rank in
    let at = loop.invariant.1 (omega arith) in
    let g = refusal-in-range _ _ c.requires in
    (g, omega (arith, ap (λ (r : Row). r.deadline) c.row_at-deadline.ensures, deadline-most _ _ (loop.rank % 64) g at.row))

pub next-rank-requires-in-loop-rank : goal.next-rank-requires-in-loop-rank
next-rank-requires-in-loop-rank c =
    tasks-fewer _ _ (refusal-in-range _ _ c.requires)

pub loop-rank-smaller : goal.loop-rank-smaller
loop-rank-smaller c =
    let t = c.args.tasks.now in
    omega (arith, c.next-rank-in-loop-rank.ensures, next-from (c.loop-rank.rank + 1) 0 (tasks_of t) (omega (arith, c.loop-rank-test.true)))

pub loop-rank-preserved : goal.loop-rank-preserved
loop-rank-preserved c =
    let t = c.args.tasks.now in
    let h = c.args.handlers.now in
    let g = refusal-in-range t h c.requires in
    let x = c.loop-rank.rank in
    let soon : x < past_ranks = omega arith in
    let turn =
    search-turn (tasks_of t) (handlers_of h) g x c.loop-rank.l c.row_at-deadline.result.deadline c.up-l.result c.loop-rank.least
    c.loop-rank.invariant.0 (c.loop-rank.invariant.1 soon) (ap (λ (r : Row). r.deadline) c.row_at-deadline.ensures) c.up-l.ensures soon in
    rw (c.next-rank-in-loop-rank.ensures, c.within.ensures) (turn, next-at (x + 1) (tasks_of t) g.tasks-most)

pub returns : goal.returns
returns c =
    let loop = c.loop-rank in
    let g = refusal-in-range c.args.tasks.now c.args.handlers.now c.requires in
    search-end _ _ g loop.rank loop.l loop.least (omega arith) loop.invariant.0
