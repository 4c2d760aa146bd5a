use mathlib.Core.Path.{refl, ◌∙◌}
use native.Mathlib.Omega.{arith}
use Prim.Native.Nat.{◌≤◌}
use Rattle.walk.specs.Queue.{head}
use Rattle.demand.specs.Limits.{ticks_most}
use Rattle.demand.specs.Rows.{tasks_of, handlers_of}
use Rattle.demand.proofs.Refusals.{refusal-in-range}
use Rattle.verdict.specs.Inside.Search.{FoundSays}
use Rattle.verdict.proofs.Inside.Drain.{first-can, look-start, look-above, look-can, look-on, look-idle}
use Rattle.verdict.proofs.Inside.Search.{searched-start, next-above, passes-out, passes-drained, sight-most, sight-none, sight-low, count_most, search-level, search-can, search-fits, search-found, search-on}
use Rattle.verdict.proofs.search.search.Goals as goal

pub take_to-asked-requires : goal.take_to-asked-requires
take_to-asked-requires c =
    first-can _ _ (refusal-in-range _ _ c.requires.readable.0) _ _ c.requires.asked_begun.0 c.requires.asked_begun.1

pub loop-t-init : goal.loop-t-init
loop-t-init c =
    let range = refusal-in-range _ _ c.requires.readable.0 in
    let outset = c.start-p.ensures in (
      searched-start _ _ _ _ _ range c.requires.begun.0 c.requires.begun.1 outset,
      look-start _ _ range _ _ c.requires.asked_begun.0 c.requires.asked_begun.1 _ _ _ c.take_to-asked.ensures,
      rw outset (omega arith),
      refl,
      refl,
      refl,
      refl,
      rw outset (sight-none c.args.looks _),
    )

pub bounds-t-0 : goal.bounds-t-0
bounds-t-0 c = omega (arith, c.loop-t.invariant.0.some)

pub bounds-t-0-in-loop-t : goal.bounds-t-0-in-loop-t
bounds-t-0-in-loop-t c = omega (arith, c.loop-t.invariant.0.some)

pub climb-asked-requires : goal.climb-asked-requires
climb-asked-requires c =
    let within = sight-most c.args.looks _ _ (omega (arith, c.requires.readable.1, c.loop-t-test.true)) c.sight-seen.ensures in
    look-can _ _ (refusal-in-range _ _ c.requires.readable.0) _ _ _ c.loop-t.invariant.1 _ within

pub shape_of-t-then-asked-seen : goal.shape_of-t-then-asked-seen
shape_of-t-then-asked-seen c = c.loop-t.invariant.3

pub shape_of-h-then-asked-seen : goal.shape_of-h-then-asked-seen
shape_of-h-then-asked-seen c = c.loop-t.invariant.4

pub shape_of-a-then-asked-seen : goal.shape_of-a-then-asked-seen
shape_of-a-then-asked-seen c = c.climb-asked.ensures.tasks-long ∙ c.loop-t.invariant.5 ∙ c.take_to-asked.ensures.tasks-long

pub shape_of-b-then-asked-seen : goal.shape_of-b-then-asked-seen
shape_of-b-then-asked-seen c = c.climb-asked.ensures.handlers-long ∙ c.loop-t.invariant.6 ∙ c.take_to-asked.ensures.handlers-long

pub returns-then-asked-seen : goal.returns-then-asked-seen
returns-then-asked-seen c =
    let turn = c.loop-t in
    let range = refusal-in-range _ _ c.requires.readable.0 in
    let ts = tasks_of c.args.tasks.now in
    let hs = handlers_of c.args.handlers.now in
    let idle = look-idle ts hs range turn.a turn.b turn.asked turn.invariant.1 _ _ _ _ c.climb-asked.ensures in
    passes-drained ts hs range turn.t turn.h turn.p turn.d turn.tested turn.invariant.0 c.args.looks turn.asked _ c.args.end _ c.sight-seen.ensures turn.invariant.2 turn.invariant.7 c.climb-asked.ensures.up c.if-asked-seen.true idle

pub overflow_add-tested : goal.overflow_add-tested
overflow_add-tested c =
    let turn = c.loop-t in
    let range = refusal-in-range _ _ c.requires.readable.0 in
    let few = count_most (tasks_of c.args.tasks.now) (handlers_of c.args.handlers.now) range turn.t turn.h turn.p turn.d turn.tested turn.invariant.0 in
    omega (arith, few, turn.invariant.2, c.requires.readable.1)

pub to-p-requires : goal.to-p-requires
to-p-requires c =
    let turn = c.loop-t in
    let range = refusal-in-range _ _ c.requires.readable.0 in
    let fits : (head turn.t).next ≤ ticks_most = omega (arith, c.requires.readable.1, c.loop-t-test.true) in
    search-level (tasks_of c.args.tasks.now) (handlers_of c.args.handlers.now) range turn.t turn.h turn.p turn.d turn.tested turn.invariant.0 _ refl fits

pub take-d-requires : goal.take-d-requires
take-d-requires c =
    let turn = c.loop-t in
    let range = refusal-in-range _ _ c.requires.readable.0 in
    let fits : (head turn.t).next ≤ ticks_most = omega (arith, c.requires.readable.1, c.loop-t-test.true) in
    search-can (tasks_of c.args.tasks.now) (handlers_of c.args.handlers.now) range turn.t turn.h turn.p turn.d turn.tested turn.invariant.0 _ refl fits

pub overflow_add-p : goal.overflow_add-p
overflow_add-p c =
    let turn = c.loop-t in
    let range = refusal-in-range _ _ c.requires.readable.0 in
    let fits : (head turn.t).next ≤ ticks_most = omega (arith, c.requires.readable.1, c.loop-t-test.true) in
    omega (arith, search-fits (tasks_of c.args.tasks.now) (handlers_of c.args.handlers.now) range turn.t turn.h turn.p turn.d turn.tested turn.invariant.0 _ refl fits _ _ c.to-p.ensures _ _ c.take-d.ensures)

pub overflow_sub-miss : goal.overflow_sub-miss
overflow_sub-miss c = c.to-p.ensures.low

pub shape_of-t-then-n-p : goal.shape_of-t-then-n-p
shape_of-t-then-n-p c = c.take-d.ensures.long ∙ c.loop-t.invariant.3

pub shape_of-h-then-n-p : goal.shape_of-h-then-n-p
shape_of-h-then-n-p c = c.to-p.ensures.long ∙ c.loop-t.invariant.4

pub shape_of-a-then-n-p : goal.shape_of-a-then-n-p
shape_of-a-then-n-p c = c.climb-asked.ensures.tasks-long ∙ c.loop-t.invariant.5 ∙ c.take_to-asked.ensures.tasks-long

pub shape_of-b-then-n-p : goal.shape_of-b-then-n-p
shape_of-b-then-n-p c = c.climb-asked.ensures.handlers-long ∙ c.loop-t.invariant.6 ∙ c.take_to-asked.ensures.handlers-long

pub returns-then-n-p : goal.returns-then-n-p
unfolding FoundSays
returns-then-n-p c =
    let turn = c.loop-t in
    let within = c.loop-t-test.true in
    let range = refusal-in-range _ _ c.requires.readable.0 in
    let fits : (head turn.t).next ≤ ticks_most = omega (arith, c.requires.readable.1, within) in
    search-found (tasks_of c.args.tasks.now) (handlers_of c.args.handlers.now) range turn.t turn.h turn.p turn.d turn.tested turn.invariant.0 _ refl fits _ _ c.to-p.ensures _ _ c.take-d.ensures _ (omega (arith, within)) c.if-n-p.true

pub loop-t-smaller : goal.loop-t-smaller
loop-t-smaller c =
    let turn = c.loop-t in
    let range = refusal-in-range _ _ c.requires.readable.0 in
    omega (arith, next-above (tasks_of c.args.tasks.now) (handlers_of c.args.handlers.now) range turn.t turn.h turn.p turn.d turn.tested turn.invariant.0, c.to-p.ensures.at, c.loop-t-test.true)

pub loop-t-preserved : goal.loop-t-preserved
loop-t-preserved c =
    let turn = c.loop-t in
    let within = c.loop-t-test.true in
    let range = refusal-in-range _ _ c.requires.readable.0 in
    let fits : (head turn.t).next ≤ ticks_most = omega (arith, c.requires.readable.1, within) in
    let climbed = c.climb-asked.ensures in
    let come = c.to-p.ensures in
    let took = c.take-d.ensures in (
      search-on (tasks_of c.args.tasks.now) (handlers_of c.args.handlers.now) range turn.t turn.h turn.p turn.d turn.tested turn.invariant.0 _ refl fits _ _ come _ _ took c.if-n-p.false,
      look-on _ _ range turn.a turn.b turn.asked turn.invariant.1 _ _ _ _ climbed,
      omega (arith, come.at, within),
      took.long ∙ turn.invariant.3,
      come.long ∙ turn.invariant.4,
      climbed.tasks-long ∙ turn.invariant.5,
      climbed.handlers-long ∙ turn.invariant.6,
      rw come.at (sight-low c.args.looks _ _ _ c.sight-seen.ensures c.if-asked-seen.false),
    )

pub shape_of-t : goal.shape_of-t
shape_of-t c = c.loop-t.invariant.3

pub shape_of-h : goal.shape_of-h
shape_of-h c = c.loop-t.invariant.4

pub shape_of-a : goal.shape_of-a
shape_of-a c = c.loop-t.invariant.5 ∙ c.take_to-asked.ensures.tasks-long

pub shape_of-b : goal.shape_of-b
shape_of-b c = c.loop-t.invariant.6 ∙ c.take_to-asked.ensures.handlers-long

pub returns : goal.returns
returns c =
    let turn = c.loop-t in
    let range = refusal-in-range _ _ c.requires.readable.0 in
    let ts = tasks_of c.args.tasks.now in
    let hs = handlers_of c.args.handlers.now in
    passes-out ts hs range turn.t turn.h turn.p turn.d turn.tested turn.invariant.0 c.args.looks turn.asked c.args.end turn.invariant.2 (omega arith) turn.invariant.7 (λ z idle. look-above ts hs range turn.a turn.b turn.asked z turn.invariant.1 idle)
