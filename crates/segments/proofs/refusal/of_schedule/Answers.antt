use mathlib.Core.Path.{sym, ◌∙◌}
use Rattle.segments.proofs.Refusals.{refused-16, refused-17, refused_none, span-read}
use Rattle.segments.proofs.refusal.of_schedule.Goals as goal

pub returns-then-unreadable : goal.returns-then-unreadable
returns-then-unreadable c =
    refused-16 _ _ _ _ c.requires.0 (sym c.unreadable.ensures ∙ c.if-unreadable.true)

pub returns-then-span-h : goal.returns-then-span-h
returns-then-span-h c =
    refused-17 _ _ _ _ c.requires.0 (sym c.unreadable.ensures ∙ c.if-unreadable.false)
    (span-read _ _ c.args.segments.now c.args.span _ c.requires.1 ∙ c.if-span-h.true)

pub returns : goal.returns
returns c =
    refused_none _ _ _ _ c.requires.0 (sym c.unreadable.ensures ∙ c.if-unreadable.false)
    (span-read _ _ c.args.segments.now c.args.span _ c.requires.1 ∙ c.if-span-h.false)
