use Rattle.std.proofs.Common.{◌∙◌, ◌+◌, ap, sym, refl, drop, ℕ, subst}
use Rattle.std.specs.Prelude.{Some, None}
use Rattle.text.specs.Spelled.{digits_said, Spells}
use Rattle.text.proofs.Spellings.{spells-nothing, spells-stop, spells-on, digits-stop, digits-on, digits-end}
use Rattle.text.proofs.spelled.number.Goals as goal

pub returns-in_err-first : goal.returns-in_err-first
returns-in_err-first c =
    subst (Spells c.args.limit c.args.bytes.now) (sym c.from_residual.ensures) (spells-nothing c.args.limit c.args.bytes.now c.in_err-first.ensures.cases)

pub returns-then-not-is_digit : goal.returns-then-not-is_digit
returns-then-not-is_digit c =
    spells-stop c.args.limit c.args.bytes.now _ _ None c.in_ok-first.ensures.cases.0 (sym c.is_digit.ensures ∙ c.if-not-is_digit.true) refl

pub returns-then-not-continues : goal.returns-then-not-continues
returns-then-not-continues c =
    let rest = c.in_ok-first.rest.now in
    spells-on c.args.limit c.args.bytes.now _ _ None c.in_ok-first.ensures.cases.0 (sym c.is_digit.ensures ∙ c.if-not-is_digit.false)
    c.from-v.result (c.from-v.ensures ∙ c.worth.ensures)
    (sym (digits-stop c.args.limit c.loop-b.v rest c.loop-b.b-index c.loop-b-test.true (sym c.continues.ensures ∙ c.if-not-continues.true)) ∙ c.loop-b.invariant)

pub loop-b-preserved : goal.loop-b-preserved
loop-b-preserved c =
    let rest = c.in_ok-first.rest.now in
    ap (λ (v : ℕ). digits_said c.args.limit v (drop (c.loop-b.b-index + 1) rest)) c.extended-v.ensures
    ∙ sym (digits-on c.args.limit c.loop-b.v rest c.loop-b.b-index c.loop-b-test.true (sym c.continues.ensures ∙ c.if-not-continues.false))
    ∙ c.loop-b.invariant

pub returns : goal.returns
returns c =
    spells-on c.args.limit c.args.bytes.now _ _ (Some c.loop-b.v) c.in_ok-first.ensures.cases.0 (sym c.is_digit.ensures ∙ c.if-not-is_digit.false)
    c.from-v.result (c.from-v.ensures ∙ c.worth.ensures)
    (sym (digits-end c.args.limit c.loop-b.v c.in_ok-first.rest.now c.loop-b.b-index c.loop-b-test.false) ∙ c.loop-b.invariant)
