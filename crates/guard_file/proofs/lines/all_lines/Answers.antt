use Rattle.std.proofs.Common.{◌≡◌, ◌∙◌, ℕ, arith, subst}
use Rattle.guard_file.proofs.Laid.{Behind, lines-start, lines-more}
use Rattle.guard_file.proofs.lines.all_lines.Goals as goal

pub loop-k-init : goal.loop-k-init
loop-k-init c = lines-start _ _ _ (omega (arith, c.requires.0))

pub loop-k-preserved : goal.loop-k-preserved
loop-k-preserved c =
    lines-more _ _ _ c.requires.0 _ _ _ (omega (arith, c.loop-k-test.true, c.requires.1)) c.loop-k.invariant _
    (c.as_bytes.ensures ∙ c.guard_lines-lines.ensures) _ _ c.lay-end.ensures

pub returns : goal.returns
returns c =
    let x = c.args in
    let same : c.loop-k.k ≡ x.n = omega arith in
    subst (λ (k : ℕ). Behind x.page.now x.at x.numbers.now k c.loop-k.end c.loop-k.page) same c.loop-k.invariant
