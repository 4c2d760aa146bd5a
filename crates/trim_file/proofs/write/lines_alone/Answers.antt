use Rattle.std.proofs.Common.{List, ℕ, arith, ap, ◌∙◌}
use Rattle.trim_file.specs.Inside.{added}
use Rattle.trim_file.proofs.Written.{alone-is}
use Rattle.trim_file.proofs.write.lines_alone.Goals as goal

pub returns : goal.returns
returns c =
    alone-is c.args.text c.args.refusal _ _ (omega (arith, c.requires)) c.bare.ensures
    (c.add-sheet.ensures ∙ ap (λ (bs : List ℕ). added c.bare.result bs) c.as_bytes.ensures)
