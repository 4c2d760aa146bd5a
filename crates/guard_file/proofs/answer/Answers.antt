use Rattle.guard_file.proofs.Whole.{page-says}
use Rattle.guard_file.proofs.answer.Goals as goal

pub returns : goal.returns
returns c =
    page-says c.args.input.now c.args.page.now _ _
    c.read.result c.read.ensures c.write.ensures
