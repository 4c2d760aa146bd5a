use Rattle.trim_file.proofs.Whole.{file-can_write, file-written}
use Rattle.trim_file.proofs.trimmed.Goals as goal

pub page_of-requires : goal.page_of-requires
page_of-requires c = file-can_write _ _ _ c.answer.ensures

pub returns : goal.returns
returns c = file-written _ _ _ c.answer.ensures _ c.page_of.ensures
