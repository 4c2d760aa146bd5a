-- A span in decimal is read as that span.
use native.Mathlib.Omega.{arith}
use Rattle.text.proofs.Spellings.{spelled-read}
use Rattle.schedule_sheet.specs.Spans.{SpansRead}

pub spans-read : SpansRead
spans-read n l = spelled-read 1000000000 n (omega arith) (omega arith) l
