use borrow.Author.Tests.{lt-ltb, le-ltb}
use borrow.Author.Rules.{rules}
use Rattle.text.specs.Text.{put_of}
use Rattle.text.proofs.put.Goals as goal

pub returns-then-as_bytes-lt-TEXT_MOST : goal.returns-then-as_bytes-lt-TEXT_MOST
unfolding put_of
returns-then-as_bytes-lt-TEXT_MOST c = search (rules, lt-ltb, le-ltb)

pub returns-else-as_bytes-lt-TEXT_MOST : goal.returns-else-as_bytes-lt-TEXT_MOST
unfolding put_of
returns-else-as_bytes-lt-TEXT_MOST c = search (rules, lt-ltb, le-ltb)
