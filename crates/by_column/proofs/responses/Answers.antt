use Rattle.columns.proofs.Lent.{from-rows, from-counts}
use Rattle.priority.specs.Answers.{ResponsesSay}
use Rattle.by_column.proofs.Alike.{responses-alike}
use Rattle.by_column.proofs.responses.Goals as goal

pub returns-in-Some : goal.returns-in-Some
returns-in-Some c =
    let told = rw (c.as_slice.ensures, c.as_slice-in-Some.ensures) at c.responses.ensures in
    from-rows _ _ _ c.in-Some.ensures (λ t h. ResponsesSay t h c.responses.result) told

pub returns-in-None : goal.returns-in-None
returns-in-None c =
    responses-alike _ _ _ _ (from-counts _ _ c.in-None.ensures) _ c.responses-in-None.ensures
