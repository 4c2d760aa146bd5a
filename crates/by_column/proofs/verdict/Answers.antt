use Rattle.columns.proofs.Lent.{from-rows, from-counts}
use Rattle.verdict.specs.Promise.{VerdictSays}
use Rattle.by_column.proofs.Alike.{verdict-alike}
use Rattle.by_column.proofs.verdict.Goals as goal

pub returns-in-Some : goal.returns-in-Some
returns-in-Some c =
    let told = rw (c.as_slice.ensures, c.as_slice-in-Some.ensures) at c.verdict.ensures in
    from-rows _ _ _ c.in-Some.ensures (λ t h. VerdictSays t h c.verdict.result) told

pub returns-in-None : goal.returns-in-None
returns-in-None c =
    verdict-alike _ _ _ _ (from-counts _ _ c.in-None.ensures) _ c.verdict-in-None.ensures
