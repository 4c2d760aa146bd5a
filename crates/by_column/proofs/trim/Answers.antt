use Rattle.columns.proofs.Lent.{from-rows, from-counts}
use Rattle.trim.specs.Promise.{TrimSays}
use Rattle.by_column.proofs.Alike.{trim-alike}
use Rattle.by_column.proofs.trim.Goals as goal

pub returns-in-Some : goal.returns-in-Some
returns-in-Some c =
    let told = rw (c.as_slice.ensures, c.as_slice-in-Some.ensures) at c.trim.ensures in
    from-rows _ _ _ c.in-Some.ensures (λ t h. TrimSays t h c.args.row c.trim.result) told

pub returns-in-None : goal.returns-in-None
returns-in-None c =
    trim-alike _ _ _ _ (from-counts _ _ c.in-None.ensures) _ _ c.trim-in-None.ensures
