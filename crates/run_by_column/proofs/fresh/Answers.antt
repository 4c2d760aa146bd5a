use Rattle.columns.proofs.Lent.{from-rows, from-counts}
use Rattle.scheduler.specs.Promise.{FreshSays}
use Rattle.run_by_column.proofs.Alike.{fresh-alike}
use Rattle.run_by_column.proofs.fresh.Goals as goal

pub returns-in-Some : goal.returns-in-Some
returns-in-Some c =
    let told = rw (c.as_slice.ensures, c.as_slice-in-Some.ensures) at c.fresh.ensures in
    from-rows _ _ _ c.in-Some.ensures (λ t h. FreshSays t h c.fresh.result) told

pub returns-in-None : goal.returns-in-None
returns-in-None c =
    fresh-alike _ _ _ _ (from-counts _ _ c.in-None.ensures) _ c.fresh-in-None.ensures
