use Rattle.harness.proofs.Laid.{fresh-late}
use Rattle.harness.proofs.harness_fresh.Goals as goal

pub lay_fresh-requires : goal.lay_fresh-requires
lay_fresh-requires c = fresh-late _ _ _ c.fresh.ensures

pub returns : goal.returns
returns c = record {
  fresh = c.fresh.result;
  says = c.fresh.ensures;
  tasks-laid = c.lay_fresh.ensures.0;
  handlers-laid = c.lay_fresh.ensures.1;
  next-laid = c.lay_fresh.ensures.2;
  due-laid = c.lay_fresh.ensures.3;
  owed-laid = c.lay_fresh.ensures.4;
  figures-laid = c.lay_fresh.ensures.5;
}
