use Rattle.demand.specs.declared.events.Event.TheVariants.{Arrival, Deadline}
use Rattle.verdict.proofs.Inside.Search.{tasks-room, handlers-room, lent-begun}
use Rattle.verdict.proofs.search.first_failing.Goals as goal

pub begin-i-requires : goal.begin-i-requires
begin-i-requires c = tasks-room _ _ c.requires.0

pub begin-j-requires : goal.begin-j-requires
begin-j-requires c = handlers-room _ _ c.requires.0

pub begin-k-requires : goal.begin-k-requires
begin-k-requires c = tasks-room _ _ c.requires.0

pub begin-l-requires : goal.begin-l-requires
begin-l-requires c = handlers-room _ _ c.requires.0

pub search-requires : goal.search-requires
search-requires c =
    let t = c.begin-i in
    let h = c.begin-j in
    let a = c.begin-k in
    let b = c.begin-l in
    record {
      readable = c.requires;
      begun = (
        lent-begun Deadline _ 64 t.result t.new.q t.auto.q t.ensures.1,
        lent-begun Arrival _ 16 h.result h.new.q h.auto.q h.ensures.1,
      );
      asked_begun = (
        lent-begun Arrival _ 64 a.result a.new.q a.auto.q a.ensures.1,
        lent-begun Arrival _ 16 b.result b.new.q b.auto.q b.ensures.1,
      );
    }
