use Rattle.schedule_file.proofs.Read.{read-says}
use Rattle.schedule_file.proofs.Inside.Builds.{stands-first, stands-next, stands-end}
use Rattle.schedule_file.proofs.reader.read.Goals as goal

pub loop-b-init : goal.loop-b-init
loop-b-init c = stands-first _ _ c.zeros-numbers.ensures

pub loop-b-preserved : goal.loop-b-preserved
loop-b-preserved c = stands-next _ _ _ _ _ c.loop-b.invariant c.loop-b-test.true _ _ _ c.step-st.ensures c.feed-n.ensures

pub returns-in-Some : goal.returns-in-Some
returns-in-Some c =
    read-says c.args.bytes.now _ (stands-end _ _ _ _ _ c.loop-b.invariant c.loop-b-test.false _ (λ es built. rw c.in-Some.is at c.close.ensures es built))

pub returns-in-None : goal.returns-in-None
returns-in-None c =
    read-says c.args.bytes.now _ (stands-end _ _ _ _ _ c.loop-b.invariant c.loop-b-test.false _ (λ es built. rw c.in-None.is at c.close.ensures es built))
