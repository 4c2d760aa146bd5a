-- The promise allows one answer (specs/Unique).
use mathlib.Core.Bool.{true≢false}
use mathlib.Core.Path.{sym, ap, ◌∙◌}
use Rattle.std.specs.Prelude.{Ok, Err}
use Rattle.charges.specs.Promise.{ChargeSays}
use Rattle.charges.specs.Unique.{ChargeUnique}
use Rattle.demand.proofs.Numbered.{number-once}
use Rattle.verdict.proofs.Promise.{verdict-unique}

pub charge-unique : ChargeUnique
unfolding ChargeSays
charge-unique t h q (Ok c) (Ok d) r s =
    λ i. Ok (record {
      exact = verdict-unique t h c.exact d.exact r.exact s.exact i;
      quantum = (r.quantum ∙ sym s.quantum) i;
      task = (r.task ∙ sym s.task) i;
    })
charge-unique t h q (Ok c) (Err n) r s = absurd (true≢false (sym s.outside ∙ r.inside))
charge-unique t h q (Err m) (Ok d) r s = absurd (true≢false (sym r.outside ∙ s.inside))
charge-unique t h q (Err m) (Err n) r s = ap Err (number-once m n (r.number ∙ sym s.number))
