use mathlib.Core.Path.{ap, ◌∙◌}
use native.Mathlib.Omega.{arith}
use Prim.Native.Nat.{ℕ, ◌-◌}
use Rattle.demand.specs.Rows.{row_at, handlers_of}
use Rattle.own_segments.proofs.Rhythms.{row-front, row_back}
use Rattle.own_segments.proofs.arrivals.row_at.Goals as goal

pub returns-then-k-n : goal.returns-then-k-n
returns-then-k-n c =
    c.row_at.ensures ∙ row-front _ _ _ (omega (arith, c.requires.1))

pub returns-else-k-n : goal.returns-else-k-n
returns-else-k-n c =
    c.row_at-else-k-n.ensures
    ∙ ap (λ (n : ℕ). row_at (handlers_of c.args.handlers.now) (c.args.k - n)) c.requires.1
    ∙ row_back _ _ _ (omega (arith, c.requires.1))
