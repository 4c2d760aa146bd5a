-- The tick rule, said of a step's answer.
use mathlib.Core.List.{List}
use mathlib.Core.Path.{◌≡◌, sym, ap, subst, ◌∙◌}
use native.Mathlib.Omega.{arith}
use Prim.Native.Nat.{ℕ}
use Rattle.std.specs.Prelude.{Result, Ok, Err}
use Rattle.demand.specs.Numbered.{refusal_at}
use Rattle.demand.specs.declared.refusal.Refusal.{Refusal}
use Rattle.machine.specs.Live.{Live}
use Rattle.scheduler.specs.Rule.{TickRule, OnlyOne}
use Rattle.scheduler.specs.Tick.{GoesTo, owed_with, key_in, ran_by, ticked_by}
use Rattle.scheduler.specs.declared.Run.{Run}
use Rattle.scheduler.specs.declared.Stepped.{Stepped}
use Rattle.scheduler.specs.declared.Ticked.{Ticked}
use Rattle.scheduler.proofs.Steps.Answers.{Outcome, outcome}
use Rattle.scheduler.proofs.Steps.Goes.{goes-to, goes-once}
use Rattle.scheduler.proofs.Steps.Answers.Outcome.{stays, goes}

pub only_one : OnlyOne
only_one = goes-once

same-tick : {a b : Ticked} → ◌≡◌ {A = Result Ticked Refusal} (Ok a) (Ok b) → a ≡ b
same-tick e = cc

ticked-ran : (key : Live → ℕ) (r : Run) (ws : List ℕ) (t : Ticked) → (ticked_by key r ws).answer ≡ Ok t → ran_by key r ws ≡ t.ran
unfolding ticked_by
ticked-ran key r ws t e = ap (λ (x : Ticked). x.ran) (same-tick e)

pub tick-rule : TickRule
tick-rule key r ws t e = go (outcome key r ws)
  where
    go : Outcome key r ws → GoesTo (key_in key r ws) (owed_with r ws) r.task_count r.handler_count t.ran
    go (stays k is) =
        let same : Err (refusal_at k) ≡ Ok t = sym (ap (λ (x : Stepped). x.answer) is) ∙ e in
        absurd (let z : ◌≡◌ {A = ℕ} 0 1 = cc in omega arith)
    go (goes none is) =
        subst (GoesTo (key_in key r ws) (owed_with r ws) r.task_count r.handler_count)
        (ticked-ran key r ws t (sym (ap (λ (x : Stepped). x.answer) is) ∙ e))
        (goes-to (key_in key r ws) (owed_with r ws) r.task_count r.handler_count)
