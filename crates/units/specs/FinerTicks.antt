-- The same board in finer ticks (02, M-104), said of the verdict's own promise.
--   figures_times k g   == the figures g with the failing length, both demands and what is left over times k; the word, the number, the load
--                         and the count of tested lengths are kept
--   FinerTicks         multiplying every cost, period and deadline by k, from 1, gives those figures wherever both tables are readable
use Rattle.std.specs.Prelude.{List, ◌≡◌, ℕ, ◌*◌, ◌≤◌, Result}
use Rattle.demand.specs.declared.refusal.Refusal.{Refusal}
use Rattle.verdict.specs.Promise.{Figures, figures, verdict_refusal, VerdictSays}
use Rattle.verdict.specs.declared.Answer.{Answer}
use Rattle.units.specs.Finer.{times}

unfoldable pub figures_times : ℕ → Figures → Figures
figures_times k g = record {
  word = g.word;
  code = g.code;
  interval = k * g.interval;
  handler = k * g.handler;
  task = k * g.task;
  load = g.load;
  left = k * g.left;
  tested = g.tested;
}

unfoldable pub FinerTicks : Type 0
FinerTicks =
    (k : ℕ) (t h : List ℕ) (r s : Result Answer Refusal)
    → 1 ≤ k → verdict_refusal t h ≡ 0 → verdict_refusal (times k t) (times k h) ≡ 0
    → VerdictSays t h r → VerdictSays (times k t) (times k h) s
    → figures s ≡ figures_times k (figures r)
