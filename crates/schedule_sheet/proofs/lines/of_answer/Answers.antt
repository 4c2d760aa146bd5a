use mathlib.Core.List.{List}
use mathlib.Core.Path.{ap, ◌∙◌}
use Prim.Native.Nat.{ℕ}
use lib.ListN.{take, drop}
use Rattle.segments.specs.Promise.{figures}
use Rattle.text.specs.Numbers.{fields_of}
use Rattle.text.specs.Text.{puts_of}
use Rattle.schedule_sheet.proofs.Printed.{chained, lines-printed}
use Rattle.schedule_sheet.proofs.lines.of_answer.Goals as goal

pub returns : goal.returns
returns c =
    let start = c.args in
    let head = c.of-head.ensures in
    let named = c.puts-named in
    let word = named.ensures ∙ ap (λ (w : List ℕ). puts_of c.of-head.result w) c.word.ensures in
    let numbers = c.numbers-numbers.ensures in
    let listed =
    c.fields.ensures ∙ ap (λ (ns : List ℕ). puts_of named.result (fields_of (take 2 (drop 1 ns)))) numbers in
    lines-printed (figures start.answer) _ (chained _ _ head word listed c.puts.ensures)
