use mathlib.Core.List.{List, []}
use mathlib.Core.Path.{ap, ◌∙◌}
use Prim.Native.Nat.{ℕ}
use lib.ListN.{take, drop}
use Rattle.std.specs.Prelude.{Ok}
use Rattle.sheet.specs.Printed.{word_text, lines, printed}
use Rattle.text.specs.Text.{puts_of}
use Rattle.verdict.specs.Promise.{figures, refusal_of}
use Rattle.sheet.proofs.Printed.{lines-printed}
use Rattle.sheet.proofs.lines.of_answer.Goals as goal

pub returns-in-Ok : goal.returns-in-Ok
returns-in-Ok c =
    let given = figures (Ok c.in-Ok.told) in
    let word = ap (λ (w : List ℕ). puts_of [] (lines w (take 7 (drop 1 c.numbers-numbers.result)))) c.word.ensures in
    let numbers = ap (λ (ns : List ℕ). puts_of [] (lines (word_text given.word) (take 7 (drop 1 ns)))) c.numbers-numbers.ensures in
    rw c.in-Ok.is (lines-printed given _ (c.lines.ensures ∙ word ∙ numbers))

pub returns-in-Err : goal.returns-in-Err
unfolding figures
returns-in-Err c = rw c.in-Err.is (c.of_refusal.ensures ∙ ap (λ (k : ℕ). printed (refusal_of k)) c.number.ensures)
