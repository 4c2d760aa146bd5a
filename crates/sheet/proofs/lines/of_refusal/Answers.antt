use mathlib.Core.List.{List, []}
use mathlib.Core.Path.{ap, ◌∙◌}
use Prim.Native.Nat.{ℕ}
use lib.ListN.{take, drop}
use Rattle.sheet.specs.Printed.{word_text, lines}
use Rattle.text.specs.Text.{puts_of}
use Rattle.verdict.specs.Promise.{refusal_of}
use Rattle.verdict.specs.Promise.Word.{refused}
use Rattle.sheet.proofs.Printed.{lines-printed}
use Rattle.sheet.proofs.lines.of_refusal.Goals as goal

pub returns : goal.returns
returns c =
    let numbers = ap (λ (ns : List ℕ). puts_of [] (lines (word_text refused) (take 7 (drop 1 ns)))) c.refused_numbers-numbers.ensures in
    lines-printed (refusal_of c.args.number) _ (c.lines.ensures ∙ numbers)
