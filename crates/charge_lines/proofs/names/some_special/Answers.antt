use Rattle.std.proofs.Common.{rules, ◌≡◌, ◌<◌, ℕ, true, false, length, get_or}
use Rattle.std.specs.Prelude.{MatchBool}
use Rattle.charge_lines.specs.Line.{special}
use Rattle.charge_lines.proofs.Quoting.{some_by}
use Rattle.charge_lines.proofs.names.some_special.Goals as goal

pub returns : goal.returns
returns c =
    let bs = c.args.name.now in
    let told : MatchBool c.any.result ((k : ℕ) × (k < length bs) × (special (get_or bs k 0) ≡ true)) ((k : ℕ) → k < length bs → special (get_or bs k 0) ≡ false) =
    search rules in
    some_by special bs c.any.result told
