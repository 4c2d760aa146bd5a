use Rattle.std.proofs.Common.{◌∙◌}
use Rattle.trim_file.proofs.NamesRead.{named-some, named-none}
use Rattle.trim_file.proofs.names.row_named.Goals as goal

pub returns-in-Some : goal.returns-in-Some
returns-in-Some c =
    let cases = c.in-Some.ensures.cases in
    named-some c.args.name.now c.in-Some.digits.now cases.0 cases.1 (c.unwrap_or.ensures ∙ c.number.ensures.1)

pub returns-in-None : goal.returns-in-None
returns-in-None c = named-none c.args.name.now c.in-None.ensures.cases
