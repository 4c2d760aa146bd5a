use native.Mathlib.Omega.{arith}
use Rattle.text.specs.English.{english}
use Rattle.text.proofs.Phrases.{said}
use Rattle.text.proofs.english.of_table.Goals as goal

pub returns-in-1 : goal.returns-in-1
unfolding english
returns-in-1 c = said _ 1 c.in-1.is c.of.ensures

pub returns-in-2 : goal.returns-in-2
unfolding english
returns-in-2 c = said _ 2 c.in-2.is c.of-in-2.ensures

pub returns-in-3 : goal.returns-in-3
unfolding english
returns-in-3 c = said _ 3 c.in-3.is c.of-in-3.ensures

pub returns-in-4 : goal.returns-in-4
unfolding english
returns-in-4 c = said _ 4 c.in-4.is c.of-in-4.ensures

pub returns-in_default : goal.returns-in_default
unfolding english
returns-in_default c = said c.args.number 5 (omega arith) c.of-in_default.ensures
