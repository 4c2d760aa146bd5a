use native.Mathlib.Omega.{arith}
use Rattle.text.specs.English.{english}
use Rattle.text.proofs.Phrases.{said}
use Rattle.text.proofs.english.of_run.Goals as goal

pub returns-in-6 : goal.returns-in-6
unfolding english
returns-in-6 c = said _ 6 c.in-6.is c.of.ensures

pub returns-in-7 : goal.returns-in-7
unfolding english
returns-in-7 c = said _ 7 c.in-7.is c.of-in-7.ensures

pub returns-in-8 : goal.returns-in-8
unfolding english
returns-in-8 c = said _ 8 c.in-8.is c.of-in-8.ensures

pub returns-in-9 : goal.returns-in-9
unfolding english
returns-in-9 c = said _ 9 c.in-9.is c.of-in-9.ensures

pub returns-in-10 : goal.returns-in-10
unfolding english
returns-in-10 c = said _ 10 c.in-10.is c.of-in-10.ensures

pub returns-in_default : goal.returns-in_default
unfolding english
returns-in_default c = said c.args.number 11 (omega arith) c.of-in_default.ensures
