use native.Mathlib.Omega.{arith}
use Rattle.text.specs.English.{english}
use Rattle.text.proofs.Phrases.{said, said-other}
use Rattle.text.proofs.english.line.Goals as goal
use Rattle.text.proofs.english.line.Goals.{in_default-via-then-number-lt1, in_default-via-else-number-lt1+else-number-lt6+else-number-lt12}

pub returns-in-12 : goal.returns-in-12
unfolding english
returns-in-12 c = said _ 12 c.in-12.is c.of.ensures

pub returns-in-13 : goal.returns-in-13
unfolding english
returns-in-13 c = said _ 13 c.in-13.is c.of-in-13.ensures

pub returns-in-14 : goal.returns-in-14
unfolding english
returns-in-14 c = said _ 14 c.in-14.is c.of-in-14.ensures

pub returns-in-18 : goal.returns-in-18
unfolding english
returns-in-18 c = said _ 18 c.in-18.is c.of-in-18.ensures

pub returns-in_default : goal.returns-in_default
unfolding english
returns-in_default c =
    let n = c.args.number in
    elim c.in_default.branch [
      | in_default-via-then-number-lt1 w ↦ said n 0 (omega arith) c.of-in_default.ensures
      | in_default-via-else-number-lt1+else-number-lt6+else-number-lt12 w ↦
          said-other n (omega arith) (λ e. omega arith) c.of-in_default.ensures
    ]
