-- A refused step in numbers: a run that says over 7 and late row 5,000,000, at clock 3, is refused 6, and says so afterwards too.
use mathlib.Core.Bool.{true}
use mathlib.Core.List.{[], ◌∷◌}
use mathlib.Core.Path.{◌≡◌, refl}
use Rattle.std.specs.Prelude.{None, Some}
use Rattle.scheduler.specs.declared.Ran.TheVariants as ran
use Rattle.harness.specs.Numbers.{over_of, late_of, answer_numbers, refused_layout}

refused-6 : refused_layout (2 ∷ 1 ∷ 3 ∷ 7 ∷ 5000001 ∷ 0 ∷ 1 ∷ 0 ∷ 0 ∷ []) 6 ≡ 2 ∷ 1 ∷ 3 ∷ 7 ∷ 5000001 ∷ 6 ∷ 0 ∷ 0 ∷ 0 ∷ []
refused-6 = refl

over-7 : over_of 7 ≡ true
over-7 = refl

late-row : late_of 5000001 ≡ Some 5000000
late-row = refl

-- Ticks: to handler 3, to task 5 with task 2 late, to nobody.
to-handler : answer_numbers 0 (ran.Handler 3) None ≡ 0 ∷ 1 ∷ 3 ∷ 0 ∷ []
to-handler = refl

to-task : answer_numbers 0 (ran.Task 5) (Some 2) ≡ 0 ∷ 2 ∷ 5 ∷ 3 ∷ []
to-task = refl

to-nobody : answer_numbers 0 ran.Idle None ≡ 0 ∷ 0 ∷ 0 ∷ 0 ∷ []
to-nobody = refl
