-- The figures worked out by hand (specs/Cases), by one computation over the list.
use mathlib.Core.Path.{refl}
use Rattle.charges.specs.Cases.{cases, EveryCase}
use Rattle.charges.specs.Promise.{by_quantum, by_task}
use Rattle.charges.specs.Ways.{bounds, grown, load_by}
use Rattle.demand.specs.Multiples.{lcm_from}
use Rattle.demand.specs.Refusals.{table_tests}
use Rattle.demand.specs.Rows.{tasks_of, handlers_of, total, some}
use Rattle.demand.specs.Tests.{first_refusal}
use Rattle.euclid.specs.Euclid.{gcd, lcm, euclid}
use Rattle.verdict.specs.Loads.{work, whole, millionths, load}
use Rattle.verdict.specs.Multiples.{common}
use Rattle.verdict.specs.Promise.{verdict_refusal}

pub every-case-holds : EveryCase cases
unfolding cases by_quantum by_task bounds grown load_by lcm_from table_tests tasks_of handlers_of total some first_refusal gcd lcm euclid work whole millionths load common verdict_refusal
every-case-holds = (
  refl,
  (
    refl,
    (
      refl,
      (
        (refl, refl),
        (
          (refl, refl),
          (
            (refl, refl),
            (
              (refl, refl),
              (
                (refl, refl),
                (
                  (refl, refl),
                  (
                    (refl, refl),
                    (
                      (refl, refl),
                      (
                        (refl, refl),
                        ((refl, refl), ((refl, refl), ((refl, refl), ((refl, refl), ((refl, refl), ((refl, refl), tt)))))),
                      ),
                    ),
                  ),
                ),
              ),
            ),
          ),
        ),
      ),
    ),
  ),
)
