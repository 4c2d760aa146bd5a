-- The table of M-100 (specs/Cases): its lengths are too many to compute, so the share of H stands in for the walk.
use mathlib.Core.List.{List, []}
use mathlib.Core.Logic.{◌⊎◌, inl, inr}
use mathlib.Core.Path.{◌≡◌, refl, sym}
use native.Mathlib.Omega.{arith}
use Prim.Native.Nat.{ℕ, ◌+◌, ◌*◌, ◌≤◌, ◌<◌}
use Rattle.demand.specs.Demands.{handled, left, due, Passes, Fails}
use Rattle.demand.specs.Refusals.{table_tests}
use Rattle.demand.specs.Tests.{first_refusal}
use Rattle.demand.specs.Rows.{Row, tasks_of, handlers_of, total, some}
use Rattle.demand.proofs.Demands.{called-nil, handled-le-called, passes-or-fails}
use Rattle.verdict.specs.Cases.{plain, dye_house, CaseHolds}
use Rattle.verdict.specs.Loads.{work, whole, slack, millionths, load}
use Rattle.euclid.specs.Euclid.{gcd, lcm, euclid}
use Rattle.demand.specs.Multiples.{lcm_from}
use Rattle.verdict.specs.Multiples.{common}
use Rattle.verdict.specs.Tested.{tested}
use Rattle.verdict.specs.Promise.{figures, no_of, verdict_refusal, SaysBy, Says, VerdictSays}
use Rattle.verdict.proofs.Divisors.{common-tasks}
use Rattle.verdict.proofs.Promise.{says-unique}
use Rattle.verdict.proofs.Readable.{readable-in-range}
use Rattle.verdict.proofs.Facts.Shares.{due-share}

abbrev ts : List Row
ts = tasks_of dye_house.tasks

readable : verdict_refusal dye_house.tasks [] ≡ 0
unfolding dye_house verdict_refusal first_refusal table_tests common lcm_from lcm gcd euclid total some plain tasks_of handlers_of
readable = refl

-- H, and W one above it
h-is : common ts [] ≡ 999999000
unfolding dye_house common lcm_from lcm gcd euclid plain tasks_of
h-is = refl

w-is : work 999999000 ts ≡ 999999001
unfolding dye_house work total plain tasks_of
w-is = refl

slack-is : slack 999999000 ts ≡ 0
unfolding dye_house slack total plain tasks_of
slack-is = refl

due-is : due ts 999999000 ≡ 999999001
unfolding dye_house due total plain tasks_of
due-is = refl

load_is : load ts [] ≡ 1000001
unfolding dye_house load whole work millionths common lcm_from lcm gcd euclid total plain tasks_of
load_is = refl

none : (l : ℕ) → handled [] l ≡ 0
none l = omega (arith, handled-le-called [] l, called-nil l)

-- Nothing below H lacks a whole tick.
below : (l : ℕ) → l < 999999000 → Passes ts [] l
below l short = go (passes-or-fails ts [] l)
  where
    share : common ts [] * due ts l ≤ l * work (common ts []) ts + slack (common ts []) ts
    share = due-share (common ts []) l ts (readable-in-range dye_house.tasks [] readable).deadlines (common-tasks ts [])

    go : Passes ts [] l ⊎ Fails ts [] l → Passes ts [] l
    go (inl passes) = passes
    go (inr fails) =
        let known : 999999000 * due ts l ≤ l * 999999001 + 0 = rw (h-is, w-is, slack-is) at share in
        absurd (omega (arith, known, none l))

-- No handler leaves work over.
nothing_left : left [] 999999000 ≡ 0
unfolding left
nothing_left = omega (arith, called-nil 999999000)

says : Says dye_house.tasks dye_house.handlers dye_house.sheet
unfolding Says SaysBy dye_house handlers_of
says = record {
  readable = readable;
  shortest = record {
    positive = omega arith;
    fails = omega (arith, due-is);
    least = λ m from less. below m less;
  };
  figures = λ i. no_of (record { interval = 999999000; handler = sym (none 999999000) i; task = sym due-is i; left = sym nothing_left i; tested = tested ts 999999000 }) (sym load_is i);
}

pub dye-house : CaseHolds dye_house
unfolding VerdictSays dye_house
dye-house = record { holds = says; only = λ r s. says-unique dye_house.tasks dye_house.handlers (figures r) dye_house.sheet s says; facts = tt }
