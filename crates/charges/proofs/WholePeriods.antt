-- The load of grown costs: whole periods apart, so that no number is longer than the rests ask.
use mathlib.Core.List.{List, [], ◌∷◌}
use mathlib.Core.Path.{◌≡◌, refl, ap, sym, ◌∙◌}
use native.Mathlib.Nat.{mul-add-div, div-add-mod', div-mul_cancel, mul_assoc, mul_comm, div-mul-le_self, mod-lt, mul-le-mul_right}
use native.Mathlib.Omega.{arith}
use Prim.Native.Nat.{ℕ, ◌+◌, ◌-◌, ◌*◌, ◌/◌, ◌%◌, ◌≤◌, ◌<◌, ◌∣◌}
use Rattle.std.specs.Prelude.{Some}
use Rattle.charges.specs.Inside.{CanLoad, periods_by, rest_by}
use Rattle.charges.specs.Ways.{grown, load_by}
use Rattle.demand.specs.Limits.{ticks_most}
use Rattle.demand.specs.Multiples.{lcm_from, limited, Divided}
use Rattle.demand.specs.Rows.{Row, Positive, total}
use Rattle.demand.proofs.Inside.Sizes.{fair-positive}
use Rattle.demand.proofs.Periods.{lcm-from-nil, lcm-from-positive, lcm-from-rows, limited-some}
use Rattle.demand.proofs.Sums.{total-nil, total-cons}
use Rattle.euclid.specs.Euclid.{lcm}
use Rattle.verdict.specs.Loads.{work, whole, millionths, load}
use Rattle.verdict.specs.Multiples.{common}
use Rattle.verdict.proofs.Loads.{work-nil, work-cons}

-- Costs do not change the common multiple.
grown-lcm : (g : Row → ℕ) (a : ℕ) (ts : List Row) → lcm_from a (grown g ts) ≡ lcm_from a ts
unfolding grown lcm_from
grown-lcm g a [] = refl
grown-lcm g a (r ∷ rs) = grown-lcm g (lcm a r.period) rs

-- What a grown cost brings over a multiple h of its period p: h for each whole period, and the rest.
row-parts : (c p h : ℕ) → p ∣ h → c * (h / p) ≡ c / p * h + c % p * (h / p)
row-parts c p h d =
    let all : p * (h / p) ≡ h = mul_comm p (h / p) ∙ div-mul_cancel p d in
    let parts : c * (h / p) ≡ (c / p * p + c % p) * (h / p) = ap (λ (x : ℕ). x * (h / p)) (sym (div-add-mod' c p)) in
    let turned : c / p * p * (h / p) ≡ c / p * h = mul_assoc (c / p) p (h / p) ∙ ap (λ (x : ℕ). c / p * x) all in
    omega (arith, parts, turned)

grown-work : (g : Row → ℕ) (h : ℕ) (ts : List Row) → Divided h ts → work h (grown g ts) ≡ total (periods_by g) ts * h + total (rest_by g h) ts
unfolding grown
grown-work g h [] d = rw (work-nil h, total-nil (periods_by g), total-nil (rest_by g h)) (omega arith)
grown-work g h (r ∷ rs) d =
    rw (total-cons (periods_by g) r rs, total-cons (rest_by g h) r rs)
    (omega (arith, work-cons h (record { cost = g r; period = r.period; deadline = r.deadline }) (grown g rs), row-parts (g r) r.period h d.0, grown-work g h rs d.1))

module _ (g : Row → ℕ) (ts : List Row) (h : ℕ) (e : h ≡ lcm_from 1 ts) where
  grown-common : common (grown g ts) [] ≡ h
  unfolding common
  grown-common = lcm-from-nil _ ∙ grown-lcm g 1 ts ∙ sym e

  -- The load by whole periods and rests.
  pub load_split : Positive ts → (k r : ℕ) → k ≡ total (periods_by g) ts → r ≡ total (rest_by g h) ts
      → 1000000 * k + (1000000 * r + (h - 1)) / h ≡ load_by g ts
  unfolding load_by load whole millionths
  load_split pos k r ek er =
      let some : 0 < h = rw e (lcm-from-positive 1 ts (omega arith) pos) in
      let divided : Divided h ts = rw e (lcm-from-rows 1 ts) in
      let all : work h (grown g ts) + work h [] ≡ k * h + r = rw (ek, er) (omega (arith, grown-work g h ts divided, work-nil h)) in
      let parts : 1000000 * (k * h + r) + (h - 1) ≡ h * (1000000 * k) + (1000000 * r + (h - 1)) = omega arith in
      rw (grown-common, all) (sym (ap (λ (x : ℕ). x / h) parts ∙ mul-add-div {m = h} some (1000000 * k) (1000000 * r + (h - 1))))

-- The rest of a row brings less than h.
pub rest-most : (c p h : ℕ) → 0 < p → c % p * (h / p) ≤ h
rest-most c p h pos = omega (arith, mul-le-mul_right (h / p) (mod-le c p pos), div-mul-le_self h p, mul_comm p (h / p))
  where
    mod-le : (c p : ℕ) → 0 < p → c % p ≤ p
    mod-le c p pos = omega (arith, mod-lt c pos)

-- H of the tasks, as the code finds it.
pub record Found (ts : List Row) (h : ℕ) : Type 0 where
  pub is : h ≡ lcm_from 1 ts
  pub some : 0 < h
  pub most : h ≤ ticks_most

pub common-found : (ts : List Row) (h : ℕ) → CanLoad ts → Some h ≡ limited (lcm_from 1 ts) → Found ts h
common-found ts h can e =
    let is : h ≡ lcm_from 1 ts = (limited-some (lcm_from 1 ts) h e).0 in
    record {
      is = is;
      some = rw is (lcm-from-positive 1 ts (omega arith) (fair-positive ts can.rows));
      most = omega (arith, is, can.ticks);
    }
