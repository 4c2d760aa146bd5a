-- f over whole periods (specs/Wholes): with P a common multiple of the handlers' periods, f at any length follows from f within one P.
use mathlib.Core.List.{List, [], ◌∷◌}
use mathlib.Core.Path.{◌≡◌, ap, sym, subst, ◌∙◌}
use native.Mathlib.Nat.{add-zero, add-suc, mul-add, mul-le-mul_left, le_of_mul-le-mul_left, div-mul_cancel, div-add-mod', add-mul-div_right}
use native.Mathlib.Omega.{arith}
use lib.Arith.{digits_div}
use Prim.Native.Nat.{ℕ, zero, suc, ◌+◌, ◌-◌, ◌*◌, ◌/◌, ◌%◌, ◌≤◌, ◌<◌, ◌∣◌}
use Rattle.std.specs.Prelude.{Some}
use Rattle.demand.specs.Demands.{ceil, called, handled}
use Rattle.demand.specs.Multiples.{limited, Divided}
use Rattle.demand.specs.Rows.{Row, Positive}
use Rattle.demand.specs.Wholes.{own_period, TakesAll, CountsWholes}
use Rattle.demand.proofs.Demands.{called-nil, called-cons, handled-zero, handled-taken, handled-next, handled-le-called, handled-attained}
use Rattle.demand.proofs.Divide.{le-ceil-mul}
use Rattle.demand.proofs.Periods.{lcm-from-positive, lcm-from-rows, limited-some}
use Rattle.demand.proofs.Taken.{Attained}

-- ---- one row

-- Over whole periods rounding up is division.
pub ceil-whole : (P p : ℕ) → 0 < p → p ∣ P → ceil P p ≡ P / p
ceil-whole P p pos d =
    let w : P + (p - 1) ≡ P / p * p + (p - 1) = omega (arith, div-mul_cancel p d) in
    ap (λ (z : ℕ). z / p) w ∙ digits_div (P / p) (omega arith)

-- Behind whole periods a count begins anew.
pub ceil-behind : (P p x : ℕ) → 0 < p → p ∣ P → ceil (P + x) p ≡ ceil P p + ceil x p
ceil-behind P p x pos d =
    let w : P + x + (p - 1) ≡ x + (p - 1) + P / p * p = omega (arith, div-mul_cancel p d) in
    let e : ceil (P + x) p ≡ ceil x p + P / p = ap (λ (z : ℕ). z / p) w ∙ add-mul-div_right (x + (p - 1)) (P / p) pos in
    omega (arith, e, ceil-whole P p pos d)

-- ---- A

-- Behind whole periods work is called for as from the start.
pub called-behind : (P x : ℕ) (hs : List Row) → Positive hs → Divided P hs → called hs (P + x) ≡ called hs P + called hs x
called-behind P x [] pos d = omega (arith, called-nil (P + x), called-nil P, called-nil x)
called-behind P x (r ∷ hs) pos d =
    let one : r.cost * ceil (P + x) r.period ≡ r.cost * ceil P r.period + r.cost * ceil x r.period =
    ap (λ (n : ℕ). r.cost * n) (ceil-behind P r.period x pos.0 d.0) ∙ mul-add r.cost (ceil P r.period) (ceil x r.period) in
    omega (arith, one, called-cons r hs (P + x), called-cons r hs P, called-cons r hs x, called-behind P x hs pos.1 d.1)

-- Within x ticks at least x / P of what is called for within P.
pub called-part : (P x : ℕ) (hs : List Row) → Positive hs → Divided P hs → x * called hs P ≤ P * called hs x
called-part P x [] pos d = rw (called-nil P, called-nil x) (omega arith)
called-part P x (r ∷ hs) pos d = rw (called-cons r hs P, called-cons r hs x) (omega (arith, mul-le-mul_left r.cost one, called-part P x hs pos.1 d.1))
  where
    one : x * ceil P r.period ≤ P * ceil x r.period
    one =
        let q : ℕ = P / r.period in
        let e : q * r.period ≡ P = div-mul_cancel r.period d.0 in
        rw (ceil-whole P r.period pos.0 d.0)
        (omega (arith, mul-le-mul_left q (le-ceil-mul r.period x pos.0), ap (λ (z : ℕ). z * ceil x r.period) e))

-- ---- f

module _ (P : ℕ) (pos : 0 < P) (hs : List Row) (ph : Positive hs) (d : Divided P hs) where
  -- Handlers that ask for P ticks or more within P take every tick.
  pub handled-all : P ≤ called hs P → (l : ℕ) → handled hs l ≡ l
  handled-all heavy zero = handled-zero hs
  handled-all heavy (suc l) =
      let share : P * suc l ≤ P * called hs (suc l) = omega (arith, mul-le-mul_left (suc l) heavy, called-part P (suc l) hs ph d) in
      let asked : suc l ≤ called hs (suc l) = le_of_mul-le-mul_left share pos in
      omega (arith, handled-all heavy l, handled-next hs l)

  -- Handlers that ask for at most P ticks within P have taken by P all that they asked for.
  pub handled-whole : called hs P ≤ P → handled hs P ≡ called hs P
  handled-whole light =
      let at : Attained (called hs) P = handled-attained hs P in
      let s : ℕ = at.start in
      let k : ℕ = P - s in
      let sum : s + k ≡ P = omega (arith, at.within) in
      let e : handled hs P ≡ called hs s + k = handled-taken hs P ∙ at.exact in
      let parts : P * called hs P ≡ s * called hs P + k * called hs P = omega (arith, ap (λ (z : ℕ). z * called hs P) sum) in
      let whole : P * called hs P ≤ P * (called hs s + k) = omega (arith, parts, called-part P s hs ph d, mul-le-mul_left k light) in
      let enough : called hs P ≤ called hs s + k = le_of_mul-le-mul_left whole pos in
      omega (arith, e, enough, handled-le-called hs P)

  -- Behind P they begin anew.
  pub handled-behind : called hs P ≤ P → (x : ℕ) → handled hs (P + x) ≡ called hs P + handled hs x
  handled-behind light zero = rw (add-zero P) (omega (arith, handled-whole light, handled-zero hs))
  handled-behind light (suc x) =
      let asked : called hs (suc (P + x)) ≡ called hs P + called hs (suc x) = rw (add-suc P x) at (called-behind P (suc x) hs ph d) in
      rw (add-suc P x) (omega (arith, asked, handled-behind light x, handled-next hs (P + x), handled-next hs x))

  -- So f of q times P and r more is q times what they ask for within P, and f of r.
  pub handled-turns : called hs P ≤ P → (q r : ℕ) → handled hs (q * P + r) ≡ q * called hs P + handled hs r
  handled-turns light zero r =
      let e : 0 * P + r ≡ r = omega arith in
      rw e (omega arith)
  handled-turns light (suc q) r =
      let e : suc q * P + r ≡ P + (q * P + r) = omega arith in
      rw e (omega (arith, handled-behind light (q * P + r), handled-turns light q r))

  -- The same of any length, as the code divides it.
  pub handled-divided : called hs P ≤ P → (l : ℕ) → handled hs l ≡ l / P * called hs P + handled hs (l % P)
  handled-divided light l = ap (handled hs) (sym (div-add-mod' l P)) ∙ handled-turns light (l / P) (l % P)

-- ---- of the handlers' own period

module _ (hs : List Row) (ph : Positive hs) where
  own-positive : 0 < own_period hs
  own-positive = lcm-from-positive 1 hs (omega arith) ph

  pub takes_all : TakesAll hs
  takes_all heavy = handled-all (own_period hs) own-positive hs ph (lcm-from-rows 1 hs) heavy

  pub counts-wholes : CountsWholes hs
  counts-wholes light = handled-divided (own_period hs) own-positive hs ph (lcm-from-rows 1 hs) light

  -- ---- as the code has it: the period and the work in it in hand

  module _ (own l : ℕ) (period : Some own ≡ limited (own_period hs)) (short : own ≤ l) where
    -- A period that is there and no longer than l is the handlers' own.
    pub own_read : (own ≡ own_period hs) × (0 < own) × (own ≤ l)
    own_read =
        let read : own ≡ own_period hs = (limited-some (own_period hs) own period).0 in
        (read, omega (arith, read, own-positive), short)

    module _ (work : ℕ) (called_is : work ≡ called hs own) where
      pub all_read : own ≤ work → l ≡ handled hs l
      all_read heavy =
          let e = own_read.0 in
          sym (takes_all (subst (λ (p : ℕ). p ≤ called hs p) e (omega (arith, called_is))) l)

      pub wholes-read : work < own → l / own * work + handled hs (l % own) ≡ handled hs l
      wholes-read light =
          let e = own_read.0 in
          let few : called hs (own_period hs) ≤ own_period hs = subst (λ (p : ℕ). called hs p ≤ p) e (omega (arith, called_is)) in
          rw called_is (subst (λ (p : ℕ). l / p * called hs p + handled hs (l % p) ≡ handled hs l) (sym e) (sym (counts-wholes few l)))
