-- Laws of the greatest common divisor and of the least common multiple of two numbers.
--   IsGcd a b g   g divides both, and what divides n times both divides n times g
use mathlib.Core.Path.{◌≡◌, refl, ap, sym, subst, ◌∙◌}
use native.Mathlib.Nat.{dvd_refl, dvd-zero, dvd-mod_iff, dvd-sub, dvd-mul_left, dvd-mul_right, dvd-mul_right_of_dvd, dvd_of_mul-dvd-mul_right, pos_of_dvd_of_pos, mul-dvd-mul_right, mod_def, mod-lt, mul-sub, mul_assoc, mul_comm, mul-pos, div-mul_cancel}
use native.Mathlib.Omega.{arith}
use Prim.Native.Nat.{ℕ, zero, suc, ◌-◌, ◌*◌, ◌/◌, ◌%◌, ◌<◌, ◌∣◌}
use Rattle.euclid.specs.Euclid.{euclid, gcd, lcm}

pub record IsGcd (a b g : ℕ) : Type 0 where
  pub left : g ∣ a
  pub right : g ∣ b
  pub great : (n k : ℕ) → k ∣ n * a → k ∣ n * b → k ∣ n * g

-- ---- Euclid's rule

-- Any count of turns above the second number gives the same.
euclid-turns : (m n a b : ℕ) → b < m → b < n → euclid m a b ≡ euclid n a b
unfolding euclid
euclid-turns zero n a b h l = absurd (omega arith)
euclid-turns (suc m) zero a b h l = absurd (omega arith)
euclid-turns (suc m) (suc n) a zero h l = refl
euclid-turns (suc m) (suc n) a (suc b) h l =
    let falls : a % suc b < suc b = mod-lt a (omega arith) in
    euclid-turns m n (suc b) (a % suc b) (omega arith) (omega arith)

pub gcd-zero : (a : ℕ) → gcd a 0 ≡ a
unfolding gcd euclid
gcd-zero a = refl

pub gcd-next : (a b : ℕ) → 0 < b → gcd a b ≡ gcd b (a % b)
unfolding gcd euclid
gcd-next a zero pos = absurd (omega arith)
gcd-next a (suc b) pos =
    let falls : a % suc b < suc b = mod-lt a (omega arith) in
    euclid-turns (suc b) (suc (a % suc b)) (suc b) (a % suc b) (omega arith) (omega arith)

-- What divides n times a and n times b divides n times the remainder.
mod-dvd : (a b n k : ℕ) → k ∣ n * a → k ∣ n * b → k ∣ n * (a % b)
mod-dvd a b n k p q =
    let e : n * (a % b) ≡ n * a - n * b * (a / b) = ap (λ (x : ℕ). n * x) (mod_def a b) ∙ mul-sub n a (b * (a / b)) ∙ ap (λ (x : ℕ). n * a - x) (sym (mul_assoc n b (a / b))) in
    rw e (dvd-sub k p (dvd-mul_right_of_dvd k q (a / b)))

is-gcd-zero : (a : ℕ) → IsGcd a 0 a
is-gcd-zero a = record { left = dvd_refl a; right = dvd-zero a; great = λ n k p q. p }

is-gcd-next : (a b g : ℕ) → IsGcd b (a % b) g → IsGcd a b g
is-gcd-next a b g i = record {
  left = (dvd-mod_iff g i.left).0 i.right;
  right = i.left;
  great = λ n k p q. i.great n k q (mod-dvd a b n k p q);
}

is-euclid : (m a b : ℕ) → b < m → IsGcd a b (euclid m a b)
unfolding euclid
is-euclid zero a b h = absurd (omega arith)
is-euclid (suc m) a zero h = is-gcd-zero a
is-euclid (suc m) a (suc b) h =
    let falls : a % suc b < suc b = mod-lt a (omega arith) in
    is-gcd-next a (suc b) (euclid m (suc b) (a % suc b)) (is-euclid m (suc b) (a % suc b) (omega arith))

pub is-gcd : (a b : ℕ) → IsGcd a b (gcd a b)
unfolding gcd
is-gcd a b = is-euclid (suc b) a b (omega arith)

pub gcd-left : (a b : ℕ) → gcd a b ∣ a
gcd-left a b = (is-gcd a b).left

pub gcd-right : (a b : ℕ) → gcd a b ∣ b
gcd-right a b = (is-gcd a b).right

pub gcd-great : (a b k : ℕ) → k ∣ a → k ∣ b → k ∣ gcd a b
gcd-great a b k p q = subst (λ (x : ℕ). k ∣ x) (one (gcd a b)) ((is-gcd a b).great 1 k (rw (one a) p) (rw (one b) q))
  where
    one : (x : ℕ) → 1 * x ≡ x
    one x = omega arith

pub gcd-positive : (a b : ℕ) → 0 < a → 0 < gcd a b
gcd-positive a b pos = pos_of_dvd_of_pos (gcd-left a b) pos

-- ---- the least common multiple of two

pub lcm-right : (a b : ℕ) → b ∣ lcm a b
unfolding lcm
lcm-right a b = dvd-mul_left b (a / gcd a b)

pub lcm-left : (a b : ℕ) → a ∣ lcm a b
unfolding lcm
lcm-left a b =
    let q : ℕ = a / gcd a b in
    let r : ℕ = b / gcd a b in
    let e : q * b ≡ a * r =
    omega (arith, ap (λ (x : ℕ). q * x) (div-mul_cancel (gcd a b) (gcd-right a b)), ap (λ (x : ℕ). x * r) (div-mul_cancel (gcd a b) (gcd-left a b))) in
    subst (λ (x : ℕ). a ∣ x) (sym e) (dvd-mul_right a r)

pub lcm-least : (a b n : ℕ) → 0 < a → a ∣ n → b ∣ n → lcm a b ∣ n
unfolding lcm
lcm-least a b n pos p q =
    let g : ℕ = gcd a b in
    let e : a * b ≡ a / g * b * g = omega (arith, ap (λ (x : ℕ). x * b) (div-mul_cancel (gcd a b) (gcd-left a b))) in
    let both : a * b ∣ n * a = subst (λ (x : ℕ). x ∣ n * a) (mul_comm b a) (mul-dvd-mul_right b q a) in
    let all : a * b ∣ n * g = (is-gcd a b).great n (a * b) both (mul-dvd-mul_right a p b) in
    dvd_of_mul-dvd-mul_right (a / g * b) (gcd-positive a b pos) (subst (λ (x : ℕ). x ∣ n * g) e all)

pub lcm-positive : (a b : ℕ) → 0 < a → 0 < b → 0 < lcm a b
lcm-positive a b pa pb = pos_of_dvd_of_pos (lcm-least a b (a * b) pa (dvd-mul_right a b) (dvd-mul_left b a)) (mul-pos pa pb)
