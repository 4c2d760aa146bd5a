-- The row that runs, by its place, and a piece's outcome as a number.
use mathlib.Core.Bool.{Bool, true, false, ◌||◌}
use mathlib.Core.List.{List}
use mathlib.Core.Logic.{◌⊎◌, inl, inr}
use mathlib.Core.Path.{◌≡◌, refl, sym, ap, ap₂, ◌∙◌}
use native.Mathlib.Numerals.{add-one}
use native.Mathlib.Omega.{arith}
use borrow.Author.Tests.{le-ltb, lt-ltb, ltb-true, ltb-false, leb-true, leb-false}
use lib.Dec.{leb, ltb}
use Prim.Native.Nat.{ℕ, zero, suc, ◌+◌, ◌-◌, ◌≤◌, ◌<◌, min}
use Rattle.std.specs.Prelude.{Option, Some, None, unwrap_or}
use Rattle.demand.specs.Limits.{tasks_most}
use Rattle.demand.specs.Rows.{Row, row_at}
use Rattle.segments.specs.Given.{nobody, task, handler}
use Rattle.segments.specs.Inside.{cond, lapse_of, waits_of, lates_of, ticks_of, tick_told}
use Rattle.segments.specs.Inside.{places_most, who_at, given_at, handler_given, broken_at, piece_broken}
use Rattle.segments.specs.Inside.{Outcome, broken, cond_o, after}
use Rattle.segments.proofs.Looks.Figures.{cond-none}

-- ---- who stands at a place

-- Tasks stand first,
pub who-task : (p : ℕ) → p < tasks_most → who_at p ≡ task p
who-task p l = rw (lt-ltb p tasks_most l)

-- handlers behind the most tasks,
pub who-handler : (p : ℕ) → tasks_most ≤ p → p < places_most → who_at p ≡ handler (p - tasks_most)
who-handler p l m = rw (le-ltb p tasks_most l, lt-ltb p places_most m)

-- nobody behind all.
pub who-nobody : (p : ℕ) → places_most ≤ p → who_at p ≡ nobody
who-nobody p l = rw (le-ltb p tasks_most (omega arith), le-ltb p places_most l)

-- ---- the first tick that is not right, from the numbers in hand

module _ (far a : ℕ) (ts hs : List Row) (given : List ℕ) (p : ℕ) where
  abbrev told : ℕ
  told = ticks_of far ts hs (given_at given) (handler_given given) a (who_at p)

  -- Where a task runs: the earlier of its own lapse and a handler that waits.
  pub ticks-task : p < tasks_most → (r : Row) (x y z : ℕ) → r ≡ row_at ts p → x ≡ lapse_of far a r.cost r.period (given_at given p)
      → y ≡ waits_of far a (handler_given given) 0 hs → z ≡ min y x → z ≡ told
  ticks-task l r x y z er ex ey ez =
      rw (who-task p l) (ez ∙ ap₂ min ey (ex ∙ ap (λ (q : Row). lapse_of far a q.cost q.period (given_at given p)) er))

  -- Where a handler runs: its own lapse.
  pub ticks-handler : tasks_most ≤ p → p < places_most → (r : Row) (x : ℕ) → r ≡ row_at hs (p - tasks_most)
      → x ≡ lapse_of far a r.cost r.period (given_at given p) → x ≡ told
  ticks-handler l m r x er ex =
      let place : p ≡ tasks_most + (p - tasks_most) = omega arith in
      rw (who-handler p l m)
      (ex ∙ ap₂ (λ (q : Row) (n : ℕ). lapse_of far a q.cost q.period (given_at given n)) er place)

  -- Where nobody runs: a handler that waits.
  pub ticks-nobody : places_most ≤ p → (y : ℕ) → y ≡ waits_of far a (handler_given given) 0 hs → y ≡ told
  ticks-nobody l y ey = rw (who-nobody p l) ey

-- ---- a piece's outcome as a number

module _ (x y b : ℕ) where
  -- Broken in a tick before b or at a clock up to b,
  pub broken-some : (x < b) ⊎ (y ≤ b) → suc (min x y) ≡ broken_at x y b
  broken-some some = go (b - x) refl
    where
      late : (m : ℕ) → suc b - y ≡ m → y ≤ b → suc (min x y) ≡ cond m 0 (suc (min x y))
      late zero e h = absurd (omega arith)
      late (suc m) e h = refl

      due : b ≤ x → (x < b) ⊎ (y ≤ b) → y ≤ b
      due l (inl h) = absurd (omega arith)
      due l (inr h) = h

      go : (n : ℕ) → b - x ≡ n → suc (min x y) ≡ cond n (cond (suc b - y) 0 (suc (min x y))) (suc (min x y))
      go zero e = late (suc b - y) refl (due (omega arith) some)
      go (suc n) e = refl

  -- or fine.
  pub broken-none : b ≤ x → b < y → 0 ≡ broken_at x y b
  broken-none l m = sym (cond-none (b - x) _ _ (omega arith) ∙ cond-none (suc b - y) _ _ (omega arith))

  -- By the tests that the code makes.
  pub either : (ltb x b || leb y b) ≡ true → (x < b) ⊎ (y ≤ b)
  either e = go (ltb x b) refl e
    where
      go : (t : Bool) → ltb x b ≡ t → (t || leb y b) ≡ true → (x < b) ⊎ (y ≤ b)
      go true q f = inl (ltb-true x b q)
      go false q f = inr (leb-true y b f)

  -- Neither of the two tests holds.
  pub neither : (ltb x b || leb y b) ≡ false → (b ≤ x) × (b < y)
  neither e = go (ltb x b) refl e
    where
      go : (t : Bool) → ltb x b ≡ t → (t || leb y b) ≡ false → (b ≤ x) × (b < y)
      go true q f = absurd (let z : ◌≡◌ {A = ℕ} 0 1 = cc in omega arith)
      go false q f = (ltb-false x b q, leb-false y b f)

  -- What is told of the piece and what comes after it.
  pub after-fine : (next : Outcome) → broken_at x y b ≡ 0 → after x y b next ≡ next
  after-fine next e = go (b - x) e
    where
      two : (m : ℕ) → cond m 0 (suc (min x y)) ≡ 0 → cond_o m next (broken (min x y)) ≡ next
      two zero f = refl
      two (suc m) f = absurd (omega arith)

      go : (n : ℕ) → cond n (cond (suc b - y) 0 (suc (min x y))) (suc (min x y)) ≡ 0
          → cond_o n (cond_o (suc b - y) next (broken (min x y))) (broken (min x y)) ≡ next
      go zero f = two (suc b - y) f
      go (suc n) f = absurd (omega arith)

  -- A piece that is broken ends it.
  pub after-broken : (next : Outcome) (z : ℕ) → broken_at x y b ≡ suc z → after x y b next ≡ broken z
  after-broken next z e = go (b - x) e
    where
      two : (m : ℕ) → cond m 0 (suc (min x y)) ≡ suc z → cond_o m next (broken (min x y)) ≡ broken z
      two zero f = absurd (omega arith)
      two (suc m) f = ap broken (omega (arith, f))

      go : (n : ℕ) → cond n (cond (suc b - y) 0 (suc (min x y))) (suc (min x y)) ≡ suc z
          → cond_o n (cond_o (suc b - y) next (broken (min x y))) (broken (min x y)) ≡ broken z
      go zero f = two (suc b - y) f
      go (suc n) f = ap broken (omega (arith, f))

-- What is told as a tick, or as none.
pub told-some : (n z : ℕ) → Some z ≡ tick_told n → n ≡ suc z
told-some zero z e = absurd cc
told-some (suc n) z e = ap suc (ap (λ (o : Option ℕ). unwrap_or o n) (sym e))

pub told-none : (n : ℕ) → None ≡ tick_told n → n ≡ 0
told-none zero e = refl
told-none (suc n) e = absurd cc

-- What is told as no tick is told as none.
pub told-else : (o : Option ℕ) (n : ℕ) → o ≡ tick_told n → ((z : ℕ) → o ≡ Some z → ⊥) → None ≡ tick_told n
told-else None n e f = e
told-else (Some z) n e f = absurd (f z refl)

-- The outcome, from the numbers that the code has in hand.
module _ (ts hs : List Row) (given : List ℕ) (runner a b x y : ℕ) where
  abbrev right : ℕ → ℕ
  right far = ticks_of far ts hs (given_at given) (handler_given given) a (who_at runner)

  abbrev met : ℕ → ℕ
  met far = lates_of far a (given_at given) (who_at runner) 0 ts

  module _ (ex : x ≡ right (b + 1)) (ey : y ≡ met (b + 1)) where
    exact : broken_at x y b ≡ piece_broken ts hs given runner a b
    exact = ap₂ (λ (u v : ℕ). broken_at u v b) (ex ∙ ap right (add-one b)) (ey ∙ ap met (add-one b))

    -- The tick,
    pub told-broken : (z : ℕ) → z ≡ min x y → (ltb x b || leb y b) ≡ true → Some z ≡ tick_told (piece_broken ts hs given runner a b)
    told-broken z ez e = ap tick_told (ap suc ez ∙ broken-some x y b (either x y b e) ∙ exact)

    -- or none.
    pub told-fine : (ltb x b || leb y b) ≡ false → None ≡ tick_told (piece_broken ts hs given runner a b)
    told-fine e = let none = neither x y b e in ap tick_told (broken-none x y b none.0 none.1 ∙ exact)
