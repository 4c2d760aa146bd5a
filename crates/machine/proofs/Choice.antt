-- Who gets a tick, said by place: the first handler that is owed work; of tasks the one with the smallest key, the first of several.
--   Idle xs         no row is owed work
--   From key n xs   every row that is owed work has a key from n on
use mathlib.Core.List.{List, [], ◌∷◌, ◌++◌}
use mathlib.Core.Logic.{◌⊎◌, inl, inr}
use mathlib.Core.Path.{◌≡◌, refl}
use native.Mathlib.Omega.{arith}
use Prim.Native.Nat.{ℕ, zero, suc, ◌+◌, ◌-◌, ◌≤◌, ◌<◌}
use Rattle.demand.proofs.Divide.{le-or-lt}
use Rattle.machine.specs.Live.{Live, owed_all, left}
use Rattle.machine.specs.Machine.{share, before_by, serve, chosen, serve_by}
use Rattle.machine.proofs.Room.{share_in, share-out}

abbrev pub Idle : List Live → Type 0
Idle [] = Unit
Idle (x ∷ xs) = (x.owed ≡ 0) × Idle xs

module _ (key : Live → ℕ) where
  abbrev pub From : ℕ → List Live → Type 0
  From n [] = Unit
  From n (x ∷ xs) = (0 < x.owed → n ≤ key x) × From n xs

  -- Keys from n on: no work is owed with a key before n.
  pub none_before : (n : ℕ) (xs : List Live) → From n xs → before_by key n xs ≡ 0
  unfolding before_by
  none_before n [] h = refl
  none_before n (x ∷ xs) h = go (le-or-lt n (key x)) (none_before n xs h.1)
    where
      out : (key x < n) → (o : ℕ) → x.owed ≡ o → o ≡ 0
      out l zero e = refl
      out l (suc o) e = absurd (omega (arith, h.0 (omega arith)))

      go : (n ≤ key x) ⊎ (key x < n) → before_by key n xs ≡ 0 → share (n - key x) x.owed + before_by key n xs ≡ 0
      go (inl l) rest = omega (arith, share-out n (key x) x.owed l)
      go (inr l) rest = omega (arith, share_in n (key x) x.owed l, out l x.owed refl)

  -- A row that is owed work with a key before n: some work is.
  some-before : (n : ℕ) (xs : List Live) (x : Live) (ys : List Live) → 0 < x.owed → key x < n → 0 < before_by key n (xs ++ (x ∷ ys))
  unfolding before_by
  some-before n [] x ys o l = omega (arith, share_in n (key x) x.owed l)
  some-before n (y ∷ xs) x ys o l = omega (arith, some-before n xs x ys o l)

  -- Nobody is owed work: nobody runs.
  pub serve-by-idle : (xs : List Live) → Idle xs → serve_by key xs ≡ xs
  unfolding serve_by
  serve-by-idle [] h = refl
  serve-by-idle (x ∷ xs) h = rw (h.0, serve-by-idle xs h.1)

  -- The row that runs: above it none that is owed work has as small a key, below it none a smaller one.
  pub serve-by-runs : (xs : List Live) (x : Live) (ys : List Live) (n : ℕ) → x.owed ≡ suc n → From (suc (key x)) xs → From (key x) ys
      → serve_by key (xs ++ (x ∷ ys)) ≡ xs ++ (left n x ∷ ys)
  unfolding serve_by
  serve-by-runs [] x ys n e above below = rw (none_before (key x) ys below, e)
  serve-by-runs (y ∷ xs) x ys n e above below = go y.owed (before_by key (key y) (xs ++ (x ∷ ys))) refl refl (serve-by-runs xs x ys n e above.1 below)
    where
      go : (o b : ℕ) → y.owed ≡ o → before_by key (key y) (xs ++ (x ∷ ys)) ≡ b → serve_by key (xs ++ (x ∷ ys)) ≡ xs ++ (left n x ∷ ys)
          → chosen o b y (xs ++ (x ∷ ys)) (serve_by key (xs ++ (x ∷ ys))) ≡ y ∷ (xs ++ (left n x ∷ ys))
      go zero b f g rest = rw rest
      go (suc o) zero f g rest = absurd (omega (arith, some-before (key y) xs x ys (omega arith) (above.0 (omega arith))))
      go (suc o) (suc b) f g rest = rw rest

-- The same of handlers: nobody is owed work and nobody runs.
pub serve-idle : (xs : List Live) → Idle xs → serve xs ≡ xs
unfolding serve
serve-idle [] h = refl
serve-idle (x ∷ xs) h = rw (h.0, serve-idle xs h.1)

-- The handler that runs: above it none is owed work.
pub serve-runs : (xs : List Live) (x : Live) (ys : List Live) (n : ℕ) → x.owed ≡ suc n → Idle xs → serve (xs ++ (x ∷ ys)) ≡ xs ++ (left n x ∷ ys)
unfolding serve
serve-runs [] x ys n e idle = rw e
serve-runs (y ∷ xs) x ys n e idle = rw (idle.0, serve-runs xs x ys n e idle.1)

-- No row is owed work: none is owed in all.
pub idle-owes-none : (xs : List Live) → Idle xs → owed_all xs ≡ 0
unfolding owed_all
idle-owes-none [] h = refl
idle-owes-none (x ∷ xs) h = omega (arith, h.0, idle-owes-none xs h.1)
