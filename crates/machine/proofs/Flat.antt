-- Who gets a tick over the lists that a run holds, by place.
use mathlib.Core.List.{List, [], ◌∷◌}
use mathlib.Core.Path.{◌≡◌, refl}
use native.Mathlib.Omega.{arith}
use lib.ListN.{length, get_or, set}
use Prim.Native.Nat.{ℕ, zero, suc, ◌≤◌, ◌<◌}
use Rattle.demand.specs.Rows.{Row}
use Rattle.machine.specs.Live.{Live, due_of, left}
use Rattle.machine.specs.Machine.{before_by, serve, chosen, serve_by, edf}
use Rattle.machine.specs.Places.{live_of}
use Rattle.machine.specs.Inside.Listed.{live_at, Listed}
use Rattle.machine.proofs.Choice.{Idle, From, none_before}
use Rattle.machine.proofs.Room.{share_in}

-- The lists behind the first row fit too.
pub fits-rest : {r : Row} {rs : List Row} {n d o : ℕ} {ns ds os : List ℕ} → Listed (r ∷ rs) (n ∷ ns) (d ∷ ds) (o ∷ os) → Listed rs ns ds os
fits-rest f = record { nexts = omega (arith, f.nexts); dues = omega (arith, f.dues); owes = omega (arith, f.owes) }

module _ (key : Live → ℕ) where
  -- Every place that is owed work has a key from n on: so has every row.
  from-flat : (n : ℕ) (rs : List Row) (ns ds os : List ℕ) → ((j : ℕ) → j < length os → 0 < get_or os j 0 → n ≤ key (live_at rs ns ds os j)) → From key n (live_of rs ns ds os)
  unfolding live_of
  from-flat n [] ns ds os h = tt
  from-flat n (r ∷ rs) [] ds os h = tt
  from-flat n (r ∷ rs) (m ∷ ns) [] os h = tt
  from-flat n (r ∷ rs) (m ∷ ns) (d ∷ ds) [] h = tt
  from-flat n (r ∷ rs) (m ∷ ns) (d ∷ ds) (o ∷ os) h = (λ p. h 0 (omega arith) p, from-flat n rs ns ds os (λ j l p. h (suc j) (omega arith) p))

  -- A place that is owed work with a key before n: some work is owed with a key before n.
  some-flat : (n : ℕ) (rs : List Row) (ns ds os : List ℕ) (i : ℕ) → Listed rs ns ds os → i < length os → 0 < get_or os i 0 → key (live_at rs ns ds os i) < n
      → 0 < before_by key n (live_of rs ns ds os)
  unfolding live_of before_by
  some-flat n [] ns ds os i f l p h = absurd (omega (arith, f.owes))
  some-flat n (r ∷ rs) [] ds os i f l p h = absurd (omega (arith, f.nexts))
  some-flat n (r ∷ rs) (m ∷ ns) [] os i f l p h = absurd (omega (arith, f.dues))
  some-flat n (r ∷ rs) (m ∷ ns) (d ∷ ds) [] i f l p h = absurd (omega arith)
  some-flat n (r ∷ rs) (m ∷ ns) (d ∷ ds) (o ∷ os) zero f l p h = omega (arith, share_in n (key (record { row = r; next = m; due = d; owed = o })) o h)
  some-flat n (r ∷ rs) (m ∷ ns) (d ∷ ds) (o ∷ os) (suc i) f l p h = omega (arith, some-flat n rs ns ds os i (fits-rest f) (omega arith) p h)

  -- The row at i runs: it is owed work, rows above it that are owed work have greater keys, and those below no smaller ones.
  pub serve-by-flat : (rs : List Row) (ns ds os : List ℕ) (i m : ℕ) → Listed rs ns ds os → i < length os → get_or os i 0 ≡ suc m
      → ((j : ℕ) → j < i → 0 < get_or os j 0 → key (live_at rs ns ds os i) < key (live_at rs ns ds os j))
      → ((j : ℕ) → i < j → j < length os → 0 < get_or os j 0 → key (live_at rs ns ds os i) ≤ key (live_at rs ns ds os j))
      → serve_by key (live_of rs ns ds os) ≡ live_of rs ns ds (set os i m)
  unfolding serve_by live_of
  serve-by-flat [] ns ds os i m f l e above below = absurd (omega (arith, f.owes))
  serve-by-flat (r ∷ rs) [] ds os i m f l e above below = absurd (omega (arith, f.nexts))
  serve-by-flat (r ∷ rs) (n ∷ ns) [] os i m f l e above below = absurd (omega (arith, f.dues))
  serve-by-flat (r ∷ rs) (n ∷ ns) (d ∷ ds) [] i m f l e above below = absurd (omega arith)
  serve-by-flat (r ∷ rs) (n ∷ ns) (d ∷ ds) (o ∷ os) zero m f l e above below =
      let k : ℕ = key (record { row = r; next = n; due = d; owed = o }) in
      let none : before_by key k (live_of rs ns ds os) ≡ 0 = none_before key k (live_of rs ns ds os) (from-flat k rs ns ds os (λ j h p. below (suc j) (omega arith) (omega arith) p)) in
      go o (before_by key k (live_of rs ns ds os)) e none
    where
      x : Live
      x = record { row = r; next = n; due = d; owed = o }

      go : (q b : ℕ) → q ≡ suc m → b ≡ 0 → chosen q b x (live_of rs ns ds os) (serve_by key (live_of rs ns ds os)) ≡ left m x ∷ live_of rs ns ds os
      go q b eq eb = rw (eq, eb)
  serve-by-flat (r ∷ rs) (n ∷ ns) (d ∷ ds) (o ∷ os) (suc i) m f l e above below =
      go o (before_by key (key x) (live_of rs ns ds os)) refl refl
      (serve-by-flat rs ns ds os i m (fits-rest f) (omega arith) e (λ j h p. above (suc j) (omega arith) p) (λ j h b p. below (suc j) (omega arith) (omega arith) p))
    where
      x : Live
      x = record { row = r; next = n; due = d; owed = o }

      go : (q b : ℕ) → o ≡ q → before_by key (key x) (live_of rs ns ds os) ≡ b → serve_by key (live_of rs ns ds os) ≡ live_of rs ns ds (set os i m)
          → chosen q b x (live_of rs ns ds os) (serve_by key (live_of rs ns ds os)) ≡ x ∷ live_of rs ns ds (set os i m)
      go zero b eo eb rest = rw rest
      go (suc q) zero eo eb rest =
          absurd (omega (arith, some-flat (key x) rs ns ds os i (fits-rest f) (omega arith) (omega arith) (above 0 (omega arith) (omega arith))))
      go (suc q) (suc b) eo eb rest = rw rest

-- By the earliest deadline: the task at i runs where tasks above it that are owed work have later deadlines, and those below no earlier ones.
pub edf-flat : (rs : List Row) (ns ds os : List ℕ) (i m : ℕ) → Listed rs ns ds os → i < length os → get_or os i 0 ≡ suc m
    → ((j : ℕ) → j < i → 0 < get_or os j 0 → get_or ds i 0 < get_or ds j 0)
    → ((j : ℕ) → i < j → j < length os → 0 < get_or os j 0 → get_or ds i 0 ≤ get_or ds j 0)
    → edf (live_of rs ns ds os) ≡ live_of rs ns ds (set os i m)
edf-flat rs ns ds os i m f l e above below = serve-by-flat due_of rs ns ds os i m f l e above below

-- The handler at i runs: it is owed work, and those above it are not.
pub serve-flat : (rs : List Row) (ns ds os : List ℕ) (i m : ℕ) → Listed rs ns ds os → i < length os → get_or os i 0 ≡ suc m
    → ((j : ℕ) → j < i → get_or os j 0 ≡ 0) → serve (live_of rs ns ds os) ≡ live_of rs ns ds (set os i m)
unfolding serve live_of
serve-flat [] ns ds os i m f l e above = absurd (omega (arith, f.owes))
serve-flat (r ∷ rs) [] ds os i m f l e above = absurd (omega (arith, f.nexts))
serve-flat (r ∷ rs) (n ∷ ns) [] os i m f l e above = absurd (omega (arith, f.dues))
serve-flat (r ∷ rs) (n ∷ ns) (d ∷ ds) [] i m f l e above = absurd (omega arith)
serve-flat (r ∷ rs) (n ∷ ns) (d ∷ ds) (o ∷ os) zero m f l e above = rw e
serve-flat (r ∷ rs) (n ∷ ns) (d ∷ ds) (o ∷ os) (suc i) m f l e above =
    rw (above 0 (omega arith), serve-flat rs ns ds os i m (fits-rest f) (omega arith) e (λ j h. above (suc j) (omega arith)))

-- No place is owed work: no row is.
pub idle-flat : (rs : List Row) (ns ds os : List ℕ) → ((j : ℕ) → j < length os → get_or os j 0 ≡ 0) → Idle (live_of rs ns ds os)
unfolding live_of
idle-flat [] ns ds os h = tt
idle-flat (r ∷ rs) [] ds os h = tt
idle-flat (r ∷ rs) (n ∷ ns) [] os h = tt
idle-flat (r ∷ rs) (n ∷ ns) (d ∷ ds) [] h = tt
idle-flat (r ∷ rs) (n ∷ ns) (d ∷ ds) (o ∷ os) h = (h 0 (omega arith), idle-flat rs ns ds os (λ j l. h (suc j) (omega arith)))
