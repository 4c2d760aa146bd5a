-- The search of all tasks, the highest first: the next rank, and what is found with each.
--   Placed ts x    x is the rank of a task
use mathlib.Core.Bool.{Bool, true, false}
use mathlib.Core.List.{List, [], ◌∷◌}
use mathlib.Core.Logic.{◌⊎◌, inl, inr}
use mathlib.Core.Path.{◌≡◌, refl, sym, ap, ◌∙◌}
use native.Mathlib.Nat.{zero-add}
use native.Mathlib.Omega.{arith}
use borrow.Author.Tests.{ltb-true, ltb-false, lt-ltb, le-ltb}
use Prim.Native.Nat.{ℕ, zero, suc, ◌+◌, ◌%◌, ◌≤◌, ◌<◌, min}
use lib.Dec.{ltb}
use lib.ListN.{length, get_or, set, replicate, length-set, length-replicate, get_or-replicate, get_or-eq_default}
use lib.Seq.{ext_get_or, get_or-set_same, get_or-set_other}
use Rattle.demand.specs.Limits.{tasks_most}
use Rattle.demand.specs.Refusals.{FairRow, InRange}
use Rattle.demand.specs.Rows.{Row, row_at, no_row}
use Rattle.demand.specs.Tests.{pick}
use Rattle.demand.proofs.Divide.{le-or-lt}
use Rattle.demand.proofs.Inside.Places.{each_at}
use Rattle.priority.specs.Asked.{asked}
use Rattle.priority.specs.Inside.Climb.{Below, Climbed, found, Searched}
use Rattle.priority.specs.Inside.Ranks.{rank, rank_at, past_ranks, claimed, lesser_from, next_rank}
use Rattle.priority.specs.Responses.{least_to, response, listed_from, listed, leasts}
use Rattle.priority.proofs.Inside.Climb.{claimed-more}
use Rattle.priority.proofs.Inside.Ranks.{asked-claimed}
use Rattle.priority.proofs.Response.{below_one, below-least, below_none}

-- ---- the next rank

lesser-from : (least x y : ℕ) → least ≤ y → least ≤ lesser_from least x y
lesser-from least x y h = go (ltb x least) refl
  where
    go : (b : Bool) → ltb x least ≡ b → least ≤ pick b y (min x y)
    go true e = h
    go false e = omega (arith, ltb-false x least e)

-- It is not below where one looks from,
pub next-from : (least j : ℕ) (qs : List Row) → least ≤ past_ranks → least ≤ next_rank least j qs
unfolding next_rank
next-from least j [] h = h
next-from least j (q ∷ qs) h = lesser-from least (rank j q) (next_rank least (suc j) qs) (next-from least (suc j) qs h)

lesser-here : (least x y : ℕ) → least ≤ x → lesser_from least x y ≤ x
lesser-here least x y h = rw (le-ltb x least h) (omega arith)

lesser-there : (least x y : ℕ) → lesser_from least x y ≤ y
lesser-there least x y = go (ltb x least)
  where
    go : (b : Bool) → pick b y (min x y) ≤ y
    go true = omega arith
    go false = omega arith

-- and no task's rank from there on is less.
pub next-least : (least j : ℕ) (qs : List Row) (k : ℕ) → k < length qs → least ≤ rank (j + k) (row_at qs k) → next_rank least j qs ≤ rank (j + k) (row_at qs k)
unfolding next_rank
next-least least j [] k h from = absurd (omega arith)
next-least least j (q ∷ qs) zero h from = omega (arith, lesser-here least (rank j q) (next_rank least (suc j) qs) (omega arith))
next-least least j (q ∷ qs) (suc k) h from =
    omega (
      arith,
      lesser-there least (rank j q) (next_rank least (suc j) qs),
      next-least least (suc j) qs k (omega arith) (omega arith),
    )

-- Unless it is past all ranks, it is that of a task.
pub record Placed (j : ℕ) (qs : List Row) (x : ℕ) : Type 0 where
  pub place : ℕ
  pub row : place < length qs
  pub is : x ≡ rank (j + place) (row_at qs place)

pub next-placed : (least j : ℕ) (qs : List Row) → next_rank least j qs < past_ranks → Placed j qs (next_rank least j qs)
unfolding next_rank
next-placed least j [] h = absurd (omega arith)
next-placed least j (q ∷ qs) h = go (ltb (rank j q) least) (le-or-lt (rank j q) rest) refl h (next-placed least (suc j) qs)
  where
    rest : ℕ
    rest = next_rank least (suc j) qs

    behind : Placed (suc j) qs rest → (x : ℕ) → x ≡ rest → Placed j (q ∷ qs) x
    behind p x e = record { place = suc p.place; row = omega (arith, p.row); is = omega (arith, p.is) }

    go : (b : Bool) → (rank j q ≤ rest) ⊎ (rest < rank j q) → ltb (rank j q) least ≡ b → pick b rest (min (rank j q) rest) < past_ranks
        → (rest < past_ranks → Placed (suc j) qs rest) → Placed j (q ∷ qs) (pick b rest (min (rank j q) rest))
    go true side e h more = behind (more h) rest refl
    go false (inl here) e h more = record { place = 0; row = omega arith; is = omega arith }
    go false (inr there) e h more = behind (more (omega arith)) (min (rank j q) rest) (omega arith)

-- As the code tells its place.
pub record PlacedAt (ts : List Row) (x : ℕ) : Type 0 where
  pub row : x % 64 < length ts
  pub is : rank_at ts (x % 64) ≡ x

pub next-at : (least : ℕ) (ts : List Row) → length ts ≤ tasks_most → next_rank least 0 ts < past_ranks → PlacedAt ts (next_rank least 0 ts)
next-at least ts few soon =
    let p : Placed 0 ts (next_rank least 0 ts) = next-placed least 0 ts soon in
    let same : p.place ≡ next_rank least 0 ts % 64 = omega (arith, p.row, p.is, zero-add p.place) in
    record {
      row = omega (arith, p.row);
      is = ap (λ (k : ℕ). rank_at ts k) (sym same) ∙ omega (arith, p.is, zero-add p.place);
    }

-- ---- lists of all places

pub listed-length : (j : ℕ) (f : ℕ → ℕ) (n : ℕ) → length (listed_from j f n) ≡ n
unfolding listed_from
listed-length j f zero = refl
listed-length j f (suc n) = ap suc (listed-length (suc j) f n)

listed-from-at : (j : ℕ) (f : ℕ → ℕ) (n k : ℕ) → k < n → get_or (listed_from j f n) k 0 ≡ f (j + k)
unfolding listed_from
listed-from-at j f zero k h = absurd (omega arith)
listed-from-at j f (suc n) zero h = let same : j ≡ j + 0 = omega arith in ap f same
listed-from-at j f (suc n) (suc k) h =
    let same : suc j + k ≡ j + suc k = omega arith in
    listed-from-at (suc j) f n k (omega arith) ∙ ap f same

pub listed_at : (f : ℕ → ℕ) (n k : ℕ) → k < n → get_or (listed f n) k 0 ≡ f k
listed_at f n k h = listed-from-at 0 f n k h ∙ ap f (zero-add k)

-- Equal at each place.
pub listed_same : (f g : ℕ → ℕ) (n : ℕ) → ((k : ℕ) → k < n → f k ≡ g k) → listed f n ≡ listed g n
listed_same f g n same =
    ext_get_or 0 (listed f n) (listed g n) (listed-length 0 f n ∙ sym (listed-length 0 g n))
    (λ k h.
    let short : k < n = omega (arith, listed-length 0 f n) in
    listed_at f n k short ∙ same k short ∙ sym (listed_at g n k short))

pub listed-zeros : (f : ℕ → ℕ) (n : ℕ) → ((k : ℕ) → k < n → f k ≡ 0) → replicate n 0 ≡ listed f n
listed-zeros f n none =
    ext_get_or 0 (replicate n 0) (listed f n) (length-replicate {A = ℕ} n 0 ∙ sym (listed-length 0 f n))
    (λ k h.
    let short : k < n = omega (arith, length-replicate {A = ℕ} n 0) in
    get_or-replicate {A = ℕ} n k 0 0 short ∙ sym (none k short) ∙ sym (listed_at f n k short))

-- One place is set.
listed-set : (f g : ℕ → ℕ) (n p v : ℕ) → p < n → g p ≡ v → ((k : ℕ) → k < n → (k ≡ p → ⊥) → f k ≡ g k) → set (listed f n) p v ≡ listed g n
listed-set f g n p v within here others =
    ext_get_or 0 (set (listed f n) p v) (listed g n) (length-set (listed f n) p v ∙ listed-length 0 f n ∙ sym (listed-length 0 g n))
    (λ k h.
    let short : k < n = omega (arith, length-set (listed f n) p v, listed-length 0 f n) in
    at k short (le-or-lt k p) (le-or-lt p k) ∙ sym (listed_at g n k short))
  where
    at : (k : ℕ) → k < n → (k ≤ p) ⊎ (p < k) → (p ≤ k) ⊎ (k < p) → get_or (set (listed f n) p v) k 0 ≡ g k
    at k short (inl a) (inl b) =
        let same : k ≡ p = omega arith in
        rw same (get_or-set_same (listed f n) p v 0 (omega (arith, listed-length 0 f n)) ∙ sym here)
    at k short (inl a) (inr b) = get_or-set_other (listed f n) p k v 0 (λ e. omega arith) ∙ listed_at f n k short ∙ others k short (λ e. omega arith)
    at k short (inr a) b = get_or-set_other (listed f n) p k v 0 (λ e. omega arith) ∙ listed_at f n k short ∙ others k short (λ e. omega arith)

-- ---- what is found so far

-- Past the last task there is no response.
pub response-past : (ts hs : List Row) (i : ℕ) → length ts ≤ i → response ts hs i ≡ 0
unfolding response least_to
response-past ts hs i h = rw (get_or-eq_default ts no_row h)

found-past : (ts hs : List Row) (end i : ℕ) → length ts ≤ i → found ts hs end i ≡ 0
found-past ts hs end i h = go (ltb (rank_at ts i) end)
  where
    go : (b : Bool) → pick b (response ts hs i) 0 ≡ 0
    go true = response-past ts hs i h
    go false = refl

found-done : (ts hs : List Row) (end i : ℕ) → rank_at ts i < end → found ts hs end i ≡ response ts hs i
found-done ts hs end i h = rw (lt-ltb (rank_at ts i) end h)

found-later : (ts hs : List Row) (end i : ℕ) → end ≤ rank_at ts i → found ts hs end i ≡ 0
found-later ts hs end i h = rw (le-ltb (rank_at ts i) end h)

module _ (ts hs : List Row) (g : InRange ts hs) where
  -- The next rank from x on is not behind that of any task from x on.
  next-least-at : (x i : ℕ) → i < length ts → x ≤ rank_at ts i → next_rank x 0 ts ≤ rank_at ts i
  next-least-at x i h from = omega (arith, next-least x 0 ts i h (omega (arith, zero-add i)), zero-add i)

  -- Before the first turn nothing is found.
  pub search-start : Searched ts hs (next_rank 0 0 ts) 1 (replicate tasks_most 0)
  search-start =
      record {
        done = listed-zeros (found ts hs (next_rank 0 0 ts)) tasks_most (λ k h. none k (le-or-lt (length ts) k));
        from_one = omega arith;
        below = λ i h e. below_one (asked ts hs i);
      }
    where
      none : (k : ℕ) → (length ts ≤ k) ⊎ (k < length ts) → found ts hs (next_rank 0 0 ts) k ≡ 0
      none k (inl past) = found-past ts hs (next_rank 0 0 ts) k past
      none k (inr row) = found-later ts hs (next_rank 0 0 ts) k (next-least-at 0 k row (omega arith))

  -- At the end all are.
  pub search-end : (end l : ℕ) (ls : List ℕ) → past_ranks ≤ end → Searched ts hs end l ls → ls ≡ leasts ts hs
  unfolding leasts
  search-end end l ls past s = s.done ∙ listed_same (found ts hs end) (response ts hs) tasks_most (λ k h. go k (le-or-lt (length ts) k))
    where
      go : (k : ℕ) → (length ts ≤ k) ⊎ (k < length ts) → found ts hs end k ≡ response ts hs k
      go k (inl none) = found-past ts hs end k none ∙ sym (response-past ts hs k none)
      go k (inr row) =
          let fair : FairRow (row_at ts k) = each_at FairRow ts g.tasks k row in
          found-done ts hs end k (omega (arith, fair.period.most, g.tasks-most))

  -- ---- a turn: the task of rank x, at place p

  module _ (x l d r : ℕ) (ls : List ℕ) (s : Searched ts hs x l ls) (at : PlacedAt ts x) (deadline : d ≡ (row_at ts (x % 64)).deadline)
      (up : Climbed (claimed ts hs (x + 1)) l d r) (soon : x < past_ranks) where
    abbrev p : ℕ
    p = x % 64

    abbrev after : ℕ
    after = next_rank (x + 1) 0 ts

    few : p < tasks_most
    few = omega (arith, at.row, g.tasks-most)

    beyond : x + 1 ≤ after
    beyond = next-from (x + 1) 0 ts (omega arith)

    asked_here : (m : ℕ) → asked ts hs p m ≡ claimed ts hs (x + 1) m
    asked_here m =
        let end : suc (rank_at ts p) ≡ x + 1 = omega (arith, at.is) in
        asked-claimed ts hs p m g.tasks-most few ∙ ap (λ (y : ℕ). claimed ts hs y m) end

    below-was : Below (asked ts hs p) l
    below-was = s.below p at.row (omega (arith, at.is))

    below-claimed : Below (claimed ts hs (x + 1)) r
    below-claimed = up.climbing.below (λ m from short. omega (arith, below-was m from short, asked_here m))

    below-here : Below (asked ts hs p) r
    below-here m from short = omega (arith, below-claimed m from short, asked_here m)

    -- All others are found, or not, as before.
    other : (k : ℕ) → (k ≡ p → ⊥) → found ts hs x k ≡ found ts hs after k
    other k apart = go (le-or-lt (length ts) k) (le-or-lt x (rank_at ts k))
      where
        later : k < length ts → x ≤ rank_at ts k → x + 1 ≤ rank_at ts k
        later row h = split (le-or-lt (rank_at ts k) x)
          where
            split : (rank_at ts k ≤ x) ⊎ (x < rank_at ts k) → x + 1 ≤ rank_at ts k
            split (inl e) = absurd (apart (omega (arith, g.tasks-most)))
            split (inr more) = omega arith

        go : (length ts ≤ k) ⊎ (k < length ts) → (x ≤ rank_at ts k) ⊎ (rank_at ts k < x) → found ts hs x k ≡ found ts hs after k
        go (inl past) side = found-past ts hs x k past ∙ sym (found-past ts hs after k past)
        go (inr row) (inl from) = found-later ts hs x k from ∙ sym (found-later ts hs after k (next-least-at (x + 1) k row (later row from)))
        go (inr row) (inr done) = found-done ts hs x k done ∙ sym (found-done ts hs after k (omega (arith, beyond)))

    here-after : found ts hs after p ≡ response ts hs p
    here-after = found-done ts hs after p (omega (arith, at.is, beyond))

    -- No length below the new one has room for a task that is still to come.
    below-others : (i : ℕ) → i < length ts → after ≤ rank_at ts i → Below (asked ts hs i) r
    below-others i row from m start short =
        omega (
          arith,
          below-claimed m start short,
          claimed-more ts hs (x + 1) (suc (rank_at ts i)) m (omega (arith, beyond)),
          asked-claimed ts hs i m g.tasks-most (omega (arith, g.tasks-most)),
        )

    from_one : 1 ≤ r
    from_one = omega (arith, s.from_one, up.climbing.onward)

    -- It has a response where the climb ended within its deadline, else none.
    response-here : response ts hs p ≡ pick (ltb d r) 0 r
    unfolding response
    response-here = go (ltb d r) refl
      where
        go : (b : Bool) → ltb d r ≡ b → least_to (asked ts hs p) (row_at ts p).deadline ≡ pick b 0 r
        go true e = below_none (asked ts hs p) (row_at ts p).deadline r below-here (omega (arith, deadline, ltb-true d r e))
        go false e =
            let within : r ≤ d = ltb-false d r e in
            let room : asked ts hs p r ≤ r = omega (arith, up.room within, asked_here r) in
            below-least (asked ts hs p) (row_at ts p).deadline r below-here from_one (omega (arith, deadline)) room

    pub search-turn : Searched ts hs (next_rank (x + 1) 0 ts) r (set ls (x % 64) (pick (ltb d r) 0 r))
    search-turn =
        record {
          done =
              ap (λ (xs : List ℕ). set xs p (pick (ltb d r) 0 r)) s.done
              ∙ listed-set (found ts hs x) (found ts hs after) tasks_most p (pick (ltb d r) 0 r) few (here-after ∙ response-here) (λ k h. other k);
          from_one = from_one;
          below = below-others;
        }
