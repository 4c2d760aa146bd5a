-- Laws of ranks: one row is above another exactly where its rank is less, so what is asked is the work of the ranks up to a task's own.
use mathlib.Core.Bool.{Bool, true, false, ◌&&◌, ◌||◌}
use mathlib.Core.List.{List, [], ◌∷◌}
use mathlib.Core.Logic.{◌⊎◌, inl, inr}
use mathlib.Core.Path.{◌≡◌, refl, sym, ap, ◌∙◌}
use native.Mathlib.Nat.{zero-add}
use native.Mathlib.Numerals.{add-one}
use native.Mathlib.Omega.{arith}
use borrow.Author.Tests.{ltb-true, ltb-false, eqb-true, eqb-false, lt-ltb, le-ltb}
use Prim.Native.Nat.{ℕ, suc, ◌+◌, ◌*◌, ◌≤◌, ◌<◌}
use lib.Dec.{ltb, eqb}
use lib.ListN.{length}
use Rattle.demand.specs.Demands.{called_by, called}
use Rattle.demand.specs.Limits.{tasks_most}
use Rattle.demand.specs.Refusals.{FairRow}
use Rattle.demand.specs.Rows.{Row, row_at, rows_of, width, rest, total}
use Rattle.demand.specs.Tests.{pick}
use Rattle.demand.specs.declared.table.Kind.{Kind}
use Rattle.demand.proofs.Divide.{le-or-lt}
use Rattle.demand.proofs.Inside.Slices.{rows_short, from, from-width}
use Rattle.priority.specs.Asked.{asked_from, asked}
use Rattle.priority.specs.Inside.Ranks.{rank, rank_at, past_ranks, work_by, work, claimed, lesser_from, next_rank, Fewer}

-- ---- a row and those above it are those of a rank up to its own

-- Tests by cases: what both tests say of the same numbers.
up_to : (i j p q : ℕ) → i < tasks_most → j < tasks_most → (j ≡ i → q ≡ p)
    → (eqb j i || (ltb q p || (eqb q p && ltb j i))) ≡ ltb (q * 64 + j) (suc (p * 64 + i))
up_to i j p q li lj own = go (eqb j i) (ltb q p) (eqb q p) (ltb j i) refl refl refl refl
  where
    go : (a b c d : Bool) → eqb j i ≡ a → ltb q p ≡ b → eqb q p ≡ c → ltb j i ≡ d
        → (a || (b || (c && d))) ≡ ltb (q * 64 + j) (suc (p * 64 + i))
    go true b c d ea eb ec ed =
        let same : j ≡ i = eqb-true j i ea in
        sym (lt-ltb (q * 64 + j) (suc (p * 64 + i)) (omega (arith, own same)))
    go false true c d ea eb ec ed = sym (lt-ltb (q * 64 + j) (suc (p * 64 + i)) (omega (arith, ltb-true q p eb)))
    go false false true true ea eb ec ed =
        sym (lt-ltb (q * 64 + j) (suc (p * 64 + i)) (omega (arith, eqb-true q p ec, ltb-true j i ed)))
    go false false true false ea eb ec ed = apart (le-or-lt j i)
      where
        apart : (j ≤ i) ⊎ (i < j) → false ≡ ltb (q * 64 + j) (suc (p * 64 + i))
        apart (inl h) = absurd (eqb-false j i ea (omega (arith, ltb-false j i ed)))
        apart (inr h) = sym (le-ltb (q * 64 + j) (suc (p * 64 + i)) (omega (arith, eqb-true q p ec)))
    go false false false d ea eb ec ed = apart (le-or-lt q p)
      where
        apart : (q ≤ p) ⊎ (p < q) → false ≡ ltb (q * 64 + j) (suc (p * 64 + i))
        apart (inl h) = absurd (eqb-false q p ec (omega (arith, ltb-false q p eb)))
        apart (inr h) = sym (le-ltb (q * 64 + j) (suc (p * 64 + i)) (omega arith))

asked-ranked : (j : ℕ) (qs : List Row) (i : ℕ) (r : Row) (l : ℕ) → i < tasks_most → length qs + j ≤ tasks_most
    → ((k : ℕ) → k < length qs → j + k ≡ i → (row_at qs k).period ≡ r.period)
    → asked_from j qs i r l ≡ work (suc (rank i r)) j qs l
unfolding asked_from work
asked-ranked j [] i r l li few own = refl
asked-ranked j (q ∷ qs) i r l li few own =
    omega (
      arith,
      ap (λ (b : Bool). pick b (called_by l q) 0) (up_to i j r.period q.period li (omega arith) (λ e. own 0 (omega arith) (omega arith))),
      asked-ranked (suc j) qs i r l li (omega arith) (λ k h e. own (suc k) (omega arith) (omega arith)),
    )

pub asked-claimed : (ts hs : List Row) (i l : ℕ) → length ts ≤ tasks_most → i < tasks_most
    → asked ts hs i l ≡ claimed ts hs (suc (rank_at ts i)) l
unfolding asked claimed
asked-claimed ts hs i l few li =
    omega (arith, asked-ranked 0 ts i (row_at ts i) l li (omega arith) (λ k h e. ap (λ (m : ℕ). (row_at ts m).period) (sym (zero-add k) ∙ e)))

-- ---- work by rank

pick_more : (a b : Bool) (x : ℕ) → (a ≡ true → b ≡ true) → pick a x 0 ≤ pick b x 0
pick_more true true x h = omega arith
pick_more true false x h = absurd (let z : ◌≡◌ {A = ℕ} 0 1 = cc (h refl) in omega arith)
pick_more false b x h = omega arith

-- Of more ranks no less work.
pub work-more : (end more j : ℕ) (qs : List Row) (l : ℕ) → end ≤ more → work end j qs l ≤ work more j qs l
unfolding work
work-more end more j [] l h = omega arith
work-more end more j (q ∷ qs) l h =
    omega (
      arith,
      pick_more (ltb (rank j q) end) (ltb (rank j q) more) (called_by l q)
          (λ e. lt-ltb (rank j q) more (omega (arith, ltb-true (rank j q) end e))),
      work-more end more (suc j) qs l h,
    )

pick-least : (b : Bool) (x : ℕ) → pick b x 0 ≤ x
pick-least true x = omega arith
pick-least false x = omega arith

pub work-le-called : (end j : ℕ) (qs : List Row) (l : ℕ) → work end j qs l ≤ called qs l
unfolding work called total
work-le-called end j [] l = omega arith
work-le-called end j (q ∷ qs) l = omega (arith, pick-least (ltb (rank j q) end) (called_by l q), work-le-called end (suc j) qs l)

-- Every rank is below the last: all rows.
pub work-all : (j : ℕ) (qs : List Row) (l : ℕ) → Fewer qs j → work past_ranks j qs l ≡ called qs l
unfolding work called total
work-all j [] l f = refl
work-all j (q ∷ qs) l f =
    let here : FairRow q = f.rows.0 in
    let count : length qs + suc j ≤ tasks_most = omega (arith, f.count) in
    omega (
      arith,
      ap (λ (b : Bool). pick b (called_by l q) 0) (lt-ltb (rank j q) past_ranks (omega (arith, here.period.most, f.count))),
      work-all (suc j) qs l (record { rows = f.rows.1; count = count }),
    )

-- ---- over a lent list: no row is left, and one row and the rest

module _ (kind : Kind) (s : List ℕ) where
  pub work-short : (end j l : ℕ) → length s < width kind → work end j (rows_of kind s) l ≡ 0
  unfolding work
  work-short end j l h = rw (rows_short kind s h)

  pub next-short : (from j : ℕ) → length s < width kind → next_rank from j (rows_of kind s) ≡ past_ranks
  unfolding next_rank
  next-short from j h = rw (rows_short kind s h)

  module _ (r : Row) (e : rows_of kind s ≡ r ∷ rows_of kind (rest kind s)) (n : ℕ) (w : n ≡ width kind) where
    pub work-head : (end j l x : ℕ) → x ≡ work end (j + 1) (rows_of kind (from n s)) l → work_by end j l r + x ≡ work end j (rows_of kind s) l
    unfolding work
    work-head end j l x q = rw (e, q, from-width kind s n w, add-one j)

    pub next-head : (least j x : ℕ) → x ≡ next_rank least (j + 1) (rows_of kind (from n s)) → lesser_from least (rank j r) x ≡ next_rank least j (rows_of kind s)
    unfolding next_rank
    next-head least j x q = rw (e, q, from-width kind s n w, add-one j)

    pub fewer_head : (j : ℕ) → Fewer (rows_of kind s) j → FairRow r × (j < tasks_most)
    fewer_head j f = let g : Fewer (r ∷ rows_of kind (rest kind s)) j = rw e at f in (g.rows.0, omega (arith, g.count))

    pub fewer-part : (j : ℕ) → Fewer (rows_of kind s) j → Fewer (rows_of kind (from n s)) (j + 1)
    fewer-part j f =
        let g : Fewer (r ∷ rows_of kind (rest kind s)) j = rw e at f in
        rw (from-width kind s n w) (record { rows = g.rows.1; count = omega (arith, g.count) })
