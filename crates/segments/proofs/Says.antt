-- The verdict by pieces is what the rules say tick by tick.
--   Ends L ss          every segment of ss ends within the span L
--   Says ts hs σ L o   the outcome o is what the rules say of the schedule σ up to L
use mathlib.Core.List.{List, [], ◌∷◌}
use mathlib.Core.Logic.{◌⊎◌, inl, inr}
use mathlib.Core.Path.{◌≡◌, refl, subst}
use native.Mathlib.Omega.{arith}
use Prim.Native.Nat.{ℕ, zero, suc, ◌+◌, ◌-◌, ◌*◌, ◌≤◌, ◌<◌, min}
use Rattle.demand.specs.Rows.{Row, row_at, Positive, Sound, Valid}
use Rattle.segments.specs.Given.{Who, nobody, task_ticks, handler_ticks}
use Rattle.segments.specs.Inside.{lates_of, ticks_of, Outcome, fine, broken, cond_o, after, piece_then, judge}
use Rattle.segments.specs.Rules.{Accepted, FirstBroken}
use Rattle.segments.specs.Segments.{Seg, InOrder, at, Agrees}
use Rattle.segments.proofs.Pieces.Counts.{Steady}
use Rattle.segments.proofs.Pieces.Outcomes.{piece-fine, piece-broken}
use Rattle.segments.proofs.Pieces.Piece.{valid-at}
use Rattle.segments.proofs.Pieces.Order.{gap-steady, seg-steady, rest-agrees, end-steady}

abbrev pub Ends : ℕ → List Seg → Type 0
Ends L [] = Unit
Ends L (s ∷ ss) = (s.to ≤ L) × Ends L ss

abbrev pub Says : List Row → List Row → (ℕ → Who) → ℕ → Outcome → Type 0
Says ts hs σ L fine = Accepted ts hs σ L
Says ts hs σ L (broken z) = FirstBroken ts hs σ L z

module _ (ts hs : List Row) (vt : Valid ts) (ph : Positive hs) (σ : ℕ → Who) (L : ℕ) where
  -- A piece is broken where its tests say so, and else what comes after it is told.
  after-says : (x y b : ℕ) (next : Outcome) → ((x < b) ⊎ (y ≤ b) → FirstBroken ts hs σ L (min x y)) → (b ≤ x → b < y → Says ts hs σ L next)
      → Says ts hs σ L (after x y b next)
  after-says x y b next breaks goes = go (b - x) refl
    where
      two : b ≤ x → (m : ℕ) → suc b - y ≡ m → Says ts hs σ L (cond_o m next (broken (min x y)))
      two l zero e = goes l (omega arith)
      two l (suc m) e = breaks (inr (omega arith))

      go : (n : ℕ) → b - x ≡ n → Says ts hs σ L (cond_o n (cond_o (suc b - y) next (broken (min x y))) (broken (min x y)))
      go zero e = two (omega arith) (suc b - y) refl
      go (suc n) e = breaks (inl (omega arith))

  -- So of a piece from a, up to which all is accepted.
  piece-says : (w : Who) (a b : ℕ) (next : Outcome) → Steady σ w a b → a ≤ b → b ≤ L → Accepted ts hs σ a
      → (Accepted ts hs σ b → Says ts hs σ L next)
      → Says ts hs σ L (piece_then ts hs σ w a b next)
  piece-says w a b next steady l le acc more =
      after-says (ticks_of (suc b) ts hs (λ i. task_ticks σ i a) (λ j. handler_ticks σ j a) a w)
      (lates_of (suc b) a (λ i. task_ticks σ i a) w 0 ts) b next
      (λ some. piece-broken ts hs vt ph σ a b L le acc w steady some)
      (λ x y. more (piece-fine ts hs vt ph σ a b L le acc w steady l x y))

  -- So of all segments from a on.
  judge-says : (ss : List Seg) (a : ℕ) → a ≤ L → InOrder a ss → Ends L ss → Agrees σ ss a L → Accepted ts hs σ a
      → Says ts hs σ L (judge ts hs σ L a ss)
  unfolding judge
  judge-says [] a l o e g acc = piece-says nobody a L fine (end-steady σ L a g) l (omega arith) acc (λ q. q)
  judge-says (s ∷ ss) a l o e g acc =
      piece-says nobody a s.from _ (gap-steady σ L s ss a o (omega (arith, o.1, e.0)) g) o.0 (omega (arith, o.1, e.0)) acc
      (λ q. piece-says s.who s.from s.to _ (seg-steady σ L s ss a o e.0 g) (omega (arith, o.1)) e.0 q
      (λ r. judge-says ss s.to e.0 o.2 e.1 (rest-agrees σ L s ss a o g) r))

  -- At clock 0 nothing is due yet.
  accepted-start : Accepted ts hs σ 0
  accepted-start = record { ticks = λ t l. absurd (omega arith); clocks = λ t l i k e. go t l i k e (valid-at ts vt i) }
    where
      go : (t : ℕ) → t ≤ 0 → (i k : ℕ) → k * (row_at ts i).period + (row_at ts i).deadline ≡ t → Sound (row_at ts i) ⊎ ((row_at ts i).cost ≡ 0)
          → (row_at ts i).cost * suc k ≤ task_ticks σ i t
      go t l i k e (inl s) = absurd (omega (arith, s))
      go t l i k e (inr z) = rw z (omega arith)

-- The verdict on segments: accepted, or the first tick at which a rule is broken.
module _ (ts hs : List Row) (vt : Valid ts) (ph : Positive hs) (ss : List Seg) (o : InOrder 0 ss) (L : ℕ) (e : Ends L ss) where
  verdict-right : Says ts hs (at ss) L (judge ts hs (at ss) L 0 ss)
  verdict-right = judge-says ts hs vt ph (at ss) L ss 0 (omega arith) o e (λ t l h. refl) (accepted-start ts hs vt ph (at ss) L)

  -- Fine is accepted,
  pub judge-fine : judge ts hs (at ss) L 0 ss ≡ fine → Accepted ts hs (at ss) L
  judge-fine q = subst (λ (v : Outcome). Says ts hs (at ss) L v) q verdict-right

  -- and broken at a tick is broken there first.
  pub judge-broken : (z : ℕ) → judge ts hs (at ss) L 0 ss ≡ broken z → FirstBroken ts hs (at ss) L z
  judge-broken z q = subst (λ (v : Outcome). Says ts hs (at ss) L v) q verdict-right
