-- The least lengths of fixed priorities in finer ticks (specs/Responses): each is k times what it was.
use mathlib.Core.Bool.{Bool, true, false, ◌||◌}
use mathlib.Core.List.{List, [], ◌∷◌}
use mathlib.Core.Logic.{◌⊎◌, inl, inr}
use mathlib.Core.Path.{◌≡◌, refl, ap, sym, ◌∙◌}
use native.Mathlib.Nat.{mul-zero, mul-suc, mul_comm, mul-pos, mul-le-mul_left, zero-add}
use native.Mathlib.Omega.{arith}
use borrow.Author.Tests.{lt-ltb, le-ltb, eq-eqb, ne_eqb}
use lib.Dec.{ltb, eqb}
use lib.ListN.{length}
use Prim.Native.Nat.{ℕ, zero, suc, ◌+◌, ◌*◌, ◌≤◌, ◌<◌}
use Rattle.std.specs.Prelude.{Result}
use Rattle.demand.specs.Demands.{ceil, called_by}
use Rattle.demand.specs.Limits.{tasks_most}
use Rattle.demand.specs.Refusals.{FairRow, InRange, table_refusal}
use Rattle.demand.specs.Rows.{Row, Positive, Sound, row_at, tasks_of, handlers_of}
use Rattle.demand.specs.Tests.{pick}
use Rattle.demand.proofs.Divide.{le-or-lt, le-ceil-mul}
use Rattle.demand.proofs.Inside.Places.{each_at}
use Rattle.demand.proofs.Inside.Sizes.{fair-positive}
use Rattle.demand.proofs.Refusals.{refusal-in-range}
use Rattle.demand.specs.declared.refusal.Refusal.{Refusal}
use Rattle.priority.specs.Answers.{figures, figures_by, ResponsesSay}
use Rattle.priority.specs.Asked.{above, asked_from, asked}
use Rattle.priority.specs.Inside.Climb.{Below}
use Rattle.priority.specs.Inside.Ranks.{rank_at}
use Rattle.priority.specs.Responses.{least_to, response, listed_from, leasts}
use Rattle.priority.proofs.Inside.Climb.{claimed-mono}
use Rattle.priority.proofs.Inside.Ranks.{asked-claimed}
use Rattle.priority.proofs.Inside.Search.{response-past}
use Rattle.priority.proofs.Response.{Told, Least, least-told, below-least, below_none}
use Rattle.units.specs.Finer.{times, scaled, scale}
use Rattle.units.specs.Responses.{responses_times, FinerResponses}
use Rattle.units.proofs.Finer.{tasks-times, handlers-times, ceil-scale, ceil-times, called-scale}

-- ---- what is asked

-- Priorities are told by which period is the shorter, in any ticks.
ltb-times : (k a b : ℕ) → 0 < k → ltb (k * a) (k * b) ≡ ltb a b
ltb-times k a b pos = go (le-or-lt b a)
  where
    go : (b ≤ a) ⊎ (a < b) → ltb (k * a) (k * b) ≡ ltb a b
    go (inl h) = le-ltb (k * a) (k * b) (mul-le-mul_left k h) ∙ sym (le-ltb a b h)
    go (inr h) = lt-ltb (k * a) (k * b) (omega (arith, mul-le-mul_left k h, mul-suc k a)) ∙ sym (lt-ltb a b h)

eqb-times : (k a b : ℕ) → 0 < k → eqb (k * a) (k * b) ≡ eqb a b
eqb-times k a b pos = go (le-or-lt a b) (le-or-lt b a)
  where
    go : (a ≤ b) ⊎ (b < a) → (b ≤ a) ⊎ (a < b) → eqb (k * a) (k * b) ≡ eqb a b
    go (inl g) (inl h) =
        let e : a ≡ b = omega arith in
        eq-eqb (k * a) (k * b) (ap (λ (n : ℕ). k * n) e) ∙ sym (eq-eqb a b e)
    go (inl g) (inr h) = ne_eqb (k * a) (k * b) (λ e. omega (arith, mul-le-mul_left k h, mul-suc k a)) ∙ sym (ne_eqb a b (λ e. omega arith))
    go (inr g) h = ne_eqb (k * a) (k * b) (λ e. omega (arith, mul-le-mul_left k g, mul-suc k b)) ∙ sym (ne_eqb a b (λ e. omega arith))

asked-from-scale : (k j : ℕ) (qs : List Row) (i : ℕ) (r : Row) (l : ℕ) → 0 < k → Positive qs
    → asked_from j (scale k qs) i (scaled k r) l ≡ k * asked_from j qs i r (ceil l k)
unfolding asked_from scale
asked-from-scale k j [] i r l pos pq = omega (arith, mul-zero k)
asked-from-scale k j (q ∷ qs) i r l pos pq =
    rw (
      ltb-times k q.period r.period pos,
      eqb-times k q.period r.period pos,
      ceil-scale k l q.period pos pq.0,
      asked-from-scale k (suc j) qs i r l pos pq.1,
    )
    (one (eqb j i || above i r j q))
  where
    one : (b : Bool) → pick b (k * q.cost * ceil (ceil l k) q.period) 0 + k * asked_from (suc j) qs i r (ceil l k)
        ≡ k * (pick b (q.cost * ceil (ceil l k) q.period) 0 + asked_from (suc j) qs i r (ceil l k))
    one true = omega arith
    one false = omega (arith, mul-zero k)

row-scale : (k : ℕ) (ts : List Row) (i : ℕ) → row_at (scale k ts) i ≡ scaled k (row_at ts i)
unfolding scale
row-scale k [] i = sym (λ j. record { cost = mul-zero k j; period = mul-zero k j; deadline = mul-zero k j })
row-scale k (r ∷ ts) zero = refl
row-scale k (r ∷ ts) (suc i) = row-scale k ts i

length-scale : (k : ℕ) (ts : List Row) → length (scale k ts) ≡ length ts
unfolding scale
length-scale k [] = refl
length-scale k (r ∷ ts) = ap suc (length-scale k ts)

pub asked-scale : (k : ℕ) (ts hs : List Row) (i l : ℕ) → 0 < k → Positive ts → Positive hs
    → asked (scale k ts) (scale k hs) i l ≡ k * asked ts hs i (ceil l k)
unfolding asked
asked-scale k ts hs i l pos pt ph =
    rw (row-scale k ts i) (omega (arith, called-scale k l hs pos ph, asked-from-scale k 0 ts i (row_at ts i) l pos pt))

-- ---- the least length

-- l ticks from 1 are at least one old tick, rounded up.
ceil-some : (k l : ℕ) → 0 < k → 1 ≤ l → 1 ≤ ceil l k
ceil-some k l pos from = go (ceil l k) (le-ceil-mul k l pos)
  where
    go : (n : ℕ) → l ≤ n * k → 1 ≤ n
    go zero h = absurd (omega arith)
    go (suc n) h = omega arith

module _ (a : ℕ → ℕ) (mono : (x y : ℕ) → x ≤ y → a x ≤ a y) (some : 1 ≤ a 1) where
  -- Where nothing shorter has room, a length is asked for no less than itself.
  below-full : (l : ℕ) → 1 ≤ l → Below a l → l ≤ a l
  below-full zero from below = absurd (omega arith)
  below-full (suc zero) from below = some
  below-full (suc (suc l)) from below = omega (arith, below (suc l) (omega arith) (omega arith), mono (suc l) (suc (suc l)) (omega arith))

  module _ (k : ℕ) (pos : 0 < k) (b : ℕ → ℕ) (finer : (l : ℕ) → b l ≡ k * a (ceil l k)) where
    -- So nothing below k times that length has room in finer ticks.
    below-scale : (l : ℕ) → 1 ≤ l → Below a l → Below b (k * l)
    below-scale l from below m start short = go (le-or-lt l (ceil m k))
      where
        go : (l ≤ ceil m k) ⊎ (ceil m k < l) → m < b m
        go (inl up) =
            let most : k * l ≤ k * a (ceil m k) = mul-le-mul_left k (omega (arith, mono l (ceil m k) up, below-full l from below)) in
            omega (arith, finer m, most)
        go (inr down) =
            let more : k * suc (ceil m k) ≤ k * a (ceil m k) = mul-le-mul_left k (below (ceil m k) (ceil-some k m pos start) down) in
            omega (arith, finer m, more, mul-suc k (ceil m k), le-ceil-mul k m pos, mul_comm k (ceil m k))

    -- The least length with room is k times the old one, and there is none where there was none.
    least-times : (n : ℕ) → 1 ≤ n → least_to b (k * n) ≡ k * least_to a n
    least-times n within = go (least_to a n) (least-told a n)
      where
        go : (x : ℕ) → Told a n x → least_to b (k * n) ≡ k * x
        go zero f =
            let past : Below a (suc n) = λ m start short. f.none refl m start (omega arith) in
            below_none b (k * n) (k * suc n) (below-scale (suc n) (omega arith) past) (omega (arith, mul-suc k n)) ∙ sym (mul-zero k)
        go (suc x) f =
            let l : Least a n (suc x) = f.least (omega arith) in
            let room : b (k * suc x) ≤ k * suc x =
            omega (arith, finer (k * suc x), ap (λ (m : ℕ). k * a m) (ceil-times k (suc x) pos), mul-le-mul_left k l.room) in
            below-least b (k * n) (k * suc x) (below-scale (suc x) (omega arith) l.shorter) (omega (arith, mul-suc k x))
            (mul-le-mul_left k l.within) room

-- ---- responses

-- A task asks for its own cost at least.
asked-from-own : (j : ℕ) (qs : List Row) (k : ℕ) (r : Row) (l : ℕ) → k < length qs → called_by l (row_at qs k) ≤ asked_from j qs (j + k) r l
unfolding asked_from
asked-from-own j [] k r l h = absurd (omega arith)
asked-from-own j (q ∷ qs) zero r l h = rw (eq-eqb j (j + 0) (omega arith)) (omega arith)
asked-from-own j (q ∷ qs) (suc k) r l h =
    let e : j + suc k ≡ suc j + k = omega arith in
    rw e (omega (arith, asked-from-own (suc j) qs k r l (omega arith)))

module _ (k : ℕ) (pos : 0 < k) (ts hs : List Row) (fair : InRange ts hs) where
  pt : Positive ts
  pt = fair-positive ts fair.tasks

  ph : Positive hs
  ph = fair-positive hs fair.handlers

  asked-mono : (i : ℕ) → i < length ts → (x y : ℕ) → x ≤ y → asked ts hs i x ≤ asked ts hs i y
  asked-mono i row x y h =
      let few : i < tasks_most = omega (arith, fair.tasks-most) in
      omega (
        arith,
        asked-claimed ts hs i x fair.tasks-most few,
        asked-claimed ts hs i y fair.tasks-most few,
        claimed-mono ts hs (suc (rank_at ts i)) x y h,
      )

  asked-some : (i : ℕ) → i < length ts → 1 ≤ asked ts hs i 1
  unfolding asked
  asked-some i row =
      let own : FairRow (row_at ts i) = each_at FairRow ts fair.tasks i row in
      let once : 1 ≤ ceil 1 (row_at ts i).period = ceil-some (row_at ts i).period 1 own.period.least (omega arith) in
      let cost : 0 < called_by 1 (row_at ts i) = mul-pos own.cost.least once in
      let here : called_by 1 (row_at ts i) ≤ asked_from 0 ts i (row_at ts i) 1 =
      rw (zero-add i) at (asked-from-own 0 ts i (row_at ts i) 1 row) in
      omega (arith, cost, here)

  response-row : (i : ℕ) → i < length ts → response (scale k ts) (scale k hs) i ≡ k * response ts hs i
  unfolding response
  response-row i row =
      rw (row-scale k ts i)
      (least-times (asked ts hs i) (asked-mono i row) (asked-some i row) k pos (asked (scale k ts) (scale k hs) i)
      (λ l. asked-scale k ts hs i l pos pt ph)
      (row_at ts i).deadline (each_at Sound ts fair.deadlines i row).some)

  pub response-scale : (i : ℕ) → response (scale k ts) (scale k hs) i ≡ k * response ts hs i
  response-scale i = go (le-or-lt (length ts) i)
    where
      go : (length ts ≤ i) ⊎ (i < length ts) → response (scale k ts) (scale k hs) i ≡ k * response ts hs i
      go (inl past) =
          response-past (scale k ts) (scale k hs) i (omega (arith, length-scale k ts, past))
          ∙ sym (ap (λ (n : ℕ). k * n) (response-past ts hs i past) ∙ mul-zero k)
      go (inr row) = response-row i row

  listed-times : (f g : ℕ → ℕ) → ((i : ℕ) → g i ≡ k * f i) → (j n : ℕ) → listed_from j g n ≡ times k (listed_from j f n)
  unfolding listed_from times
  listed-times f g each j zero = refl
  listed-times f g each j (suc n) = λ i. each j i ∷ listed-times f g each (suc j) n i

  pub leasts-scale : leasts (scale k ts) (scale k hs) ≡ times k (leasts ts hs)
  unfolding leasts
  leasts-scale = listed-times (response ts hs) (response (scale k ts) (scale k hs)) response-scale 0 tasks_most

-- ---- the answer

-- The figures of a table that is not refused.
found-figures : (t h : List ℕ) (p : Result (List ℕ) Refusal) → table_refusal t h ≡ 0 → ResponsesSay t h p
    → figures p ≡ record { code = 0; least = leasts (tasks_of t) (handlers_of h) }
unfolding figures_by
found-figures t h p none says = rw none at says.figured

-- M-104: the least lengths in finer ticks.
pub finer-responses : FinerResponses
unfolding FinerResponses responses_times
finer-responses k t h p q from none none' says says' =
    let fair : InRange (tasks_of t) (handlers_of h) = refusal-in-range t h none in
    let least : leasts (tasks_of (times k t)) (handlers_of (times k h)) ≡ times k (leasts (tasks_of t) (handlers_of h)) =
    rw (tasks-times k t, handlers-times k h) (leasts-scale k from (tasks_of t) (handlers_of h) fair) in
    found-figures (times k t) (times k h) q none' says'
    ∙ (λ i. record { code = 0; least = least i })
    ∙ sym (ap (responses_times k) (found-figures t h p none says))
