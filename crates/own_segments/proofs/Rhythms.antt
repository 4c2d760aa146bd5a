-- The synchronous arrivals by place, and ticks without any.
use mathlib.Core.List.{List}
use mathlib.Core.Logic.{◌⊎◌, inl, inr, ⊎_elim}
use mathlib.Core.Path.{◌≡◌, sym, ap, ◌∙◌}
use native.Mathlib.Nat.{mod-add-mod, mod-eq_of_lt, eq-or-lt_of_le}
use native.Mathlib.Omega.{arith}
use borrow.Author.Tests.{ne_eqb}
use Prim.Native.Nat.{ℕ, ◌+◌, ◌-◌, ◌%◌, ◌≤◌, ◌<◌}
use lib.ListN.{length, get_or, take, length-append, length-take, get_or-append}
use lib.Seq.{ext_get_or, get_or-take, get_or-append-add}
use Rattle.demand.proofs.Divide.{le-or-lt}
use Rattle.demand.proofs.Inside.Places.{each_at}
use Rattle.demand.proofs.Refusals.{refusal-in-range}
use Rattle.demand.specs.Limits.{tasks_most}
use Rattle.demand.specs.Refusals.{table_refusal, FairRow}
use Rattle.demand.specs.Rows.{Row, tasks_of, handlers_of, row_at, no_row}
use Rattle.guarantees.proofs.Rhythm.{beats-append, beats-at, sync-legal}
use Rattle.guarantees.specs.Patterns.{rows_in}
use Rattle.guarantees.specs.Synchronous.{beat_of}
use Rattle.machine.specs.Schedules.{beat}
use Rattle.own_segments.specs.Inside.{Rests, QuietTo, Quiet}
use Rattle.scheduler.proofs.Reached.FreshBounds.{zeros-at, zeros-length}
use Rattle.scheduler.proofs.Steps.Scan.{length-filled, filled-below}
use Rattle.scheduler.proofs.Steps.Tables.{whole}
use Rattle.scheduler.specs.Runs.{row_places}
use Rattle.scheduler.specs.Scans.{filled}
use Rattle.scheduler.specs.Start.{zeros}

-- ---- rows by place

module _ (t h : List ℕ) where
  pub rows-length : length (rows_in t h) ≡ length (tasks_of t) + length (handlers_of h)
  rows-length = length-append (tasks_of t) (handlers_of h)

  pub row-front : (k : ℕ) → k < length (tasks_of t) → row_at (tasks_of t) k ≡ row_at (rows_in t h) k
  row-front k l = sym (get_or-append (tasks_of t) (handlers_of h) no_row k l)

  pub row_back : (k : ℕ) → length (tasks_of t) ≤ k → row_at (handlers_of h) (k - length (tasks_of t)) ≡ row_at (rows_in t h) k
  row_back k l =
      sym (get_or-append-add (tasks_of t) (handlers_of h) (k - length (tasks_of t)) no_row)
      ∙ ap (λ (j : ℕ). row_at (rows_in t h) j) (let e : length (tasks_of t) + (k - length (tasks_of t)) ≡ k = omega arith in e)

  module _ (e : table_refusal t h ≡ 0) where
    pub rows_few : length (rows_in t h) ≤ row_places
    rows_few = let range = refusal-in-range t h e in omega (arith, rows-length, range.tasks-most, range.handlers-most)

    pub rows-fair : (k : ℕ) → k < length (rows_in t h) → FairRow (row_at (rows_in t h) k)
    rows-fair k l = go (le-or-lt (length (tasks_of t)) k)
      where
        go : (length (tasks_of t) ≤ k) ⊎ (k < length (tasks_of t)) → FairRow (row_at (rows_in t h) k)
        go (inr m) = rw (← row-front k m) (each_at FairRow (tasks_of t) (refusal-in-range t h e).tasks k m)
        go (inl m) =
            rw (← row_back k m)
            (each_at FairRow (handlers_of h) (refusal-in-range t h e).handlers (k - length (tasks_of t)) (omega (arith, rows-length)))

    -- Each row has a place.
    pub task-placed : (k : ℕ) → k < length (tasks_of t) → (k < tasks_most) × (k < length (tasks_of t))
    task-placed k l = (omega (arith, (whole t h e).in-range.tasks-most), l)

    pub handler-placed : (k : ℕ) → k < length (handlers_of h) → (k < tasks_most) × (k < length (handlers_of h))
    handler-placed k l = (omega (arith, (whole t h e).in-range.handlers-most), l)

  -- ---- arrivals

  pub beat-at : (n k : ℕ) → k < length (rows_in t h) → get_or (beat_of t h n) k 0 ≡ beat n (row_at (rows_in t h) k)
  unfolding beat_of
  beat-at n k l = ap (λ (ws : List ℕ). get_or ws k 0) (sym (beats-append n (tasks_of t) (handlers_of h))) ∙ beats-at n (rows_in t h) k l

  pub beat-length : (n : ℕ) → length (beat_of t h n) ≡ length (rows_in t h)
  beat-length n = (sync-legal t h).count n

  -- Written down place by place.
  pub beats-taken : (n k : ℕ) (ws old : List ℕ) → length old ≡ row_places → length (rows_in t h) ≤ row_places → k ≤ length (rows_in t h)
      → length (rows_in t h) ≤ k
      → ws ≡ filled (λ j. beat n (row_at (rows_in t h) j)) k old → take (length (rows_in t h)) ws ≡ beat_of t h n
  beats-taken n k ws old long few le ge e =
      let all : ℕ = length (rows_in t h) in
      let f : ℕ → ℕ = λ j. beat n (row_at (rows_in t h) j) in
      let same : ws ≡ filled f all old = e ∙ ap (λ (x : ℕ). filled f x old) (let q : k ≡ all = omega arith in q) in
      let long-ws : length ws ≡ row_places = ap length same ∙ length-filled f all old ∙ long in
      let size : length (take all ws) ≡ all = omega (arith, length-take all ws) in
      ext_get_or 0 (take all ws) (beat_of t h n) (size ∙ sym (beat-length n))
      (λ i l.
      let m : i < all = omega arith in
      get_or-take all ws i 0 m ∙ ap (λ (xs : List ℕ). get_or xs i 0) same ∙ filled-below f all i old m (omega (arith, long)) ∙ sym
      (beat-at n i m))

  -- No arrival of any row.
  pub quiet-beats : (n : ℕ) → ((j : ℕ) → j < length (rows_in t h) → beat n (row_at (rows_in t h) j) ≡ 0)
      → beat_of t h n ≡ zeros (length (rows_in t h))
  quiet-beats n none =
      ext_get_or 0 (beat_of t h n) (zeros (length (rows_in t h))) (beat-length n ∙ sym (zeros-length (length (rows_in t h))))
      (λ i l.
      let m : i < length (rows_in t h) = omega (arith, beat-length n) in
      beat-at n i m ∙ none i m ∙ sym (zeros-at (length (rows_in t h)) i))

  -- ---- the ticks without any

  pub quiet_next : (n d d' k : ℕ) (r : Row) → QuietTo t h n d k → d' ≤ d → r ≡ row_at (rows_in t h) k → Rests r n d'
      → QuietTo t h n d' (k + 1)
  quiet_next n d d' k r q le e rests j l i m =
      ⊎_elim
      (λ same. ap (λ (x : ℕ). beat (n + i) (row_at (rows_in t h) x)) same ∙ ap (λ (x : Row). beat (n + i) x) (sym e) ∙ rests i m)
      (λ below. q j below i (omega arith))
      (eq-or-lt_of_le (let l' : j ≤ k = omega arith in l'))

  pub quiet-end : (n d k : ℕ) → length (rows_in t h) ≤ k → QuietTo t h n d k → Quiet t h n d
  quiet-end n d k ge q j l = q j (omega arith)

-- Between two multiples of its period a row does not arrive.
pub rests : (r : Row) (n d : ℕ) → 0 < n % r.period → n % r.period + d ≤ r.period → Rests r n d
rests r n d some within i l =
    let p : ℕ = r.period in
    let rest : (n + i) % p ≡ n % p + i = sym (mod-add-mod n p i) ∙ mod-eq_of_lt {n = n % p + i} {m = p} (omega arith) in
    rw (ne_eqb ((n + i) % p) 0 (λ z. omega arith))
