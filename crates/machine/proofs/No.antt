-- No is late for every scheduler: what a schedule that puts handlers first brings on time to clock t passes at t. Under full arrivals the room that is wanted falls by at most one a tick, whoever runs.
--   Owes ts hs t xs ys    what t + k ticks of a fresh table ask for is at most t and what is, or can yet be, due in the k ticks from t
--   Holds ts hs t xs ys   what holds of every state that a schedule comes to on time
use mathlib.Core.List.{List, [], ◌∷◌}
use mathlib.Core.Path.{◌≡◌, refl}
use native.Mathlib.Nat.{add-zero, zero-add, sub-zero}
use native.Mathlib.Omega.{arith}
use Prim.Native.Nat.{ℕ, zero, suc, ◌+◌, ◌-◌, ◌*◌, ◌≤◌, ◌<◌}
use Rattle.demand.specs.Demands.{ceil, called, taken, handled, due, Passes, Fails}
use Rattle.demand.specs.Rows.{Row, Positive, Valid}
use Rattle.demand.proofs.Demands.{called-nil, called-cons, called-zero, due-nil, due-cons, due-zero, handled-taken}
use Rattle.demand.proofs.Divide.{jobs}
use Rattle.demand.proofs.Sums.{valid-positive}
use Rattle.demand.proofs.Taken.{taken_mono, taken-le, taken-drop, taken-wait}
use Rattle.machine.specs.Live.{Live, due_of, idle, arrive_all, OnTime}
use Rattle.machine.specs.Machine.{share, before_by, before}
use Rattle.machine.specs.Schedules.{beats, RanOne, ran-none, ran-here, ran-later, Gave, to-handlers, to-tasks, Timely, start, onward}
use Rattle.machine.specs.Inside.Legal.{table_of}
use Rattle.machine.proofs.Beats.{OnBeats, beats-arrived, Beating, beating-fresh, beating-full, beating-gave}
use Rattle.machine.proofs.FullArrivals.{full, arrived, Settled, settled-arrive, settled-on-time, ran_settled, idle-settled, settled_before, tasks-full, handlers-full}
use Rattle.machine.proofs.Ordered.{Ordered, idle-ordered, arrive-ordered, ran-ordered}
use Rattle.machine.proofs.Room.{future, callable, ran-future, future-le-due, callable-le-called}
use Rattle.machine.proofs.Sync.{gave-tasks}

-- ---- a tick goes by, where no row may arrive before its end

-- A count over a wait, times a cost: the same from t + 1, a tick shorter.
module _ (t k : ℕ) (x : Live) (ahead : 0 < x.row.cost → suc t ≤ x.next) (count : ℕ → ℕ) where
  pub wait-same : x.row.cost * count (suc k - (x.next - t)) ≡ x.row.cost * count (k - (x.next - suc t))
  wait-same = go x.row.cost refl
    where
      go : (c : ℕ) → x.row.cost ≡ c → c * count (suc k - (x.next - t)) ≡ c * count (k - (x.next - suc t))
      go zero e = omega arith
      go (suc c) e =
          let later : suc t ≤ x.next = ahead (omega arith) in
          let same : suc k - (x.next - t) ≡ k - (x.next - suc t) = omega arith in
          rw same

-- So what tasks can yet have due stays.
pub future-same : (t k : ℕ) (xs : List Live) → OnBeats (suc t) xs → future t (suc k) xs ≡ future (suc t) k xs
unfolding future
future-same t k [] b = refl
future-same t k (x ∷ xs) b =
    omega (arith, wait-same t k x b.0.from (λ n. jobs n x.row.deadline x.row.period), future-same t k xs b.1)

-- And what handlers can yet be called for.
pub callable-same : (t k : ℕ) (xs : List Live) → OnBeats (suc t) xs → callable t xs (suc k) ≡ callable (suc t) xs k
unfolding callable
callable-same t k [] b = refl
callable-same t k (x ∷ xs) b = omega (arith, wait-same t k x b.0.from (λ n. ceil n x.row.period), callable-same t k xs b.1)

-- ---- whoever runs, at most one unit goes

-- Of what handlers are owed or can be called for.
pub ran-callable : {xs ys : List Live} (t k : ℕ) → RanOne xs ys → callable t xs k ≤ suc (callable t ys k)
unfolding callable
ran-callable t k ran-none = omega arith
ran-callable t k (ran-here n e) = omega arith
ran-callable t k (ran-later r) = omega (arith, ran-callable t k r)

-- Of one row's share.
share-drop : (k o n : ℕ) → o ≡ suc n → share k o ≤ suc (share k n)
share-drop zero o n e = omega arith
share-drop (suc k) o n e = omega arith

-- Of what tasks have due before n.
pub ran-before : {xs ys : List Live} (n : ℕ) → RanOne xs ys → before n xs ≤ suc (before n ys)
unfolding before_by
ran-before n ran-none = omega arith
ran-before n (ran-here {x = x} m e) = omega (arith, share-drop (n - due_of x) x.owed m e)
ran-before n (ran-later r) = omega (arith, ran-before n r)

-- ---- what a fresh table asks for is never lost

abbrev pub Owes : List Row → List Row → ℕ → List Live → List Live → Type 0
Owes ts hs t xs ys = (k : ℕ) → handled hs (t + k) + due ts (t + k) ≤ t + (before (suc (t + k)) xs + future t k xs + taken (callable t ys) k)

-- A fresh table can yet have all of D due.
pub idle-future : (k : ℕ) (rs : List Row) → Valid rs → due rs k ≤ future 0 k (idle rs)
unfolding idle future
idle-future k [] valid = omega (arith, due-nil k)
idle-future k (r ∷ rs) valid = rw (sub-zero k) (omega (arith, due-cons r rs k valid.0, idle-future k rs valid.1))

-- And be called for all of A.
pub idle-callable : (k : ℕ) (rs : List Row) → called rs k ≤ callable 0 (idle rs) k
unfolding idle callable
idle-callable k [] = omega (arith, called-nil k)
idle-callable k (r ∷ rs) = rw (sub-zero k) (omega (arith, called-cons r rs k, idle-callable k rs))

-- So at clock 0 all that is asked for is still to come.
owes-fresh : (ts hs : List Row) → Valid ts → Owes ts hs 0 (idle ts) (idle hs)
owes-fresh ts hs valid k =
    rw (zero-add k)
    (omega (
      arith,
      idle-future k ts valid,
      handled-taken hs k,
      taken_mono (called hs) (callable 0 (idle hs)) (λ l. idle-callable (suc l) hs) k,
    ))

-- Full arrivals on time lose nothing.
owes-arrived : (ts hs : List Row) (t : ℕ) (xs ys : List Live) → Valid (table_of xs) → Positive (table_of ys) → Ordered xs → Settled t xs
    → Owes ts hs t xs ys → Owes ts hs t (arrived t xs) (arrived t ys)
owes-arrived ts hs t xs ys px py ordered settled owes k =
    omega (
      arith,
      owes k,
      tasks-full t k xs px ordered settled,
      taken_mono (callable t ys) (callable t (arrived t ys)) (λ l. handlers-full t (suc l) ys py) k,
    )

-- A tick takes at most one unit: of what handlers take, or of what tasks have due where no handler wants it.
owes-gave : (ts hs : List Row) (t : ℕ) {xs ys xs' ys' : List Live} → Gave xs ys xs' ys' → OnBeats (suc t) xs → OnBeats (suc t) ys
    → Owes ts hs t xs ys → Owes ts hs (suc t) xs' ys'
owes-gave ts hs t (to-handlers {xs = xs} {ys = ys} {ys' = ys'} r) bx by owes k =
    let e : suc t + k ≡ t + suc k = omega arith in
    rw e
    (omega (
      arith,
      owes (suc k),
      future-same t k xs bx,
      taken-drop (callable (suc t) ys') (callable t ys) (λ l. omega (arith, callable-same t (suc l) ys by, ran-callable (suc t) (suc l) r)) k,
    ))
owes-gave ts hs t (to-tasks {xs = xs} {ys = ys} {xs' = xs'} none r) bx by owes k =
    let e : suc t + k ≡ t + suc k = omega arith in
    let quiet : callable t ys 1 ≡ 0 = omega (arith, callable-same t 0 ys by, callable-le-called (suc t) 0 ys, called-zero (table_of ys)) in
    rw e
    (omega (
      arith,
      owes (suc k),
      future-same t k xs bx,
      ran-future (suc t) k r,
      ran-before (suc (t + suc k)) r,
      taken-wait (callable (suc t) ys) (callable t ys) quiet (λ l. omega (arith, callable-same t (suc l) ys by)) k,
    ))

-- ---- the theorem

pub record Holds (ts hs : List Row) (t : ℕ) (xs ys : List Live) : Type 0 where
  pub beating : Beating ts hs t xs ys
  pub ordered : Ordered xs
  pub settled : Settled t xs
  pub owes : Owes ts hs t xs ys

module _ (ts hs : List Row) (pt : Valid ts) (ph : Positive hs) where
  -- One tick of any schedule, on time at its end.
  onward-holds : {t : ℕ} {xs ys xs' ys' : List Live} → Holds ts hs t xs ys
      → Gave (arrive_all t (beats t ts) xs) (arrive_all t (beats t hs) ys) xs' ys' → OnTime (suc t) xs' → Holds ts hs (suc t) xs' ys'
  onward-holds {t} {xs} {ys} {xs'} {ys'} h g on =
      let b : Beating ts hs t xs ys = h.beating in
      let px : Valid (table_of xs) = rw b.tasks-are pt in
      let py : Positive (table_of ys) = rw b.handlers-are ph in
      let bx : OnBeats (suc t) (arrived t xs) = beats-arrived t xs (valid-positive (table_of xs) px) b.tasks-beat in
      let by : OnBeats (suc t) (arrived t ys) = beats-arrived t ys py b.handlers-beat in
      let full-tick : Gave (arrived t xs) (arrived t ys) xs' ys' = beating-full ts hs b g in
      record {
        beating = beating-gave ts hs b (valid-positive ts pt) ph g;
        ordered = ran-ordered (gave-tasks full-tick) (arrive-ordered t (full t xs) xs px h.ordered);
        settled = settled-on-time t xs' (ran_settled t (gave-tasks full-tick) (settled-arrive t (full t xs) xs px h.settled)) on;
        owes = owes-gave ts hs t full-tick bx by (owes-arrived ts hs t xs ys px py h.ordered h.settled h.owes);
      }

  -- So at every state that a schedule comes to on time.
  pub timely-holds : {t : ℕ} {xs ys : List Live} → Timely ts hs t xs ys → Holds ts hs t xs ys
  timely-holds start =
      record { beating = beating-fresh ts hs (valid-positive ts pt) ph; ordered = idle-ordered ts; settled = idle-settled 0 ts; owes = owes-fresh ts hs pt }
  timely-holds (onward run g on) = onward-holds (timely-holds run) g on

  -- The theorem: whatever schedule is on time up to clock t, the table passes at t.
  pub timely-passes : {t : ℕ} {xs ys : List Live} → Timely ts hs t xs ys → Passes ts hs t
  timely-passes {t} {xs} {ys} run =
      let h : Holds ts hs t xs ys = timely-holds run in
      let valid : Valid (table_of xs) = rw h.beating.tasks-are pt in
      let room : handled hs t + due ts t ≤ t + (before (suc t) xs + future t 0 xs + taken (callable t ys) 0) = simp add-zero at (h.owes 0) in
      omega (
        arith,
        settled_before t xs h.settled,
        future-le-due t 0 xs valid,
        due-zero (table_of xs) valid,
        taken-le (callable t ys) 0,
      )

  -- So where a length fails, no schedule that puts handlers first meets every deadline up to it.
  pub fails-untimely : {t : ℕ} {xs ys : List Live} → Fails ts hs t → ¬ Timely ts hs t xs ys
  fails-untimely fails run = omega (arith, fails, timely-passes run)
