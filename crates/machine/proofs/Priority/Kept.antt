-- Fixed priorities, the invariant of one task: where it has a length within its deadline with room for handlers, for itself and for the tasks above it,
-- every legal tick by priority keeps room for it to end in time.
--   Roomy ts hs i R          R is such a length of task i, in the proofs' terms
--   pressing p i t xs ys k   == work that handlers and the tasks above p, i are owed, or can yet be called for, within k ticks from t
--   Inv ts hs i R t xs ys    the invariant of task i at clock t
use mathlib.Core.List.{List}
use mathlib.Core.Path.{◌≡◌, refl, ap, ◌∙◌}
use native.Mathlib.Nat.{mul-le-mul_left, zero-add}
use native.Mathlib.Omega.{arith}
use Prim.Native.Nat.{ℕ, zero, suc, ◌+◌, ◌-◌, ◌*◌, ◌≤◌, ◌<◌}
use lib.ListN.{length}
use Rattle.demand.specs.Demands.{ceil, called}
use Rattle.demand.specs.Rows.{Row, row_at, Positive, Sound, Valid}
use Rattle.demand.proofs.Divide.{ceil-arrive}
use Rattle.demand.proofs.Inside.Places.{each_at}
use Rattle.demand.proofs.Sums.{valid-positive}
use Rattle.machine.specs.Places.{at_place}
use Rattle.machine.specs.Live.{Live, due_of, idle, arrive, arrive_all, owed_all, period_of}
use Rattle.machine.specs.Machine.{State, Arrivals, serve, given_by, tick_by}
use Rattle.machine.specs.Inside.Legal.{table_of, Legal, LegalAll, LegalTick}
use Rattle.machine.proofs.Invariant.{arrive-table, idle-table, idle-owed}
use Rattle.machine.proofs.Ordered.{Ordered, idle-ordered, arrive-ordered, ran-ordered}
use Rattle.machine.proofs.Room.{callable, handlers-arrive, callable-less, callable-le-called, serve-callable}
use Rattle.machine.proofs.Sync.{serve-by-ran, serve-ran, ran-table}
use Rattle.machine.proofs.Priority.Above.{fixed, above_owed, above_future, above_called, fixed-above, ran-above-future, above-less, above-le-called, above-arrive}
use Rattle.machine.proofs.Priority.Place.{at_row, table-length, at-ordered, Came, came-at, Left, fixed-at, own, own-called, idle-above, idle-at}
use Rattle.machine.proofs.Priority.Slots.{Slot, slot-mono, slot-shift, slot-ease}

pub record Roomy (ts hs : List Row) (i R : ℕ) : Type 0 where
  pub some : 0 < R
  pub in-time : R ≤ (row_at ts i).deadline
  pub room : called hs R + above_called (row_at ts i).period (suc i) 0 ts R ≤ R

abbrev pub pressing : ℕ → ℕ → ℕ → List Live → List Live → ℕ → ℕ
pressing p i t xs ys k = callable t ys k + (above_owed p i 0 xs + above_future p i 0 t xs k)

-- The invariant of task i: its cost fits above it at any time, and its work by its deadline while it is owed some.
pub record Inv (ts hs : List Row) (i R t : ℕ) (xs ys : List Live) : Type 0 where
  pub tasks-are : table_of xs ≡ ts
  pub handlers-are : table_of ys ≡ hs
  pub ordered : Ordered xs
  pub free : 0 < (row_at ts i).cost → Slot R (row_at ts i).cost (pressing (row_at ts i).period i t xs ys)
  pub busy : 0 < (at_place i xs).owed → Slot (due_of (at_place i xs) - t) (at_place i xs).owed (pressing (row_at ts i).period i t xs ys)

module _ (ts hs : List Row) (vt : Valid ts) (ph : Positive hs) (i R : ℕ) (place : i < length ts) (meets : Roomy ts hs i R) where
  abbrev row : Row
  row = row_at ts i

  abbrev p : ℕ
  p = row.period

  abbrev c : ℕ
  c = row.cost

  -- The whole length is free where nothing above is owed work.
  slot-new : (t : ℕ) (xs ys : List Live) → table_of xs ≡ ts → table_of ys ≡ hs → owed_all ys ≡ 0 → above_owed p i 0 xs ≡ 0 → Slot R c (pressing p i t xs ys)
  slot-new t xs ys ex ey oy ox =
      let a : callable t ys R ≤ owed_all ys + called hs R = rw ey at (callable-le-called t R ys) in
      let b : above_future p i 0 t xs R ≤ above_called p i 0 ts R = rw ex at (above-le-called p i 0 t R xs) in
      let e : above_called p (suc i) 0 ts R ≡ above_called p i 0 ts R + c * ceil R p = own-called p i i 0 R (omega (arith, zero-add i)) ts place refl in
      let sound : Sound row = each_at Sound ts vt i place in
      let one : 1 ≤ ceil R p = go R meets.some (omega (arith, sound.some, sound.fits)) in
      record { ticks = R; within = omega arith; fits = omega (arith, meets.room, mul-le-mul_left c one) }
    where
      go : (r : ℕ) → 0 < r → 0 < p → 1 ≤ ceil r p
      go zero h q = absurd (omega arith)
      go (suc r) h q = omega (arith, ceil-arrive p r q)

  pub inv-fresh : Inv ts hs i R 0 (idle ts) (idle hs)
  inv-fresh =
      record {
        tasks-are = idle-table ts;
        handlers-are = idle-table hs;
        ordered = idle-ordered ts;
        free = λ h. slot-new 0 (idle ts) (idle hs) (idle-table ts) (idle-table hs) (idle-owed hs) (idle-above p i 0 ts);
        busy = λ h. absurd (omega (arith, idle-at i ts));
      }

  pub inv-arrive : (t : ℕ) (ws vs : List ℕ) (xs ys : List Live) → LegalAll t ws xs → LegalAll t vs ys → Inv ts hs i R t xs ys → Inv ts hs i R t (arrive_all t ws xs) (arrive_all t vs ys)
  inv-arrive t ws vs xs ys lx ly inv =
      record {
        tasks-are = arrive-table t ws xs ∙ inv.tasks-are;
        handlers-are = arrive-table t vs ys ∙ inv.handlers-are;
        ordered = arrive-ordered t ws xs (rw inv.tasks-are vt) inv.ordered;
        free = λ h. slot-mono less h (inv.free h);
        busy = go came.work came.legal came.is;
      }
    where
      xs' : List Live
      xs' = arrive_all t ws xs

      x : Live
      x = at_place i xs

      came : Came t x (at_place i xs')
      came = came-at t i ws xs lx

      less : (l : ℕ) → pressing p i t xs' (arrive_all t vs ys) (suc l) ≤ pressing p i t xs ys (suc l)
      less l =
          omega (
            arith,
            handlers-arrive t l vs ys (rw inv.handlers-are ph) ly,
            above-arrive p i 0 t l ws xs (rw inv.tasks-are (valid-positive ts vt)) lx,
          )

      is_row : x.row ≡ row
      is_row = at_row i xs ∙ ap (λ (rs : List Row). row_at rs i) inv.tasks-are

      none : x.next ≤ t → (o : ℕ) → x.owed ≡ o → x.owed ≡ 0
      none h zero e = e
      none h (suc o) e = let s : Slot (due_of x - t) x.owed (pressing p i t xs ys) = inv.busy (omega arith) in absurd (omega (arith, s.within, s.fits, at-ordered i xs inv.ordered))

      go : (w : ℕ) → Legal t w x → at_place i xs' ≡ arrive t w x → 0 < (at_place i xs').owed → Slot (due_of (at_place i xs') - t) (at_place i xs').owed (pressing p i t xs' (arrive_all t vs ys))
      go zero legal e h = rw e (slot-mono less (rw e at h) (inv.busy (rw e at h)))
      go (suc w) legal e h =
          let b : R ≤ x.row.deadline = rw is_row meets.in-time in
          let n : suc w ≤ c = rw is_row at legal.1 in
          let o : x.owed ≡ 0 = none legal.0 x.owed refl in
          rw e (slot-ease (due_of (arrive t (suc w) x) - t) (x.owed + suc w) (omega arith) (omega arith) (slot-mono less (omega arith) (inv.free (omega arith))))

  pub inv-serve : (t : ℕ) (xs ys : List Live) → 0 < owed_all ys → Inv ts hs i R t xs ys → Inv ts hs i R (suc t) xs (serve ys)
  inv-serve t xs ys some inv =
      record {
        tasks-are = inv.tasks-are;
        handlers-are = ran-table (serve-ran ys) ∙ inv.handlers-are;
        ordered = inv.ordered;
        free = λ h. slot-ease R c (omega arith) (omega arith) (slot-shift c (pressing p i (suc t) xs (serve ys)) (λ l. omega (arith, less l)) h (inv.free h));
        busy = λ h. slot-ease (due_of (at_place i xs) - suc t) (at_place i xs).owed (omega arith) (omega arith) (slot-shift (at_place i xs).owed (pressing p i (suc t) xs (serve ys)) (λ l. omega (arith, less l)) h (inv.busy h));
      }
    where
      less : (l : ℕ) → suc (pressing p i (suc t) xs (serve ys) l) ≤ pressing p i t xs ys (suc l)
      less l = omega (arith, callable-less t l (serve ys), serve-callable t (suc l) ys some, above-less p i 0 t l xs)

  pub inv-fixed : (t : ℕ) (xs ys : List Live) → owed_all ys ≡ 0 → Inv ts hs i R t xs ys → Inv ts hs i R (suc t) (fixed xs) ys
  inv-fixed t xs ys nothing inv =
      record {
        tasks-are = ran-table (serve-by-ran period_of xs) ∙ inv.tasks-are;
        handlers-are = inv.handlers-are;
        ordered = ran-ordered (serve-by-ran period_of xs) inv.ordered;
        free = λ h. go h (above_owed p i 0 xs) refl;
        busy = λ h.
            let o : 0 < (at_place i xs).owed = omega (arith, l.less) in
            slot-ease (due_of (at_place i (fixed xs)) - suc t) (at_place i (fixed xs)).owed same (omega arith)
            (slot-shift (at_place i (fixed xs)).owed (pressing p i (suc t) (fixed xs) ys) (λ m. omega (arith, less m, own-was, own_is, fixed-above p (suc i) 0 xs)) o (inv.busy o));
      }
    where
      l : Left (at_place i xs) (at_place i (fixed xs))
      l = fixed-at i xs

      is_row : (at_place i xs).row ≡ row
      is_row = at_row i xs ∙ ap (λ (rs : List Row). row_at rs i) inv.tasks-are

      within : i < length xs
      within = omega (arith, ap length inv.tasks-are, table-length xs, place)

      within' : i < length (fixed xs)
      within' = omega (arith, ap length (ran-table (serve-by-ran period_of xs) ∙ inv.tasks-are), table-length (fixed xs), place)

      same : due_of (at_place i xs) - t - 1 ≤ due_of (at_place i (fixed xs)) - suc t
      same = rw l.due-is (omega arith)

      own-was : above_owed p (suc i) 0 xs ≡ above_owed p i 0 xs + (at_place i xs).owed
      own-was = own p i i 0 (omega (arith, zero-add i)) xs within (ap (λ (r : Row). r.period) is_row)

      own_is : above_owed p (suc i) 0 (fixed xs) ≡ above_owed p i 0 (fixed xs) + (at_place i (fixed xs)).owed
      own_is = own p i i 0 (omega (arith, zero-add i)) (fixed xs) within' (ap (λ (r : Row). r.period) (l.row_is ∙ is_row))

      less : (m : ℕ) → callable (suc t) ys m + above_future p i 0 (suc t) (fixed xs) m ≤ callable t ys (suc m) + above_future p i 0 t xs (suc m)
      less m = omega (arith, callable-less t m ys, above-less p i 0 t m xs, ran-above-future p i 0 (suc t) m (serve-by-ran period_of xs))

      go : 0 < c → (b : ℕ) → above_owed p i 0 xs ≡ b → Slot R c (pressing p i (suc t) (fixed xs) ys)
      go h zero e =
          slot-new (suc t) (fixed xs) ys (ran-table (serve-by-ran period_of xs) ∙ inv.tasks-are) inv.handlers-are nothing (omega (arith, fixed-above p i 0 xs))
      go h (suc b) e =
          slot-ease R c (omega arith) (omega arith)
          (slot-shift c (pressing p i (suc t) (fixed xs) ys) (λ m. omega (arith, less m, fixed-above p i 0 xs)) h (inv.free h))

  given-inv : (o t : ℕ) (xs ys : List Live) → owed_all ys ≡ o → Inv ts hs i R t xs ys → Inv ts hs i R (suc t) (given_by fixed o t xs ys).tasks (given_by fixed o t xs ys).handlers
  given-inv zero t xs ys e inv = inv-fixed t xs ys e inv
  given-inv (suc o) t xs ys e inv = inv-serve t xs ys (omega arith) inv

  pub tick-inv : (a : Arrivals) (s : State) → LegalTick a s → Inv ts hs i R s.clock s.tasks s.handlers
      → Inv ts hs i R (suc s.clock) (tick_by fixed a s).tasks (tick_by fixed a s).handlers
  unfolding tick_by
  tick-inv a s legal inv =
      given-inv _ s.clock (arrive_all s.clock a.to_tasks s.tasks) (arrive_all s.clock a.to_handlers s.handlers) refl
      (inv-arrive s.clock a.to_tasks a.to_handlers s.tasks s.handlers legal.0 legal.1 inv)
