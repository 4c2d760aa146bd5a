-- Yes is never late: where every length below N passes, no legal run is late at a clock below N. A fresh state is kept, a legal tick keeps it, and what is kept is on time.
--   Kept N ts hs s   what holds of every state s of a legal run on the table ts, hs
use mathlib.Core.List.{List, [], ◌∷◌}
use mathlib.Core.Path.{◌≡◌, refl, ◌∙◌}
use native.Mathlib.Nat.{zero-add, add-zero}
use native.Mathlib.Omega.{arith}
use Prim.Native.Nat.{ℕ, zero, suc, ◌+◌, ◌-◌, ◌≤◌, ◌<◌}
use Rattle.demand.specs.Demands.{called, taken, due, Passes}
use Rattle.demand.specs.Rows.{Row, Positive, Valid}
use Rattle.demand.proofs.Demands.{handled-taken, passes-zero}
use Rattle.demand.proofs.Taken.{taken_mono, taken-shift, taken-shift-suc}
use Rattle.machine.specs.Live.{Live, due_of, idle, arrive_all, owed_all, OnTime}
use Rattle.machine.specs.Machine.{State, Arrivals, fresh_state, share, before_by, before, serve, edf, given_by, tick_by, tick}
use Rattle.machine.specs.Inside.Legal.{table_of, LegalAll, LegalTick}
use Rattle.machine.proofs.Ordered.{Ordered, idle-ordered, arrive-ordered, ran-ordered}
use Rattle.machine.proofs.Room.{Safe, future, callable, share_in, tasks-arrive, handlers-arrive, future-less, callable-less, future-le-due, callable-le-called, serve-callable, edf-before, ran-future}
use Rattle.machine.proofs.Sync.{serve-by-ran, serve-ran, ran-table}

-- ---- the table stays, and the clock goes on

-- Arrivals change no row of the table.
pub arrive-table : (t : ℕ) (ws : List ℕ) (xs : List Live) → table_of (arrive_all t ws xs) ≡ table_of xs
unfolding arrive_all table_of
arrive-table t [] xs = refl
arrive-table t (w ∷ ws) [] = refl
arrive-table t (zero ∷ ws) (x ∷ xs) = rw (arrive-table t ws xs)
arrive-table t (suc w ∷ ws) (x ∷ xs) = rw (arrive-table t ws xs)

-- Idle rows are the rows of their table.
pub idle-table : (rs : List Row) → table_of (idle rs) ≡ rs
unfolding idle table_of
idle-table [] = refl
idle-table (r ∷ rs) = rw (idle-table rs)

-- A tick is one tick of the clock, whoever gets it.
module _ (choose : List Live → List Live) where
  given-clock : (o t : ℕ) (xs ys : List Live) → (given_by choose o t xs ys).clock ≡ suc t
  given-clock zero t xs ys = refl
  given-clock (suc o) t xs ys = refl

  -- So for the tick and its arrivals.
  pub tick-clock : (a : Arrivals) (s : State) → (tick_by choose a s).clock ≡ suc s.clock
  unfolding tick_by
  tick-clock a s =
      let ts = arrive_all s.clock a.to_tasks s.tasks in
      let hs = arrive_all s.clock a.to_handlers s.handlers in
      given-clock (owed_all hs) s.clock ts hs

-- ---- a fresh start

-- Idle rows have nothing due by any clock.
pub idle-before : (n : ℕ) (rs : List Row) → before n (idle rs) ≡ 0
unfolding idle before_by
idle-before n [] = refl
idle-before n (r ∷ rs) = go (n - 0) (idle-before n rs)
  where
    go : (k : ℕ) → before n (idle rs) ≡ 0 → share k 0 + before n (idle rs) ≡ 0
    go zero rest = omega arith
    go (suc k) rest = omega arith

-- Idle rows are owed nothing.
pub idle-owed : (rs : List Row) → owed_all (idle rs) ≡ 0
unfolding idle owed_all
idle-owed [] = refl
idle-owed (r ∷ rs) = omega (arith, idle-owed rs)

-- ---- nobody is late where nothing is due

-- Nothing due by t: no task is owed work at t.
pub on-time : (t : ℕ) (xs : List Live) → before (suc t) xs ≡ 0 → OnTime t xs
unfolding before_by
on-time t [] none = tt
on-time t (x ∷ xs) none = (λ e. omega (arith, share_in (suc t) (due_of x) x.owed (omega arith)), on-time t xs (omega arith))

-- The stretch of no ticks has room for nothing: nothing is due.
pub safe-on-time : (N : ℕ) (s : State) → s.clock < N → Safe N s.clock s.tasks s.handlers → OnTime s.clock s.tasks
safe-on-time N s short safe =
    let none : before (suc (s.clock + 0)) s.tasks ≡ 0 = omega (arith, safe 0 (omega arith)) in
    on-time s.clock s.tasks (rw add-zero at none)

-- ---- the invariant is kept

-- Legal arrivals raise nothing.
pub safe-arrive : (N t : ℕ) (ws vs : List ℕ) (ts hs : List Live) → Valid (table_of ts) → Positive (table_of hs) → Ordered ts → LegalAll t ws ts → LegalAll t vs hs
    → Safe N t ts hs → Safe N t (arrive_all t ws ts) (arrive_all t vs hs)
safe-arrive N t ws vs ts hs pt ph ordered lt lh safe k short =
    omega (
      arith,
      safe k short,
      tasks-arrive t k ws ts pt ordered lt,
      taken_mono (callable t (arrive_all t vs hs)) (callable t hs) (λ l. handlers-arrive t l vs hs ph lh) k,
    )

-- A tick to a handler: one unit less is taken of the ticks that are left.
pub safe-serve : (N t : ℕ) (ts hs : List Live) → 0 < owed_all hs → Safe N t ts hs → Safe N (suc t) ts (serve hs)
safe-serve N t ts hs some safe k short =
    let e : suc t + k ≡ t + suc k = omega arith in
    rw e
    (omega (
      arith,
      safe (suc k) (rw e at short),
      future-less t k ts,
      taken-shift-suc (callable (suc t) (serve hs)) (callable t hs) (λ l. omega (arith, callable-less t l (serve hs), serve-callable t (suc l) hs some)) k,
    ))

-- A tick by the earliest deadline: one unit less is due by then, or nothing is and the stretch is as a fresh one.
pub safe-edf : (N t : ℕ) (ts hs : List Live) → Valid (table_of ts) → ((l : ℕ) → l < N → Passes (table_of ts) (table_of hs) l) → owed_all hs ≡ 0
    → Safe N t ts hs → Safe N (suc t) (edf ts) hs
safe-edf N t ts hs valid passes none safe k short =
    let e : suc t + k ≡ t + suc k = omega arith in
    rw (e, ran-future (suc t) k (serve-by-ran due_of ts)) (go (before (suc (t + suc k)) ts) refl)
  where
    n : ℕ
    n = suc (t + suc k)

    go : (b : ℕ) → before n ts ≡ b → before n (edf ts) + future (suc t) k ts + taken (callable (suc t) hs) k ≤ k
    go zero e =
        omega (
          arith,
          edf-before n ts,
          future-le-due (suc t) k ts valid,
          taken_mono (callable (suc t) hs) (called (table_of hs)) (λ l. omega (arith, callable-le-called (suc t) (suc l) hs)) k,
          handled-taken (table_of hs) k,
          passes k (omega arith),
        )
    go (suc b) e =
        omega (
          arith,
          edf-before n ts,
          future-less t k ts,
          taken-shift (callable (suc t) hs) (callable t hs) (λ l. callable-less t (suc l) hs) k,
          safe (suc k) (omega arith),
        )

-- ---- runs

pub record Kept (N : ℕ) (ts hs : List Row) (s : State) : Type 0 where
  pub tasks-are : table_of s.tasks ≡ ts
  pub handlers-are : table_of s.handlers ≡ hs
  pub ordered : Ordered s.tasks
  pub safe : Safe N s.clock s.tasks s.handlers

module _ (N : ℕ) (ts hs : List Row) (pt : Valid ts) (ph : Positive hs) (passes : (l : ℕ) → 0 < l → l < N → Passes ts hs l) where
  passes-all : (l : ℕ) → l < N → Passes ts hs l
  passes-all zero h = passes-zero ts hs pt
  passes-all (suc l) h = passes (suc l) (omega arith) h

  -- A fresh run: the invariant is just that each length passes.
  pub fresh_kept : Kept N ts hs (fresh_state ts hs)
  fresh_kept =
      record {
        tasks-are = idle-table ts;
        handlers-are = idle-table hs;
        ordered = idle-ordered ts;
        safe = λ k short.
            let passed : Passes ts hs k = passes-all k (omega (arith, zero-add k)) in
            let tasks : future 0 k (idle ts) ≤ due ts k = rw (idle-table ts) at (future-le-due 0 k (idle ts) (rw (idle-table ts) pt)) in
            let handlers : (l : ℕ) → callable 0 (idle hs) (suc l) ≤ called hs (suc l) =
            λ l. omega (arith, rw (idle-table hs) at (callable-le-called 0 (suc l) (idle hs)), idle-owed hs) in
            omega (arith, idle-before (suc (0 + k)) ts, taken_mono (callable 0 (idle hs)) (called hs) handlers k, handled-taken hs k);
      }

  -- The tick goes to a handler, or by the earliest deadline.
  given-kept : (o t : ℕ) (xs ys : List Live) → table_of xs ≡ ts → table_of ys ≡ hs → owed_all ys ≡ o → Ordered xs → Safe N t xs ys → Kept N ts hs (given_by edf o t xs ys)
  given-kept zero t xs ys ex ey eo ordered safe =
      record {
        tasks-are = ran-table (serve-by-ran due_of xs) ∙ ex;
        handlers-are = ey;
        ordered = ran-ordered (serve-by-ran due_of xs) ordered;
        safe = safe-edf N t xs ys (rw ex pt) (rw (ex, ey) passes-all) eo safe;
      }
  given-kept (suc o) t xs ys ex ey eo ordered safe =
      record { tasks-are = ex; handlers-are = ran-table (serve-ran ys) ∙ ey; ordered = ordered; safe = safe-serve N t xs ys (omega arith) safe }

  -- A legal tick keeps it.
  pub tick-kept : (a : Arrivals) (s : State) → LegalTick a s → Kept N ts hs s → Kept N ts hs (tick a s)
  unfolding tick_by
  tick-kept a s legal kept =
      let valid : Valid (table_of s.tasks) = rw kept.tasks-are pt in
      given-kept
      _
      s.clock
      (arrive_all s.clock a.to_tasks s.tasks)
      (arrive_all s.clock a.to_handlers s.handlers)
      (arrive-table s.clock a.to_tasks s.tasks ∙ kept.tasks-are)
      (arrive-table s.clock a.to_handlers s.handlers ∙ kept.handlers-are)
      refl
      (arrive-ordered s.clock a.to_tasks s.tasks valid kept.ordered)
      (safe-arrive N s.clock a.to_tasks a.to_handlers s.tasks s.handlers valid (rw kept.handlers-are ph) kept.ordered legal.0 legal.1 kept.safe)
