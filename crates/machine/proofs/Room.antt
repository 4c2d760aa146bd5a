-- The parts of the invariant: work that is, or can yet be, due or called for; and what arrivals, ticks and choices do to it.
--   yet_due t k x      == what task x can yet be called for and have due within k ticks from t; future t k ts of all tasks
--   due_in t k x       == what it has, or can yet have, due by then
--   calls t k x       == what handler x is owed, or can yet be called for, within k ticks from t; callable t hs k of all handlers
--   Safe N t ts hs    from clock t each stretch that ends before N has room for the work that is, or can yet be, due in it
use mathlib.Core.List.{List, [], ◌∷◌}
use mathlib.Core.Logic.{◌⊎◌, inl, inr}
use mathlib.Core.Path.{◌≡◌, refl}
use native.Mathlib.Nat.{mul-zero, mul-suc, mul-le-mul_left}
use native.Mathlib.Omega.{arith}
use Prim.Native.Nat.{ℕ, zero, suc, ◌+◌, ◌-◌, ◌*◌, ◌≤◌, ◌<◌}
use Rattle.demand.specs.Demands.{ceil, called, taken, due}
use Rattle.demand.specs.Rows.{Positive, Sound, Valid}
use Rattle.demand.proofs.Demands.{called-cons, due-cons}
use Rattle.demand.proofs.Divide.{jobs, le-or-lt, jobs-mono, jobs-none, jobs-arrive, ceil-mono, ceil-arrive}
use Rattle.machine.specs.Live.{Live, due_of, arrive, arrive_all, owed_all}
use Rattle.machine.specs.Machine.{share, before_by, before, runs_or, serve, chosen, serve_by, edf}
use Rattle.machine.specs.Schedules.{RanOne, ran-none, ran-here, ran-later}
use Rattle.machine.specs.Inside.Legal.{table_of, Legal, LegalAll}
use Rattle.machine.proofs.Ordered.{Ordered}

abbrev pub yet_due : ℕ → ℕ → Live → ℕ
yet_due t k x = x.row.cost * jobs (k - (x.next - t)) x.row.deadline x.row.period

unfoldable pub future : ℕ → ℕ → List Live → ℕ
future t k [] = 0
future t k (x ∷ xs) = yet_due t k x + future t k xs

abbrev pub due_in : ℕ → ℕ → Live → ℕ
due_in t k x = share (suc (t + k) - due_of x) x.owed + yet_due t k x

abbrev pub calls : ℕ → ℕ → Live → ℕ
calls t k x = x.owed + x.row.cost * ceil (k - (x.next - t)) x.row.period

unfoldable pub callable : ℕ → List Live → ℕ → ℕ
callable t [] k = 0
callable t (x ∷ xs) k = calls t k x + callable t xs k

abbrev pub Safe : ℕ → ℕ → List Live → List Live → Type 0
Safe N t ts hs = (k : ℕ) → t + k < N → before (suc (t + k)) ts + future t k ts + taken (callable t hs) k ≤ k

-- ---- one row's share

-- A deadline before n counts.
pub share_in : (n m o : ℕ) → m < n → share (n - m) o ≡ o
share_in n m o h = go (n - m) refl
  where
    go : (k : ℕ) → n - m ≡ k → share k o ≡ o
    go zero e = absurd (omega arith)
    go (suc k) e = refl

-- A deadline from n on does not.
pub share-out : (n m o : ℕ) → n ≤ m → share (n - m) o ≡ 0
share-out n m o h = go (n - m) refl
  where
    go : (k : ℕ) → n - m ≡ k → share k o ≡ 0
    go zero e = refl
    go (suc k) e = absurd (omega arith)

-- The later n, the more counts.
share-mono : (n n' m o : ℕ) → n ≤ n' → share (n - m) o ≤ share (n' - m) o
share-mono n n' m o h = go (le-or-lt n m)
  where
    go : (n ≤ m) ⊎ (m < n) → share (n - m) o ≤ share (n' - m) o
    go (inl l) = omega (arith, share-out n m o l)
    go (inr l) = omega (arith, share_in n m o l, share_in n' m o (omega arith))

-- So for all rows.
pub before-mono : (xs : List Live) {n n' : ℕ} → n ≤ n' → before n xs ≤ before n' xs
unfolding before_by
before-mono [] h = omega arith
before-mono (x ∷ xs) {n} {n'} h = omega (arith, share-mono n n' (due_of x) x.owed h, before-mono xs h)

-- ---- arrivals

-- A task's arrival moves work from what can be due to what is due.
task-arrives : (t k w : ℕ) (x : Live) → Sound x.row → x.due ≤ x.next → Legal t w x → due_in t k (arrive t w x) ≤ due_in t k x
task-arrives t k zero x sound ordered legal = omega arith
task-arrives t k (suc w) x sound ordered legal = go (le-or-lt d k)
  where
    p : ℕ
    p = x.row.period

    d : ℕ
    d = x.row.deadline

    c : ℕ
    c = x.row.cost

    was : share (suc (t + k) - due_of x) x.owed ≡ x.owed
    was = share_in (suc (t + k)) (due_of x) x.owed (omega (arith, ordered, legal.0))

    now : k - (x.next - t) ≡ k
    now = omega (arith, legal.0)

    then : k - (t + p - t) ≡ k - p
    then = omega arith

    go : (d ≤ k) ⊎ (k < d) → due_in t k (arrive t (suc w) x) ≤ due_in t k x
    go (inl h) =
        rw (was, now, then, share_in (suc (t + k)) (t + d) (x.owed + suc w) (omega (arith, sound)), ← jobs-arrive k d p sound.some sound.fits h)
        (omega (arith, legal.1, mul-suc c (jobs (k - p) d p)))
    go (inr h) =
        rw (was, now, then, share-out (suc (t + k)) (t + d) (x.owed + suc w) (omega (arith, sound)), jobs-none (k - p) d p (omega arith) sound.fits, mul-zero c) (omega arith)

-- So for all tasks: legal arrivals raise nothing.
pub tasks-arrive : (t k : ℕ) (ws : List ℕ) (ts : List Live) → Valid (table_of ts) → Ordered ts → LegalAll t ws ts
    → before (suc (t + k)) (arrive_all t ws ts) + future t k (arrive_all t ws ts) ≤ before (suc (t + k)) ts + future t k ts
unfolding arrive_all before_by future table_of
tasks-arrive t k [] ts pos ordered legal = omega arith
tasks-arrive t k (w ∷ ws) [] pos ordered legal = omega arith
tasks-arrive t k (w ∷ ws) (x ∷ xs) pos ordered legal =
    omega (arith, task-arrives t k w x pos.0 ordered.0 legal.0, tasks-arrive t k ws xs pos.1 ordered.1 legal.1)

-- A handler's arrival moves work from what can be called for to what is owed.
pub handler-arrives : (t l w : ℕ) (x : Live) → 0 < x.row.period → Legal t w x → calls t (suc l) (arrive t w x) ≤ calls t (suc l) x
handler-arrives t l zero x pos legal = omega arith
handler-arrives t l (suc w) x pos legal =
    let now : suc l - (x.next - t) ≡ suc l = omega (arith, legal.0) in
    let then : suc l - (t + x.row.period - t) ≡ suc l - x.row.period = omega arith in
    rw (now, then)
    (omega (
      arith,
      legal.1,
      mul-suc x.row.cost (ceil (suc l - x.row.period) x.row.period),
      mul-le-mul_left x.row.cost (ceil-arrive x.row.period l pos),
    ))

-- So for all handlers.
pub handlers-arrive : (t l : ℕ) (ws : List ℕ) (hs : List Live) → Positive (table_of hs) → LegalAll t ws hs
    → callable t (arrive_all t ws hs) (suc l) ≤ callable t hs (suc l)
unfolding arrive_all callable table_of
handlers-arrive t l [] hs pos legal = omega arith
handlers-arrive t l (w ∷ ws) [] pos legal = omega arith
handlers-arrive t l (w ∷ ws) (x ∷ xs) pos legal =
    omega (arith, handler-arrives t l w x pos.0 legal.0, handlers-arrive t l ws xs pos.1 legal.1)

-- ---- a tick goes by

-- A tick goes by: what is left of the stretch behind a row's next arrival is no longer than before.
pub wait-less : (t k n : ℕ) → k - (n - suc t) ≤ suc k - (n - t)
wait-less t k n = omega arith

-- So no more can be due in it.
pub future-less : (t k : ℕ) (ts : List Live) → future (suc t) k ts ≤ future t (suc k) ts
unfolding future
future-less t k [] = omega arith
future-less t k (x ∷ xs) =
    omega (arith, mul-le-mul_left x.row.cost (jobs-mono x.row.deadline x.row.period (wait-less t k x.next)), future-less t k xs)

-- And no more can be called for.
pub callable-less : (t k : ℕ) (hs : List Live) → callable (suc t) hs k ≤ callable t hs (suc k)
unfolding callable
callable-less t k [] = omega arith
callable-less t k (x ∷ xs) =
    omega (arith, mul-le-mul_left x.row.cost (ceil-mono x.row.period (wait-less t k x.next)), callable-less t k xs)

-- Tasks can have no more due than a fresh table has.
pub future-le-due : (t k : ℕ) (ts : List Live) → Valid (table_of ts) → future t k ts ≤ due (table_of ts) k
unfolding future table_of
future-le-due t k [] valid = omega arith
future-le-due t k (x ∷ xs) valid =
    let l : k - (x.next - t) ≤ k = omega arith in
    omega (arith, mul-le-mul_left x.row.cost (jobs-mono x.row.deadline x.row.period l), due-cons x.row (table_of xs) k valid.0, future-le-due t k xs valid.1)

-- And so of handlers, beside what they are owed.
pub callable-le-called : (t k : ℕ) (hs : List Live) → callable t hs k ≤ owed_all hs + called (table_of hs) k
unfolding callable table_of owed_all
callable-le-called t k [] = omega arith
callable-le-called t k (x ∷ xs) =
    let l : k - (x.next - t) ≤ k = omega arith in
    omega (arith, mul-le-mul_left x.row.cost (ceil-mono x.row.period l), called-cons x.row (table_of xs) k, callable-le-called t k xs)

-- ---- who runs

-- A tick to a handler: one unit less.
pub serve-callable : (t k : ℕ) (hs : List Live) → 0 < owed_all hs → suc (callable t (serve hs) k) ≤ callable t hs k
unfolding callable serve owed_all
serve-callable t k [] some = absurd (omega arith)
serve-callable t k (x ∷ xs) some = go x.owed refl (λ h. serve-callable t k xs h)
  where
    c : ℕ
    c = x.row.cost * ceil (k - (x.next - t)) x.row.period

    go : (o : ℕ) → x.owed ≡ o → (0 < owed_all xs → suc (callable t (serve xs) k) ≤ callable t xs k)
        → suc (callable t (runs_or o x xs (serve xs)) k) ≤ x.owed + c + callable t xs k
    go zero e ih = omega (arith, ih (omega arith))
    go (suc o) e ih = omega arith

-- A tick by the earliest deadline: one unit less due by every n by which any is due.
pub edf-before : (n : ℕ) (ts : List Live) → before n (edf ts) ≤ before n ts - 1
unfolding before_by serve_by
edf-before n [] = omega arith
edf-before n (x ∷ xs) = go x.owed (before (due_of x) xs) refl refl (le-or-lt n (due_of x)) (edf-before n xs)
  where
    s : ℕ
    s = share (n - due_of x) x.owed

    go : (o b : ℕ) → x.owed ≡ o → before (due_of x) xs ≡ b → (n ≤ due_of x) ⊎ (due_of x < n) → before n (edf xs) ≤ before n xs - 1
        → before n (chosen o b x xs (edf xs)) ≤ s + before n xs - 1
    go zero b e f (inl l) ih = omega (arith, share-out n (due_of x) x.owed l)
    go zero b e f (inr l) ih = omega (arith, share_in n (due_of x) x.owed l)
    go (suc o) zero e f (inl l) ih =
        omega (arith, share-out n (due_of x) x.owed l, share-out n (due_of x) o l, before-mono xs l)
    go (suc o) zero e f (inr l) ih = omega (arith, share_in n (due_of x) x.owed l, share_in n (due_of x) o l)
    go (suc o) (suc b) e f (inl l) ih = omega (arith, share-out n (due_of x) x.owed l)
    go (suc o) (suc b) e f (inr l) ih =
        omega (arith, share_in n (due_of x) x.owed l, before-mono xs {n = due_of x} {n' = n} (omega arith))

-- Whoever runs: what can yet be called for stays.
pub ran-future : {xs ys : List Live} (t k : ℕ) → RanOne xs ys → future t k ys ≡ future t k xs
unfolding future
ran-future t k ran-none = refl
ran-future t k (ran-here n e) = refl
ran-future t k (ran-later r) = rw (ran-future t k r)
