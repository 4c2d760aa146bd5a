-- Laws of events and of queues. Insertion keeps what holds of each entry, the work to come and the order.
use mathlib.Core.List.{List, [], ◌∷◌}
use mathlib.Core.Logic.{◌⊎◌, inl, inr}
use mathlib.Core.Path.{◌≡◌, refl, ap}
use native.Mathlib.Decide.{dec_le}
use native.Mathlib.Nat.{div-zero, div-eq-sub-div, div-eq_of_lt, le-div_iff_mul-le, div-mul-le_self, mul-zero, mul-suc, mul-le-mul_left}
use native.Mathlib.Omega.{arith}
use borrow.Author.Tests.{le-ltb, lt-ltb}
use Prim.Native.Nat.{ℕ, zero, suc, ◌+◌, ◌-◌, ◌*◌, ◌/◌, ◌≤◌, ◌<◌}
use lib.ListN.{length}
use Rattle.walk.specs.Queue.{head, passed, events, to_come, insert, Entries, Ahead, Ordered, FairEntry, Queue}
use Rattle.walk.specs.declared.Entry.{Entry}

-- ---- how many events

pub events-none : (x n p : ℕ) → x < n → events x n p ≡ 0
events-none x n zero h = div-zero (x + 0 - n)
events-none x n (suc p) h = div-eq_of_lt (omega arith)

-- From an event on, one more than behind it.
pub events-passed : (x n p : ℕ) → 0 < p → n ≤ x → events x n p ≡ suc (events x (n + p) p)
events-passed x n p pos h =
    let one : (x + p - n) / p ≡ (x + p - n - p) / p + 1 = div-eq-sub-div pos (omega arith) in
    let e : x + p - n - p ≡ x + p - (n + p) = omega arith in
    omega (arith, one, ap (λ (z : ℕ). z / p) e)

pub events-mono : (n p : ℕ) {x y : ℕ} → 0 < p → x ≤ y → events x n p ≤ events y n p
events-mono n p {x} {y} pos h = (le-div_iff_mul-le pos).1 (omega (arith, div-mul-le_self (x + p - n) p))

-- ---- entries

pub entries-map : {P Q : Entry → Type 0} → ((e : Entry) → P e → Q e) → (q : List Entry) → Entries P q → Entries Q q
entries-map f [] p = tt
entries-map f (e ∷ q) p = (f e p.0, entries-map f q p.1)

-- Where the first event comes above n, all do.
pub head-ahead : (q : List Entry) (n : ℕ) → Queue q → n < (head q).next → Ahead n q
head-ahead [] n k h = tt
head-ahead (e ∷ q) n k h = (h, entries-map (λ f m. omega (arith, m)) q k.ordered.0)

pub ahead-head : (q : List Entry) (n : ℕ) → 1 ≤ length q → Ahead n q → n < (head q).next
ahead-head [] n some a = absurd (omega arith)
ahead-head (e ∷ q) n some a = a.0

pub ahead-nil : (q : List Entry) (n : ℕ) → length q ≡ 0 → Ahead n q
ahead-nil [] n h = tt
ahead-nil (e ∷ q) n h = absurd (omega arith)

-- ---- the work to come

pub come-nil : (x : ℕ) → to_come [] x ≡ 0
unfolding to_come
come-nil x = refl

pub come-cons : (e : Entry) (q : List Entry) (x : ℕ) → to_come (e ∷ q) x ≡ e.cost * events x e.next e.period + to_come q x
unfolding to_come
come-cons e q x = refl

-- None of events that come later,
pub come-none : (x : ℕ) (q : List Entry) → Ahead x q → to_come q x ≡ 0
come-none x [] a = come-nil x
come-none x (e ∷ q) a =
    let none : e.cost * events x e.next e.period ≡ e.cost * 0 = ap (λ (z : ℕ). e.cost * z) (events-none x e.next e.period a.0) in
    omega (arith, come-cons e q x, none, mul-zero e.cost, come-none x q a.1)

-- and so none before the first.
pub come-before : (q : List Entry) (x : ℕ) → Queue q → x < (head q).next → to_come q x ≡ 0
come-before q x k h = come-none x q (head-ahead q x k h)

pub come-mono : (q : List Entry) {x y : ℕ} → Entries FairEntry q → x ≤ y → to_come q x ≤ to_come q y
come-mono [] {x} {y} f h = omega (arith, come-nil x, come-nil y)
come-mono (e ∷ q) {x} {y} f h =
    omega (
      arith,
      come-cons e q x,
      come-cons e q y,
      come-mono q {x = x} {y = y} f.1 h,
      mul-le-mul_left e.cost (events-mono e.next e.period {x = x} {y = y} f.0.period h),
    )

-- An entry whose event has come brings its cost, and what comes behind it.
pub come-passed : (e : Entry) (q : List Entry) (x : ℕ) → FairEntry e → e.next ≤ x → to_come (e ∷ q) x ≡ e.cost + to_come (passed e ∷ q) x
come-passed e q x f h =
    let later : ℕ = events x (e.next + e.period) e.period in
    let grown : e.cost * events x e.next e.period ≡ e.cost * suc later =
    ap (λ (z : ℕ). e.cost * z) (events-passed x e.next e.period f.period h) in
    omega (arith, come-cons e q x, come-cons (passed e) q x, grown, mul-suc e.cost later)

-- ---- insertion

le-or-lt : (a b : ℕ) → (a ≤ b) ⊎ (b < a)
le-or-lt a b = go (dec_le a b)
  where
    go : Dec (a ≤ b) → (a ≤ b) ⊎ (b < a)
    go (yes h) = inl h
    go (no h) = inr (omega arith)

pub insert-nil : (e : Entry) → insert e [] ≡ e ∷ []
unfolding insert
insert-nil e = refl

-- An entry goes before one that comes no sooner, and behind one that does.
pub insert-before : (e f : Entry) (q : List Entry) → e.next ≤ f.next → insert e (f ∷ q) ≡ e ∷ f ∷ q
unfolding insert
insert-before e f q h = rw (le-ltb f.next e.next h)

pub insert-behind : (e f : Entry) (q : List Entry) → f.next < e.next → insert e (f ∷ q) ≡ f ∷ insert e q
unfolding insert
insert-behind e f q h = rw (lt-ltb f.next e.next h)

pub insert-come : (e : Entry) (q : List Entry) (x : ℕ) → to_come (insert e q) x ≡ to_come (e ∷ q) x
insert-come e [] x = rw (insert-nil e)
insert-come e (f ∷ q) x = go (le-or-lt e.next f.next) (insert-come e q x)
  where
    go : (e.next ≤ f.next) ⊎ (f.next < e.next) → to_come (insert e q) x ≡ to_come (e ∷ q) x → to_come (insert e (f ∷ q)) x ≡ to_come (e ∷ f ∷ q) x
    go (inl h) rest = rw (insert-before e f q h)
    go (inr h) rest =
        rw (insert-behind e f q h) (omega (arith, come-cons f (insert e q) x, come-cons e (f ∷ q) x, come-cons f q x, come-cons e q x, rest))

pub insert-length : (e : Entry) (q : List Entry) → length (insert e q) ≡ suc (length q)
insert-length e [] = rw (insert-nil e)
insert-length e (f ∷ q) = go (le-or-lt e.next f.next) (insert-length e q)
  where
    go : (e.next ≤ f.next) ⊎ (f.next < e.next) → length (insert e q) ≡ suc (length q) → length (insert e (f ∷ q)) ≡ suc (length (f ∷ q))
    go (inl h) rest = rw (insert-before e f q h)
    go (inr h) rest = rw (insert-behind e f q h) (ap suc rest)

pub insert-entries : (P : Entry → Type 0) (e : Entry) (q : List Entry) → P e → Entries P q → Entries P (insert e q)
insert-entries P e [] h p = rw (insert-nil e) (h, tt)
insert-entries P e (f ∷ q) h p = go (le-or-lt e.next f.next) (insert-entries P e q h p.1)
  where
    go : (e.next ≤ f.next) ⊎ (f.next < e.next) → Entries P (insert e q) → Entries P (insert e (f ∷ q))
    go (inl l) rest = rw (insert-before e f q l) (h, p)
    go (inr l) rest = rw (insert-behind e f q l) (p.0, rest)

insert-ordered : (e : Entry) (q : List Entry) → Ordered q → Ordered (insert e q)
insert-ordered e [] o = rw (insert-nil e) (tt, tt)
insert-ordered e (f ∷ q) o = go (le-or-lt e.next f.next) (insert-ordered e q o.1)
  where
    go : (e.next ≤ f.next) ⊎ (f.next < e.next) → Ordered (insert e q) → Ordered (insert e (f ∷ q))
    go (inl l) rest = rw (insert-before e f q l) ((l, entries-map (λ g h. omega (arith, h)) q o.0), o)
    go (inr l) rest = rw (insert-behind e f q l) (insert-entries (λ g. f.next ≤ g.next) e q (omega arith) o.0, rest)

pub insert-queue : (e : Entry) (q : List Entry) → FairEntry e → Queue q → Queue (insert e q)
insert-queue e q f k = record { fair = insert-entries FairEntry e q f k.fair; ordered = insert-ordered e q k.ordered }
