-- Events carried in order. An entry's events come at its next, a period after that, and so on, each with the entry's cost. D, A and every
-- other work that comes a period apart is the work of such events (01, "The two demands").
--   no_entry            == what a free place holds
--   events x n p        == how many of n, n + p, n + 2p, .. are at most x
--   to_come q x          == the work of the events of q up to tick x
--   passed e            == the entry e behind its next event
--   joined e f          == one entry for e and f, which have the same events
--   insert e q          == the queue q with the entry e in its place by next event
--   Entries P q         P holds of every entry of q
--   Ahead n q           every event of q comes above n
--   Ordered q           each entry's next event is no later than those behind it
--   Queue q             fair entries in order
--   CanTakeTo n q sum   the sum has room for the work up to tick n
--   CanTake q sum       there is an event to take, and the sum has room for its tick's work
--   Taken n q sum r s   the queue q with sum carried has become r with s: the same work at every tick from n on, all of r's above n
--   CanAdd e k q        e may be added to the entries from place k on of q
--   Added e k q j r     the entries from place k on of q, and e, have become those from place j on of r
use Rattle.std.specs.Prelude.{cond, List, [], ◌∷◌, ◌≡◌, ℕ, ◌+◌, ◌-◌, ◌*◌, ◌/◌, ◌^◌, ◌≤◌, ◌<◌, ltb, length, get_or, drop, Option, None, Some, ⊤}
use Rattle.walk.specs.declared.Entry.{Entry}

-- what a free place holds
abbrev pub no_entry : Entry
no_entry = record { next = 0; cost = 0; period = 0 }

-- the first entry
abbrev pub head : List Entry → Entry
head q = get_or q 0 no_entry

abbrev pub passed : Entry → Entry
passed e = record { next = e.next + e.period; cost = e.cost; period = e.period }

abbrev pub joined : Entry → Entry → Entry
joined e f = record { next = f.next; cost = f.cost + e.cost; period = f.period }

abbrev pub events : ℕ → ℕ → ℕ → ℕ
events x n p = (x + p - n) / p

unfoldable pub to_come : List Entry → ℕ → ℕ
to_come [] x = 0
to_come (e ∷ q) x = e.cost * events x e.next e.period + to_come q x

unfoldable pub insert : Entry → List Entry → List Entry
insert e [] = e ∷ []
insert e (f ∷ q) = cond (ltb f.next e.next) (f ∷ insert e q) (e ∷ f ∷ q)

abbrev pub Entries : (Entry → Type 0) → List Entry → Type 0
Entries P [] = Unit
Entries P (e ∷ q) = P e × Entries P q

abbrev pub Ahead : ℕ → List Entry → Type 0
Ahead n q = Entries (λ e. n < e.next) q

abbrev pub Ordered : List Entry → Type 0
Ordered [] = Unit
Ordered (e ∷ q) = Entries (λ f. e.next ≤ f.next) q × Ordered q

-- An event brings work, and the one behind it comes later, within a word.
pub record FairEntry (e : Entry) : Type 0 where
  pub cost : 1 ≤ e.cost
  pub period : 1 ≤ e.period
  pub word : e.period < 2 ^ 63

pub record Queue (q : List Entry) : Type 0 where
  pub fair : Entries FairEntry q
  pub ordered : Ordered q

-- ---- taking

pub record CanTakeTo (n : ℕ) (q : List Entry) (sum : ℕ) : Type 0 where
  pub queue : Queue q
  pub early : n < 2 ^ 63
  pub fits : sum + to_come q n < 2 ^ 64

pub record CanTake (q : List Entry) (sum : ℕ) : Type 0 where
  pub queue : Queue q
  pub some : 1 ≤ length q
  pub early : (head q).next < 2 ^ 63
  pub fits : sum + to_come q (head q).next < 2 ^ 64

pub record Taken (n : ℕ) (q : List Entry) (sum : ℕ) (r : List Entry) (s : ℕ) : Type 0 where
  pub same : (x : ℕ) → n ≤ x → sum + to_come q x ≡ s + to_come r x
  pub queue : Queue r
  pub long : length r ≡ length q
  pub ahead : Ahead n r

-- ---- adding

-- A place from k on whose entry has the events of e, where one is found.
pub record At (q : List Entry) (k : ℕ) (e : Entry) (i : ℕ) : Type 0 where
  pub behind : k ≤ i
  pub fits : i < length q
  pub next : (get_or q i no_entry).next ≡ e.next
  pub period : (get_or q i no_entry).period ≡ e.period

abbrev pub Twin : List Entry → ℕ → Entry → Option ℕ → Type 0
Twin q k e (Some i) = At q k e i
Twin q k e None = ⊤

-- A place is free, and the work up to the tick of e fits a word.
pub record CanAdd (e : Entry) (k : ℕ) (q : List Entry) : Type 0 where
  pub room : 1 ≤ k
  pub within : k ≤ length q
  pub queue : Queue (drop k q)
  pub fair : FairEntry e
  pub fits : to_come (e ∷ drop k q) e.next < 2 ^ 64

pub record Added (e : Entry) (k : ℕ) (q : List Entry) (j : ℕ) (r : List Entry) : Type 0 where
  pub near : k ≤ j + 1
  pub within : j ≤ k
  pub some : j < length q
  pub long : length r ≡ length q
  pub queue : Queue (drop j r)
  pub same : (x : ℕ) → to_come (drop j r) x ≡ to_come (e ∷ drop k q) x
  pub ahead : (n : ℕ) → n < e.next → Ahead n (drop k q) → Ahead n (drop j r)
