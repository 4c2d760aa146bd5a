-- Adding an entry to those from a place on: to one with the same events, or by insertion.
use mathlib.Core.Bool.{Bool, true, false, ◌&&◌, false≢true}
use mathlib.Core.List.{List, [], ◌∷◌, ◌++◌}
use mathlib.Core.Path.{◌≡◌, refl, ap, sym, ◌∙◌}
use native.Mathlib.Nat.{add-mul}
use native.Mathlib.Omega.{arith}
use borrow.Author.Tests.{eqb-true}
use lib.Dec.{eqb}
use Prim.Native.Nat.{ℕ, zero, suc, ◌+◌, ◌-◌, ◌*◌, ◌^◌, ◌≤◌, ◌<◌}
use lib.ListN.{length, get_or, set, take, drop, length-set, length-append, length-drop}
use lib.Seq.{drop_at, length-take-le, drop-set-add, get_or-drop}
use Rattle.std.specs.Prelude.{Some}
use Rattle.walk.specs.Queue.{no_entry, passed, joined, events, to_come, insert, Entries, Ordered, FairEntry, Twin, CanAdd, Added, At}
use Rattle.walk.specs.declared.Entry.{Entry}
use Rattle.walk.proofs.Queue.{entries-map, come-cons, come-passed, insert-come, insert-length, insert-entries, insert-queue}

-- ---- one entry in the place of another

entries_at : (P : Entry → Type 0) (q : List Entry) (i : ℕ) → i < length q → Entries P q → P (get_or q i no_entry)
entries_at P [] i h p = absurd (omega arith)
entries_at P (f ∷ q) zero h p = p.0
entries_at P (f ∷ q) (suc i) h p = entries_at P q i (omega arith) p.1

set-entries : (P : Entry → Type 0) (q : List Entry) (i : ℕ) (e : Entry) → P e → Entries P q → Entries P (set q i e)
set-entries P [] i e h p = tt
set-entries P (f ∷ q) zero e h p = (h, p.1)
set-entries P (f ∷ q) (suc i) e h p = (p.0, set-entries P q i e h p.1)

set-ordered : (q : List Entry) (i : ℕ) (e : Entry) → i < length q → (get_or q i no_entry).next ≡ e.next → Ordered q → Ordered (set q i e)
set-ordered [] i e h same o = tt
set-ordered (f ∷ q) zero e h same o = (entries-map (λ g m. omega (arith, m, same)) q o.0, o.1)
set-ordered (f ∷ q) (suc i) e h same o =
    let later = entries_at (λ g. f.next ≤ g.next) q i (omega arith) o.0 in
    (set-entries (λ g. f.next ≤ g.next) q i e (omega (arith, later, same)) o.0, set-ordered q i e (omega arith) same o.1)

-- Two entries with the same events, as one.
joined-come : (e f : Entry) (q : List Entry) (x : ℕ) → f.next ≡ e.next → f.period ≡ e.period → to_come (joined e f ∷ q) x ≡ to_come (e ∷ f ∷ q) x
joined-come e f q x en ep =
    let count : ℕ = events x f.next f.period in
    let same : e.cost * events x e.next e.period ≡ e.cost * count = rw (en, ep) in
    omega (arith, come-cons (joined e f) q x, come-cons e (f ∷ q) x, come-cons f q x, same, add-mul f.cost e.cost count)

set-come : (e : Entry) (q : List Entry) (i x : ℕ) → i < length q → (get_or q i no_entry).next ≡ e.next → (get_or q i no_entry).period ≡ e.period
    → to_come (set q i (joined e (get_or q i no_entry))) x ≡ to_come (e ∷ q) x
set-come e [] i x h en ep = absurd (omega arith)
set-come e (f ∷ q) zero x h en ep = joined-come e f q x en ep
set-come e (f ∷ q) (suc i) x h en ep =
    omega (
      arith,
      come-cons f (set q i (joined e (get_or q i no_entry))) x,
      come-cons e (f ∷ q) x,
      come-cons f q x,
      come-cons e q x,
      set-come e q i x (omega arith) en ep,
    )

-- What comes up to a tick is at least the cost of an entry whose event has come.
come-at : (q : List Entry) (i x : ℕ) → i < length q → Entries FairEntry q → (get_or q i no_entry).next ≤ x → (get_or q i no_entry).cost ≤ to_come q x
come-at [] i x h f l = absurd (omega arith)
come-at (f ∷ q) zero x h fair l = omega (arith, come-passed f q x fair.0 l)
come-at (f ∷ q) (suc i) x h fair l = omega (arith, come-cons f q x, come-at q i x (omega arith) fair.1 l)

-- ---- the entry that has the events of e

pub twin-found : (q : List Entry) (k : ℕ) (e : Entry) (i : ℕ) → k ≤ i → i < length q
    → (eqb (get_or q i no_entry).next e.next && eqb (get_or q i no_entry).period e.period) ≡ true → Twin q k e (Some i)
twin-found q k e i from h both =
    let (n, p) = both_hold (eqb (get_or q i no_entry).next e.next) (eqb (get_or q i no_entry).period e.period) both in
    record { behind = from; fits = h; next = eqb-true (get_or q i no_entry).next e.next n; period = eqb-true (get_or q i no_entry).period e.period p }
  where
    both_hold : (a b : Bool) → (a && b) ≡ true → (a ≡ true) × (b ≡ true)
    both_hold true b h = (refl, h)
    both_hold false b h = absurd (false≢true h)

-- ---- the two ways

module _ (e : Entry) (k : ℕ) (q : List Entry) (can : CanAdd e k q) where
  module _ (i : ℕ) (twin : At q k e i) where
    place : k + (i - k) ≡ i
    place = omega (arith, twin.behind)

    there : get_or (drop k q) (i - k) no_entry ≡ get_or q i no_entry
    there = get_or-drop k q (i - k) no_entry ∙ ap (λ (n : ℕ). get_or q n no_entry) place

    inside : i - k < length (drop k q)
    inside = omega (arith, length-drop k q, twin.behind, twin.fits)

    same_next : (get_or (drop k q) (i - k) no_entry).next ≡ e.next
    same_next = ap (λ (f : Entry). f.next) there ∙ twin.next

    same-period : (get_or (drop k q) (i - k) no_entry).period ≡ e.period
    same-period = ap (λ (f : Entry). f.period) there ∙ twin.period

    pub add-fits : (get_or q i no_entry).cost + e.cost < 2 ^ 64
    add-fits =
        let both : (get_or (drop k q) (i - k) no_entry).cost ≤ to_come (drop k q) e.next =
        come-at (drop k q) (i - k) e.next inside can.queue.fair (omega (arith, same_next)) in
        omega (
          arith,
          both,
          ap (λ (f : Entry). f.cost) there,
          come-passed e (drop k q) e.next can.fair (omega arith),
          come-cons (passed e) (drop k q) e.next,
          can.fits,
        )

    pub add-joined : Added e k q k (set q i (joined e (get_or q i no_entry)))
    add-joined =
        let new : Entry = joined e (get_or (drop k q) (i - k) no_entry) in
        let read : joined e (get_or q i no_entry) ≡ new = ap (joined e) (sym there) in
        let here : drop k (set q i (joined e (get_or q i no_entry))) ≡ set (drop k q) (i - k) new =
        ap (λ (n : ℕ). drop k (set q n (joined e (get_or q i no_entry)))) (sym place)
        ∙ drop-set-add k q (i - k) (joined e (get_or q i no_entry))
        ∙ ap (set (drop k q) (i - k)) read in
        let fair : FairEntry new = record { cost = omega (arith, can.fair.cost); period = omega (arith, same-period, can.fair.period); word = omega (arith, same-period, can.fair.word) } in
        record {
          near = omega arith;
          within = omega arith;
          some = omega (arith, twin.behind, twin.fits);
          long = length-set q i (joined e (get_or q i no_entry));
          queue = rw here (record {
            fair = set-entries FairEntry (drop k q) (i - k) new fair can.queue.fair;
            ordered = set-ordered (drop k q) (i - k) new inside refl can.queue.ordered;
          });
          same = λ x. rw here (set-come e (drop k q) (i - k) x inside same_next same-period);
          ahead = λ n h a. rw here (set-entries (λ f. n < f.next) (drop k q) (i - k) new (omega (arith, h, same_next)) a);
        }

  pub add-inserted : (t : List Entry) → t ≡ take (k - 1) q ++ insert e (drop (k - 1 + 1) q) → Added e k q (k - 1) t
  add-inserted t et =
      let place : k - 1 + 1 ≡ k = omega (arith, can.room) in
      let size : length (take (k - 1) q) ≡ k - 1 = length-take-le (k - 1) q (omega (arith, can.within)) in
      let whole : t ≡ take (k - 1) q ++ insert e (drop k q) = et ∙ ap (λ (n : ℕ). take (k - 1) q ++ insert e (drop n q)) place in
      let here : drop (k - 1) t ≡ insert e (drop k q) =
      ap (drop (k - 1)) whole ∙ drop_at (take (k - 1) q) (insert e (drop k q)) (k - 1) size in
      record {
        near = omega arith;
        within = omega arith;
        some = omega (arith, can.room, can.within);
        long = omega (
          arith,
          ap length whole,
          length-append (take (k - 1) q) (insert e (drop k q)),
          size,
          insert-length e (drop k q),
          length-drop k q,
          can.room,
          can.within,
        );
        queue = rw here (insert-queue e (drop k q) can.fair can.queue);
        same = λ x. rw here (insert-come e (drop k q) x);
        ahead = λ n h a. rw here (insert-entries (λ f. n < f.next) e (drop k q) h a);
      }
