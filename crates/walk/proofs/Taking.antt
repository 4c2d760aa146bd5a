-- Taking events one by one: the sum carried and the work to come stay the whole, from the tick of the first on.
use mathlib.Core.List.{List, [], ◌∷◌, ◌++◌}
use mathlib.Core.Path.{◌≡◌, refl, ◌∙◌}
use native.Mathlib.Omega.{arith}
use Prim.Native.Nat.{ℕ, ◌+◌, ◌≤◌, ◌<◌}
use lib.ListN.{length, take, drop}
use Rattle.walk.specs.Queue.{head, passed, to_come, insert, Queue, FairEntry, Taken}
use Rattle.walk.specs.declared.Entry.{Entry}
use Rattle.walk.proofs.Queue.{head-ahead, come-passed, insert-come, insert-length, insert-queue}

-- The queue q with sum carried has become r with s, and events at n may be left.
pub record Taking (n : ℕ) (q : List Entry) (sum : ℕ) (r : List Entry) (s : ℕ) : Type 0 where
  pub queue : Queue r
  pub long : length r ≡ length q
  pub same : (x : ℕ) → n ≤ x → sum + to_come q x ≡ s + to_come r x

pub taking-start : (n : ℕ) (q : List Entry) (sum : ℕ) → Queue q → Taking n q sum q sum
taking-start n q sum k = record { queue = k; long = refl; same = λ x h. refl }

-- The queue behind its first event.
abbrev pub moved : List Entry → List Entry
moved r = take 0 r ++ insert (passed (head r)) (drop (0 + 1) r)

pub moved-come : (r : List Entry) (x : ℕ) → Queue r → 1 ≤ length r → (head r).next ≤ x → to_come r x ≡ (head r).cost + to_come (moved r) x
moved-come [] x k some h = absurd (omega arith)
moved-come (e ∷ q) x k some h = omega (arith, come-passed e q x k.fair.0 h, insert-come (passed e) q x)

moved-queue : (r : List Entry) → Queue r → 1 ≤ length r → Queue (moved r)
moved-queue [] k some = absurd (omega arith)
moved-queue (e ∷ q) k some =
    insert-queue (passed e) q (record { cost = k.fair.0.cost; period = k.fair.0.period; word = k.fair.0.word })
    (record { fair = k.fair.1; ordered = k.ordered.1 })

moved_length : (r : List Entry) → 1 ≤ length r → length (moved r) ≡ length r
moved_length [] some = absurd (omega arith)
moved_length (e ∷ q) some = insert-length (passed e) q

pub head-fair : (r : List Entry) → Queue r → 1 ≤ length r → FairEntry (head r)
head-fair [] k some = absurd (omega arith)
head-fair (e ∷ q) k some = k.fair.0

-- The first event brings work.
pub come-some : (q : List Entry) → Queue q → 1 ≤ length q → 1 ≤ to_come q (head q).next
come-some q k some = omega (arith, moved-come q (head q).next k some (omega arith), (head-fair q k some).cost)

module _ (n : ℕ) (q : List Entry) (sum : ℕ) (r : List Entry) (s : ℕ) (so_far : Taking n q sum r s) where
  module _ (some : 1 ≤ length q) (here : (head r).next ≤ n) where
    rest : 1 ≤ length r
    rest = omega (arith, so_far.long)

    pub taking-fair : FairEntry (head r)
    taking-fair = head-fair r so_far.queue rest

    pub taking-most : s + (head r).cost ≤ sum + to_come q n
    taking-most = omega (arith, so_far.same n (omega arith), moved-come r n so_far.queue rest here)

    pub taking-less : to_come (moved r) n < to_come r n
    taking-less = omega (arith, moved-come r n so_far.queue rest here, taking-fair.cost)

    pub taking-turn : Taking n q sum (moved r) (s + (head r).cost)
    taking-turn = record {
      queue = moved-queue r so_far.queue rest;
      long = moved_length r rest ∙ so_far.long;
      same = λ x h. omega (arith, so_far.same x h, moved-come r x so_far.queue rest (omega arith));
    }

  -- No event up to n is left.
  pub taking-end : n < (head r).next → Taken n q sum r s
  taking-end h = record { same = so_far.same; queue = so_far.queue; long = so_far.long; ahead = head-ahead r n so_far.queue h }

-- Where there is nothing to take.
pub taken_none : (n : ℕ) (q : List Entry) (sum : ℕ) → length q ≡ 0 → Taken n q sum q sum
taken_none n [] sum none = record { same = λ x h. refl; queue = record { fair = tt; ordered = tt }; long = refl; ahead = tt }
taken_none n (e ∷ q) sum none = absurd (omega arith)
