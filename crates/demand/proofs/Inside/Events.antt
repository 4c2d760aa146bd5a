-- The work of a table's events is D or A, and the loop that puts its rows in order.
use mathlib.Core.List.{List, [], ◌∷◌}
use mathlib.Core.Path.{◌≡◌, refl, ap, ◌∙◌}
use native.Mathlib.Omega.{arith}
use Prim.Native.Nat.{ℕ, ◌+◌, ◌*◌, ◌≤◌, ◌<◌}
use lib.ListN.{length, drop, length-drop}
use lib.Seq.{drop-length}
use Rattle.walk.specs.Queue.{to_come, Ahead, Queue, CanAdd, Added}
use Rattle.walk.specs.declared.Entry.{Entry}
use Rattle.walk.proofs.Queue.{come-nil, come-cons}
use Rattle.demand.specs.Demands.{called_by, due_by, called, due}
use Rattle.demand.specs.Inside.Events.{first_of, work_by, work_of, Placeable, Begun}
use Rattle.demand.specs.Inside.Sizes.{due_most, Small}
use Rattle.demand.specs.Limits.{figure_most, tasks_most}
use Rattle.demand.specs.Refusals.{FairRow}
use Rattle.demand.specs.Rows.{Row, handlers_of, rows_of, rest, width, Each, Positive, Sound, Valid}
use Rattle.demand.specs.declared.events.Event.{Event}
use Rattle.demand.specs.declared.events.Event.TheVariants.{Arrival, Deadline}
use Rattle.demand.specs.declared.table.Kind.{Kind}
use Rattle.demand.proofs.Between.{plain-valid}
use Rattle.demand.proofs.Divide.{events-within, events-ceil}
use Rattle.demand.proofs.Inside.Sizes.{fair-positive, due-most, called-most}
use Rattle.demand.proofs.Inside.Slices.{rows_short, handlers-plain}
use Rattle.demand.proofs.Sums.{each_map, total-nil, total-cons, total-same}

-- ---- what the events bring

-- By deadlines D,
pub work-due : (ts : List Row) (x : ℕ) → Positive ts → work_of Deadline ts x ≡ due ts x
unfolding work_of due
work-due ts x pos =
    total-same (work_by Deadline x) (due_by x) ts
    (each_map (λ r p. ap (λ (n : ℕ). r.cost * n) (events-within x r.deadline r.period p)) ts pos)

-- by arrivals A.
pub work-called : (hs : List Row) (x : ℕ) → Positive hs → work_of Arrival hs x ≡ called hs x
unfolding work_of called
work-called hs x pos =
    total-same (work_by Arrival x) (called_by x) hs (each_map (λ r p. ap (λ (n : ℕ). r.cost * n) (events-ceil x r.period p)) hs pos)

pub work-most : (event : Event) (rs : List Row) (x : ℕ) → Small rs x → work_of event rs x ≤ due_most
work-most Arrival rs x s = omega (arith, work-called rs x (fair-positive rs s.rows), called-most rs x s)
work-most Deadline rs x s = omega (arith, work-due rs x (fair-positive rs s.rows), due-most rs x s)

work-nil : (event : Event) (x : ℕ) → work_of event [] x ≡ 0
unfolding work_of
work-nil event x = total-nil (work_by event x)

work-cons : (event : Event) (r : Row) (rs : List Row) (x : ℕ) → work_of event (r ∷ rs) x ≡ work_by event x r + work_of event rs x
unfolding work_of
work-cons event r rs x = total-cons (work_by event x) r rs

-- A first event comes from the first tick on, and soon.
first-least : (event : Event) (r : Row) → Sound r → 0 < first_of event r.deadline
first-least Arrival r s = omega arith
first-least Deadline r s = s.some

first-most : (event : Event) (r : Row) → FairRow r → Sound r → first_of event r.deadline ≤ figure_most
first-most Arrival r f s = omega arith
first-most Deadline r f s = omega (arith, f.period.most, s.fits)

-- Handlers have their periods for deadlines.
pub handlers-placeable : (h : List ℕ) (n : ℕ) → Each FairRow (handlers_of h) → length (handlers_of h) ≤ n → n ≤ tasks_most → Placeable (handlers_of h) n
handlers-placeable h n fair few most = record {
  rows = fair;
  deadlines = plain-valid (handlers_of h) (handlers-plain h) (fair-positive (handlers_of h) fair);
  count = omega arith;
  room = few;
}

-- ---- the loop: the rows of u, the last of s, are still to be put, into places before k

pub record Beginning (kind : Kind) (event : Event) (s : List ℕ) (places : ℕ) (u : List ℕ) (q : List Entry) (k : ℕ) : Type 0 where
  pub long : length q ≡ places
  pub within : k ≤ places
  pub rows : Each FairRow (rows_of kind u)
  pub deadlines : Valid (rows_of kind u)
  pub room : length (rows_of kind u) ≤ k
  pub queue : Queue (drop k q)
  pub ahead : Ahead 0 (drop k q)
  pub work : (x : ℕ) → to_come (drop k q) x + work_of event (rows_of kind u) x ≡ work_of event (rows_of kind s) x
  pub some : length (rows_of kind u) < length (rows_of kind s) → k < places

pub begin-start : (kind : Kind) (event : Event) (s : List ℕ) (q : List Entry) → Placeable (rows_of kind s) (length q)
    → Beginning kind event s (length q) s q (length q)
begin-start kind event s q can = record {
  long = refl;
  within = omega arith;
  rows = can.rows;
  deadlines = can.deadlines;
  room = can.room;
  queue = rw (drop-length q) (record { fair = tt; ordered = tt });
  ahead = rw (drop-length q) tt;
  work = λ x. rw (drop-length q) (omega (arith, come-nil x));
  some = λ h. absurd (omega (arith, h));
}

module _ (kind : Kind) (event : Event) (s : List ℕ) (places : ℕ) (u : List ℕ) (q : List Entry) (k : ℕ) (can : Placeable (rows_of kind s) places)
    (so_far : Beginning kind event s places u q k) where
  module _ (r : Row) (one : rows_of kind u ≡ r ∷ rows_of kind (rest kind u)) where
    abbrev entry : Entry
    entry = record { next = first_of event r.deadline; cost = r.cost; period = r.period }

    fair : FairRow r
    fair = (rw one at so_far.rows).0

    sound : Sound r
    sound = (rw one at so_far.deadlines).0

    -- The row's events and those in their places are all that have been put.
    work : (x : ℕ) → to_come (entry ∷ drop k q) x + work_of event (rows_of kind (rest kind u)) x ≡ work_of event (rows_of kind s) x
    work x =
        omega (
          arith,
          come-cons entry (drop k q) x,
          so_far.work x,
          ap (λ (z : List Row). work_of event z x) one,
          work-cons event r (rows_of kind (rest kind u)) x,
        )

    pub begin-can : CanAdd entry k q
    begin-can =
        let at : ℕ = first_of event r.deadline in
        let small : Small (rows_of kind s) at = record {
          rows = can.rows;
          count = can.count;
          ticks = omega (arith, first-most event r fair sound);
        } in
        record {
          room = omega (arith, so_far.room, ap (λ (z : List Row). length z) one);
          within = omega (arith, so_far.within, so_far.long);
          queue = so_far.queue;
          fair = record { cost = fair.cost.least; period = fair.period.least; word = omega (arith, fair.period.most) };
          fits = omega (arith, work at, work-most event (rows_of kind s) at small);
        }

    pub begin-turn : (j : ℕ) (t : List Entry) → Added entry k q j t → Beginning kind event s places (rest kind u) t j
    begin-turn j t added = record {
      long = added.long ∙ so_far.long;
      within = omega (arith, added.within, so_far.within);
      rows = (rw one at so_far.rows).1;
      deadlines = (rw one at so_far.deadlines).1;
      room = omega (arith, so_far.room, ap (λ (z : List Row). length z) one, added.near);
      queue = added.queue;
      ahead = added.ahead 0 (first-least event r sound) so_far.ahead;
      work = λ x. omega (arith, work x, added.same x);
      some = λ h. omega (arith, added.some, so_far.long);
    }

  pub begin-end : length u < width kind → Begun event (rows_of kind s) (drop k q)
  begin-end over =
      let none : rows_of kind u ≡ [] = rows_short kind u over in
      record {
        queue = so_far.queue;
        ahead = so_far.ahead;
        work = λ x. omega (arith, so_far.work x, ap (λ (z : List Row). work_of event z x) none, work-nil event x);
        some = λ h. omega (arith, so_far.some (omega (arith, h, ap (λ (z : List Row). length z) none)), length-drop k q, so_far.long);
      }
