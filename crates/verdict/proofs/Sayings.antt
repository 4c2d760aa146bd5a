-- Answers that meet the promise, from what the code has in hand.
use mathlib.Core.Bool.{Bool, true}
use mathlib.Core.List.{List}
use mathlib.Core.Path.{◌≡◌, ap, sym, subst, ◌∙◌}
use native.Mathlib.Nat.{mul-le-mul}
use native.Mathlib.Omega.{arith}
use lib.Dec.{ltb}
use Prim.Native.Nat.{ℕ, ◌+◌, ◌*◌, ◌≤◌, ◌<◌, min}
use Rattle.std.specs.Prelude.{Ok, Err, None, Some}
use Rattle.demand.proofs.Numbered.{number-pos}
use Rattle.demand.specs.Limits.{ticks_most}
use Rattle.demand.specs.Numbered.{number_of}
use Rattle.demand.specs.Refusals.{InRange, table_refusal}
use Rattle.demand.specs.Rows.{Row, tasks_of, handlers_of}
use Rattle.demand.specs.Tests.{pick}
use Rattle.demand.specs.declared.refusal.Refusal.{Refusal}
use Rattle.demand.specs.declared.refusal.Refusal.TheVariants.{MultipleTooLarge}
use Rattle.verdict.specs.Idle.{Idle, IdleBy}
use Rattle.verdict.specs.Inside.Search.{FoundAt, Through, FoundSays, end_by, search_end}
use Rattle.verdict.specs.Facts.{bound}
use Rattle.verdict.specs.Loads.{work, whole, costs, slack, millionths, load, work_most}
use Rattle.demand.specs.Multiples.{limited}
use Rattle.verdict.specs.Multiples.{common}
use Rattle.verdict.specs.Promise.{figures, yes_of, no_of, refusal_of, verdict_refusal, SaysBy, Says, VerdictSays}
use Rattle.verdict.specs.Lengths.{AlwaysPasses}
use Rattle.verdict.specs.Tested.{tested}
use Rattle.verdict.specs.declared.Answer.TheVariants as answer
use Rattle.verdict.specs.declared.Miss.{Miss}
use Rattle.verdict.specs.declared.search.Found.{Found}
use Rattle.verdict.specs.declared.search.Found.TheVariants as found
use Rattle.verdict.proofs.Facts.Ends.{end-le}
use Rattle.verdict.proofs.Idle.{idle-where, looked-enough}
use Rattle.verdict.proofs.YesEnds.{fits-light, yes-end-read}
use Rattle.demand.proofs.Periods.{limited-none, limited-some}
use Rattle.verdict.proofs.Loads.{work-most, costs-most, slack-most}
use Rattle.verdict.proofs.Readable.{readable-in-range, readable-common, readable-zero, common-small, refused-4, refused-table}

-- ---- W, the load and the end, of the H in hand

module _ (ts hs : List Row) (h w v : ℕ) (eh : h ≡ common ts hs) (ew : w ≡ work h ts) (ev : v ≡ work h hs) where
  pub whole-read : w + v ≡ whole ts hs
  unfolding whole
  whole-read = rw (ew, ev, eh)

  pub load_read : (l : ℕ) → l ≡ millionths (w + v) h → l ≡ load ts hs
  unfolding load
  load_read l e = e ∙ rw (whole-read, eh)

  pub end_read : (e s n : ℕ) → e ≡ costs hs → s ≡ slack h ts → n ≡ end_by h (w + v) (e * h + s) → n ≡ search_end ts hs
  unfolding search_end bound
  end_read e s n ee es en = en ∙ rw (whole-read, ee, es, eh)

  pub looks-read : ltb (whole ts hs) (common ts hs) ≡ ltb (w + v) h
  looks-read = rw (whole-read, eh)

-- ---- on a readable table they fit

module _ (t h : List ℕ) (readable : verdict_refusal t h ≡ 0) (m : ℕ) (em : m ≡ common (tasks_of t) (handlers_of h)) where
  pub whole-most : (w v : ℕ) → w ≡ work m (tasks_of t) → v ≡ work m (handlers_of h) → (w + v ≤ work_most * m) × (0 < m) × (m ≤ ticks_most)
  whole-most w v ew ev =
      let small = common-small t h readable m em in
      let tasks = work-most m 64 (tasks_of t) small.1.rows small.1.count in
      let handlers = work-most m 64 (handlers_of h) small.2.rows small.2.count in
      (omega arith, small.0, small.1.ticks)

  -- E times H, and what short deadlines add: each below a million million million.
  pub bound-fits : (e s : ℕ) → e ≡ costs (handlers_of h) → s ≡ slack m (tasks_of t) → (e * m ≤ 1000000000000000000) × (s ≤ 1000000000000000000)
  bound-fits e s ee es =
      let small = common-small t h readable m em in
      let costs : e ≤ 1000000000 = omega (arith, costs-most (handlers_of h) small.2.rows, small.2.count) in
      (mul-le-mul costs small.1.ticks, omega (arith, slack-most m 64 (tasks_of t) small.1.rows small.1.count, small.1.ticks))

  pub end_fits : (n : ℕ) → n ≡ search_end (tasks_of t) (handlers_of h) → n ≤ ticks_most
  end_fits n en = omega (arith, end-le (tasks_of t) (handlers_of h), readable-common t h readable)

-- ---- the three answers

module _ (t h : List ℕ) where
  pub says-refused : (k : Refusal) → number_of k ≡ table_refusal t h → VerdictSays t h (Err k)
  unfolding VerdictSays Says SaysBy figures
  says-refused k e =
      let some = number-pos k in
      let same = refused-table t h (omega arith) in
      record { unreadable = omega (arith, same); figures = ap refusal_of (e ∙ sym same) }

  module _ (e : table_refusal t h ≡ 0) where
    pub says-refused-4 : None ≡ limited (common (tasks_of t) (handlers_of h)) → VerdictSays t h (Err MultipleTooLarge)
    unfolding VerdictSays Says SaysBy figures
    says-refused-4 none =
        let four = refused-4 t h e (limited-none (common (tasks_of t) (handlers_of h)) none) in
        record { unreadable = omega (arith, four); figures = ap refusal_of (sym four) }

    pub says-readable : (m : ℕ) → Some m ≡ limited (common (tasks_of t) (handlers_of h)) → (verdict_refusal t h ≡ 0) × (m ≡ common (tasks_of t) (handlers_of h))
    says-readable m em =
        let within = limited-some (common (tasks_of t) (handlers_of h)) m em in
        (readable-zero t h e within.1, within.0)

  module _ (readable : verdict_refusal t h ≡ 0) (l n : ℕ) (el : l ≡ load (tasks_of t) (handlers_of h)) (en : n ≡ search_end (tasks_of t) (handlers_of h))
      (looks : Bool) where
    -- The idle point is looked for where W is below H: there is one.
    pub says-fits : ltb (whole (tasks_of t) (handlers_of h)) (common (tasks_of t) (handlers_of h)) ≡ looks → (r : Found) (k : ℕ)
        → FoundSays (tasks_of t) (handlers_of h) n looks r → r ≡ found.Nothing k → VerdictSays t h (Ok (answer.Fits l k))
    unfolding VerdictSays Says SaysBy figures FoundSays
    says-fits light r k says e = record {
      readable = readable;
      passes = passes;
      count = record {
        point = by.point;
        idle = by.idle;
        count = (through by.point (λ _. by.idle)).count ∙ ap (tested ts) (yes-end-read ts hs range by.point by.idle looks light);
      };
      figures = ap (λ (x : ℕ). yes_of x k) el;
    }
      where
        ts : List Row
        ts = tasks_of t

        hs : List Row
        hs = handlers_of h

        range : InRange ts hs
        range = readable-in-range t h readable

        through : (z : ℕ) → (looks ≡ true → Idle ts hs z) → Through ts hs (pick looks (min z (search_end ts hs)) (search_end ts hs)) k
        through = rw en at (subst (FoundSays ts hs n looks) e says)

        passes : AlwaysPasses ts hs
        passes = looked-enough ts hs range looks light (λ z point. (through z point).passes)

        by : IdleBy ts hs (common ts hs)
        by = (idle-where ts hs range).light (fits-light ts hs range passes)

    pub says-misses : (r : Found) (m : Miss) → FoundSays (tasks_of t) (handlers_of h) n looks r → r ≡ found.At m → VerdictSays t h (Ok (answer.Misses m l))
    unfolding VerdictSays Says SaysBy figures FoundSays
    says-misses r m says e =
        let at : FoundAt (tasks_of t) (handlers_of h) n m = subst (FoundSays (tasks_of t) (handlers_of h) n looks) e says in
        record { readable = readable; shortest = at.shortest; figures = λ i. no_of (at.exact i) (el i) }
