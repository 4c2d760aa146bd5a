-- What the pen and the list hold, through each move.
use mathlib.Core.Bool.{Bool, true, false}
use mathlib.Core.List.{List, [], ◌∷◌, ◌++◌}
use mathlib.Core.Path.{◌≡◌, refl, sym, ap, subst, ◌∙◌}
use native.Mathlib.Nat.{div-mul-le_self}
use native.Mathlib.Omega.{arith}
use borrow.Author.Tests.{lt-ltb}
use Prim.Native.Nat.{ℕ, ◌+◌, ◌*◌, ◌≤◌}
use lib.Dec.{ltb}
use lib.ListN.{length, replicate, length-append, length-replicate}
use Rattle.demand.specs.Tests.{pick}
use Rattle.own_segments.specs.Drawn.{Drawing, ended, closed, same_who, moved, drawn, kind_of, row_of, numbers_of}
use Rattle.own_segments.specs.Inside.{same_ran, put_at, put_in, count_by, closed_count, out_by, closed_out, moved_pen, moved_out, Holds}
use Rattle.own_segments.specs.Own.{who_ran}
use Rattle.own_segments.specs.Promise.{room_in}
use Rattle.own_segments.specs.declared.pen.Pen.{Pen}
use Rattle.own_segments.proofs.Lists.{numbers-append, numbers-length, padded-none, put_four, put-length}
use Rattle.scheduler.specs.Start.{padded}
use Rattle.scheduler.specs.declared.Ran.{Ran}
use Rattle.scheduler.specs.declared.Ran.TheVariants.{Handler, Task, Idle}
use Rattle.segments.specs.Given.{Who, nobody, task, handler}
use Rattle.segments.specs.Promise.{segments_most}
use Rattle.segments.specs.Segments.{Seg, segment_width}

-- Room for so many segments is room for four times as many numbers.
pub room-numbers : (room n : ℕ) → room ≤ room_in n → room * 4 ≤ n
unfolding room_in
room-numbers room n l = omega (arith, div-mul-le_self n 4)

pub room_most : (room n : ℕ) → room ≤ room_in n → room ≤ segments_most
unfolding room_in
room_most room n l = omega arith

same-ran : (a b : Ran) → same_ran a b ≡ same_who (who_ran a) (who_ran b)
same-ran (Handler i) (Handler j) = refl
same-ran (Handler i) (Task j) = refl
same-ran (Handler i) Idle = refl
same-ran (Task i) (Handler j) = refl
same-ran (Task i) (Task j) = refl
same-ran (Task i) Idle = refl
same-ran Idle (Handler j) = refl
same-ran Idle (Task j) = refl
same-ran Idle Idle = refl

pub put-in-length : (out : List ℕ) (count a b c d room : ℕ) → length (put_in out count a b c d room) ≡ length out
put-in-length out count a b c d room = go (ltb count room)
  where
    go : (x : Bool) → length (pick x (put_at out (segment_width * count) a b c d) out) ≡ length out
    go true = put-length out (segment_width * count) a b c d
    go false = refl

-- ---- the held segment ends

pub record Ended (room n count : ℕ) (out : List ℕ) (ss : List Seg) : Type 0 where
  pub count-is : count ≡ length ss
  pub laid : count ≤ room → out ≡ padded n (numbers_of ss)
  pub long : length out ≡ n

-- One segment more.
module _ (room n : ℕ) (fits : room ≤ room_in n) (done : List Seg) (count : ℕ) (out : List ℕ)
    (is : count ≡ length done) (laid : count ≤ room → out ≡ padded n (numbers_of done)) (long : length out ≡ n) where
  one_more : (s : Seg)
      → Ended room n (count + 1) (put_in out count (kind_of s.who) (row_of s.who) s.from s.to room) (done ++ (s ∷ []))
  one_more s = record {
    count-is = omega (arith, length-append done (s ∷ []));
    laid = λ l.
        let size : length (numbers_of done) ≡ 4 * count = numbers-length done ∙ ap (λ (x : ℕ). 4 * x) (sym is) in
        rw (lt-ltb count room (omega arith))
        (ap (λ (xs : List ℕ). put_at xs (4 * count) (kind_of s.who) (row_of s.who) s.from s.to) (laid (omega arith))
        ∙ put_four n (numbers_of done) (4 * count) _ _ _ _ size (omega (arith, room-numbers room n fits))
        ∙ ap (padded n) (sym (numbers-append done s)));
    long = put-in-length out count _ _ _ _ room ∙ long;
  }

module _ (room n : ℕ) (fits : room ≤ room_in n) (pen : Pen) (out : List ℕ) (d : Drawing) (holds : Holds room n pen out d) where
  pub holds-closed : (t : ℕ) → Ended room n (closed_count pen) (closed_out out pen t room) (closed d t)
  holds-closed t = go pen.ran refl
    where
      go : (ran : Ran) → pen.ran ≡ ran
          → Ended room n (count_by ran pen.count) (out_by ran out pen.count pen.from t room) (closed d t)
      go (Handler i) e =
          let who : d.who ≡ handler i = sym holds.who ∙ ap who_ran e in
          subst (λ (w : Who). Ended room n (pen.count + 1) (put_in out pen.count 1 i pen.from t room)
          (ended w d.done d.from t)) (sym who)
          (subst
          (λ (f : ℕ). Ended room n (pen.count + 1) (put_in out pen.count 1 i pen.from t room) (ended (handler i) d.done f t))
          holds.from
          (one_more room n fits d.done pen.count out holds.count holds.laid holds.long
          (record { who = handler i; from = pen.from; to = t })))
      go (Task i) e =
          let who : d.who ≡ task i = sym holds.who ∙ ap who_ran e in
          subst (λ (w : Who). Ended room n (pen.count + 1) (put_in out pen.count 0 i pen.from t room)
          (ended w d.done d.from t)) (sym who)
          (subst (λ (f : ℕ). Ended room n (pen.count + 1) (put_in out pen.count 0 i pen.from t room) (ended (task i) d.done f t))
          holds.from
          (one_more room n fits d.done pen.count out holds.count holds.laid holds.long
          (record { who = task i; from = pen.from; to = t })))
      go Idle e =
          let who : d.who ≡ nobody = sym holds.who ∙ ap who_ran e in
          subst (λ (w : Who). Ended room n pen.count out (ended w d.done d.from t)) (sym who)
          (record { count-is = holds.count; laid = holds.laid; long = holds.long })

  pub holds-moved : (ran : Ran) (t : ℕ) → Holds room n (moved_pen pen ran t) (moved_out out pen ran t room) (moved d t (who_ran ran))
  holds-moved ran t = go (same_ran pen.ran ran) refl
    where
      test : same_ran pen.ran ran ≡ same_who d.who (who_ran ran)
      test = same-ran pen.ran ran ∙ ap (λ (w : Who). same_who w (who_ran ran)) holds.who

      go : (b : Bool) → same_ran pen.ran ran ≡ b
          → Holds room n (moved_pen pen ran t) (moved_out out pen ran t room) (moved d t (who_ran ran))
      go true e = rw (e, sym test ∙ e) holds
      go false e =
          let c = holds-closed t in
          rw (e, sym test ∙ e) (record { who = refl; from = refl; count = c.count-is; laid = c.laid; long = c.long })

-- At first.
pub holds-start : (σ : ℕ → Who) (room n : ℕ) (out : List ℕ) → out ≡ replicate n 0
    → Holds room n (record { ran = Idle; from = 0; count = 0 }) out (drawn σ 0)
unfolding drawn numbers_of
holds-start σ room n out e = record {
  who = refl;
  from = refl;
  count = refl;
  laid = λ l. e ∙ sym (padded-none n);
  long = ap length e ∙ length-replicate {A = ℕ} n 0;
}

-- The count grows by one at most.
pub count_next : (pen : Pen) (ran : Ran) (t : ℕ) → (moved_pen pen ran t).count ≤ pen.count + 1
count_next pen ran t = go (same_ran pen.ran ran)
  where
    by : (r : Ran) → count_by r pen.count ≤ pen.count + 1
    by (Handler i) = omega arith
    by (Task i) = omega arith
    by Idle = omega arith

    go : (b : Bool) → (pick b pen (record { ran = ran; from = t; count = closed_count pen })).count ≤ pen.count + 1
    go true = omega arith
    go false = by pen.ran

pub count-grows : (pen : Pen) → pen.count ≤ closed_count pen
count-grows pen = by pen.ran
  where
    by : (r : Ran) → pen.count ≤ count_by r pen.count
    by (Handler i) = omega arith
    by (Task i) = omega arith
    by Idle = omega arith
