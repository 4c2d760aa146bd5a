-- The drawing of a schedule, tick by tick: pieces that go to one row, where it ends, and what it says.
--   Right σ L t d   the drawing d of the ticks before t is in order, joined, and says what σ says
use mathlib.Core.Bool.{Bool, true, false, false≢true}
use mathlib.Core.List.{List, [], ◌∷◌, ◌++◌}
use mathlib.Core.Logic.{◌⊎◌, inl, inr}
use mathlib.Core.Path.{◌≡◌, refl, sym, ap, subst, ◌∙◌}
use native.Mathlib.Nat.{add-zero, add-suc}
use native.Mathlib.Omega.{arith}
use borrow.Author.Tests.{eqb-true, eq-eqb}
use Prim.Native.Nat.{ℕ, zero, suc, ◌+◌, ◌≤◌, ◌<◌}
use lib.ListN.{length, length-append}
use Rattle.demand.proofs.Divide.{le-or-lt}
use Rattle.own_segments.specs.Drawn.{Drawing, ended, closed, same_who, moved, drawn, segments_to, Stops}
use Rattle.own_segments.proofs.Orders.{last_to, last-append, order-append, at_before, at-within, at-behind, stops-append}
use Rattle.segments.specs.Given.{Who, nobody, task, handler}
use Rattle.segments.specs.Segments.{Seg, InOrder, at}

-- ---- who is the same

pub same-is : (a b : Who) → same_who a b ≡ true → a ≡ b
same-is nobody nobody e = refl
same-is nobody (task j) e = absurd (false≢true e)
same-is nobody (handler j) e = absurd (false≢true e)
same-is (task i) nobody e = absurd (false≢true e)
same-is (task i) (task j) e = ap task (eqb-true i j e)
same-is (task i) (handler j) e = absurd (false≢true e)
same-is (handler i) nobody e = absurd (false≢true e)
same-is (handler i) (task j) e = absurd (false≢true e)
same-is (handler i) (handler j) e = ap handler (eqb-true i j e)

pub same_self : (a : Who) → same_who a a ≡ true
same_self nobody = refl
same_self (task i) = eq-eqb i i refl
same_self (handler i) = eq-eqb i i refl

-- The two ways to move.
pub data Moves (d : Drawing) (t : ℕ) (w : Who) : Type 0 where
  goes_on : d.who ≡ w → moved d t w ≡ d → Moves d t w
  begins : (d.who ≡ w → ⊥) → moved d t w ≡ record { done = closed d t; who = w; from = t } → Moves d t w

pub moves : (d : Drawing) (t : ℕ) (w : Who) → Moves d t w
moves d t w = go (same_who d.who w) refl
  where
    go : (b : Bool) → same_who d.who w ≡ b → Moves d t w
    go true e = goes_on (same-is d.who w e) (rw e)
    go false e = begins (λ same. false≢true (sym e ∙ (rw same (same_self w)))) (rw e)

pub moved-who : (d : Drawing) (t : ℕ) (w : Who) → (moved d t w).who ≡ w
moved-who d t w = go (moves d t w)
  where
    go : Moves d t w → (moved d t w).who ≡ w
    go (goes_on same e) = ap (λ (x : Drawing). x.who) e ∙ same
    go (begins apart e) = ap (λ (x : Drawing). x.who) e

-- To the same one again.
moved-again : (d : Drawing) (t s : ℕ) (w : Who) → moved (moved d t w) s w ≡ moved d t w
moved-again d t s w = go (moves (moved d t w) s w)
  where
    go : Moves (moved d t w) s w → moved (moved d t w) s w ≡ moved d t w
    go (goes_on same e) = e
    go (begins apart e) = absurd (apart (moved-who d t w))

module _ (σ : ℕ → Who) where
  pub drawn-next : (t : ℕ) → drawn σ (suc t) ≡ moved (drawn σ t) t (σ t)
  unfolding drawn
  drawn-next t = refl

  -- Ticks that all go to one row move the drawing once.
  pub drawn-piece : (t d : ℕ) (w : Who) → 0 < d → ((i : ℕ) → i < d → σ (t + i) ≡ w) → drawn σ (t + d) ≡ moved (drawn σ t) t w
  drawn-piece t zero w some each = absurd (omega arith)
  drawn-piece t (suc zero) w some each =
      ap (λ (n : ℕ). drawn σ n) (let e : t + 1 ≡ suc t = omega arith in e)
      ∙ drawn-next t
      ∙ ap (λ (x : Who). moved (drawn σ t) t x) (ap σ (sym (add-zero t)) ∙ each 0 (omega arith))
  drawn-piece t (suc (suc d)) w some each =
      ap (λ (n : ℕ). drawn σ n) (add-suc t (suc d))
      ∙ drawn-next (t + suc d)
      ∙ ap (λ (x : Who). moved (drawn σ (t + suc d)) (t + suc d) x) (each (suc d) (omega arith))
      ∙ ap (λ (x : Drawing). moved x (t + suc d) w) (drawn-piece t (suc d) w (omega arith) (λ i l. each i (omega arith)))
      ∙ moved-again (drawn σ t) t (t + suc d) w

-- ---- how many there are

ended-length : (w : Who) (done : List Seg) (from s t : ℕ) → length (ended w done from s) ≡ length (ended w done from t)
ended-length nobody done from s t = refl
ended-length (task i) done from s t =
    length-append done _ ∙ sym (length-append done _)
ended-length (handler i) done from s t =
    length-append done _ ∙ sym (length-append done _)

ended-more : (w : Who) (done : List Seg) (from t : ℕ) → length done ≤ length (ended w done from t)
ended-more nobody done from t = omega arith
ended-more (task i) done from t = omega (arith, length-append done (record { who = task i; from = from; to = t } ∷ []))
ended-more (handler i) done from t = omega (arith, length-append done (record { who = handler i; from = from; to = t } ∷ []))

module _ (σ : ℕ → Who) where
  -- A tick later there are no fewer.
  more-next : (t : ℕ) → length (closed (drawn σ t) t) ≤ length (closed (drawn σ (suc t)) (suc t))
  more-next t = go (moves (drawn σ t) t (σ t))
    where
      go : Moves (drawn σ t) t (σ t) → length (closed (drawn σ t) t) ≤ length (closed (drawn σ (suc t)) (suc t))
      go (goes_on same e) =
          subst (λ (x : Drawing). length (closed (drawn σ t) t) ≤ length (closed x (suc t))) (sym (drawn-next σ t ∙ e))
          (omega (arith, ended-length (drawn σ t).who (drawn σ t).done (drawn σ t).from t (suc t)))
      go (begins apart e) =
          subst (λ (x : Drawing). length (closed (drawn σ t) t) ≤ length (closed x (suc t))) (sym (drawn-next σ t ∙ e))
          (ended-more (σ t) (closed (drawn σ t) t) t (suc t))

  pub more-later : (t k : ℕ) → length (closed (drawn σ t) t) ≤ length (segments_to σ (t + k))
  unfolding segments_to
  more-later t zero = rw (add-zero t) (omega arith)
  more-later t (suc k) = rw (add-suc t k) (omega (arith, more-later t k, more-next (t + k)))

  -- Idle to the end: none are added.
  pub idle-later : (t k : ℕ) → ((i : ℕ) → i < k → σ (t + i) ≡ nobody) → segments_to σ (t + k) ≡ closed (drawn σ t) t
  unfolding segments_to
  idle-later t zero each = ap (λ (n : ℕ). closed (drawn σ n) n) (add-zero t)
  idle-later t (suc k) each =
      ap (λ (x : Drawing). closed x (t + suc k)) (drawn-piece σ t (suc k) nobody (omega arith) each)
      ∙ go (moves (drawn σ t) t nobody)
    where
      go : Moves (drawn σ t) t nobody → closed (moved (drawn σ t) t nobody) (t + suc k) ≡ closed (drawn σ t) t
      go (goes_on same e) =
          ap (λ (x : Drawing). closed x (t + suc k)) e
          ∙ ap (λ (x : Who). ended x (drawn σ t).done (drawn σ t).from (t + suc k)) same
          ∙ sym (ap (λ (x : Who). ended x (drawn σ t).done (drawn σ t).from t) same)
      go (begins apart e) = ap (λ (x : Drawing). closed x (t + suc k)) e

-- ---- what it says

pub record Right (σ : ℕ → Who) (L t : ℕ) (d : Drawing) : Type 0 where
  pub in_order : InOrder 0 d.done
  pub joined : Stops σ L d.done
  pub before : last_to 0 d.done ≤ d.from
  pub since : d.from ≤ t
  pub some : (d.who ≡ nobody → ⊥) → d.from < t
  pub done-says : (x : ℕ) → x < d.from → σ x ≡ at d.done x
  pub held-says : (x : ℕ) → d.from ≤ x → x < t → σ x ≡ d.who

-- The segments where the held one ends, and does not go on.
pub record Closes (σ : ℕ → Who) (L t : ℕ) (ss : List Seg) : Type 0 where
  pub in_order : InOrder 0 ss
  pub joined : Stops σ L ss
  pub before : last_to 0 ss ≤ t
  pub says : (x : ℕ) → x < t → σ x ≡ at ss x

module _ (σ : ℕ → Who) (L t : ℕ) (done : List Seg) (from : ℕ) where
  -- A row's segment, ..
  ends-row : (w : Who) → Right σ L t (record { done = done; who = w; from = from }) → (w ≡ nobody → ⊥) → (t < L → σ t ≡ w → ⊥)
      → Closes σ L t (done ++ (record { who = w; from = from; to = t } ∷ []))
  ends-row w r some stops =
      let s : Seg = record { who = w; from = from; to = t } in
      record {
        in_order = order-append 0 done s r.in_order r.before (r.some some);
        joined = stops-append σ L done s r.joined stops;
        before = omega (arith, last-append 0 done s);
        says = λ x l. go x l (le-or-lt from x);
      }
    where
      go : (x : ℕ) → x < t → (from ≤ x) ⊎ (x < from) → σ x ≡ at (done ++ (record { who = w; from = from; to = t } ∷ [])) x
      go x l (inl m) =
          r.held-says x m l ∙ sym (at-within 0 done (record { who = w; from = from; to = t }) x r.in_order r.before m l)
      go x l (inr m) = r.done-says x m ∙ sym (at_before done (record { who = w; from = from; to = t }) x m)

  -- .. or idle ticks.
  ends-idle : Right σ L t (record { done = done; who = nobody; from = from }) → Closes σ L t done
  ends-idle r = record {
    in_order = r.in_order;
    joined = r.joined;
    before = omega (arith, r.before, r.since);
    says = λ x l. go x l (le-or-lt from x);
  }
    where
      go : (x : ℕ) → x < t → (from ≤ x) ⊎ (x < from) → σ x ≡ at done x
      go x l (inl m) = r.held-says x m l ∙ sym (at-behind 0 done x r.in_order (omega (arith, r.before)))
      go x l (inr m) = r.done-says x m

  pub closes : (w : Who) → Right σ L t (record { done = done; who = w; from = from }) → (t < L → σ t ≡ w → ⊥)
      → Closes σ L t (ended w done from t)
  closes nobody r stops = ends-idle r
  closes (task i) r stops = ends-row (task i) r (λ e. let z : ◌≡◌ {A = ℕ} 0 1 = cc in omega arith) stops
  closes (handler i) r stops = ends-row (handler i) r (λ e. let z : ◌≡◌ {A = ℕ} 0 1 = cc in omega arith) stops

module _ (σ : ℕ → Who) (L : ℕ) where
  pub right : (t : ℕ) → Right σ L t (drawn σ t)
  unfolding drawn last_to
  right zero = record {
    in_order = tt;
    joined = tt;
    before = omega arith;
    since = omega arith;
    some = λ e. absurd (e refl);
    done-says = λ x l. absurd (omega arith);
    held-says = λ x l m. absurd (omega arith);
  }
  right (suc t) = go (moves (drawn σ t) t (σ t)) (right t)
    where
      go : Moves (drawn σ t) t (σ t) → Right σ L t (drawn σ t) → Right σ L (suc t) (moved (drawn σ t) t (σ t))
      go (goes_on same e) r =
          subst (Right σ L (suc t)) (sym e)
          (record {
            in_order = r.in_order;
            joined = r.joined;
            before = r.before;
            since = omega (arith, r.since);
            some = λ apart. omega (arith, r.some apart);
            done-says = r.done-says;
            held-says = λ x l m. here x l (le-or-lt t x) m;
          })
        where
          here : (x : ℕ) → (drawn σ t).from ≤ x → (t ≤ x) ⊎ (x < t) → x < suc t → σ x ≡ (drawn σ t).who
          here x l (inr k) m = r.held-says x l k
          here x l (inl k) m = ap σ (let q : x ≡ t = omega arith in q) ∙ sym same
      go (begins apart e) r =
          let c = closes σ L t (drawn σ t).done (drawn σ t).from (drawn σ t).who r (λ l same. apart (sym same)) in
          subst (Right σ L (suc t)) (sym e)
          (record {
            in_order = c.in_order;
            joined = c.joined;
            before = c.before;
            since = omega arith;
            some = λ some. omega arith;
            done-says = c.says;
            held-says = λ x l m. ap σ (let q : x ≡ t = omega arith in q);
          })

  -- The segments are in order, joined, and say what the schedule says.
  pub segments-right : Closes σ L L (segments_to σ L)
  unfolding segments_to
  segments-right = closes σ L L (drawn σ L).done (drawn σ L).from (drawn σ L).who (right L) (λ l same. omega arith)
