-- Answers that meet the promise, from what the code has in hand, and that it allows one answer only.
use mathlib.Core.List.{List}
use mathlib.Core.Logic.{◌⊎◌, inl, inr}
use mathlib.Core.Path.{◌≡◌, refl, ap, sym, ◌∙◌}
use native.Mathlib.Omega.{arith}
use native.Mathlib.Nat.{eq-zero-or-pos}
use borrow.Author.Tests.{le-leb, lt-leb, le-ltb, lt-ltb}
use lib.Dec.{ltb}
use lib.ListN.{length}
use Prim.Native.Nat.{ℕ, ◌+◌, ◌≤◌, ◌<◌}
use Rattle.std.specs.Prelude.{Result, Ok, Err, Option, Some, None}
use Rattle.demand.proofs.Numbered.{number-once}
use Rattle.demand.specs.Numbered.{number_of}
use Rattle.demand.specs.Refusals.{Fair, FairRow, InRange}
use Rattle.demand.specs.Rows.{tasks_of, handlers_of}
use Rattle.demand.specs.Tests.{pick, first_refusal}
use Rattle.demand.proofs.Divide.{le-or-lt}
use Rattle.demand.proofs.Inside.Places.{each_at}
use Rattle.demand.proofs.Refusals.{refusal-whole}
use Rattle.demand.specs.declared.refusal.Refusal.{Refusal}
use Rattle.demand.specs.declared.refusal.Refusal.TheVariants.{NoSuchTask}
use Rattle.trim.specs.Costs.{cost_at, with_cost}
use Rattle.trim.specs.Inside.{Placed, CanSearch, FoundSays}
use Rattle.trim.specs.Promise.{Word, Figures, figures, cost_of, none_of, refusal_of, Gets, missing, trim_tests, trim_refusal, cut_of}
use Rattle.trim.specs.Promise.{SaysCost, SaysNone, SaysRefused, SaysBy, Says, TrimSays}
use Rattle.trim.specs.Promise.Word.{cost, none, refused}
use Rattle.trim.specs.Unique.{TrimUnique}
use Rattle.trim.specs.declared.Cut.{Cut}
use Rattle.trim.specs.declared.search.Found.{Found}
use Rattle.trim.proofs.Repriced.{with-present, cost-is}
use Rattle.trim.proofs.Lowered.{fits-over-misses}
use Rattle.verdict.specs.Promise as verdict
use Rattle.verdict.specs.Promise.{verdict_refusal, VerdictSays}
use Rattle.verdict.specs.Promise.Word.{fits, misses}
use Rattle.verdict.proofs.Readable.{readable-table, readable-in-range}

-- ---- the refusal

-- The verdict's own, then 18.
refusal_is : (t h : List ℕ) (i : ℕ) → trim_refusal t h i ≡ pick (ltb 0 (verdict_refusal t h)) (verdict_refusal t h) (pick (missing t i) 18 0)
unfolding trim_refusal trim_tests first_refusal
refusal_is t h i = refl

module _ (t h : List ℕ) (i : ℕ) where
  unreadable-refusal : 0 < verdict_refusal t h → trim_refusal t h i ≡ verdict_refusal t h
  unreadable-refusal some = refusal_is t h i ∙ rw (lt-ltb 0 (verdict_refusal t h) some)

  module _ (readable : verdict_refusal t h ≡ 0) where
    missing-refusal : length (tasks_of t) ≤ i → trim_refusal t h i ≡ 18
    missing-refusal past =
        refusal_is t h i ∙ rw (le-ltb 0 (verdict_refusal t h) (omega (arith, readable)), le-leb (length (tasks_of t)) i past)

    no-refusal : i < length (tasks_of t) → trim_refusal t h i ≡ 0
    no-refusal row =
        refusal_is t h i ∙ rw (le-ltb 0 (verdict_refusal t h) (omega (arith, readable)), lt-leb (length (tasks_of t)) i row)

  -- Answered: the table is readable, and the task is in it.
  pub answered-readable : trim_refusal t h i ≡ 0 → (verdict_refusal t h ≡ 0) × (i < length (tasks_of t))
  answered-readable e = go (eq-zero-or-pos (verdict_refusal t h))
    where
      row : verdict_refusal t h ≡ 0 → (length (tasks_of t) ≤ i) ⊎ (i < length (tasks_of t)) → i < length (tasks_of t)
      row readable (inl past) = absurd (omega (arith, missing-refusal readable past))
      row readable (inr l) = l

      go : (verdict_refusal t h ≡ 0) ⊎ (0 < verdict_refusal t h) → (verdict_refusal t h ≡ 0) × (i < length (tasks_of t))
      go (inl readable) = (readable, row readable (le-or-lt (length (tasks_of t)) i))
      go (inr some) = absurd (omega (arith, unreadable-refusal some))

-- ---- a task of a readable table

module _ (t h : List ℕ) (i : ℕ) (readable : verdict_refusal t h ≡ 0) (row : i < length (tasks_of t)) where
  was : InRange (tasks_of t) (handlers_of h)
  was = readable-in-range t h readable

  -- Its cost is in range,
  pub cost-fair : Fair (cost_at t i)
  cost-fair = rw (cost-is t i row) (each_at FairRow (tasks_of t) was.tasks i row).cost

  -- and stands in the list, which is short.
  pub row-placed : Placed t i
  row-placed =
      let whole = (refusal-whole t h (readable-table t h readable)).0 in
      record { place = omega arith; short = omega (arith, was.tasks-most) }

-- ---- the answers

module _ (t h : List ℕ) (i : ℕ) where
  -- The verdict's refusal is handed on,
  pub says-refused : (k : Refusal) → VerdictSays t h (Err k) → TrimSays t h i (Err k)
  unfolding TrimSays Says SaysBy figures VerdictSays verdict.Says verdict.SaysBy verdict.figures
  says-refused k here =
      let number : trim_refusal t h i ≡ verdict_refusal t h = unreadable-refusal t h i here.unreadable in
      let code : number_of k ≡ trim_refusal t h i = ap (λ (g : verdict.Figures). g.code) here.figures ∙ sym number in
      record { unanswered = omega (arith, here.unreadable, number); figures = ap refusal_of code }

  module _ (readable : verdict_refusal t h ≡ 0) where
    -- then 18.
    pub says-18 : length (tasks_of t) ≤ i → TrimSays t h i (Err NoSuchTask)
    unfolding TrimSays Says SaysBy figures
    says-18 past =
        let number : trim_refusal t h i ≡ 18 = missing-refusal t h i readable past in
        record { unanswered = omega (arith, number); figures = ap refusal_of (sym number) }

    module _ (row : i < length (tasks_of t)) (old : ℕ) (present : old ≡ cost_at t i) where
      -- A table that fits keeps its cost,
      pub says-kept : Gets t h fits → TrimSays t h i (Ok (record { old = old; new = Some old }))
      unfolding TrimSays Says SaysBy figures
      says-kept gets = record {
        answered = no-refusal t h i readable row;
        least = omega (arith, (cost-fair t h i readable row).least);
        most = omega arith;
        fits = rw (present, with-present t i) gets;
        next = λ less. absurd (omega arith);
        figures = ap (λ (c : ℕ). cost_of c old) present;
      }

      -- one that misses with cost 1 has none,
      pub says_none : Gets (with_cost t i 1) h misses → TrimSays t h i (Ok (record { old = old; new = None }))
      unfolding TrimSays Says SaysBy figures
      says_none gets = record { answered = no-refusal t h i readable row; one = gets; figures = ap none_of present }

      -- and else the greatest is found: cost 1 fits and the present one does not, so it is above 1.
      pub can-search : Gets t h misses → Gets (with_cost t i 1) h fits → CanSearch t h i old
      can-search high low = record {
        readable = readable;
        placed = row-placed t h i readable row;
        some = more (le-or-lt old 1);
        most = omega (arith, (cost-fair t h i readable row).most);
        low = low;
        high = misses-now;
      }
        where
          misses-now : Gets (with_cost t i old) h misses
          misses-now = rw (present, with-present t i) high

          fair : Fair old
          fair = rw present (cost-fair t h i readable row)

          more : (old ≤ 1) ⊎ (1 < old) → 1 < old
          more (inl l) = absurd (fits-over-misses t h i old 1 readable fair l low misses-now)
          more (inr l) = l

      pub says-found : (r : Found) → FoundSays t h i old r → TrimSays t h i (Ok (record { old = old; new = Some r.cost }))
      unfolding TrimSays Says SaysBy figures
      says-found r found = record {
        answered = no-refusal t h i readable row;
        least = found.least;
        most = omega (arith, found.less);
        fits = found.low;
        next = λ less. found.next;
        figures = ap (λ (c : ℕ). cost_of c r.cost) present;
      }

-- ---- one answer

module _ (t h : List ℕ) (i : ℕ) (f g : Figures) where
  -- Of two costs neither is the lower: the next one up of a lower one misses, and the higher fits.
  cost-least : SaysCost t h i f → SaysCost t h i g → f.new ≤ g.new
  cost-least a b = go (le-or-lt f.new g.new)
    where
      in_table : (verdict_refusal t h ≡ 0) × (i < length (tasks_of t))
      in_table = answered-readable t h i a.answered

      go : (f.new ≤ g.new) ⊎ (g.new < f.new) → f.new ≤ g.new
      go (inl l) = l
      go (inr l) =
          let most : Fair (cost_at t i) = cost-fair t h i in_table.0 in_table.1 in
          let next : Fair (g.new + 1) = record { least = omega arith; most = omega (arith, a.most, most.most) } in
          let lower : g.new < cost_at t i = omega (arith, a.most) in
          absurd (fits-over-misses t h i (g.new + 1) f.new in_table.0 next (omega arith) a.fits (b.next lower))

  cost-or-none : SaysCost t h i f → SaysNone t h i g → ⊥
  cost-or-none a b =
      let one : Fair 1 = record { least = omega arith; most = omega arith } in
      fits-over-misses t h i 1 f.new (answered-readable t h i a.answered).0 one a.least a.fits b.one

  cost-or-refused : SaysCost t h i f → SaysRefused t h i g → ⊥
  cost-or-refused a b = omega (arith, a.answered, b.unanswered)

  none-or-refused : SaysNone t h i f → SaysRefused t h i g → ⊥
  none-or-refused a b = omega (arith, a.answered, b.unanswered)

pub says-unique : (t h : List ℕ) (i : ℕ) (f g : Figures) → Says t h i f → Says t h i g → f ≡ g
unfolding Says SaysBy
says-unique t h i f g = go f.word g.word
  where
    costs-same : SaysCost t h i f → SaysCost t h i g → f ≡ g
    costs-same a b =
        let same : f.new ≡ g.new = omega (arith, cost-least t h i f g a b, cost-least t h i g f b a) in
        a.figures ∙ ap (cost_of (cost_at t i)) same ∙ sym b.figures

    go : (v w : Word) → SaysBy v t h i f → SaysBy w t h i g → f ≡ g
    go cost cost a b = costs-same a b
    go cost none a b = absurd (cost-or-none t h i f g a b)
    go cost refused a b = absurd (cost-or-refused t h i f g a b)
    go none cost a b = absurd (cost-or-none t h i g f b a)
    go none none a b = a.figures ∙ sym b.figures
    go none refused a b = absurd (none-or-refused t h i f g a b)
    go refused cost a b = absurd (cost-or-refused t h i g f b a)
    go refused none a b = absurd (none-or-refused t h i g f b a)
    go refused refused a b = a.figures ∙ sym b.figures

-- Cuts with the same figures are the same,
cuts-once : (a b : Cut) → cut_of a.old a.new ≡ cut_of b.old b.new → a ≡ b
cuts-once a b e = go a.new refl b.new refl
  where
    go : (m : Option ℕ) → a.new ≡ m → (n : Option ℕ) → b.new ≡ n → a ≡ b
    go (Some m) em (Some n) en = let same : cost_of a.old m ≡ cost_of b.old n = rw (em, en) at e in
        λ j. record { old = (same j).old; new = (em ∙ ap Some (ap (λ (f : Figures). f.new) same) ∙ sym en) j }
    go (Some m) em None en = let same : cost_of a.old m ≡ none_of b.old = rw (em, en) at e in cc (ap (λ (f : Figures). f.word) same)
    go None em (Some n) en = let same : none_of a.old ≡ cost_of b.old n = rw (em, en) at e in cc (ap (λ (f : Figures). f.word) same)
    go None em None en = let same : none_of a.old ≡ none_of b.old = rw (em, en) at e in
        λ j. record { old = (same j).old; new = (em ∙ sym en) j }

-- and no cut has those of a refusal.
not-refused : (old : ℕ) (new : Option ℕ) → (cut_of old new).word ≡ refused → ⊥
not-refused old (Some n) e = cc e
not-refused old None e = cc e

-- Answers with the same figures are the same.
figures-once : (r s : Result Cut Refusal) → figures r ≡ figures s → r ≡ s
unfolding figures
figures-once (Ok a) (Ok b) e = ap Ok (cuts-once a b e)
figures-once (Ok a) (Err k) e = absurd (not-refused a.old a.new (ap (λ (f : Figures). f.word) e))
figures-once (Err k) (Ok a) e = absurd (not-refused a.old a.new (ap (λ (f : Figures). f.word) (sym e)))
figures-once (Err k) (Err l) e = ap Err (number-once k l (ap (λ (f : Figures). f.code) e))

pub trim-unique : TrimUnique
unfolding TrimSays
trim-unique t h i r s a b = figures-once r s (says-unique t h i (figures r) (figures s) a b)
