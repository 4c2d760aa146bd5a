-- The loop that moves entries up until a given one fits: what stands before the gap, and the insertion behind it that is still to come.
use mathlib.Core.List.{List, [], ◌∷◌, ◌++◌}
use mathlib.Core.Path.{◌≡◌, ap, sym, ◌∙◌}
use native.Mathlib.Numerals.{add-one}
use native.Mathlib.Omega.{arith}
use Prim.Native.Nat.{ℕ, suc, ◌+◌, ◌≤◌, ◌<◌}
use lib.ListN.{length, get_or, set, take, drop, drop_of_length-le}
use lib.Seq.{take-suc-set, drop-set-lt, drop-cons, append_snoc, set_split}
use Rattle.walk.specs.Queue.{no_entry, insert}
use Rattle.walk.specs.declared.Entry.{Entry}
use Rattle.walk.proofs.Queue.{insert-before, insert-behind, insert-nil}

-- the queue q with the entry e put in behind the gap at place i
abbrev pub settled : List Entry → ℕ → Entry → List Entry
settled q i e = take i q ++ insert e (drop (i + 1) q)

module _ (q : List Entry) (i : ℕ) (e : Entry) where
  pub settled-turn : i + 1 < length q → (get_or q (i + 1) no_entry).next < e.next → settled (set q i (get_or q (i + 1) no_entry)) (i + 1) e ≡ settled q i e
  settled-turn h l =
      let f : Entry = get_or q (i + 1) no_entry in
      let behind : drop (i + 1) q ≡ f ∷ drop (i + 1 + 1) q = drop-cons q (i + 1) no_entry h ∙ ap (λ (n : ℕ). f ∷ drop n q) (sym (add-one (i + 1))) in
      let front : take (i + 1) (set q i f) ≡ take i q ++ (f ∷ []) = ap (λ (n : ℕ). take n (set q i f)) (add-one i) ∙ take-suc-set q i f (omega arith) in
      let same : drop (i + 1 + 1) (set q i f) ≡ drop (i + 1 + 1) q = drop-set-lt (i + 1 + 1) q i f (omega arith) in
      rw (front, same, behind, insert-behind e f (drop (i + 1 + 1) q) l) (append_snoc (take i q) f (insert e (drop (i + 1 + 1) q)))

  pub settled_here : i + 1 < length q → e.next ≤ (get_or q (i + 1) no_entry).next → set q i e ≡ settled q i e
  settled_here h l =
      let f : Entry = get_or q (i + 1) no_entry in
      let behind : drop (i + 1) q ≡ f ∷ drop (suc (i + 1)) q = drop-cons q (i + 1) no_entry h in
      rw (set_split q i e (omega arith), ← add-one i, behind, insert-before e f (drop (suc (i + 1)) q) l)

  pub settled-last : i < length q → length q ≤ i + 1 → set q i e ≡ settled q i e
  settled-last h l =
      let none : drop (i + 1) q ≡ [] = drop_of_length-le q l in
      rw (set_split q i e h, ← add-one i, none, insert-nil e)
