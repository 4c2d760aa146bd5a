-- The numbers of a row are noted, and the guard that they make is the one whose row was read.
--   filled kind j xs vs   == the numbers xs with those of vs noted from field j on, where the kind has them
--   kind_of g, values_of g  == the kind of a guard, and the nine numbers of its row, 0 where its kind has none
--   noting g xs           == the numbers xs with those of g noted
use mathlib.Core.Bool.{Bool, true, false}
use mathlib.Core.List.{List, [], ◌∷◌}
use mathlib.Core.Path.{◌≡◌, refl, ap, ◌∙◌}
use native.Mathlib.Omega.{arith}
use Prim.Native.Nat.{ℕ, zero, suc, ◌+◌, ◌<◌, ◌≤◌}
use lib.ListN.{length, get_or, set, length-set}
use lib.Seq.{get_or-set_same, get_or-set_other}
use Rattle.demand.specs.Tests.{pick}
use Rattle.guard_file.specs.File.{Short, Lawful}
use Rattle.guard_file.specs.Inside.Steps.{fields, given, guard_of}
use Rattle.guard_file.specs.declared.words.Kind.{Kind}
use Rattle.guard_file.specs.declared.words.Kind.TheVariants.{Single, Burst}
use Rattle.guards.specs.declared.Guard.{Guard}
use Rattle.guards.specs.declared.Guard.TheVariants.{Strict, Bursty}

abbrev pub filled_at : Kind → ℕ → ℕ → List ℕ → List ℕ
filled_at kind j v values = pick (given kind j) (set values j v) values

abbrev pub filled : Kind → ℕ → List ℕ → List ℕ → List ℕ
filled kind j values [] = values
filled kind j values (v ∷ vs) = filled kind (suc j) (filled_at kind j v values) vs

abbrev pub Shorts : List ℕ → Type 0
Shorts [] = Unit
Shorts (v ∷ vs) = Short v × Shorts vs

-- ---- the numbers of a row are noted

filled-at-long : (kind : Kind) (j v : ℕ) (values : List ℕ) → length (filled_at kind j v values) ≡ length values
filled-at-long kind j v values = go (given kind j)
  where
    go : (t : Bool) → length (pick t (set values j v) values) ≡ length values
    go true = length-set values j v
    go false = refl

pub filled-long : (kind : Kind) (j : ℕ) (values vs : List ℕ) → length (filled kind j values vs) ≡ length values
filled-long kind j values [] = refl
filled-long kind j values (v ∷ vs) = filled-long kind (suc j) (filled_at kind j v values) vs ∙ filled-at-long kind j v values

filled-below : (kind : Kind) (j : ℕ) (values vs : List ℕ) (i : ℕ) → i < j → get_or (filled kind j values vs) i 0 ≡ get_or values i 0
filled-below kind j values [] i h = refl
filled-below kind j values (v ∷ vs) i h = filled-below kind (suc j) (filled_at kind j v values) vs i (omega arith) ∙ go (given kind j)
  where
    go : (t : Bool) → get_or (pick t (set values j v) values) i 0 ≡ get_or values i 0
    go true = get_or-set_other values j i v 0 (λ e. omega arith)
    go false = refl

filled-here : (kind : Kind) (j : ℕ) (values vs : List ℕ) (k : ℕ) → given kind (j + k) ≡ true → k < length vs → j + length vs ≤ length values
    → get_or (filled kind j values vs) (j + k) 0 ≡ get_or vs k 0
filled-here kind j values [] k has h room = absurd (omega arith)
filled-here kind j values (v ∷ vs) zero has h room =
    let e : j + 0 ≡ j = omega arith in
    let has' : given kind j ≡ true = rw e at has in
    rw e
    (filled-below kind (suc j) (filled_at kind j v values) vs j (omega arith)
    ∙ ap (λ (t : Bool). get_or (pick t (set values j v) values) j 0) has'
    ∙ get_or-set_same values j v 0 (omega arith))
filled-here kind j values (v ∷ vs) (suc k) has h room =
    let e : j + suc k ≡ suc j + k = omega arith in
    rw e (filled-here kind (suc j) (filled_at kind j v values) vs k (rw e at has) (omega arith)
    (omega (arith, filled-at-long kind j v values)))

-- ---- a guard

abbrev pub kind_of : Guard → Kind
kind_of (Strict int flip setup work expire gap) = Single
kind_of (Bursty n int flip work expire count clear gap) = Burst

abbrev pub values_of : Guard → List ℕ
values_of (Strict int flip setup work expire gap) = 0 ∷ int ∷ flip ∷ setup ∷ work ∷ expire ∷ 0 ∷ 0 ∷ gap ∷ []
values_of (Bursty n int flip work expire count clear gap) = n ∷ int ∷ flip ∷ 0 ∷ work ∷ expire ∷ count ∷ clear ∷ gap ∷ []

abbrev pub noting : Guard → List ℕ → List ℕ
noting g values = filled (kind_of g) 0 values (values_of g)

pub shorts : (g : Guard) → Lawful g → Shorts (values_of g)
shorts (Strict int flip setup work expire gap) (a, (b, (c, (d, (e, (f, (x, (y, (z, w))))))))) =
    (omega arith, (b, (c, (d, (e, (f, (omega arith, (omega arith, (z, tt)))))))))
shorts (Bursty n int flip work expire count clear gap) (a, (b, (c, (d, (e, (f, (x, (y, (z, w))))))))) =
    (a, (b, (c, (omega arith, (e, (f, (x, (y, (z, tt)))))))))

pub values-nine : (g : Guard) → length (values_of g) ≡ fields
values-nine (Strict int flip setup work expire gap) = refl
values-nine (Bursty n int flip work expire count clear gap) = refl

pub guard-back : (g : Guard) (values : List ℕ) → length values ≡ fields → guard_of (kind_of g) (noting g values) ≡ g
guard-back (Strict int flip setup work expire gap) values long =
    let vs = values_of (Strict int flip setup work expire gap) in
    let is : (k : ℕ) → given Single (0 + k) ≡ true → k < 9 → get_or (filled Single 0 values vs) (0 + k) 0 ≡ get_or vs k 0 =
    λ k has h. filled-here Single 0 values vs k has h (omega arith) in
    λ i. Strict (is 1 refl (omega arith) i) (is 2 refl (omega arith) i) (is 3 refl (omega arith) i) (is 4 refl (omega arith) i)
    (is 5 refl (omega arith) i) (is 8 refl (omega arith) i)
guard-back (Bursty n int flip work expire count clear gap) values long =
    let vs = values_of (Bursty n int flip work expire count clear gap) in
    let is : (k : ℕ) → given Burst (0 + k) ≡ true → k < 9 → get_or (filled Burst 0 values vs) (0 + k) 0 ≡ get_or vs k 0 =
    λ k has h. filled-here Burst 0 values vs k has h (omega arith) in
    λ i. Bursty (is 0 refl (omega arith) i) (is 1 refl (omega arith) i) (is 2 refl (omega arith) i) (is 4 refl (omega arith) i)
    (is 5 refl (omega arith) i) (is 6 refl (omega arith) i) (is 7 refl (omega arith) i) (is 8 refl (omega arith) i)
