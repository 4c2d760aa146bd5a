-- The name of a row is read as that row.
use mathlib.Core.Bool.{Bool, true, false, ◌&&◌}
use mathlib.Core.List.{List, [], ◌∷◌}
use mathlib.Core.Path.{◌≡◌, refl, sym, ap, ◌∙◌}
use native.Mathlib.Omega.{arith}
use lib.Dec.{eqb}
use lib.ListN.{take, drop}
use lib.Pointwise.{pointwise}
use Prim.Native.Nat.{ℕ}
use Rattle.demand.specs.Tests.{pick}
use Rattle.text.specs.Spelled.{spelled}
use Rattle.text.proofs.Spellings.{spelled-read}
use Rattle.trim_file.specs.Names.{row_limit, row_named, NamesRead}

-- Behind a `T` the digits say the row,
pub named-some : (bs digits : List ℕ) {r : ℕ} → pointwise eqb (take 1 bs) (84 ∷ []) ≡ true → digits ≡ drop 1 bs → r ≡ spelled row_limit digits
    → r ≡ row_named bs
unfolding row_named
named-some [] digits e d f = absurd (cc)
named-some (b ∷ bs) digits e d f =
    f ∙ ap (spelled row_limit) d ∙ sym (ap (λ (t : Bool). pick t (spelled row_limit bs) row_limit) (go (eqb b 84) e))
  where
    go : (t : Bool) → t && true ≡ true → t ≡ true
    go true e = refl
    go false e = absurd (cc)

-- and no other word does.
pub named-none : (bs : List ℕ) → pointwise eqb (take 1 bs) (84 ∷ []) ≡ false → row_limit ≡ row_named bs
unfolding row_named
named-none [] e = refl
named-none (b ∷ bs) e = sym (ap (λ (t : Bool). pick t (spelled row_limit bs) row_limit) (go (eqb b 84) e))
  where
    go : (t : Bool) → t && true ≡ false → t ≡ false
    go true e = absurd (cc)
    go false e = refl

pub names-read : NamesRead
unfolding row_named
names-read i l = spelled-read 1000000 i (omega arith) (omega arith) l
