-- Counts carried from line to line are the counts of the words (specs/Counts).
use mathlib.Core.List.{List, [], ◌∷◌}
use mathlib.Core.Path.{◌≡◌, sym, ◌∙◌}
use native.Mathlib.Nat.{add-zero, zero-add}
use native.Mathlib.Omega.{arith}
use Prim.Native.Nat.{ℕ, suc, ◌+◌, ◌≤◌, min}
use lib.ListN.{length}
use Rattle.charge_lines.specs.Counts.{most, counted, tallied_on, is_fits, is_misses, is_none, count, TallyCounts}
use Rattle.charge_lines.specs.declared.counts.Counts.{Counts}
use Rattle.charges.specs.declared.figures.Word.{Word}
use Rattle.charges.specs.declared.figures.Word.TheVariants as word

-- One more is counted as long as there is room,
one_more : (x k n : ℕ) → x + suc n ≤ most → min (x + 1) most + k ≡ x + (1 + k)
one_more x k n room = omega arith

-- and no more of the others.
no_more : (x k : ℕ) → x + k ≡ x + (0 + k)
no_more x k = omega arith

-- From any counts on, as long as no number is full.
tally-on : (c : Counts) (ws : List Word) → c.fits + length ws ≤ most → c.misses + length ws ≤ most → c.none + length ws ≤ most
    → tallied_on c ws ≡ record { fits = c.fits + count is_fits ws; misses = c.misses + count is_misses ws; none = c.none + count is_none ws }
unfolding tallied_on count
tally-on c [] f m n = λ i. record { fits = sym (add-zero c.fits) i; misses = sym (add-zero c.misses) i; none = sym (add-zero c.none) i }
tally-on c (word.Fits ∷ ws) f m n =
    tally-on (counted c word.Fits) ws (omega arith) (omega arith) (omega arith)
    ∙ (λ i. record {
      fits = one_more c.fits (count is_fits ws) (length ws) f i;
      misses = no_more c.misses (count is_misses ws) i;
      none = no_more c.none (count is_none ws) i;
    })
tally-on c (word.Misses ∷ ws) f m n =
    tally-on (counted c word.Misses) ws (omega arith) (omega arith) (omega arith)
    ∙ (λ i. record {
      fits = no_more c.fits (count is_fits ws) i;
      misses = one_more c.misses (count is_misses ws) (length ws) m i;
      none = no_more c.none (count is_none ws) i;
    })
tally-on c (word.None ∷ ws) f m n =
    tally-on (counted c word.None) ws (omega arith) (omega arith) (omega arith)
    ∙ (λ i. record {
      fits = no_more c.fits (count is_fits ws) i;
      misses = no_more c.misses (count is_misses ws) i;
      none = one_more c.none (count is_none ws) (length ws) n i;
    })
tally-on c (word.Refused ∷ ws) f m n =
    tally-on (counted c word.Refused) ws (omega arith) (omega arith) (omega arith)
    ∙ (λ i. record {
      fits = no_more c.fits (count is_fits ws) i;
      misses = no_more c.misses (count is_misses ws) i;
      none = one_more c.none (count is_none ws) (length ws) n i;
    })

pub tally-counts : TallyCounts
tally-counts ws short =
    tally-on (record { fits = 0; misses = 0; none = 0 }) ws (omega arith) (omega arith) (omega arith)
    ∙ (λ i. record { fits = zero-add (count is_fits ws) i; misses = zero-add (count is_misses ws) i; none = zero-add (count is_none ws) i })
