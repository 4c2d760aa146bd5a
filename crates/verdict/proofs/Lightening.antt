-- A yes holds under less (specs/Lightening): whatever passes on a table passes on every lighter one.
use mathlib.Core.List.{List}
use mathlib.Core.Path.{◌≡◌, refl, subst}
use native.Mathlib.Omega.{arith}
use Prim.Native.Nat.{ℕ}
use Rattle.demand.specs.Lighter.{Lighter}
use Rattle.demand.specs.Refusals.{InRange}
use Rattle.demand.specs.Rows.{Row, Positive, tasks_of, handlers_of}
use Rattle.demand.proofs.Lighter.{passes-lighter}
use Rattle.demand.proofs.Inside.Sizes.{fair-positive}
use Rattle.verdict.specs.Lightening.{YesUnderLess}
use Rattle.verdict.specs.Lengths.{AlwaysPasses}
use Rattle.verdict.specs.Promise.{Word, Figures, figures, verdict_refusal, SaysFits, SaysBy, Says, VerdictSays}
use Rattle.verdict.specs.Promise.Word.{fits, misses, refused}
use Rattle.verdict.proofs.Lengths.{fits-never-fails}
use Rattle.verdict.proofs.Readable.{readable-in-range}

-- Every length of the lighter table passes.
pub always-lighter : {ts hs ts' hs' : List Row} → Positive ts → Positive hs → Lighter ts' ts → Lighter hs' hs → AlwaysPasses ts hs → AlwaysPasses ts' hs'
unfolding AlwaysPasses
always-lighter pt ph wt wh passes l from = passes-lighter l pt ph wt wh (passes l from)

-- Figures whose word is fits say that all passes.
pub says-fits : (t h : List ℕ) (g : Figures) → g.word ≡ fits → Says t h g → SaysFits t h g
unfolding Says SaysBy
says-fits t h g e s = subst (λ (w : Word). SaysBy w t h g) e s

-- A readable table that always passes is told nothing but fits.
pub only-fits : (t h : List ℕ) (g : Figures) → verdict_refusal t h ≡ 0 → AlwaysPasses (tasks_of t) (handlers_of h) → Says t h g → g.word ≡ fits
unfolding Says SaysBy
only-fits t h g readable passes = go g.word
  where
    go : (w : Word) → SaysBy w t h g → w ≡ fits
    go fits s = refl
    go misses s = absurd (fits-never-fails (tasks_of t) (handlers_of h) g.interval passes s.shortest)
    go refused s = absurd (omega (arith, s.unreadable))

-- Demand 3, of the verdict's own promise.
pub yes-under-less : YesUnderLess
unfolding YesUnderLess VerdictSays
yes-under-less t h t' h' r r' says word wt wh readable says' =
    let was : SaysFits t h (figures r) = says-fits t h (figures r) word says in
    let fair : InRange (tasks_of t) (handlers_of h) = readable-in-range t h was.readable in
    let passes : AlwaysPasses (tasks_of t') (handlers_of h') =
    always-lighter (fair-positive (tasks_of t) fair.tasks) (fair-positive (handlers_of h) fair.handlers) wt wh was.passes in
    only-fits t' h' (figures r') readable passes says'
