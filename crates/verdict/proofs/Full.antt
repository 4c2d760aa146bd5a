-- What a load says (specs/Full).
use mathlib.Core.List.{List}
use mathlib.Core.Path.{◌≡◌, ap}
use native.Mathlib.Omega.{arith}
use Prim.Native.Nat.{ℕ}
use Rattle.demand.specs.Rows.{tasks_of, handlers_of}
use Rattle.verdict.specs.Full.{LoadTells}
use Rattle.verdict.specs.Loads.{whole, load}
use Rattle.verdict.specs.Multiples.{common}
use Rattle.verdict.specs.Promise.{Word, Figures, figures, verdict_refusal, SaysBy, Says, VerdictSays}
use Rattle.verdict.specs.Promise.Word.{fits, misses, refused}
use Rattle.verdict.proofs.Loads.{millionths-full}
use Rattle.verdict.proofs.Readable.{readable-positive}

-- The figure of a readable table is its load, yes or no.
pub says-load : (t h : List ℕ) (g : Figures) → verdict_refusal t h ≡ 0 → Says t h g → g.load ≡ load (tasks_of t) (handlers_of h)
unfolding Says SaysBy
says-load t h g readable = go g.word
  where
    go : (w : Word) → SaysBy w t h g → g.load ≡ load (tasks_of t) (handlers_of h)
    go fits s = ap (λ (f : Figures). f.load) s.figures
    go misses s = ap (λ (f : Figures). f.load) s.figures
    go refused s = absurd (omega (arith, s.unreadable))

pub load-tells : LoadTells
unfolding LoadTells VerdictSays load
load-tells t h r says readable =
    let same = says-load t h (figures r) readable says in
    let full = millionths-full (whole (tasks_of t) (handlers_of h)) (common (tasks_of t) (handlers_of h)) (readable-positive t h readable) in
    (λ few. full.0 (omega arith), λ light. omega (arith, full.1 light))
