-- The reader's answer: the schedule built is that of the rows that the file says, and there is no other.
use mathlib.Core.List.{List}
use mathlib.Core.Logic.{inl, inr}
use mathlib.Core.Path.{◌≡◌, refl, sym, ap, subst, ◌∙◌}
use Prim.Native.Nat.{ℕ, ◌-◌}
use lib.ListN.{length, take, replicate}
use lib.Seq.{take-append_seam}
use Rattle.schedule_file.specs.File.{Entry, FileSays, SaysNothing}
use Rattle.std.specs.Prelude.{Option, Some, None, Result, Ok, Err}
use Rattle.demand.specs.declared.refusal.Refusal.{Refusal}
use Rattle.demand.specs.declared.refusal.Refusal.TheVariants.{FileMalformed}
use Rattle.schedule_file.specs.Inside.Building.{outcome}
use Rattle.schedule_file.specs.Inside.Built.{schedule_for}
use Rattle.schedule_file.specs.Schedule.{numbers_of, numbers_most, filled, schedule_of, listed, ReadSays, OneReading}
use Rattle.schedule_file.specs.declared.reader.Schedule.{Schedule}
use Rattle.schedule_file.proofs.File.{never, sound, complete, says-unique}

answer-of : (bs : List ℕ) (o : Option (List Entry)) → outcome bs ≡ o → ReadSays bs (schedule_for o)
unfolding ReadSays
answer-of bs None e = inr ((λ es s. never ⊥ es (sym e ∙ complete bs es s)), refl)
answer-of bs (Some es) e = inl (es, sound bs es e, refl)

-- What the outcome comes to is the answer.
pub read-says : (bs : List ℕ) (r : Result Schedule Refusal) → r ≡ schedule_for (outcome bs) → ReadSays bs r
read-says bs r e = subst (ReadSays bs) (sym e) (answer-of bs (outcome bs) refl)

-- There is no other.
pub read-unique : OneReading
unfolding ReadSays
read-unique bs q r (inl a) (inl b) = a.2 ∙ ap (λ (es : List Entry). Ok (schedule_of es)) (says-unique bs a.0 b.0 a.1 b.1) ∙ sym b.2
read-unique bs q r (inl a) (inr b) = absurd (b.0 a.0 a.1)
read-unique bs q r (inr a) (inl b) = absurd (a.0 b.0 b.1)
read-unique bs q r (inr a) (inr b) = a.1 ∙ sym b.1

-- ---- what a crate above needs of it

-- The numbers in front are the segments'.
filled-take : (s : List ℕ) → take (length s) (filled s) ≡ s
unfolding filled
filled-take s = take-append_seam s (replicate (numbers_most - length s) 0)

-- The list that is told, or a file that says none.
pub read-said : (bs : List ℕ) (t : Schedule) → ReadSays bs (Ok t) → (es : List Entry) × FileSays bs es × (listed t ≡ numbers_of es)
unfolding ReadSays
read-said bs t (inl a) =
    let is : t ≡ schedule_of a.0 = cc in
    (a.0, a.1, ap listed is ∙ filled-take (numbers_of a.0))
read-said bs t (inr a) = absurd (cc)

pub read-broken : (bs : List ℕ) (e : Refusal) → ReadSays bs (Err e) → SaysNothing bs × (e ≡ FileMalformed)
unfolding ReadSays
read-broken bs e (inl a) = absurd (cc)
read-broken bs e (inr a) = (a.0, cc)
