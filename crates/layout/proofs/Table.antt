-- The reader's answer: the table built is that of the rows that the file says, there is no other.
use mathlib.Core.Bool.{true, false}
use mathlib.Core.List.{List}
use mathlib.Core.Logic.{◌⊎◌, inl, inr}
use mathlib.Core.Path.{◌≡◌, refl, sym, ap, subst, ◌∙◌}
use native.Mathlib.Omega.{arith}
use Prim.Native.Nat.{ℕ, zero, suc, ◌<◌}
use lib.Dec.{eqb, eqb-suc-zero}
use Rattle.demand.specs.Numbered.{number_of}
use Rattle.demand.specs.Refusals.{table_refusal}
use Rattle.demand.proofs.Numbered.{number-pos}
use Rattle.demand.specs.Tests.{pick}
use Rattle.demand.specs.declared.table.Kind.TheVariants.{Task, Handler}
use Rattle.std.specs.Prelude.{Option, Some, None, Result, Ok, Err}
use Rattle.demand.specs.declared.refusal.Refusal.{Refusal}
use Rattle.demand.specs.declared.refusal.Refusal.TheVariants.{FileMalformed, DeadlineOutOfRange}
use Rattle.layout.specs.File.{Entry, FileSays, SaysNothing}
use Rattle.layout.specs.Refusals.{Misplaced, refusal_in, Misplaces, TableIn}
use Rattle.layout.specs.Inside.Building.{outcome}
use Rattle.layout.specs.Table.{list_of, misplaced, table_of, ReadSays, OneReading}
use Rattle.layout.specs.declared.reader.Table.{Table}
use Rattle.layout.proofs.File.{never, sound, complete, says-unique}
use Rattle.layout.proofs.Inside.Builds.{table_for}

-- ---- the table built is the answer

answer-of : (bs : List ℕ) (o : Option (List Entry)) → outcome bs ≡ o → ReadSays bs (table_for o)
unfolding ReadSays
answer-of bs None e = inr ((λ es s. never ⊥ es (sym e ∙ complete bs es s)), refl)
answer-of bs (Some es) e = inl (es, sound bs es e, refl)

pub read-says : (bs : List ℕ) (r : Result Table Refusal) → r ≡ table_for (outcome bs) → ReadSays bs r
read-says bs r e = subst (ReadSays bs) (sym e) (answer-of bs (outcome bs) refl)

pub read-unique : OneReading
unfolding ReadSays
read-unique bs t u (inl a) (inl b) = a.2 ∙ ap (λ (es : List Entry). Ok (table_of es)) (says-unique bs a.0 b.0 a.1 b.1) ∙ sym b.2
read-unique bs t u (inl a) (inr b) = absurd (b.0 a.0 a.1)
read-unique bs t u (inr a) (inl b) = absurd (a.0 b.0 b.1)
read-unique bs t u (inr a) (inr b) = a.1 ∙ sym b.1

-- ---- the table of a file

-- It is told whole.
pub record Lists (bs : List ℕ) (t : Table) : Type 0 where
  pub rows : List Entry
  pub says : FileSays bs rows
  pub placed : misplaced rows ≡ false
  pub tasks : t.tasks ≡ list_of Task rows
  pub handlers : t.handlers ≡ list_of Handler rows

pub table-lists : (bs : List ℕ) (t : Table) → TableIn bs (Ok t) → Lists bs t
unfolding TableIn
table-lists bs t told =
    record {
      rows = told.0;
      says = told.1.says;
      placed = told.1.placed;
      tasks = ap (λ (u : Table). u.tasks) told.2;
      handlers = ap (λ (u : Table). u.handlers) told.2;
    }

pub table-refused : (bs : List ℕ) (e : Refusal) → TableIn bs (Err e) → Misplaces bs e ⊎ (SaysNothing bs × (e ≡ FileMalformed))
unfolding TableIn
table-refused bs e told = told

-- From what is read.
pub table-in-broken : (bs : List ℕ) (e : Refusal) → ReadSays bs (Err e) → TableIn bs (Err e)
unfolding TableIn ReadSays
table-in-broken bs e (inl r) = absurd (cc)
table-in-broken bs e (inr r) = inr (r.0, cc)

pub table-in-placed : (bs : List ℕ) (t : Table) → ReadSays bs (Ok t) → t.misplaced ≡ false → TableIn bs (Ok t)
unfolding TableIn ReadSays
table-in-placed bs t (inl r) e =
    let is : t ≡ table_of r.0 = cc in
    (r.0, record { says = r.1; placed = sym (ap (λ (u : Table). u.misplaced) is) ∙ e }, is)
table-in-placed bs t (inr r) e = absurd (cc)

-- Where a handler has a deadline, the table's own refusal comes before 13.
table-in-misplaced : (bs : List ℕ) (t : Table) (e : Refusal) → ReadSays bs (Ok t) → t.misplaced ≡ true
    → number_of e ≡ refusal_in true t.tasks t.handlers → TableIn bs (Err e)
unfolding TableIn ReadSays
table-in-misplaced bs t e (inl r) m n =
    let is : t ≡ table_of r.0 = cc in
    inl (record {
      rows = r.0;
      says = r.1;
      placed = sym (ap (λ (u : Table). u.misplaced) is) ∙ m;
      number =
          n ∙ ap (λ (u : Table). refusal_in true u.tasks u.handlers) is;
    })
table-in-misplaced bs t e (inr r) m n = absurd (cc)

-- the first of the two
own-first : (k n : ℕ) → 0 < n → n ≡ k → n ≡ pick (eqb k 0) 13 k
own-first zero n h e = absurd (omega arith)
own-first (suc k) n h e = rw (eqb-suc-zero k) e

own-none : (k : ℕ) → 0 ≡ k → 13 ≡ pick (eqb k 0) 13 k
own-none zero e = refl
own-none (suc k) e = absurd (omega arith)

module _ (t : Table) (m : t.misplaced ≡ true) (ts hs : List ℕ) (tasks : ts ≡ t.tasks) (handlers : hs ≡ t.handlers) where
  lent : table_refusal ts hs ≡ table_refusal t.tasks t.handlers
  lent = ap (λ (s : List ℕ). table_refusal s hs) tasks ∙ ap (λ (s : List ℕ). table_refusal t.tasks s) handlers

  pub own-told : (e : Refusal) → number_of e ≡ table_refusal ts hs → Misplaced (Ok t) (Some e)
  unfolding Misplaced
  own-told e n = (m, own-first _ (number_of e) (number-pos e) (n ∙ lent))

  pub deadline-told : 0 ≡ table_refusal ts hs → Misplaced (Ok t) (Some DeadlineOutOfRange)
  unfolding Misplaced
  deadline-told n = (m, own-none _ (n ∙ lent))

pub misplaced-not : (t : Table) → t.misplaced ≡ false → Misplaced (Ok t) None
unfolding Misplaced
misplaced-not t m = m

pub misplaced-none : (e : Refusal) → Misplaced (Err e) None
unfolding Misplaced
misplaced-none e = tt

-- What is read is refused where a handler has a deadline, and stands where none has.
pub table-in-told : (bs : List ℕ) (r : Result Table Refusal) (e : Refusal) → ReadSays bs r → Misplaced r (Some e) → TableIn bs (Err e)
unfolding Misplaced
table-in-told bs (Ok t) e read m = table-in-misplaced bs t e read m.0 m.1
table-in-told bs (Err f) e read m = absurd m

pub table-in-stands : (bs : List ℕ) (r : Result Table Refusal) → ReadSays bs r → Misplaced r None → TableIn bs r
unfolding Misplaced
table-in-stands bs (Ok t) read m = table-in-placed bs t read m
table-in-stands bs (Err e) read m = table-in-broken bs e read

-- So the file of such a table is refused by the table's own refusal, or by 13.
module _ (bs : List ℕ) (t : Table) (read : ReadSays bs (Ok t)) (m : t.misplaced ≡ true) (ts hs : List ℕ)
    (tasks : ts ≡ t.tasks) (handlers : hs ≡ t.handlers) where
  pub misplaced-own : (e : Refusal) → number_of e ≡ table_refusal ts hs → TableIn bs (Err e)
  misplaced-own e n = table-in-told bs (Ok t) e read (own-told t m ts hs tasks handlers e n)

  pub misplaced-13 : 0 ≡ table_refusal ts hs → TableIn bs (Err DeadlineOutOfRange)
  misplaced-13 n = table-in-told bs (Ok t) DeadlineOutOfRange read (deadline-told t m ts hs tasks handlers n)
