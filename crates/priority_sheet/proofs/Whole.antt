-- The whole: what is written meets the promise, and the promise allows no other.
use mathlib.Core.Bool.{Bool, true, false}
use mathlib.Core.List.{List}
use mathlib.Core.Logic.{◌⊎◌, inl, inr}
use mathlib.Core.Path.{◌≡◌, refl, sym, ap, subst, ◌∙◌}
use native.Mathlib.Omega.{arith}
use Prim.Native.Nat.{ℕ, zero, suc, ◌≤◌}
use lib.Dec.{eqb, eqb-suc-zero}
use lib.ListN.{length, take, length-append}
use lib.Seq.{length-sets}
use Rattle.std.specs.Prelude.{Result, Ok, Err}
use Rattle.std.specs.Result.{result_err}
use Rattle.demand.specs.Limits.{tasks_most}
use Rattle.demand.specs.Numbered.{number_of, refusal_at, answered}
use Rattle.demand.specs.Refusals.{table_refusal}
use Rattle.demand.specs.Rows.{tasks_of}
use Rattle.demand.specs.Tests.{pick}
use Rattle.demand.specs.declared.refusal.Refusal.{Refusal}
use Rattle.demand.specs.declared.refusal.Refusal.TheVariants.{FileMalformed}
use Rattle.demand.specs.declared.table.Kind.TheVariants.{Task, Handler}
use Rattle.demand.proofs.Numbered.{answered-ok, answered-err}
use Rattle.demand.proofs.Refusals.{refusal-in-range}
use Rattle.layout.specs.File.{Entry, SaysNothing}
use Rattle.layout.specs.Refusals.{refusal_in, Misplaces, TableIn}
use Rattle.layout.specs.Table.{list_of, misplaced}
use Rattle.layout.specs.declared.reader.Table.{Table}
use Rattle.layout.proofs.File.{says-unique}
use Rattle.layout.proofs.Table.{table-lists, table-refused}
use Rattle.priority.specs.Answers.{ResponsesSay}
use Rattle.priority_sheet.specs.Printed.{body_of, printed}
use Rattle.priority_sheet.specs.Whole.{page_most, laid, sheet_of, Few, FileSheet, PageSays, OnePage}
use Rattle.priority_sheet.specs.declared.Output.{Output}
use Rattle.priority_sheet.specs.declared.Responses.{Responses}
use Rattle.priority_sheet.proofs.Laid.{header, laid-front}
use Rattle.priority_sheet.proofs.Printed.{refused-line-most, task-lines-most}

-- ---- the answer for the table of a file

-- What is refused is refused, whatever the value would be,
answered-refused : {A B : Type 0} (k : ℕ) (a : A) (b : B) (e : Refusal) → Err e ≡ answered k a → Err e ≡ answered k b
unfolding answered
answered-refused zero a b e told = absurd (cc)
answered-refused (suc k) a b e told = rw (eqb-suc-zero k) (ap Err (inside told))
  where
    inside : Err e ≡ answered (suc k) a → e ≡ refusal_at (suc k)
    inside f = let g : Err e ≡ Err (refusal_at (suc k)) = rw (eqb-suc-zero k) at f in cc

-- and a value is what there is.
answered-value : {A : Type 0} (k : ℕ) (a b : A) → Ok b ≡ answered k a → (k ≡ 0) × (b ≡ a)
unfolding answered
answered-value zero a b told = (refl, cc)
answered-value (suc k) a b told =
    let g : Ok b ≡ Err (refusal_at (suc k)) = rw (eqb-suc-zero k) at told in absurd (cc)

module _ (bs : List ℕ) where
  pub sheet-refused : (e : Refusal) → TableIn bs (Err e) → FileSheet bs (Err e)
  sheet-refused e told = go (table-refused bs e told)
    where
      go : Misplaces bs e ⊎ (SaysNothing bs × (e ≡ FileMalformed)) → FileSheet bs (Err e)
      go (inl m) =
          inl (
            m.rows,
            m.says,
            subst (λ (b : Bool). Err e ≡ sheet_of b (list_of Task m.rows) (list_of Handler m.rows)) (sym m.placed)
                (answered-err _ _ e m.number),
          )
      go (inr n) = inr (n.0, ap Err n.1)

  module _ (t : Table) (told : TableIn bs (Ok t)) (ts hs : List ℕ) (tasks : ts ≡ t.tasks) (handlers : hs ≡ t.handlers) where
    -- the promise of `responses` over the file's rows
    lent : (r : Result (List ℕ) Refusal) → ResponsesSay ts hs r
        → ResponsesSay (list_of Task (table-lists bs t told).rows) (list_of Handler (table-lists bs t told).rows) r
    lent r says =
        let l = table-lists bs t told in
        subst (λ (s : List ℕ). ResponsesSay s (list_of Handler l.rows) r) (tasks ∙ l.tasks)
        (subst (λ (s : List ℕ). ResponsesSay ts s r) (handlers ∙ l.handlers) says)

    -- A refusal of it is handed on,
    pub sheet-own : (e : Refusal) → ResponsesSay ts hs (Err e) → FileSheet bs (Err e)
    sheet-own e says =
        let l = table-lists bs t told in
        inl (
          l.rows,
          l.says,
          subst (λ (b : Bool). Err e ≡ sheet_of b (list_of Task l.rows) (list_of Handler l.rows)) (sym l.placed)
              (answered-refused _ _ _ e (lent (Err e) says).answer),
        )

    -- and responses are told with the count of tasks.
    pub sheet-told : (ls : List ℕ) (n : ℕ) → ResponsesSay ts hs (Ok ls) → n ≡ length (tasks_of ts) → FileSheet bs (Ok (record { least = ls; count = n }))
    sheet-told ls n says count =
        let l = table-lists bs t told in
        let value = answered-value _ _ _ (lent (Ok ls) says).answer in
        let rows : n ≡ length (tasks_of (list_of Task l.rows)) = count ∙ ap (λ (s : List ℕ). length (tasks_of s)) (tasks ∙ l.tasks) in
        inl (
          l.rows,
          l.says,
          subst (λ (b : Bool). Ok (record { least = ls; count = n }) ≡ sheet_of b (list_of Task l.rows) (list_of Handler l.rows)) (sym l.placed)
              (answered-ok _ _ _ value.0 (λ i. record { least = value.1 i; count = rows i })),
        )

-- ---- responses are those of 64 tasks at most

few-of : (m : Bool) (t h : List ℕ) → Few (sheet_of m t h)
few-of m t h r e =
    let value = answered-value (refusal_in m t h) _ r (sym e) in
    let few : length (tasks_of t) ≤ tasks_most = (refusal-in-range t h (own m (table_refusal t h) refl value.0)).tasks-most in
    rw (ap (λ (x : Responses). x.count) value.1) few
  where
    own : (b : Bool) (k : ℕ) → table_refusal t h ≡ k → refusal_in b t h ≡ 0 → table_refusal t h ≡ 0
    own false k e z = z
    own true zero e z = e
    own true (suc k) e z =
        let told : pick (eqb (suc k) 0) 13 (suc k) ≡ 0 = rw e at z in
        let same : suc k ≡ 0 = rw (eqb-suc-zero k) at told in
        absurd (omega arith)

pub sheet-few : (bs : List ℕ) (s : Result Responses Refusal) → FileSheet bs s → Few s
sheet-few bs s (inl x) = subst Few (sym x.2) (few-of (misplaced x.0) (list_of Task x.0) (list_of Handler x.0))
sheet-few bs s (inr x) = subst Few (sym x.1) none
  where
    none : Few (Err FileMalformed)
    none r e = absurd (cc)

-- ---- the output meets the promise

pub sheet-says : (bs page page' : List ℕ) (out : Output) (s : Result Responses Refusal) → FileSheet bs s
    → (page' ≡ laid page 0 (printed s)) × (out.len ≡ length (printed s)) × (out.refusal ≡ result_err s) → PageSays bs page page' out
sheet-says bs page page' out s figures wrote =
    record { sheet = s; figures = figures; written = wrote.0; counted = wrote.1; refusal = wrote.2 }

-- ---- and no other does

sheet-unique : (bs : List ℕ) (a b : Result Responses Refusal) → FileSheet bs a → FileSheet bs b → a ≡ b
sheet-unique bs a b (inl x) (inl y) =
    let same : x.0 ≡ y.0 = says-unique bs x.0 y.0 x.1 y.1 in
    x.2 ∙ ap (λ (es : List Entry). sheet_of (misplaced es) (list_of Task es) (list_of Handler es)) same ∙ sym y.2
sheet-unique bs a b (inl x) (inr y) = absurd (y.0 x.0 x.1)
sheet-unique bs a b (inr x) (inl y) = absurd (x.0 y.0 y.1)
sheet-unique bs a b (inr x) (inr y) = x.1 ∙ sym y.1

pub page-unique : OnePage
page-unique bs page a b x y s t =
    let same : s.sheet ≡ t.sheet = sheet-unique bs s.sheet t.sheet s.figures t.figures in
    let len : x.len ≡ y.len = s.counted ∙ ap (λ (z : Result Responses Refusal). length (printed z)) same ∙ sym t.counted in
    let refusal : x.refusal ≡ y.refusal = s.refusal ∙ ap (λ (z : Result Responses Refusal). result_err z) same ∙ sym t.refusal in
    (s.written ∙ ap (λ (z : Result Responses Refusal). laid page 0 (printed z)) same ∙ sym t.written, λ i. record { len = len i; refusal = refusal i })

-- ---- what a program writes of it

-- The lines of any file have room on a page.
lines-most : (s : Result Responses Refusal) → Few s → length (printed s) ≤ page_most
unfolding printed body_of
lines-most (Ok r) few = omega (arith, length-append header (body_of (Ok r)), task-lines-most r.least r.count, few r refl)
lines-most (Err e) few = omega (arith, length-append header (body_of (Err e)), refused-line-most (number_of e))

-- So many bytes of the page can be lent, and they are the lines.
pub page-lent : (bs page page' : List ℕ) (out : Output) → length page ≡ page_most → PageSays bs page page' out
    → (out.len ≤ length page') × (out.len ≡ length (take out.len page'))
page-lent bs page page' out long says =
    let lines = printed says.sheet in
    let few : length lines ≤ page_most = lines-most says.sheet (sheet-few bs says.sheet says.figures) in
    let front : take (length lines) (laid page 0 lines) ≡ lines = laid-front page lines long few in (
      omega (arith, says.counted, ap (λ (xs : List ℕ). length xs) says.written, length-sets page 0 lines),
      says.counted
          ∙ ap length (sym front)
          ∙ ap (λ (xs : List ℕ). length (take (length lines) xs)) (sym says.written)
          ∙ ap (λ (k : ℕ). length (take k page')) (sym says.counted),
    )
