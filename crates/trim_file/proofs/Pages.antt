-- What a program lends of an output: there is room on the page for all of it.
--   Lent out    its length counts bytes of the page
use mathlib.Core.Bool.{Bool, true, false}
use mathlib.Core.List.{List, ◌++◌}
use mathlib.Core.Logic.{inl, inr}
use mathlib.Core.Path.{◌≡◌, sym, subst}
use native.Mathlib.Omega.{arith}
use Prim.Native.Nat.{ℕ, ◌+◌, ◌≤◌}
use lib.ListN.{length, length-append, replicate, take}
use lib.Seq.{length-take-le}
use Rattle.std.specs.Prelude.{Option, Some, None, Result, Ok, Err}
use Rattle.demand.specs.declared.refusal.Refusal.{Refusal}
use Rattle.demand.specs.declared.table.Kind.TheVariants.{Task, Handler}
use Rattle.layout.specs.File.{Entry, file_most, FileSays}
use Rattle.layout.specs.Table.{list_of, misplaced}
use Rattle.page.proofs.Laid.{laid-length}
use Rattle.recost.proofs.Rewritten.{read_back}
use Rattle.trim.specs.Costs.{cost_at}
use Rattle.trim.specs.Promise.{figures, TrimSays, Says, SaysBy}
use Rattle.trim.specs.declared.Cut.{Cut}
use Rattle.trim_file.specs.Printed.{Outcome, lines_of, file_of, number_of}
use Rattle.trim_file.specs.Printed.Outcome.{refused, none, cost}
use Rattle.trim_file.specs.Whole.{page_most, page_of, output_of, AnswerIn, CutComes, Comes, OutcomeSays, TrimmedSays}
use Rattle.trim_file.specs.declared.Output.{Output}
use Rattle.trim_file.proofs.Printed.{lines_most, cost-most, none-most}
use Rattle.trim_file.proofs.Whole.{cost-told, row_in, cost-in}
use Rattle.trim_file.proofs.Written.{blank-length}

abbrev pub Lent : Output → Type 0
Lent out = (out.len ≤ length out.bytes) × (out.len ≡ length (take out.len out.bytes))

out-lent : (lines file : List ℕ) (k : ℕ) → length lines + length file ≤ page_most → Lent (output_of lines file k)
unfolding page_of
out-lent lines file k fits =
    let page : List ℕ = replicate page_most 0 in
    let whole = length-append lines file in
    let long = laid-length page (lines ++ file) 0 (omega (arith, whole, blank-length)) in
    let within : length (lines ++ file) ≤ length (output_of lines file k).bytes = omega (arith, whole, long, blank-length) in
    (within, sym (length-take-le (length (lines ++ file)) (output_of lines file k).bytes within))

lines-few : (i : ℕ) (o : Outcome) → length (lines_of i o) ≤ lines_most
lines-few i (refused k) = cost-most 0 k 0 0
lines-few i (none old) = none-most i old
lines-few i (cost old new file) = cost-most i 0 old new

-- A new cost is no greater than the old one,
cost-less : (m : Bool) (t h : List ℕ) (i old new : ℕ) → AnswerIn m t h i (Ok (record { old = old; new = Some new })) → new ≤ cost_at t i
unfolding AnswerIn TrimSays Says SaysBy figures
cost-less true t h i old new e = absurd (cc)
cost-less false t h i old new says = says.most

-- so the new file is no longer than a file may be.
cut-few : (bs : List ℕ) (es : List Entry) (i : ℕ) → FileSays bs es → (old : ℕ) (new : Option ℕ)
    → AnswerIn (misplaced es) (list_of Task es) (list_of Handler es) i (Ok (record { old = old; new = new }))
    → (o : Outcome) → CutComes bs es i old new o → length (file_of o) ≤ file_most
cut-few bs es i file old None says o e = subst (λ (x : Outcome). length (file_of x) ≤ file_most) (sym e) (omega arith)
cut-few bs es i file old (Some new) says o e =
    let told = cost-told (misplaced es) (list_of Task es) (list_of Handler es) i old new says in
    let less = cost-less (misplaced es) (list_of Task es) (list_of Handler es) i old new says in
    let row = row_in bs es i file told.0 in
    let says-new = read_back bs e.0 es i new row (omega (arith, less, cost-in bs es i file)) file e.1 in
    subst (λ (x : Outcome). length (file_of x) ≤ file_most) (sym e.2) says-new.small

file-few : (bs : List ℕ) (es : List Entry) (i : ℕ) → FileSays bs es → (a : Result Cut Refusal)
    → AnswerIn (misplaced es) (list_of Task es) (list_of Handler es) i a → (o : Outcome) → Comes bs es i a o → length (file_of o) ≤ file_most
unfolding Comes
file-few bs es i file (Ok cut) says o e = cut-few bs es i file cut.old cut.new says o e
file-few bs es i file (Err r) says o e = subst (λ (x : Outcome). length (file_of x) ≤ file_most) (sym e) (omega arith)

outcome-few : (bs : List ℕ) (i : ℕ) (o : Outcome) → OutcomeSays bs i o → length (file_of o) ≤ file_most
outcome-few bs i o (inl a) = file-few bs a.0 i a.1 a.2.answer a.2.says o a.2.comes
outcome-few bs i o (inr b) = subst (λ (x : Outcome). length (file_of x) ≤ file_most) (sym b.1) (omega arith)

pub trimmed-lent : (bs : List ℕ) (i : ℕ) (out : Output) → TrimmedSays bs i out → Lent out
trimmed-lent bs i out says =
    let o = says.outcome in
    subst Lent (sym says.written)
    (out-lent (lines_of i o) (file_of o) (number_of o) (omega (arith, lines-few i o, outcome-few bs i o says.says)))
