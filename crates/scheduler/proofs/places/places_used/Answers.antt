use mathlib.Core.Bool.{not}
use mathlib.Core.List.{List}
use mathlib.Core.Path.{◌≡◌, ap, ◌∙◌}
use native.Mathlib.Omega.{arith}
use borrow.Author.Rules.{rules}
use borrow.Author.Tests.{tests}
use Prim.Native.Nat.{ℕ, ◌+◌, ◌-◌, ◌*◌}
use lib.Dec.{eqb}
use lib.ListN.{length, take, drop, length-drop}
use lib.Seq.{take_all}
use Rattle.std.proofs.lemmas.Iterator.{YieldsList-from_slice}
use Rattle.std.proofs.lemmas.Iterator.Search.{any_from_yields_List}
use Rattle.scheduler.specs.Scans.{used}
use Rattle.scheduler.proofs.places.places_used.Goals as goal

-- The part from a place on, as the code takes it.
behind : (n k : ℕ) (xs : List ℕ) → length xs ≡ n → take (n - k) (drop k xs) ≡ drop k xs
behind n k xs e = take_all (n - k) (drop k xs) (omega (arith, length-drop k xs))

pub returns : goal.returns
unfolding used
returns c =
    let run = c.args.run.now in
    let past_t = YieldsList-from_slice (drop (3 * run.task_count) run.tasks) (c.iter.ensures.rest ∙ behind 192 c.numbers.result run.tasks (search rules) ∙ ap (λ (k : ℕ). drop k run.tasks) c.numbers.ensures) in
    let t : c.any-t.result ≡ used (drop (3 * run.task_count) run.tasks) = any_from_yields_List (λ x. not (eqb x 0)) _ _ _ c.any-t.ensures.ran past_t (λ x b q k. search (rules, tests)) in
    let past_h = YieldsList-from_slice (drop (2 * run.handler_count) run.handlers) (c.iter-2.ensures.rest ∙ behind 32 c.numbers-2.result run.handlers (search rules) ∙ ap (λ (k : ℕ). drop k run.handlers) c.numbers-2.ensures) in
    let h : c.any-h.result ≡ used (drop (2 * run.handler_count) run.handlers) = any_from_yields_List (λ x. not (eqb x 0)) _ _ _ c.any-h.ensures.ran past_h (λ x b q k. search (rules, tests)) in
    let past_x = YieldsList-from_slice (drop (run.task_count + run.handler_count) run.next) (c.iter-3.ensures.rest ∙ behind 80 (run.task_count + run.handler_count) run.next (search rules)) in
    let x : c.any-x.result ≡ used (drop (run.task_count + run.handler_count) run.next) = any_from_yields_List (λ x. not (eqb x 0)) _ _ _ c.any-x.ensures.ran past_x (λ x b q k. search (rules, tests)) in
    let past_d = YieldsList-from_slice (drop (run.task_count) run.due) (c.iter-4.ensures.rest ∙ behind 64 (run.task_count) run.due (search rules)) in
    let d : c.any-d.result ≡ used (drop (run.task_count) run.due) = any_from_yields_List (λ x. not (eqb x 0)) _ _ _ c.any-d.ensures.ran past_d (λ x b q k. search (rules, tests)) in
    let past_o = YieldsList-from_slice (drop (run.task_count + run.handler_count) run.owed) (c.iter-5.ensures.rest ∙ behind 80 (run.task_count + run.handler_count) run.owed (search rules)) in
    let o : c.any-o.result ≡ used (drop (run.task_count + run.handler_count) run.owed) = any_from_yields_List (λ x. not (eqb x 0)) _ _ _ c.any-o.ensures.ran past_o (λ x b q k. search (rules, tests)) in
    rw (t, h, x, d, o)
