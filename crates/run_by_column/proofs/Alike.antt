-- Two tables that are refused alike get no run alike.
use mathlib.Core.List.{List}
use mathlib.Core.Path.{◌≡◌, sym, ap, ◌∙◌}
use native.Mathlib.Omega.{arith}
use borrow.Author.Tests.{ne_eqb}
use Prim.Native.Nat.{ℕ, ◌<◌}
use Rattle.columns.specs.Held.{Alike}
use Rattle.std.specs.Prelude.{Err}
use Rattle.demand.specs.Numbered.{refusal_at}
use Rattle.demand.specs.Refusals.{table_refusal}
use Rattle.scheduler.specs.Promise.{FreshSays}
use Rattle.scheduler.specs.Start.{fresh_of, no_run}
use Rattle.scheduler.specs.declared.Fresh.{Fresh}

refused-run : (t h : List ℕ) → 0 < table_refusal t h → fresh_of t h ≡ record { run = no_run; answer = Err (refusal_at (table_refusal t h)) }
unfolding fresh_of
refused-run t h some = rw (ne_eqb (table_refusal t h) 0 (λ z. omega arith))

pub fresh-alike : (t h t' h' : List ℕ) → Alike t h t' h' → (a : Fresh) → FreshSays t h a → FreshSays t' h' a
fresh-alike t h t' h' alike a says =
    let there : 0 < table_refusal t' h' = omega (arith, alike.same, alike.some) in
    record {
      answer =
          says.answer ∙ refused-run t h alike.some
          ∙ ap (λ (k : ℕ). record { run = no_run; answer = Err (refusal_at k) }) alike.same
          ∙ sym (refused-run t' h' there);
      figured = says.figured ∙ alike.same;
      zeros = λ some. says.zeros alike.some;
    }
