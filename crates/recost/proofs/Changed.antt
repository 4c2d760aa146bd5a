-- What the rewritten file says as a table: one number changed.
use mathlib.Core.Bool.{Bool, ◌||◌}
use mathlib.Core.List.{List, [], ◌∷◌}
use mathlib.Core.Path.{◌≡◌, refl, ap}
use native.Mathlib.Omega.{arith}
use Prim.Native.Nat.{ℕ, zero, suc, ◌*◌}
use lib.ListN.{length, get_or, set}
use Rattle.demand.specs.Rows.{tasks_of}
use Rattle.demand.specs.declared.table.Kind.TheVariants.{Task, Handler}
use Rattle.layout.specs.File.{Entry, entry}
use Rattle.layout.specs.Table.{list_of, deadline_of, is_number, misplaced}
use Rattle.recost.specs.Rewritten.{recost, cost_in, tasks_in, TableChanged}

three : (i : ℕ) → 3 * suc i ≡ suc (suc (suc (3 * i)))
three i = omega arith

present : (es : List Entry) (i : ℕ) → cost_in es i ≡ get_or (list_of Task es) (3 * i) 0
unfolding cost_in
present [] i = refl
present (entry Task x p last ∷ es) zero = refl
present (entry Task x p last ∷ es) (suc i) = rw (three i) (present es i)
present (entry Handler x p last ∷ es) i = present es i

tasks : (es : List Entry) (i c : ℕ) → list_of Task (recost es i c) ≡ set (list_of Task es) (3 * i) c
unfolding recost
tasks [] i c = refl
tasks (entry Task x p last ∷ es) zero c = refl
tasks (entry Task x p last ∷ es) (suc i) c = rw (three i) (ap (λ (t : List ℕ). x ∷ p ∷ deadline_of p last ∷ t) (tasks es i c))
tasks (entry Handler x p last ∷ es) i c = tasks es i c

handlers : (es : List Entry) (i c : ℕ) → list_of Handler (recost es i c) ≡ list_of Handler es
unfolding recost
handlers [] i c = refl
handlers (entry Task x p last ∷ es) zero c = refl
handlers (entry Task x p last ∷ es) (suc i) c = handlers es i c
handlers (entry Handler x p last ∷ es) i c = ap (λ (h : List ℕ). x ∷ p ∷ h) (handlers es i c)

placed : (es : List Entry) (i c : ℕ) → misplaced (recost es i c) ≡ misplaced es
unfolding recost
placed [] i c = refl
placed (entry Task x p last ∷ es) zero c = refl
placed (entry Task x p last ∷ es) (suc i) c = placed es i c
placed (entry Handler x p last ∷ es) i c = ap (λ (b : Bool). is_number last || b) (placed es i c)

many : (es : List Entry) → tasks_in es ≡ length (tasks_of (list_of Task es))
unfolding tasks_in tasks_of
many [] = refl
many (entry Task x p last ∷ es) = ap suc (many es)
many (entry Handler x p last ∷ es) = many es

pub table-changed : TableChanged
table-changed = record {
  many = many;
  changed = λ es i c. record { present = present es i; tasks = tasks es i c; handlers = handlers es i c; misplaced = placed es i c };
}
