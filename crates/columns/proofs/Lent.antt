-- What a caller lends of a table put into row order.
use mathlib.Core.Bool.{Bool, true, false}
use mathlib.Core.List.{List}
use mathlib.Core.Path.{◌≡◌, refl, ap, ◌∙◌, subst₂}
use Prim.Native.Nat.{ℕ}
use Rattle.std.specs.Prelude.{Option, Some, None, unwrap_or}
use Rattle.demand.specs.declared.table.Kind.TheVariants.{Task, Handler}
use Rattle.columns.specs.Held.{table_unheld, held_of, table_held, Alike}
use Rattle.columns.specs.Order.{row_order}
use Rattle.columns.specs.declared.Table.{Table}
use Rattle.columns.proofs.Held.{refused-alike, held_none, held_both}

module _ (t h : List ℕ) where
  -- A table that is held is the one in row order;
  held-is : (table : Table) → Some table ≡ table_held t h → table ≡ held_of t h
  held-is table e = go (table_unheld t h) refl
    where
      go : (b : Bool) → table_unheld t h ≡ b → table ≡ held_of t h
      go true u = absurd (let none : Some table ≡ None = e ∙ held_none t h u in cc)
      go false u = ap (λ (x : Option Table). unwrap_or x table) (e ∙ held_both t h u)

  -- so a promise to its lists is one to the table in row order;
  pub from-rows : (table : Table) → Some table ≡ table_held t h → (Says : List ℕ → List ℕ → Type 0)
      → Says table.tasks table.handlers → Says (row_order Task t) (row_order Handler h)
  from-rows table e Says =
      let is = held-is table e in
      subst₂ Says (ap (λ (x : Table). x.tasks) is) (ap (λ (x : Table). x.handlers) is)

  -- where none is held the counts refuse the table, and it is refused alike.
  pub from-counts : None ≡ table_held t h → Alike t h (row_order Task t) (row_order Handler h)
  from-counts e = go (table_unheld t h) refl
    where
      go : (b : Bool) → table_unheld t h ≡ b → Alike t h (row_order Task t) (row_order Handler h)
      go true u = refused-alike t h u
      go false u = absurd (let some : None ≡ Some (held_of t h) = e ∙ held_both t h u in cc)
