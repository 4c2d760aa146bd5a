-- Lists put into the other order by hand.
use mathlib.Core.List.{[], ◌∷◌}
use mathlib.Core.Path.{◌≡◌, refl}
use Rattle.demand.specs.declared.table.Kind.TheVariants.{Task, Handler}
use Rattle.columns.specs.Order.{tabled_from, reordered, row_order, column_order}

-- 01's case 9 with a shorter deadline: costs 2 and 4, periods 5 and 8, deadlines 5 and 7,
nine : row_order Task (2 ∷ 4 ∷ 5 ∷ 8 ∷ 5 ∷ 7 ∷ []) ≡ 2 ∷ 5 ∷ 5 ∷ 4 ∷ 8 ∷ 7 ∷ []
unfolding reordered tabled_from
nine = refl

-- and back;
nine-back : column_order Task (2 ∷ 5 ∷ 5 ∷ 4 ∷ 8 ∷ 7 ∷ []) ≡ 2 ∷ 4 ∷ 5 ∷ 8 ∷ 5 ∷ 7 ∷ []
unfolding reordered tabled_from
nine-back = refl

-- three handlers, in twos;
handlers : row_order Handler (1 ∷ 2 ∷ 3 ∷ 10 ∷ 20 ∷ 30 ∷ []) ≡ 1 ∷ 10 ∷ 2 ∷ 20 ∷ 3 ∷ 30 ∷ []
unfolding reordered tabled_from
handlers = refl

-- four numbers are no tasks, in either order.
four : row_order Task (1 ∷ 2 ∷ 3 ∷ 4 ∷ []) ≡ 1 ∷ 2 ∷ 3 ∷ 4 ∷ []
unfolding reordered tabled_from
four = refl
