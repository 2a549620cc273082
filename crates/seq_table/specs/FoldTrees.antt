-- What a fold of items comes to: groups are reduced, and halves are combined.
use Rattle.std.specs.Prelude.{ℕ, ◌/◌, ◌<◌, ◌≤◌, List, [], ◌∷◌, length, take, drop}
use Rattle.seq_values.specs.Model.{Value, vector, values}
use Rattle.seq_plan.specs.Plan.{give}
use Rattle.fold_rows.specs.Table.{reduce_through}
use Rattle.seq_table.specs.World.{World, Comes, CallTo}

module _ {C : Type 0} (w : World C) (defs : List (Value C)) (size : ℕ) (combine f : Value C) (stages : List (Value C)) where
  pub data FoldTree : List (Value C) → Value C → Type 0 where
    -- no items: what the combining function gives alone
    of_none : {y : Value C} → CallTo w defs combine [] y → FoldTree [] y
    -- a group: its items are reduced through the stages, from what the combining function gives alone
    of_group : {items : List (Value C)} {first y : Value C} → 0 < length items → length items ≤ size → CallTo w defs combine [] first → Comes w defs (reduce_through stages f first (vector (values items)) give) y → FoldTree items y
    -- more items: the trees of both halves are combined
    of_halves : {items : List (Value C)} {left right y : Value C} → size < length items → FoldTree (take (length items / 2) items) left → FoldTree (drop (length items / 2) items) right → CallTo w defs combine (left ∷ right ∷ []) y → FoldTree items y
