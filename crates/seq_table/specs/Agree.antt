-- Two lists as far as both are read: one goes on where the other was cut, and their elements are related.
use Rattle.seq_values.specs.Model.{Value}
use Rattle.seq_plan.specs.Alike.{Likeness, Like}
use Rattle.seq_meaning.specs.Names.{Name}
use Rattle.seq_table.specs.World.{Read, cut, done, ◌▸◌}

pub data Agree (R : Likeness Name Name) : Read Name → Read Name → Type 0 where
  first_cut : {l : Read Name} → Agree R cut l
  second_cut : {l : Read Name} → Agree R l cut
  both_done : Agree R done done
  both_more : {x y : Value Name} {l m : Read Name} → Like R x y → Agree R l m → Agree R (x ▸ l) (y ▸ m)
