-- A turn after an element of a group was taken.
use Rattle.std.proofs.Common.{◌≡◌, ℕ, ℤ, pos, ◌-ℤ◌, [], ◌∷◌, ◌++◌}
use Rattle.seq_values.specs.Model as M
use Rattle.seq_values.specs.Plain.{plains}
use Rattle.seq_plan.specs.Nodes.{first_of, rest_of, with_members}
use Rattle.seq_plan.specs.Cursors.{stands}
use Rattle.seq_plan.specs.declared.cursor.Cursor.{Cursor}
use Rattle.seq_turns.specs.Making.{Grows}
use Rattle.seq_turns.specs.declared.made.Grown.TheVariants as G
use Rattle.seq_turns.specs.declared.next.Next.{Next}
use Rattle.seq_turns.specs.declared.proper.Gathered.{Gathered}
use Rattle.lazy_rules.specs.Left.{left_step, group_on, Takes}
use Rattle.lazy_rules.specs.declared.state.AtStep.TheVariants as T
use Rattle.lazy_rules.specs.declared.state.Group.{Group}
use Rattle.lazy_rules.specs.declared.state.State.{State}
use Rattle.lazy_rules.proofs.GroupTurns.{step_goes}

-- the plan first, so that the numbers are known where they are compared
pub step_takes : (g : Group) (c : Cursor) (first rest : M.Value ℕ) (all : Gathered) (n m : ℤ) (r : Next State) → Takes (group_on n m (plains all.items.items) rest) r → first ≡ first_of (stands c) → rest ≡ rest_of (stands c) → Grows (with_members (plains g.taken.items.items ++ first ∷ [])) (G.All all) → n ≡ g.size → m ≡ g.left -ℤ pos 1 → Takes (left_step (T.Parts g c)) r
step_takes g c first rest all n m r h e1 e2 q en em = step_goes g c first rest all n m r e1 e2 q en em h
