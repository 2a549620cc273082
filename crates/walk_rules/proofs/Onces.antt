-- Turns of the words that take one seq, where there is an element.
use Rattle.std.proofs.Common.{false}
use Rattle.seq_values.specs.Model as M
use Rattle.seq_plan.specs.Plan.{seq, give}
use Rattle.seq_plan.specs.Nodes.{first_of, rest_of}
use Rattle.seq_plan.specs.Cursors.{stands}
use Rattle.seq_plan.specs.declared.cursor.Cursor.{Cursor}
use Rattle.lazy_rows.specs.Walks.{first_rule}
use Rattle.seq_turns.specs.declared.next.Next.{Next}
use Rattle.seq_turns.proofs.Taking.{some_cursor}
use Rattle.walk_rules.specs.Left.{left_once, Takes}
use Rattle.walk_rules.specs.declared.state.Once.TheVariants as O
use Rattle.walk_rules.specs.declared.state.State.{State}

pub some_first : (c : Cursor) (r : Next State) → Takes (give (first_of (stands c))) r → Takes (left_once O.First (stands c)) r
some_first c r h = rw (some_cursor c) h

pub some_second : (c : Cursor) (r : Next State) → Takes (first_rule (rest_of (stands c))) r → Takes (left_once O.Second (stands c)) r
some_second c r h = rw (some_cursor c) h

pub some_rest : (c : Cursor) (r : Next State) → Takes (give (rest_of (stands c))) r → Takes (left_once O.Rest (stands c)) r
some_rest c r h = rw (some_cursor c) h

pub some_next : (c : Cursor) (r : Next State) → Takes (seq (rest_of (stands c)) give) r → Takes (left_once O.Next (stands c)) r
some_next c r h = rw (some_cursor c) h

pub some_there : (c : Cursor) (r : Next State) → Takes (give (M.bool false)) r → Takes (left_once O.IsEmpty (stands c)) r
some_there c r h = rw (some_cursor c) h
