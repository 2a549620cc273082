-- A book may go to another thread, since the values in it may. So a pass may, and threads may share a shared book.
use denote.RattleType.{RattleType}
use denote.Param.Send.{IsSend, IsSync, view_sync, sendable}
use denote.Param.SendFields.{declared_send, declared_sync, variants_send}
use Rattle.std.proofs.Crossing.{crosses, send, sync, frees}
use Rattle.std.specs.contracts.option.Option as Option
use Rattle.seq_base.proofs.thrown.Thrown.TheSendSync as thrown
use Rattle.seq_vector.specs.contracts.pvec.PVec as PVec
use Rattle.seq_vector.specs.contracts.shared.Shared as Shared
use Rattle.seq_vector.proofs.pvec.PVec.TheSendSync as pvec
use Rattle.seq_vector.proofs.shared.Shared.TheSendSync as shared
use Rattle.seq_values.specs.contracts.value.Value as Value
use Rattle.seq_values.specs.contracts.term.Term as Term
use Rattle.seq_values.proofs.value.Node.TheLaws.TheKnot.{both_send-Value, both_sync-Value}
use Rattle.seq_values.proofs.text.Text.TheSendSync as text
use Rattle.seq_values.proofs.cell_id.CellId.TheSendSync as cell_id
use Rattle.seq_values.proofs.words.Target.TheSendSync as target
use Rattle.seq_values.proofs.words.Op.TheSendSync as op
use Rattle.seq_values.proofs.words.Kind.TheSendSync as kind
use Rattle.cell_book.specs.contracts.book.Book as Book
use Rattle.cell_book.specs.contracts.cell.Cell as Cell
use Rattle.cell_book.specs.contracts.cell.State as State
use Rattle.cell_book.specs.contracts.cell.Form as Form
use Rattle.cell_book.specs.contracts.claims.Claims as Claims
use Rattle.cell_book.specs.contracts.settled.Settled as Settled
use Rattle.cell_book.proofs.attempts.Attempts.TheSendSync as attempts
use Rattle.cell_book.proofs.cell.Attempt.TheSendSync as attempt
use Rattle.cell_book.specs.declared.cells.CellLaw.{Ghosts}
use Rattle.atomic_table.proofs.shared.Seat.TheSendSync as seat
use Rattle.atomic_table.proofs.owned.Table.TheSendSync as table
use Rattle.atomic_table.specs.contracts.owned.Table as Table
use Rattle.std.specs.contracts.alloc.Global as Global
use Rattle.std.specs.contracts.impls.GlobalAllocator.TheImpl.{ghosts as heap}
use Rattle.cell_shared.specs.contracts.view.View as View
use Rattle.cell_shared.specs.contracts.view.Start as Start
use Rattle.cell_shared.specs.contracts.view.InTurn as InTurn
use Rattle.cell_shared.specs.contracts.view.InTurnTableRuleOptionBookViewStart.TheImpl.{ghosts as rule, no_dict}
use Rattle.cell_shared.specs.contracts.shared.Pass as Pass
use Rattle.cell_shared.specs.contracts.shared.SharedBook as SharedBook
use Rattle.cell_shared.specs.contracts.shared.SharedBook.TheInside as inside

-- vectors and shared values, where what they hold may go to another thread and be shared
vector_send : (T : RattleType) → IsSend T → IsSync T → IsSend (PVec.the_row T)
vector_send T s y = search (sendable, crosses, pvec.the_send) depth 20

vector_sync : (T : RattleType) → IsSend T → IsSync T → IsSync (PVec.the_row T)
vector_sync T s y = search (sendable, crosses, pvec.the_sync) depth 20

shared_send : (T : RattleType) → IsSend T → IsSync T → IsSend (Shared.the_row T)
shared_send T s y = search (sendable, crosses, shared.the_send) depth 20

shared_sync : (T : RattleType) → IsSend T → IsSync T → IsSync (Shared.the_row T)
shared_sync T s y = search (sendable, crosses, shared.the_sync) depth 20

value_send : IsSend Value.the_row
value_send = search (sendable, both_send-Value, vector_send, vector_sync, shared_send, shared_sync, text.the_send, text.the_sync, cell_id.the_send, cell_id.the_sync, target.the_field_send, target.the_field_sync) depth 20

value_sync : IsSync Value.the_row
value_sync = search (sendable, both_sync-Value, vector_send, vector_sync, shared_send, shared_sync, text.the_send, text.the_sync, cell_id.the_send, cell_id.the_sync, target.the_field_send, target.the_field_sync) depth 20

values_send : IsSend (PVec.the_row Value.the_row)
values_send = vector_send Value.the_row value_send value_sync

term_send : IsSend Term.the_row
term_send = search (sendable, crosses, values_send, op.the_field_send) depth 20

state_send : IsSend State.the_row
state_send = variants_send State.enum (tt, ((search sendable, tt), ((value_send, tt), ((thrown.the_send, tt), tt))))

form_send : IsSend Form.the_row
form_send = search (sendable, crosses, value_send, attempt.the_field_send) depth 20

settled_send : IsSend Settled.the_row
settled_send = search (sendable, crosses, values_send) depth 20

claims_send : IsSend Claims.the_row
claims_send = search (sendable, crosses) depth 20

cell_send : IsSend Cell.the_row
cell_send = declared_send Cell.the_type (term_send, (kind.the_send, (search sendable, (search sendable, (values_send, (state_send, (attempts.the_send, tt)))))))

book_send : IsSend Book.the_row
book_send = search (sendable, crosses, cell_send, form_send, settled_send, claims_send) depth 30

pub pass_send : IsSend Pass.the_row
pass_send = search (sendable, seat.the_send, book_send) depth 20

slot_send : IsSend (Option.the_row Book.the_row)
slot_send = search (sendable, book_send) depth 20

table_sync : (L : RattleType) (g : Ghosts L.Denot) → IsSync (Table.the_row (Option.the_row Book.the_row) View.the_row (Start.the_row L) InTurn.the_row Global.the_row (rule L g no_dict no_dict) heap)
table_sync L g = table.the_sync (Option.the_row Book.the_row) View.the_row (Start.the_row L) InTurn.the_row Global.the_row (rule L g no_dict no_dict) heap slot_send send sync frees

pub shared_book_sync : (L : RattleType) (g : Ghosts L.Denot) → IsSync (SharedBook.the_row L g)
shared_book_sync L g = view_sync _ _ _ _ _ (declared_sync (inside.the_type L g) (table_sync L g, tt))
