-- What the threads of the tests are given and give back may cross threads, and the book may be shared by them.
use denote.Param.Send.{IsSend, IsSync, sendable}
use Rattle.cell_client.specs.contracts.Sevens as Sevens
use Rattle.cell_client.specs.contracts.SevensCellLaw.TheImpl.{ghosts}
use Rattle.cell_shared.specs.contracts.shared.SharedBook as SharedBook
use Rattle.cell_shared.proofs.Sent.{pass_send, shared_book_sync}
use Rattle.shared_tests.specs.contracts.Task as Task
use Rattle.shared_tests.specs.contracts.Both as Both
use Rattle.shared_tests.proofs.Came.TheSendSync as came

pub task_send : IsSend Task.the_row
task_send = search (sendable, pass_send) depth 20

pub both_send : IsSend Both.the_row
both_send = search (sendable, pass_send, came.the_field_send) depth 20

pub sevens_sync : IsSync (SharedBook.the_row Sevens.the_row ghosts)
sevens_sync = shared_book_sync Sevens.the_row ghosts
