use denote.Param.Send.{sendable}
use Rattle.cell_shared.proofs.Sent.{pass_send}
use Rattle.shared_tests.proofs.Sent.{task_send, sevens_sync}
use Rattle.shared_tests.proofs.run_eight.Goals as goal

pub join-pass-requires-send-F : goal.join-pass-requires-send-F
join-pass-requires-send-F g c κs l = search (sendable, task_send, sevens_sync) depth 20

pub join-pass-requires-send-A : goal.join-pass-requires-send-A
join-pass-requires-send-A g c κs l = search (sendable, pass_send) depth 20
