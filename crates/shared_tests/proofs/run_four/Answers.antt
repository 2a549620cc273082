use denote.Param.Send.{sendable}
use Rattle.shared_tests.proofs.Sent.{task_send, both_send, sevens_sync}
use Rattle.shared_tests.proofs.run_four.Goals as goal

pub join-first-requires-send-F : goal.join-first-requires-send-F
join-first-requires-send-F g c κs l = search (sendable, task_send, sevens_sync) depth 20

pub join-first-requires-send-A : goal.join-first-requires-send-A
join-first-requires-send-A g c κs l = search (sendable, both_send) depth 20
