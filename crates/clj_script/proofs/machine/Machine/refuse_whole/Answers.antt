use Rattle.clj_script.proofs.TaskLemmas.{on_ok}
use Rattle.clj_script.proofs.LookLemmas.{answered_refused}
use Rattle.clj_script.proofs.machine.Machine.refuse_whole.Goals as goal

pub returns : goal.returns
returns c = on_ok c.give.result (answered_refused c.refuse.new.self c.args.number c.args.place c.refuse.ensures) c.give.ensures
