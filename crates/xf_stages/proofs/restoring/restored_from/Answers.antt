use Rattle.std.proofs.Common.{drop, ◌+◌, ◌<◌, length, arith}
use Rattle.xf_stages.proofs.RestoreTurns.{next_there, next_fits, restores_one}
use Rattle.seq_values.specs.Plain.{plains}
use Rattle.xf_stages.proofs.restoring.restored_from.Goals as goal

pub at-requires : goal.at-requires
at-requires c = next_there c.args.stage c.args.args.now.items c.args.at c.requires.keeps c.requires.next

pub with_state-requires : goal.with_state-requires
with_state-requires c = next_fits c.args.stage c.in_ok-value.value.value (drop (c.args.at + 1) c.args.args.now.items) (drop c.args.at c.args.args.now.items) c.requires.keeps c.in_ok-value.ensures c.requires.next

pub returns : goal.returns
returns c = restores_one c.args.stage c.with_state.result c.in_ok-value.value.value (drop (c.args.at + 1) c.args.args.now.items) (drop c.args.at c.args.args.now.items) c.requires.keeps c.in_ok-value.ensures c.with_state.ensures
