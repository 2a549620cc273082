use Rattle.std.proofs.Common.{◌≡◌, ◌-◌, length, arith}
use Rattle.core_rules.specs.Left.{core_runs}
use Rattle.seq_turns.proofs.Taking.{takes_same}
use Rattle.core_rules.proofs.Compositions.{last_calls}
use Rattle.core_rules.proofs.composing.last_called.Goals as goal

pub returns : goal.returns
returns c =
    let l : c.len-left.result - 1 ≡ length c.args.functions.items - 1 = omega (arith, c.len-left.ensures) in
    takes_same core_runs (last_calls c.args.functions.items c.args.args.items _ c.in_ok-last.last.value _ l c.requires c.in_ok-last.ensures) c.asks_call.ensures
