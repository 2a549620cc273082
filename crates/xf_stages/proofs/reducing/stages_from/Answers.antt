use Rattle.std.proofs.Common.{arith, drop}
use Rattle.seq_values.specs.Plain.{plain, plains}
use Rattle.xf_stages.proofs.ReduceTurns.{begun_none, begun_fits, begun_next, begun_end}
use Rattle.xf_stages.proofs.reducing.stages_from.Goals as goal

pub loop-here-init : goal.loop-here-init
loop-here-init c = record { found = begun_none (plains (drop c.args.at c.args.args.now.items)) c.no_stages-stages.result.items c.no_stages-stages.ensures c.requires }

pub fold_stage-requires : goal.fold_stage-requires
fold_stage-requires c = begun_fits (plains (drop c.args.at c.args.args.now.items)) c.loop-here.stages.items c.args.args.now.items c.loop-here.here c.in_ok-value.value.value c.in_ok-value.ensures c.loop-here.invariant.found

pub loop-here-preserved : goal.loop-here-preserved
loop-here-preserved c = record { found = begun_next (plains (drop c.args.at c.args.args.now.items)) c.loop-here.stages.items c.in_ok-more.more.items c.in_ok-stage.stage c.args.args.now.items c.loop-here.here c.in_ok-value.value.value c.in_ok-value.ensures c.in_ok-stage.ensures c.in_ok-more.ensures c.loop-here.invariant.found }

pub returns : goal.returns
returns c = begun_end (plains (drop c.args.at c.args.args.now.items)) c.loop-here.stages.items c.args.args.now.items c.loop-here.here (omega (arith, c.loop-here-test.false, c.len.ensures)) c.loop-here.invariant.found
