use Rattle.std.proofs.Common.{arith}
use Rattle.eval_frames.specs.Frames.{ground}
use Rattle.seq_values.specs.Plain.{plain}
use Rattle.eval_frames.proofs.Tellings.{told_on, told_ok, told_rule}
use Rattle.eval_frames.proofs.telling.frame_told.Goals as goal

pub returns-in-Rule : goal.returns-in-Rule
returns-in-Rule g c =
    let by = ground g.R.Rule.running g.R.Rules.table c.args.code.now in
    told_rule by c.args.rest c.args.value c.args.frame c.in-Rule.called c.in-Rule.is

pub returns-in-Head : goal.returns-in-Head
returns-in-Head g c =
    let by = ground g.R.Rule.running g.R.Rules.table c.args.code.now in
    told_ok by c.args.rest (plain c.args.value.value) c.args.frame _ _ c.in-Head.is c.head_told.ensures

pub returns-in-Parts : goal.returns-in-Parts
returns-in-Parts g c =
    let by = ground g.R.Rule.running g.R.Rules.table c.args.code.now in
    told_ok by c.args.rest (plain c.args.value.value) c.args.frame _ _ c.in-Parts.is c.part_told.ensures

pub returns-in_ok-runner-in-Let : goal.returns-in_ok-runner-in-Let
returns-in_ok-runner-in-Let g c =
    let by = ground g.R.Rule.running g.R.Rules.table c.args.code.now in
    told_on by c.args.rest (plain c.args.value.value) c.args.frame _ c.in-Let.is (omega arith) c.in_ok-runner-in-Let.ensures

pub returns-in-If : goal.returns-in-If
returns-in-If g c =
    let by = ground g.R.Rule.running g.R.Rules.table c.args.code.now in
    told_on by c.args.rest (plain c.args.value.value) c.args.frame _ c.in-If.is (omega arith) c.if_told.ensures

pub returns-in_ok-runner-in-And : goal.returns-in_ok-runner-in-And
returns-in_ok-runner-in-And g c =
    let by = ground g.R.Rule.running g.R.Rules.table c.args.code.now in
    told_on by c.args.rest (plain c.args.value.value) c.args.frame _ c.in-And.is (omega arith) c.in_ok-runner-in-And.ensures

pub returns-in_ok-runner-in-Or : goal.returns-in_ok-runner-in-Or
returns-in_ok-runner-in-Or g c =
    let by = ground g.R.Rule.running g.R.Rules.table c.args.code.now in
    told_on by c.args.rest (plain c.args.value.value) c.args.frame _ c.in-Or.is (omega arith) c.in_ok-runner-in-Or.ensures

pub returns-in-Print : goal.returns-in-Print
returns-in-Print g c =
    let by = ground g.R.Rule.running g.R.Rules.table c.args.code.now in
    told_on by c.args.rest (plain c.args.value.value) c.args.frame _ c.in-Print.is (omega arith) c.print_told.ensures
