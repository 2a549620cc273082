use Rattle.seq_values.specs.Plain.{plains}
use Rattle.seq_values.specs.declared.words.Op.TheVariants as O
use Rattle.ahead_rules.proofs.Moves.{each_size}
use Rattle.ahead_rules.proofs.beginning.term_begins.Goals as goal

pub returns-in-Step : goal.returns-in-Step
returns-in-Step c = rw c.in-Step.is (each_size c.args.chunk O.Step (plains c.args.args.now.items) c.step.result c.step.ensures)

pub returns-in-Call : goal.returns-in-Call
returns-in-Call c = rw c.in-Call.is (each_size c.args.chunk O.Call (plains c.args.args.now.items) c.call.result c.call.ensures)

pub returns-in-Ahead : goal.returns-in-Ahead
returns-in-Ahead c = rw c.in-Ahead.is (each_size c.args.chunk O.Ahead (plains c.args.args.now.items) c.ahead.result c.ahead.ensures)

pub returns-in-AheadOf : goal.returns-in-AheadOf
returns-in-AheadOf c = rw c.in-AheadOf.is (each_size c.args.chunk O.AheadOf (plains c.args.args.now.items) c.ahead_of.result c.ahead_of.ensures)

pub returns-in-Near : goal.returns-in-Near
returns-in-Near c = rw c.in-Near.is (each_size c.args.chunk O.Near (plains c.args.args.now.items) c.near.result c.near.ensures)
