use Rattle.script_maker.proofs.Lines.{walk_ends_line, walk_goes_on}
use Rattle.script_maker.proofs.report.Walk.behind.Goals as goal

pub returns-then-byte-eq10 : goal.returns-then-byte-eq10
returns-then-byte-eq10 c = λ text inside read w. walk_ends_line text c.args.at c.args.byte c.args.self inside read c.if-byte-eq10.true w

pub returns-else-byte-eq10 : goal.returns-else-byte-eq10
returns-else-byte-eq10 c = λ text inside read w. walk_goes_on text c.args.at c.args.byte c.args.self inside read c.if-byte-eq10.false w
