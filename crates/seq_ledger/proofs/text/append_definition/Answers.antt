use Rattle.std.proofs.Common.{ap, sym, ◌∙◌}
use Rattle.seq_values.specs.Plain.{plain}
use Rattle.seq_ledger.proofs.Lines.{no_line, its_line}
use Rattle.seq_ledger.proofs.text.append_definition.Goals as goal

pub returns-then-not-has_line-clause-lines : goal.returns-then-not-has_line-clause-lines
returns-then-not-has_line-clause-lines g c = λ a n. no_line a _ (plain c.args.value.now) c.args.line.now c.has_line.result c.has_line.ensures c.if-not-has_line.true

pub returns-clause-lines : goal.returns-clause-lines
returns-clause-lines g c = λ a n. its_line a _ _ (plain c.args.value.now) c.in_ok-front.front c.args.line.now c.append_front.new.line c.has_line.result c.has_line.ensures c.if-not-has_line.false (c.in_ok-front.ensures.front a n) c.append_front.result c.name_of.ensures c.append_front.ensures
