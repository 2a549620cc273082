use Rattle.std.proofs.Common.{sym, ◌∙◌, pos}
use Rattle.seq_values.specs.Plain.{plain}
use Rattle.ahead_rows.specs.Table.{ahead_rule}
use Rattle.ahead_rules.proofs.Moves.{asks_part, asks_none}
use Rattle.ahead_rules.proofs.taking.ahead_of_begins.Goals as goal

pub returns-in-None : goal.returns-in-None
returns-in-None c = asks_none (plain c.args.before.value) (ahead_rule (pos 1)) c.throws.result (sym c.as_part-part.ensures ∙ c.in-None.is) c.throws.ensures

pub returns-in-Some : goal.returns-in-Some
returns-in-Some c = asks_part (plain c.args.before.value) c.in-Some.id (ahead_rule (pos 1)) c.needs.result (sym c.as_part-part.ensures ∙ c.in-Some.is) c.needs.ensures
