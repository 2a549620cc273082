use Rattle.std.proofs.Common.{sym, ◌∙◌, w64, rules, arith}
use Rattle.std.proofs.lemmas.Int.{to_z-of_z}
use Rattle.seq_values.specs.Plain.{plain}
use Rattle.seq_turns.proofs.Taking.{in_ok}
use Rattle.ahead_rules.specs.Left.{running}
use Rattle.seq_plan.specs.Arguments.{at_least_one}
use Rattle.ahead_rows.specs.Table.{seque_rule}
use Rattle.ahead_rules.proofs.Moves.{seque_number, seque_no_number, handed_ok}
use Rattle.ahead_rules.proofs.beginning.seque_of.Goals as goal

pub returns-in-None : goal.returns-in-None
returns-in-None c = seque_no_number (plain c.args.count.value) (plain c.args.source.value) c.no_number.result (sym c.as_number-number.ensures ∙ c.in-None.is) c.no_number.ensures

pub returns-in-Some : goal.returns-in-Some
returns-in-Some c = in_ok running c.seque_begins.result (λ n h. seque_number (plain c.args.count.value) (plain c.args.source.value) c.in-Some.count n (sym c.as_number-number.ensures ∙ c.in-Some.is) h) (handed_ok (λ n. at_least_one n (seque_rule n (plain c.args.source.value))) c.in-Some.count _ c.seque_begins.result (to_z-of_z w64 c.in-Some.count (search (rules, arith))) c.seque_begins.ensures)
