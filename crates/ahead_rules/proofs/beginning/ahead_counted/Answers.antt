use Rattle.std.proofs.Common.{sym, ◌∙◌, w64, rules, arith}
use Rattle.std.proofs.lemmas.Int.{to_z-of_z}
use Rattle.seq_values.specs.Plain.{plain}
use Rattle.ahead_rows.specs.Table.{ahead_rule}
use Rattle.ahead_rules.proofs.Moves.{ahead_number, ahead_no_number, handed}
use Rattle.ahead_rules.proofs.beginning.ahead_counted.Goals as goal

pub returns-in-None : goal.returns-in-None
returns-in-None c = λ size. ahead_no_number size (plain c.args.count.value) (plain c.args.source.value) c.no_number.result (sym c.as_number-number.ensures ∙ c.in-None.is) c.no_number.ensures

pub returns-in_ok-next-in-Some : goal.returns-in_ok-next-in-Some
returns-in_ok-next-in-Some c = λ size. ahead_number size (plain c.args.count.value) (plain c.args.source.value) c.in-Some.count c.in_ok-next-in-Some.next (sym c.as_number-number.ensures ∙ c.in-Some.is) (handed (λ n. ahead_rule n (plain c.args.source.value)) c.in-Some.count _ c.in_ok-next-in-Some.next (to_z-of_z w64 c.in-Some.count (search (rules, arith))) c.in_ok-next-in-Some.ensures)
