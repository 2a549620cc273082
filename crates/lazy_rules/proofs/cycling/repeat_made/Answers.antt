use Rattle.std.proofs.Common.{w64}
use Rattle.std.proofs.lemmas.Int.{to_z-of_z}
use Rattle.seq_values.specs.Plain.{plain}
use Rattle.lazy_rules.proofs.PartTurns.{count_make}
use Rattle.seq_values.specs.declared.words.Op.TheVariants as O
use Rattle.seq_values.specs.Model as M
use Rattle.lazy_rules.proofs.cycling.repeat_made.Goals as goal

pub returns : goal.returns
returns c = count_make O.Take c.args.count _ (plain c.of_part.result.value) (M.cell c.args.id) c.in_ok-term.term.term c.makes.result (to_z-of_z w64 c.args.count c.ranges.count) c.of_part.ensures.stands c.in_ok-term.ensures c.makes.ensures
