use Rattle.std.proofs.Common.{w64, rules}
use Rattle.std.proofs.lemmas.Int.{to_z-of_z}
use Rattle.seq_values.specs.Plain.{plain}
use Rattle.lazy_rules.proofs.WordTurns.{repeat_makes}
use Rattle.std.proofs.Common.{SFits}
use Rattle.lazy_rules.proofs.words.repeat_counted.Goals as goal

pub returns : goal.returns
returns c = let f : SFits w64 c.args.counted.count = search rules in repeat_makes c.args.counted.count _ (plain c.args.counted.source.value) c.in_ok-args.args.items c.term_of-term.result.term c.makes.result (to_z-of_z w64 c.args.counted.count f) c.in_ok-args.ensures.stands c.term_of-term.ensures c.makes.ensures
