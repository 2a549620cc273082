use Rattle.seq_values.specs.declared.words.Kind.TheVariants as K
use Rattle.seq_values.specs.declared.words.Op.TheVariants as O
use Rattle.ahead_rules.specs.declared.state.AtPart.TheVariants as P
use Rattle.std.proofs.Common.{refl}
use Rattle.ahead_rules.proofs.Moves.{part_made}
use Rattle.ahead_rules.proofs.stepping.pmap_begins.Goals as goal

pub returns : goal.returns
returns c = part_made (P.PmapRets c.args.processors) K.Lazy O.Rets c.in_ok-args.args.items _ _ c.makes_part.result c.in_ok-args.ensures.stands refl c.makes_part.ensures
