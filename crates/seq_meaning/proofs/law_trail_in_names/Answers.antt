use Rattle.seq_meaning.proofs.NamedTrails.{in_names}
use Rattle.seq_meaning.proofs.law_trail_in_names.Goals as goal

pub returns : goal.returns
returns g c = λ rules program limit named e defs task left plan asked mades h. in_names g.N.Naming.same rules program limit named e defs task h
