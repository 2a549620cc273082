use Rattle.seq_meaning.proofs.NamedTrails.{on_needs}
use Rattle.seq_meaning.proofs.law_named_needs.Goals as goal

pub returns : goal.returns
returns g c = λ rules program limit named e defs task left c k asked mades h. on_needs g.N.Naming.same rules program limit named e defs task h
