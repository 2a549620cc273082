use Rattle.seq_meaning.proofs.NamedTrails.{on_makes}
use Rattle.seq_meaning.proofs.law_named_makes.Goals as goal

pub returns : goal.returns
returns g c = λ rules program limit named e defs task left kind t k asked mades h. on_makes g.N.Naming.same rules program limit named e defs task h
