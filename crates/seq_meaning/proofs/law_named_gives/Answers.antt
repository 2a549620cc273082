use Rattle.seq_meaning.proofs.NamedTrails.{on_gives}
use Rattle.seq_meaning.proofs.law_named_gives.Goals as goal

pub returns : goal.returns
returns g c = λ rules program limit named e defs task left v asked mades h. on_gives g.N.Naming.same rules program limit named e defs task h
