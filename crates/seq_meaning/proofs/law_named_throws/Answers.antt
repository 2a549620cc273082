use Rattle.seq_meaning.proofs.NamedTrails.{on_throws}
use Rattle.seq_meaning.proofs.law_named_throws.Goals as goal

pub returns : goal.returns
returns g c = λ rules program limit named e defs task left x asked mades h. on_throws g.N.Naming.same rules program limit named e defs task h
