use Rattle.std.proofs.Common.{rules}
use Rattle.clj_script.proofs.SeenLemmas.{number_there}
use Rattle.clj_script.proofs.program.Program.lazy_body.Goals as goal

pub returns-clause-below : goal.returns-clause-below
returns-clause-below c = number_there _ c.args.self.now.parts.bodies.items c.args.body c.args.self.now.parts.nodes.items c.args.self.now.parts.in_bodies (search rules)
