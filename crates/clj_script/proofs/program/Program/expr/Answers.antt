use Rattle.std.proofs.Common.{rules}
use Rattle.clj_script.proofs.SeenLemmas.{shown, shown_lower, written_there}
use Rattle.clj_script.proofs.program.Program.expr.Goals as goal

pub returns-clause-tree : goal.returns-clause-tree
returns-clause-tree c = shown _ c.args.self.now.parts.nodes.items _ c.args.self.now.parts.lower (search rules)

pub returns-clause-lower : goal.returns-clause-lower
returns-clause-lower c = shown_lower _ c.args.self.now.parts.nodes.items _ c.args.self.now.parts.lower (search rules)

pub returns-clause-written : goal.returns-clause-written
returns-clause-written c = written_there _ c.args.self.now.parts.nodes.items c.args.number c.args.self.now.parts.written (search rules)
