use Rattle.std.proofs.Common.{rules}
use Rattle.clj_script.proofs.SeenLemmas.{function_there}
use Rattle.clj_script.proofs.program.Program.body.Goals as goal

pub returns-in-Some-clause-below : goal.returns-in-Some-clause-below
returns-in-Some-clause-below c = function_there _ c.args.self.now.parts.nodes.items c.args.self.now.parts.functions.items c.args.function c.in-Some.bodies.now c.as_slice-in-Some.result.now c.args.self.now.parts.in_functions (search rules) (search rules) c.body_for.ensures.below
