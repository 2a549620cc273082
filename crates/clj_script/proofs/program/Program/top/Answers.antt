use Rattle.std.proofs.Common.{◌-◌, rules, arith}
use Rattle.clj_script.specs.Seen.{seen_parts, top_over, trees}
use Rattle.clj_script.proofs.SeenLemmas.{numbered_item, top_there}
use Rattle.clj_script.proofs.program.Program.top.Goals as goal

pub returns-clause-form : goal.returns-clause-form
unfolding seen_parts
returns-clause-form c = numbered_item (top_over (trees c.args.self.now)) c.args.self.now.parts.tops.items c.args.form c.copied.result (omega arith) (search rules)

pub returns-clause-below : goal.returns-clause-below
returns-clause-below c = top_there _ c.args.self.now.parts.tops.items (c.args.form - 1) c.args.self.now.parts.nodes.items c.args.self.now.parts.in_tops (search rules)
