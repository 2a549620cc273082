use Rattle.std.proofs.Common.{◌≡◌, List, map, drop}
use Rattle.clj_script.specs.Trees as tree
use Rattle.clj_script.specs.Seen.{body_among, body_over}
use Rattle.clj_script.proofs.seen.body_for.Given as goal

abbrev pub invariant-loop-body : goal.invariant-loop-body
invariant-loop-body l = (ts : List tree.Expr) → body_among (map (body_over ts) (drop l.body-index l.bodies)) l.arguments ≡ body_among (map (body_over ts) l.bodies) l.arguments
