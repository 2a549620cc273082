use Rattle.std.proofs.Common.{[], map, take}
use Rattle.clj_script.specs.Reads.{clause_at}
use Rattle.clj_script.specs.Tops.{HasClauses}
use Rattle.clj_script.proofs.top.Tops.bodies.Given as goal

abbrev pub invariant-loop-clause : goal.invariant-loop-clause
invariant-loop-clause l = HasClauses l.fn.self l.self [] (map (clause_at l.fn.self.sources.items) (take l.clause-index l.clauses)) l.bodies.items
