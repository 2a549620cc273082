use Rattle.clj_script.proofs.ClauseLemmas.{AreClauses}
use Rattle.clj_script.proofs.reading.clauses_of_lists.Given as goal

abbrev pub invariant-loop-form : goal.invariant-loop-form
invariant-loop-form l = AreClauses l.sources l.forms l.form-index l.all.items
