use Rattle.clj_script.proofs.EntryLemmas.{number_got}
use Rattle.clj_script.proofs.ThreadLemmas.{below_at}
use Rattle.clj_script.proofs.ClauseLemmas.{no_clauses, one_clause, wrong_clause, all_clauses}
use Rattle.clj_script.proofs.reading.clauses_of_lists.Goals as goal

pub loop-form-init : goal.loop-form-init
loop-form-init c = no_clauses _ _ _ c.new-all.ensures.items

pub clause_of_list-requires-clause-below : goal.clause_of_list-requires-clause-below
clause_of_list-requires-clause-below c = below_at _ c.args.forms.now c.loop-form.form-index _ c.requires.below (number_got c.args.forms.now c.loop-form.form-index c.loop-form-test.true)

pub loop-form-preserved : goal.loop-form-preserved
loop-form-preserved c = one_clause _ _ _ _ _ _ c.loop-form.invariant c.loop-form-test.true c.in-Some.ensures.clause c.in-Some.ensures.below c.in_ok-push-in-Some.ensures.items

pub returns-in-None-clause-clauses : goal.returns-in-None-clause-clauses
returns-in-None-clause-clauses c = wrong_clause _ _ _ _ c.loop-form.invariant c.loop-form-test.true c.in-None.ensures.clause

pub returns-clause-clauses : goal.returns-clause-clauses
returns-clause-clauses c = all_clauses _ _ _ _ c.loop-form.invariant c.loop-form-test.false

pub returns-clause-below : goal.returns-clause-below
returns-clause-below c = c.loop-form.invariant.below
