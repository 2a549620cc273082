use Rattle.std.proofs.Common.{◌≡◌, ◌+◌, true, List, [], ◌∷◌, map, take, sym, subst}
use Rattle.std.specs.Prelude.{slice_index_or}
use Rattle.clj_script.specs.declared.program.Body.{Body}
use Rattle.clj_script.specs.declared.reading.Clause.{Clause}
use Rattle.clj_script.specs.Reads.{clause_at, numbers_of_clause}
use Rattle.clj_script.specs.Readings.{is_vector}
use Rattle.clj_script.specs.Readings as spec
use Rattle.clj_script.specs.Sources.{Source}
use Rattle.clj_script.specs.Tops.{HasClauses, counts_of}
use Rattle.clj_script.proofs.ArenaLemmas.{below_more}
use Rattle.clj_script.proofs.KeptLemmas.{form_stays, more-length}
use Rattle.clj_script.proofs.BodyLemmas.{none_compiled, one_compiled, clause_below, got_or}
use Rattle.clj_script.proofs.top.Tops.bodies.Goals as goal

abbrev no : Clause
no = record { whole = 0; parameters = 0; body = 0 }

pub loop-clause-init : goal.loop-clause-init
loop-clause-init c = subst (λ (bs : List Body). HasClauses c.args.self.now c.args.self.now [] [] bs) (sym c.new-bodies.ensures.items) (none_compiled _ c.requires.whole)

pub body-requires-clause-below : goal.body-requires-clause-below
body-requires-clause-below c =
    below_more _ _ (numbers_of_clause (slice_index_or c.args.clauses.now c.loop-clause.clause-index no)) (more-length c.loop-clause.invariant.grown.forms) (clause_below _ c.args.clauses.now c.loop-clause.clause-index _ c.requires.below (got_or c.args.clauses.now c.loop-clause.clause-index no c.loop-clause-test.true))

pub body-requires-clause-vector : goal.body-requires-clause-vector
body-requires-clause-vector c =
    let b = clause_below _ c.args.clauses.now c.loop-clause.clause-index _ c.requires.below (got_or c.args.clauses.now c.loop-clause.clause-index no c.loop-clause-test.true) in
    subst (λ (s : Source). is_vector s ≡ true) (sym (form_stays _ _ _ c.loop-clause.invariant.grown.forms b.1.0)) (c.requires.vectors c.loop-clause.clause-index no c.loop-clause-test.true)

pub loop-clause-preserved : goal.loop-clause-preserved
loop-clause-preserved c =
    let s : spec.Clause = clause_at c.loop-clause.self.sources.items (slice_index_or c.args.clauses.now c.loop-clause.clause-index no) in
    let k : HasClauses c.loop-clause.self c.body.new.self (counts_of c.loop-clause.bodies.items) (s ∷ []) (c.in_ok-body.body ∷ []) = subst (λ (bs : List Body). HasClauses c.loop-clause.self c.body.new.self (counts_of bs) (s ∷ []) (c.in_ok-body.body ∷ [])) c.as_slice.ensures.value c.in_ok-body.ensures in
    subst (λ (bs : List Body). HasClauses c.args.self.now c.body.new.self [] (map (clause_at c.args.self.now.sources.items) (take (c.loop-clause.clause-index + 1) c.args.clauses.now)) bs) (sym c.in_ok-push.ensures.items)
    (one_compiled _ c.loop-clause.self _ c.args.clauses.now c.loop-clause.clause-index _ _ _ c.loop-clause.invariant c.requires.below (got_or c.args.clauses.now c.loop-clause.clause-index no c.loop-clause-test.true) k)
