-- Where the rules keep to well-formed values, so does every evaluation of a program.
use Rattle.std.proofs.Common.{◌≡◌, ℕ, zero, suc, List, ◌++◌, Some, slice_get, refl, sym, subst}
use Rattle.seq_values.specs.declared.words.Kind.{Kind}
use Rattle.seq_values.specs.Model.{Value, Term, Outcome, gave}
use Rattle.clj_script.specs.Trees.{Top, Program}
use Rattle.seq_plan.specs.Plan.{Rules}
use Rattle.seq_plan.specs.WellFormed.{Well, well_nil, WellList, well_end, well_item, WellTerm}
use Rattle.seq_plan.specs.Keeping.{KeepsRules, Keeps}
use Rattle.seq_plan.proofs.WellNodes.{well-append}
use Rattle.seq_meaning.specs.Walk.{Made, made, Run, ends, makes_of}
use Rattle.seq_meaning.specs.Names.{Name, part}
use Rattle.seq_meaning.specs.Gives.{in_order, Task, of_form, of_term, Work, work, task_plan, script_of, run, Of, of_top, of_part, of_retry, Part, part_of, True, no_answer, one_more, Gives, gives, Before, none_before, def_before, other_before}
use Rattle.seq_meaning.proofs.WellWalk.{WellOutcome, well_gave, well_threw, WellAnswers, well_no_answer, well_answer, WellMakes, well_no_make, well_make_then, WellRun, well_needs, well_ends, well_over, keeps_script, keeps-term_plan, keeps-form_plan, keeps-walk}

data WellTask : Task → Type 0 where
  well_form : {t : Top} → WellTask (of_form t)
  well_of_term : {t : Term Name} → WellTerm t → WellTask (of_term t)

data WellWork : Work → Type 0 where
  well_work : {defs : List (Value Name)} {t : Task} → WellList defs → WellTask t → WellWork (work defs t)

well-after : {os ps : List (Outcome Name)} → WellAnswers os → WellAnswers ps → WellAnswers (os ++ ps)
well-after well_no_answer h = h
well-after (well_answer o p) h = well_answer o (well-after p h)

well-in_order : {os : List (Outcome Name)} → WellAnswers os → WellAnswers (in_order os)
well-in_order well_no_answer = well_no_answer
well-in_order (well_answer o p) = well-after (well-in_order p) (well_answer o well_no_answer)

make_at : {ms : List (Made Name)} → WellMakes ms → (j : ℕ) (kind : Kind) (t : Term Name) → slice_get ms j ≡ Some (made kind t) → WellTerm t
make_at well_no_make j kind t p = absurd cc
make_at (well_make_then {t = u} h hs) zero kind t p = let q : u ≡ t = cc in subst (λ x. WellTerm x) q h
make_at (well_make_then h hs) (suc j) kind t p = make_at hs j kind t p

well-makes_of : {r : Run Name} → WellRun r → WellMakes (makes_of r)
well-makes_of (well_needs ms) = ms
well-makes_of (well_ends o ms) = ms
well-makes_of well_over = well_no_make

end_at : {r : Run Name} → WellRun r → (o : Outcome Name) (ms : List (Made Name)) → r ≡ ends o ms → WellOutcome o
end_at (well_needs hs) o ms p = absurd cc
end_at (well_ends {o = u} h hs) o ms p = let q : u ≡ o = cc in subst (λ x. WellOutcome x) q h
end_at well_over o ms p = absurd cc

given_value : {o : Outcome Name} → WellOutcome o → (v : Value Name) → o ≡ gave v → Well v
given_value (well_gave {v = u} h) v e = let q : u ≡ v = cc in subst (λ x. Well x) q h
given_value well_threw v e = absurd cc

module _ (rules : Rules Name) (program : Program) (limit : ℕ) (keeps : KeepsRules rules) where
  keeps-task : {defs : List (Value Name)} {t : Task} → WellList defs → WellTask t → Keeps Well (task_plan rules program limit defs t)
  keeps-task {defs = defs} d (well_form {t = t}) = keeps-form_plan {s = script_of rules program limit defs} (keeps_script keeps d) t
  keeps-task {defs = defs} d (well_of_term h) = keeps-term_plan {s = script_of rules program limit defs} (keeps_script keeps d) h

  runs : (e : Name) {w : Work} → WellWork w → {a : List (Outcome Name)} → WellAnswers a → WellRun (run rules program limit e w a)
  unfolding run
  runs e (well_work {defs = defs} d t) h = keeps-walk {s = script_of rules program limit defs} (keeps_script keeps d) (λ j. part e j) limit (keeps-task d t) 1 _ (well-in_order h)

  defs_of : {ds : List (Value Name)} {t : Task} → WellWork (work ds t) → WellList ds
  defs_of (well_work d t) = d

  term_of : {ds : List (Value Name)} {t : Term Name} → WellWork (work ds (of_term t)) → WellTerm t
  term_of (well_work d (well_of_term h)) = h

  mutual
    of_well : {e : Name} {w : Work} → Of rules program limit e w → WellWork w
    of_well (of_top b p) = well_work (before_well b) well_form
    of_well (of_part h) = part_well h
    of_well (of_retry of t e h g) = part_well h

    part_well : {n : Name} {kind : Kind} {w : Work} → Part rules program limit n kind w → WellWork w
    part_well (part_of {e = e} {j = j} {kind = kind} {t = t} of h q) =
        let w = of_well of in
        well_work (defs_of w) (well_of_term (make_at (well-makes_of (runs e w (true_well h))) j kind t q))

    true_well : {e : Name} {a : List (Outcome Name)} → True rules program limit e a → WellAnswers a
    true_well (no_answer of) = well_no_answer
    true_well (one_more of t e g) = well_answer (gives_well g) (true_well t)

    gives_well : {e : Name} {o : Outcome Name} → Gives rules program limit e o → WellOutcome o
    gives_well (gives {e = e} {ms = ms} {o = o} of t q) = end_at (runs e (of_well of) (true_well t)) o ms q

    before_well : {k : ℕ} {defs : List (Value Name)} → Before rules program limit k defs → WellList defs
    before_well none_before = well_end
    before_well (def_before {v = v} b p g q) = subst (λ l. WellList l) (sym q) (well-append (before_well b) (well_item (given_value (gives_well g) v refl) well_end))
    before_well (other_before b p i q) = subst (λ l. WellList l) (sym q) (well-append (before_well b) (well_item well_nil well_end))

  pub well_given : (e : Name) (v : Value Name) → Gives rules program limit e (gave v) → Well v
  well_given e v g = given_value (gives_well g) v refl

  pub well_part : (n : Name) (kind : Kind) (defs : List (Value Name)) (t : Term Name) → Part rules program limit n kind (work defs (of_term t)) → WellList defs × WellTerm t
  well_part n kind defs t p = let w = part_well p in (defs_of w, term_of w)
