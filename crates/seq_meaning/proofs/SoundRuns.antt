-- Where the rules keep to sound values, so does every evaluation of a program.
use Rattle.std.proofs.Common.{◌≡◌, ℕ, List, refl, subst, sym}
use Rattle.seq_values.specs.Model.{Value, Term, Outcome, gave}
use Rattle.clj_script.specs.Trees.{Program}
use Rattle.seq_values.specs.declared.words.Kind.{Kind}
use Rattle.seq_plan.specs.Plan.{Rules}
use Rattle.seq_plan.specs.Sound.{Sound, SoundList, SoundRules}
use Rattle.seq_plan.specs.Alike.{Likeness, Like, like_nil, LikeList, like_end, like_item, LikeTerm, like_term, LikeOutcome, like_gave, like_threw, LikeRules}
use Rattle.seq_plan.proofs.AlikeNodes.{like-append}
use Rattle.seq_plan.proofs.SoundByLikes.{Itself, sound_value, sound_list, value_itself, list_itself, rules_themselves}
use Rattle.seq_meaning.specs.Alike.{LikeRun, LikeAnswers, like_no_answer, like_answer}
use Rattle.seq_meaning.specs.Names.{Name}
use Rattle.seq_meaning.specs.Gives.{Task, of_term, Work, work, run, Of, of_top, of_part, of_retry, Part, part_of, True, no_answer, one_more, Gives, gives, Before, none_before, def_before, other_before}
use Rattle.seq_meaning.specs.Twins.{like_form, like_of_term, LikeWork, like_work}
use Rattle.seq_meaning.proofs.Twinned.{like-run, like_make_at, like_makes_of, like_end_at}

abbrev S : Likeness Name Name
S = Itself Name

term_itself : {t u : Term Name} → LikeTerm S t u → LikeTerm S t t
term_itself (like_term h) = like_term (list_itself (sound_list refl h))

outcome_itself : {o p : Outcome Name} → LikeOutcome S o p → LikeOutcome S o o
outcome_itself (like_gave h) = like_gave (value_itself (sound_value refl h))
outcome_itself like_threw = like_threw

given_value : {o p : Outcome Name} {v : Value Name} → LikeOutcome S o p → o ≡ gave v → Like S v v
given_value {v = v} (like_gave {v = u} h) e = let q : u ≡ v = cc in subst (λ x. Like S x x) q (value_itself (sound_value refl h))
given_value like_threw e = absurd cc

module _ (rules : Rules Name) (program : Program) (limit : ℕ) (keeps : LikeRules S rules rules) where
  runs : (e : Name) {w : Work} → LikeWork S w w → {a : List (Outcome Name)} → LikeAnswers S a a → LikeRun S (run rules program limit e w a) (run rules program limit e w a)
  runs e h a = like-run rules program limit S keeps e e (λ j. refl) h a

  defs_of : {ds es : List (Value Name)} {t u : Task} → LikeWork S (work ds t) (work es u) → LikeList S ds es
  defs_of (like_work d t) = d

  mutual
    of_itself : {e : Name} {w : Work} → Of rules program limit e w → LikeWork S w w
    of_itself (of_top b p) = like_work (before_itself b) like_form
    of_itself (of_part h) = part_itself h
    of_itself (of_retry of t e h g) = part_itself h

    part_itself : {n : Name} {kind : Kind} {w : Work} → Part rules program limit n kind w → LikeWork S w w
    part_itself (part_of {e = e} {j = j} {kind = kind} {t = t} of h q) =
        let w = of_itself of in
        let m = like_make_at rules program limit (like_makes_of rules program limit (runs e w (true_itself h))) j kind t q in
        like_work (defs_of w) (like_of_term (term_itself m.2))

    true_itself : {e : Name} {a : List (Outcome Name)} → True rules program limit e a → LikeAnswers S a a
    true_itself (no_answer of) = like_no_answer
    true_itself (one_more of t e g) = like_answer (gives_itself g) (true_itself t)

    gives_itself : {e : Name} {o : Outcome Name} → Gives rules program limit e o → LikeOutcome S o o
    gives_itself (gives {e = e} of t q) = outcome_itself (like_end_at rules program limit (runs e (of_itself of) (true_itself t)) q).3

    before_itself : {k : ℕ} {defs : List (Value Name)} → Before rules program limit k defs → LikeList S defs defs
    before_itself none_before = like_end
    before_itself (def_before b p g q) = subst (λ l. LikeList S l l) (sym q) (like-append (before_itself b) (like_item (given_value (gives_itself g) refl) like_end))
    before_itself (other_before b p i q) = subst (λ l. LikeList S l l) (sym q) (like-append (before_itself b) (like_item like_nil like_end))

term_args : {ds es : List (Value Name)} {t u : Term Name} → LikeWork S (work ds (of_term t)) (work es (of_term u)) → SoundList t.args
term_args (like_work d (like_of_term (like_term h))) = sound_list refl h

module _ (rules : Rules Name) (program : Program) (limit : ℕ) (keeps : SoundRules rules) where
  pub sound_given : {e : Name} {v : Value Name} → Gives rules program limit e (gave v) → Sound v
  sound_given g = sound_value refl (given_value (gives_itself rules program limit (rules_themselves keeps) g) refl)

  pub sound_part : {n : Name} {kind : Kind} {defs : List (Value Name)} {t : Term Name} → Part rules program limit n kind (work defs (of_term t)) → SoundList defs × SoundList t.args
  sound_part p = let h = part_itself rules program limit (rules_themselves keeps) p in (sound_list refl (defs_of rules program limit (rules_themselves keeps) h), term_args h)

  pub sound_work : {e : Name} {defs : List (Value Name)} {t : Term Name} → Of rules program limit e (work defs (of_term t)) → SoundList defs × SoundList t.args
  sound_work of = let h = of_itself rules program limit (rules_themselves keeps) of in (sound_list refl (defs_of rules program limit (rules_themselves keeps) h), term_args h)

  -- the values of the forms before
  pub sound_before : {k : ℕ} {defs : List (Value Name)} → Before rules program limit k defs → SoundList defs
  sound_before b = sound_list refl (before_itself rules program limit (rules_themselves keeps) b)
