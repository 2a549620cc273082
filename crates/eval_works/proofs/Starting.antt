-- Where the work of a part or of a form begins, and that its run begins there.
use Rattle.std.proofs.Common.{◌≡◌, ℕ, ◌<◌, length, List, sym, subst, ◌∙◌, ap}
use Rattle.std.specs.Prelude.{IsTrue}
use Rattle.std.proofs.lemmas.Option.{slice_get_within}
use Rattle.clj_script.specs.Trees.{Top}
use Rattle.clj_script.specs.Seen.{seen}
use Rattle.seq_values.specs.declared.words.Kind.{Kind}
use Rattle.seq_values.specs.declared.term.Term.{Term}
use Rattle.seq_values.specs.Plain.{plain_term}
use Rattle.seq_values.specs.WellFormed.{are_well_formed}
use Rattle.seq_values.specs.WellFormedTerms.{is_well_formed_term}
use Rattle.seq_plan.specs.Plan.{Plan}
use Rattle.seq_meaning.specs.Evaluates.{term_plan, form_plan}
use Rattle.cell_book.specs.declared.work.Place.TheVariants as P
use Rattle.cell_book.specs.Account.{Duty}
use Rattle.cell_book.specs.Glimpses.{Glimpse}
use Rattle.eval_frames.specs.Frames.{Ground, script_in}
use Rattle.eval_frames.specs.declared.state.Event.{Event}
use Rattle.lawful_works.specs.Basis.{RunsTo}
use Rattle.lawful_works.specs.Evaluated.{IsBegun, begun_part, begun_form}
use Rattle.eval_works.specs.Standing.{GoesBy, basis, plan_of, EventOn}
use Rattle.eval_works.specs.Begins.{IsNewWork, new_part, new_form, StandsAt, StartsForm, StartsAt}
use Rattle.eval_works.proofs.Leading.{same_script}

part_not_form : (c number k : ℕ) (kind : Kind) (t : Term) → P.Part c kind t ≡ P.Form number k → ⊥
part_not_form c number k kind t e = cc

same_term : (c d : ℕ) (i j : Kind) (t u : Term) → P.Part c i t ≡ P.Part d j u → t ≡ u
same_term c d i j t u e = cc

same_place : (m n i j : ℕ) → P.Form m i ≡ P.Form n j → i ≡ j
same_place m n i j e = cc

-- what is known of a work that may begin
module _ (tops : List Top) (w : Duty) where
  pub new_kept : IsNewWork tops w → IsTrue (are_well_formed w.outcomes)
  new_kept (new_part p) = p.kept
  new_kept (new_form pl top kept) = kept

  pub new_term : (c : ℕ) (kind : Kind) (t : Term) → w.place ≡ P.Part c kind t → IsNewWork tops w → IsTrue (is_well_formed_term t)
  new_term c kind t e (new_part p) = subst (λ x. IsTrue (is_well_formed_term x)) (same_term p.cell c p.kind kind p.term t (sym p.place ∙ e)) p.proper
  new_term c kind t e (new_form {number = n} {k = k} pl top kept) = absurd (part_not_form c n k kind t (sym e ∙ pl))

  pub new_within : (number k : ℕ) → w.place ≡ P.Form number k → IsNewWork tops w → k < length tops
  new_within number k e (new_part p) = absurd (part_not_form p.cell number k p.kind p.term (sym p.place ∙ e))
  new_within number k e (new_form {number = n} {k = i} {t = t} pl top kept) = subst (λ j. j < length tops) (same_place n number i k (sym pl ∙ e)) (slice_get_within tops i t top)

-- where it begins
module _ {S : Type 0} {b : _} (by : Ground S) (limit : ℕ) (w : Duty) (e : Event S b) where
  pub part_starts : (c : ℕ) (kind : Kind) (t : Term) → w.place ≡ P.Part c kind t → StandsAt by limit (term_plan (script_in by) (plain_term t)) e → StartsAt by limit w e
  part_starts c kind t place s = record {
    part = λ d j u q. subst (λ x. StandsAt by limit (term_plan (script_in by) (plain_term x)) e) (same_term c d kind j t u (sym place ∙ q)) s;
    form = λ n k q. absurd (part_not_form c n k kind t (sym place ∙ q));
  }

  pub form_starts : (number k : ℕ) → w.place ≡ P.Form number k → StartsForm by limit k e → StartsAt by limit w e
  form_starts number k place s = record {
    part = λ d j u q. absurd (part_not_form d number k j u (sym q ∙ place));
    form = λ n i q. subst (λ x. StartsForm by limit x e) (same_place number n k i (sym place ∙ q)) s;
  }

-- a work that was just opened may begin
pub begun_new : {S : Type 0} (by : Ground S) (limit : ℕ) (h : Glimpse) (w : Duty) → IsBegun (basis by limit) h w → IsNewWork (seen by.code.program).tops w
begun_new by limit h w (begun_part o) = new_part (record { cell = _; kind = o.on.kind; term = o.on.term; place = o.on.place; proper = o.proper; kept = o.kept })
begun_new by limit h w (begun_form pl top kept run) = new_form pl top kept

-- and where it begins, its run begins
module _ {S : Type 0} {b : _} (by : Ground S) (limit : ℕ) (h : Glimpse) (w : Duty) (goes : GoesBy by.code w) (e : Event S b) where
  on_at : (p q : Plan ℕ) → q ≡ p → StandsAt by limit q e → RunsTo (basis by limit) h w limit p → EventOn by limit h w e
  on_at p q same s r = subst (λ n. RunsTo (basis by limit) h w n (plan_of by e)) (sym s.0) (subst (λ x. RunsTo (basis by limit) h w limit x) (sym (s.1 ∙ same)) r)

  pub begun_on : IsBegun (basis by limit) h w → StartsAt by limit w e → EventOn by limit h w e
  begun_on (begun_part {c = c} o) s = on_at _ _ (ap (λ z. term_plan z (plain_term o.on.term)) (same_script by limit h w goes)) (s.part c o.on.kind o.on.term o.on.place) (o.starts (basis by limit))
  begun_on (begun_form {number = n} {k = k} {t = t} pl top kept run) s = on_at _ _ (ap (λ z. form_plan z t) (same_script by limit h w goes)) (s.form n k pl t top) run
