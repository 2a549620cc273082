-- The rows keep to well-formed values, and the states of a pull stay those that its stages may have.
use Rattle.std.proofs.Common.{◌≡◌, ℕ, pos, true, false, List, [], ◌∷◌, ◌++◌, refl, ap, sym, ◌∙◌}
use Rattle.seq_values.specs.Sight.{Kept, left, dropping, group_of, Sight}
use Rattle.seq_values.specs.WellFormedTerms.{takes, is_pull, is_state, are_states}
use Rattle.seq_values.specs.declared.words.Builtin.{Builtin}
use Rattle.seq_values.specs.declared.words.Builtin.TheVariants as B
use Rattle.seq_values.specs.declared.words.Kind.TheVariants.{Lazy}
use Rattle.seq_values.specs.declared.words.Op.TheVariants as O
use Rattle.seq_values.specs.declared.words.Target.TheVariants as T
use Rattle.seq_values.specs.Model.{Value, int, vector, function, cell, empty, chunk, no_values, list, values}
use Rattle.seq_plan.specs.Plan.{Plan, seq, call, go, give, Loop, enter_from, pull_from}
use Rattle.seq_plan.specs.Nodes.{with_items, give_value, make_term}
use Rattle.seq_plan.specs.Stages.{is_transducer, stages_of, fresh}
use Rattle.seq_plan.specs.WellFormed.{sight, sights, Well, well_nil, well_function, well_cell, well_empty, well_chunk, well_none, WellList, well_end, well_item, well_term}
use Rattle.seq_plan.specs.Keeping.{Stage, kept_of, is_kept, Staged, no_stage, stage_then, well_reduces, well_gathers, Pulling, pulling, Pulled, has_pulled, Variables, Given, Keeps, keeps_seq, keeps_call, keeps_go, keeps_make, keeps_give, keeps_throw, KeepsRound, keeps_end, keeps_fail, keeps_visits}
use Rattle.seq_plan.proofs.FitLemmas.{both, first_of_both, second_of_both}
use Rattle.seq_plan.proofs.WellNodes.{well-list, well-values, well-first_of, well-rest_of, keeps-either, keeps-round_at, keeps-with_members, keeps-give_value}
use Rattle.seq_plan.proofs.WellLists.{well-with_items}
use Rattle.seq_plan.proofs.WellStages.{all_kept, AreStages, stages_end, stages_item, SeenAs, seen_as, seen, begins_well, begin_staged, staged_values, staged_list, of_values, keeps-with_stages, keeps-enter, keeps-enter_each, keeps-complete, keeps-enter_round, well-answer_of, well-outputs_of}
use Rattle.stage_rows.specs.Table.{transduce_rule, kept, replaced, make_pull, pull_round, last_outputs, after_pull, pull_term, stage_call, stage_round}

module _ {C : Type 0} where
  keeps-transduce : {stages : List (Value C)} → AreStages stages → {f init c : Value C} → Well f → Well init → Well c → Keeps Well (transduce_rule stages f init c)
  keeps-transduce {stages = stages} st f i c = keeps-enter_each (begin_staged st) (well_reduces f i) c (λ states st' sink w done.
      keeps-complete stages st' w (λ after ws. keeps_call f (well_item (well-answer_of ws) well_end) (λ v u. keeps_give u)))

  -- ## The states that are kept

  well-kept : {stages states : List (Value C)} → Staged stages states → WellList (kept states)
  well-kept no_stage = well_end
  well-kept (stage_then p well_nil i q) = well-kept q
  well-kept (stage_then p w i q) = well_item w (well-kept q)

  kept_one : (ks : List Kept) {state : Value C} → Well state → is_kept ks (sight state) ≡ true → (more : List Kept) (states : List (Value C)) → are_states more (sights (values (kept states))) ≡ true → are_states (ks ++ more) (sights (values (kept (state ∷ states)))) ≡ true
  kept_one [] well_nil i more states e = e
  kept_one (left ∷ []) well_nil i more states e = absurd cc
  kept_one (dropping ∷ []) well_nil i more states e = absurd cc
  kept_one (group_of n ∷ []) well_nil i more states e = absurd cc
  kept_one [] _ i more states e = absurd cc
  kept_one (k ∷ []) w i more states e = both i e
  kept_one (k ∷ l ∷ ks) w i more states e = absurd cc

  are_kept : {stages states : List (Value C)} → Staged stages states → are_states (all_kept stages) (sights (values (kept states))) ≡ true
  are_kept no_stage = refl
  are_kept (stage_then {stage = stage} p w i q) = kept_one (kept_of stage) w i _ _ (are_kept q)

  -- a state that was kept stands where a fresh one would
  replaced_one : {stage new : Value C} → Stage stage → (ks : List Kept) → kept_of stage ≡ ks → Well new → is_kept ks (sight new) ≡ true → {stages : List (Value C)} (news : List (Value C)) → ((states : List (Value C)) → WellList states → are_states (all_kept stages) (sights (values states)) ≡ true → Staged stages (replaced news states)) → {states : List (Value C)} → WellList states → are_states (ks ++ all_kept stages) (sights (values states)) ≡ true → Staged (stage ∷ stages) (replaced (new ∷ news) states)
  replaced_one p [] k well_nil i news f h e = stage_then p well_nil (rw (k) refl) (f _ h e)
  replaced_one p (left ∷ []) k well_nil i news f h e = absurd cc
  replaced_one p (dropping ∷ []) k well_nil i news f h e = absurd cc
  replaced_one p (group_of n ∷ []) k well_nil i news f h e = absurd cc
  replaced_one p [] k _ i news f h e = absurd cc
  replaced_one p (l ∷ []) k w i news f well_end e = absurd cc
  replaced_one p (l ∷ []) k w i news f (well_item {x = state} u us) e = stage_then p u (ap (λ z. is_kept z (sight state)) k ∙ first_of_both (is_state l (sight state)) _ e) (f _ us (second_of_both (is_state l (sight state)) _ e))
  replaced_one p (l ∷ m ∷ ks) k w i news f h e = absurd cc

  replaced_staged : {stages : List (Value C)} → AreStages stages → (states : List (Value C)) → WellList states → are_states (all_kept stages) (sights (values states)) ≡ true → Staged stages (replaced (fresh stages) states)
  replaced_staged stages_end states h e = no_stage
  replaced_staged (stages_item {stage = stage} p q) states h e = replaced_one p (kept_of stage) refl (begins_well p).0 (begins_well p).1 (fresh _) (replaced_staged q) h e

  -- ## sequence and Pull

  is_a_pull : {xf : Value C} → SeenAs xf → (states : List Sight) → are_states (all_kept (stages_of xf)) states ≡ true → (c : Sight) → takes O.Pull (sight xf ∷ c ∷ states) ≡ true
  is_a_pull (seen_as s) states e c = ap (λ z. is_pull (z ∷ c ∷ states)) s ∙ e

  of_a_pull : {xf : Value C} → SeenAs xf → (states : List Sight) (c : Sight) → takes O.Pull (sight xf ∷ c ∷ states) ≡ true → are_states (all_kept (stages_of xf)) states ≡ true
  of_a_pull (seen_as s) states c e = sym (ap (λ z. is_pull (z ∷ c ∷ states)) s) ∙ e

  keeps-make_pull : {xf : Value C} → Well xf → is_transducer xf ≡ true → {states : List (Value C)} → Staged (stages_of xf) states → {c : Value C} → Well c → {k : C → Plan C} → ((m : C) → Keeps Well (k m)) → Keeps Well (make_pull xf states c k)
  keeps-make_pull {xf = xf} h e {states = states} st {c = c} w {k = k} f =
      keeps-with_members (xf ∷ c ∷ kept states) (λ args. make_term Lazy O.Pull args k) (keeps_make (well_term (well_item h (well_item w (well-kept st))) (is_a_pull (seen h e) (sights (values (kept states))) (are_kept st) (sight c))) f)

  keeps-pull_round : {xs : List (Value C)} → Pulling xs → KeepsRound (Given pull_from xs) (pull_round xs)
  keeps-pull_round (pulling {n = n} {stages = stages} {states = states} {outputs = outputs} {s = s} st o w) = keeps-round_at s
      (keeps_end (has_pulled (staged_list st) (well-values (well-list o)) well_nil))
      (keeps_visits (keeps-enter st (well_gathers (well-list o)) (well-first_of w) (λ new st' sink ws done.
      keeps-either done
      (keeps_give (has_pulled (staged_list st') (well-values (well-outputs_of ws)) well_nil))
      (keeps-either _
      (keeps_give (has_pulled (staged_list st') (well-values (well-outputs_of ws)) (well-rest_of w)))
      (keeps_seq (well-rest_of w) (λ t u e. keeps_go (pulling (staged_list st') (well-values (well-outputs_of ws)) u) (λ v g. keeps_give g)))))))

  keeps-last_outputs : {xs : List (Value C)} → WellList xs → Keeps Well (last_outputs xs)
  keeps-last_outputs well_end = keeps_give well_nil
  keeps-last_outputs (well_item {x = x} {xs = xs} p q) = keeps-with_members (x ∷ xs) (λ outputs. give_value (chunk (values outputs) empty)) (keeps-give_value (λ d. well_chunk refl d (well-values (well_item p q)) well_empty))

  keeps-after_pull : {xf : Value C} → Well xf → is_transducer xf ≡ true → {v : Value C} → Pulled (stages_of xf) v → Keeps Well (after_pull xf (stages_of xf) v)
  keeps-after_pull {xf = xf} h e (has_pulled {ended = true} st o w) = keeps-complete (stages_of xf) st (well_gathers (well-list o)) (λ s ws. keeps-last_outputs (well-outputs_of ws))
  keeps-after_pull h e (has_pulled {outputs = outputs} {ended = false} st o w) =
      keeps-make_pull h e st w (λ m. keeps-with_members (list outputs) (λ xs. give_value (with_items (values xs) (cell m))) (keeps-give_value (well-with_items (well-values (well-list o)) refl well_cell)))

  back : (stages : List (Value C)) {v : Value C} → Pulled (list (values stages)) v → Pulled stages v
  back stages (has_pulled st o w) = has_pulled (of_values stages st) o w

  pub keeps-pull_term : (size : ℕ) {xs : List (Value C)} → WellList xs → takes O.Pull (sights (values xs)) ≡ true → Keeps Well (pull_term size xs)
  keeps-pull_term size (well_item {x = xf} h (well_item {x = c} {xs = states} w q)) t =
      keeps-with_stages h (λ stages. seq c (λ s. go pull_from (int (pos size) ∷ vector (values stages) ∷ vector (values (replaced (fresh stages) states)) ∷ vector no_values ∷ s ∷ []) (after_pull xf stages))) (λ e st.
      keeps_seq w (λ s u i. keeps_go (pulling (staged_list (staged_values (replaced_staged st states q (of_a_pull (seen h e) (sights (values states)) (sight c) t)))) well_none u) (λ v g. keeps-after_pull h e (back (stages_of xf) g))))
  keeps-pull_term size _ t = keeps_throw

  -- ## The words

  pub keeps-stage_call : (word : Builtin) {xs : List (Value C)} → WellList xs → Keeps Well (stage_call word xs)
  keeps-stage_call B.Transduce (well_item h (well_item {x = f} p (well_item {x = c} q well_end))) = keeps-with_stages h (λ stages. call f [] (λ init. transduce_rule stages f init c)) (λ e st. keeps_call p well_end (λ v w. keeps-transduce st p w q))
  keeps-stage_call B.Transduce (well_item h (well_item {x = f} p (well_item {x = init} i (well_item {x = c} q well_end)))) = keeps-with_stages h (λ stages. transduce_rule stages f init c) (λ e st. keeps-transduce st p i q)
  keeps-stage_call B.Into (well_item {x = to} i (well_item h (well_item {x = c} q well_end))) = keeps-with_stages h (λ stages. transduce_rule stages (function (T.Builtin B.Conj) no_values) to c) (λ e st. keeps-transduce st (well_function refl refl well_none) i q)
  keeps-stage_call B.Sequence (well_item {x = xf} h (well_item {x = c} q well_end)) = keeps-with_stages h (λ stages. make_pull xf (fresh stages) c (λ m. give (cell m))) (λ e st. keeps-make_pull h e (begin_staged st) q (λ m. keeps_give well_cell))
  keeps-stage_call B.Cat _ = keeps_throw
  keeps-stage_call _ _ = keeps_throw

  pub keeps-stage_round : (l : Loop) (xs : List (Value C)) → Variables l xs → KeepsRound (Given l xs) (stage_round l xs)
  keeps-stage_round enter_from xs h = keeps-enter_round h
  keeps-stage_round pull_from xs h = keeps-pull_round h
  keeps-stage_round _ xs h = keeps_fail
