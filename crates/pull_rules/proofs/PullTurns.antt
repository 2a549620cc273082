-- Turns of a pull.
use Rattle.std.proofs.Common.{◌≡◌, ℕ, ◌+◌, ◌<◌, ◌≤◌, pos, int_le, Bool, true, false, cond, List, [], ◌∷◌, ◌++◌, length, drop, Some, None, refl, ap, sym, subst, ◌∙◌, rules, arith}
use Rattle.std.specs.Prelude.{IsTrue}
use Rattle.std.proofs.lemmas.List.{length-map}
use Rattle.seq_base.specs.declared.thrown.Thrown.{Thrown}
use Rattle.seq_base.specs.declared.thrown.Thrown.TheVariants.{Overflow}
use Rattle.seq_values.specs.Model as M
use Rattle.seq_values.specs.Model.{◌&◌}
use Rattle.seq_values.specs.Plain.{plain, plains, plain_term}
use Rattle.seq_values.specs.Sight.{Kept, Sight, a_nil, a_bool, an_int, a_vector, a_cell, an_empty, a_cons, a_chunked, a_function, another}
use Rattle.seq_values.specs.WellFormed.{is_well_formed, are_well_formed}
use Rattle.seq_values.specs.WellFormedTerms.{takes, is_pull, are_states, is_well_formed_term}
use Rattle.seq_values.specs.declared.term.Term.{Term}
use Rattle.seq_values.specs.declared.value.Value.{Value}
use Rattle.seq_values.specs.declared.words.Kind.TheVariants.{Lazy}
use Rattle.seq_values.specs.declared.words.Op.TheVariants as O
use Rattle.seq_values.proofs.DepthLemmas.{and_parts}
use Rattle.seq_values.proofs.WellFormedLemmas.{list_keeps}
use Rattle.seq_plan.specs.Plan.{Plan, visit, seq, make, give, throw, then, go, pull_from}
use Rattle.seq_plan.specs.Nodes.{first_of, rest_of, with_members, make_term}
use Rattle.seq_plan.specs.Stages.{Sink, gathers, Onward, outputs_of, with_stages, fresh, enter}
use Rattle.seq_plan.specs.Turns.{node}
use Rattle.seq_plan.specs.Cursors.{stands}
use Rattle.seq_plan.specs.declared.cursor.Cursor.{Cursor}
use Rattle.seq_plan.specs.WellFormed.{sight, sights, WellList, well_end, well_item, WellTerm, well_term}
use Rattle.seq_plan.proofs.WellValues.{well_formed, term_formed, formed_term}
use Rattle.seq_plan.proofs.StageLoops.{list_values}
use Rattle.seq_plan.proofs.StageThens.{then_enter}
use Rattle.seq_turns.specs.Making.{Grows, grown}
use Rattle.seq_turns.specs.Turning.{arrives}
use Rattle.seq_turns.specs.declared.made.Grown.{Grown}
use Rattle.seq_turns.specs.declared.made.Grown.TheVariants as G
use Rattle.seq_turns.specs.declared.next.Next.{Next}
use Rattle.seq_turns.specs.declared.places.Rest.{Rest}
use Rattle.seq_turns.specs.declared.proper.Gathered.{Gathered}
use Rattle.seq_turns.specs.Seen.{rested}
use Rattle.seq_turns.proofs.Taking.{some_cursor}
use Rattle.stage_rows.specs.Table.{kept, replaced, make_pull, pulled, after_pull, pull_term}
use Rattle.xf_stages.specs.Left.{stages_in, states_in}
use Rattle.xf_stages.specs.Opening.{Opens, AreFresh, AddsStates, seen_kept, kept_in}
use Rattle.xf_stages.specs.declared.state.Opened.TheVariants as D
use Rattle.xf_stages.specs.declared.state.Stages.{Stages}
use Rattle.pull_rules.specs.Kept.{IsThrough}
use Rattle.pull_rules.specs.Left.{left_part, left_seq, left_step, pull_at, pull_ends, pull_stops, pull_on, pull_over, Takes}
use Rattle.pull_rules.specs.Reducing.{Errand, Gathers, IsAsked, IsGatheringAsked, left_gathering, gathering_node, gathering_stages, waiting_for, waiting_stages}
use Rattle.pull_rules.specs.Through.{TurnThrough}
use Rattle.pull_rules.specs.declared.flow.Gathering.{Gathering}
use Rattle.pull_rules.specs.declared.flow.GatheringTurn.{GatheringTurn}
use Rattle.pull_rules.specs.declared.flow.GatheringTurn.TheVariants as GT
use Rattle.pull_rules.specs.declared.flow.Outputs.{Outputs}
use Rattle.pull_rules.specs.declared.state.AtPart.{AtPart}
use Rattle.pull_rules.specs.declared.state.AtPart.TheVariants as P
use Rattle.pull_rules.specs.declared.state.AtSeq.TheVariants as Q
use Rattle.pull_rules.specs.declared.state.AtStages.TheVariants as A
use Rattle.pull_rules.specs.declared.state.AtStep.TheVariants as T
use Rattle.pull_rules.specs.declared.state.Midway.{Midway}
use Rattle.pull_rules.specs.declared.state.Pull.{Pull}
use Rattle.pull_rules.specs.declared.state.Pulling.{Pulling}
use Rattle.pull_rules.specs.declared.state.State.{State}
use Rattle.pull_rules.specs.declared.state.State.TheVariants as S
use Rattle.pull_rules.proofs.Taking.{takes_from, takes_same, takes_loop, silent_stages}

-- ## The part that pulls

-- what a pull takes, where the transducer is seen as what its stages keep
pub pull_by : (x c : Sight) (ks : List Kept) (ss : List Sight) → seen_kept x ≡ Some ks → is_pull (x ∷ c ∷ ss) ≡ are_states ks ss
pull_by (a_function t (Some k)) c ks ss e = let p : k ≡ ks = cc in ap (λ l. are_states l ss) p
pull_by (a_function t None) c ks ss e = absurd cc
pull_by a_nil c ks ss e = absurd cc
pull_by a_bool c ks ss e = absurd cc
pull_by (an_int n) c ks ss e = absurd cc
pull_by (a_vector n) c ks ss e = absurd cc
pull_by a_cell c ks ss e = absurd cc
pull_by an_empty c ks ss e = absurd cc
pull_by a_cons c ks ss e = absurd cc
pull_by a_chunked c ks ss e = absurd cc
pull_by another c ks ss e = absurd cc

pub sequence_makes : (xf c : Value) (s : Stages) (r : Next State) → Opens (with_stages (plain xf)) (D.Stages s) → AreFresh s → Takes (make_pull (plain xf) (states_in s) (plain c) (λ m. left_part P.Cell m)) r → Takes (with_stages (plain xf) (λ stages. make_pull (plain xf) (fresh stages) (plain c) (λ m. give (M.cell m)))) r
sequence_makes xf c s r e n h = takes_same ((λ i. make_pull (plain xf) (n i) (plain c) (λ m. give (M.cell m))) ∙ sym (e.goes (λ stages. make_pull (plain xf) (fresh stages) (plain c) (λ m. give (M.cell m))))) h

pull_grown : (xf c : Value) (both : List Value) (s : Stages) (next : AtPart) (g : Grown) (r : Next State) → both ≡ xf ∷ c ∷ [] → Grows (with_members (plains both ++ kept (states_in s))) g → Takes (grown g (λ args. make_term Lazy O.Pull args (λ m. left_part next m))) r → Takes (make_pull (plain xf) (states_in s) (plain c) (λ m. left_part next m)) r
pull_grown xf c both s next g r q e h =
    let k : List (M.Value ℕ) → Plan ℕ = λ args. make_term Lazy O.Pull args (λ m. left_part next m) in
    takes_same (sym (e.goes k) ∙ ap (λ l. with_members (plains l ++ kept (states_in s)) k) q) h

pub pull_too_long : (xf c : Value) (both : List Value) (s : Stages) (next : AtPart) (r : Next State) → both ≡ xf ∷ c ∷ [] → Grows (with_members (plains both ++ kept (states_in s))) G.TooMany → Takes (throw Overflow) r → Takes (make_pull (plain xf) (states_in s) (plain c) (λ m. left_part next m)) r
pull_too_long xf c both s next r q e h = pull_grown xf c both s next G.TooMany r q e h

pub pull_makes : (xf c : Value) (both : List Value) (s : Stages) (next : AtPart) (all : Gathered) (r : Next State) → both ≡ xf ∷ c ∷ [] → Grows (with_members (plains both ++ kept (states_in s))) (G.All all) → Takes (make Lazy (record { op = O.Pull; args = plains all.items.items }) (λ m. left_part next m)) r → Takes (make_pull (plain xf) (states_in s) (plain c) (λ m. left_part next m)) r
pull_makes xf c both s next all r q e h = pull_grown xf c both s next (G.All all) r q e h

pub pull_takes : (xf c : Value) (both all : List Value) (s : Stages) → both ≡ xf ∷ c ∷ [] → AddsStates (kept_in s) (plains both) (plains all) → IsThrough (plain xf) (stages_in s) → takes O.Pull (sights (M.values (plains all))) ≡ true
pull_takes xf c both all s q a t =
    ap (λ l. takes O.Pull (sights (M.values l))) (a.all ∙ ap (λ l. plains l ++ a.states) q)
    ∙ pull_by (sight (plain xf)) (sight (plain c)) (kept_in s) (sights (M.values a.states)) t ∙ a.fit

pub two_gathered : (none one both : List Value) (x y : Value) → none ≡ [] → one ≡ none ++ x ∷ [] → both ≡ one ++ y ∷ [] → both ≡ x ∷ y ∷ []
two_gathered none one both x y e q p = p ∙ ap (λ l. l ++ y ∷ []) (q ∙ ap (λ l. l ++ x ∷ []) e)

pub one_gathered : (none one : List Value) (x : Value) → none ≡ [] → one ≡ none ++ x ∷ [] → length one < 4294967295
one_gathered none one x e q = let l : length one ≡ 1 = ap length (q ∙ ap (λ l. l ++ x ∷ []) e) in omega (arith, l)

pub term_makes : (xs ys : List Value) (t : Term) (next : AtPart) (r : Next State) → ys ≡ xs → plain_term t ≡ record { op = O.Pull; args = plains ys } → Takes (make Lazy (plain_term t) (λ m. left_part next m)) r → Takes (make Lazy (record { op = O.Pull; args = plains xs }) (λ m. left_part next m)) r
term_makes xs ys t next r e q h = takes_same (ap (λ x. make Lazy x (λ m. left_part next m)) (q ∙ ap (λ l. record { op = O.Pull; args = plains l }) e)) h

pub term_fits : (xs ys : List Value) → ys ≡ xs → takes O.Pull (sights (M.values (plains xs))) ≡ true → takes O.Pull (sights (M.values (plains ys))) ≡ true
term_fits xs ys e h = ap (λ l. takes O.Pull (sights (M.values (plains l)))) e ∙ h

all_well : (xs : List Value) → IsTrue (are_well_formed xs) → WellList (plains xs)
all_well [] h = well_end
all_well (x ∷ xs) h = let parts = and_parts (is_well_formed x) (are_well_formed xs) h in well_item (well_formed x parts.0) (all_well xs parts.1)

pub term_formed_by : (t : Term) → t.op ≡ O.Pull → IsTrue (are_well_formed t.args) → takes O.Pull (sights (M.values (plains t.args))) ≡ true → IsTrue (is_well_formed_term t)
term_formed_by t e w h = formed_term t (list_keeps t.args w) (well_term (all_well t.args w) (ap (λ o. takes o (sights (M.values (plains t.args)))) e ∙ h))

-- ## The work of a part begins

by_well : {t : M.Term ℕ} → WellTerm t → takes t.op (sights (M.values t.args)) ≡ true
by_well (well_term w e) = e

pub work_takes : (t : Term) → t.op ≡ O.Pull → IsTrue (is_well_formed_term t) → takes O.Pull (sights (M.values (plains t.args))) ≡ true
work_takes t e h = ap (λ o. takes o (sights (M.values (plains t.args)))) (sym e) ∙ by_well (term_formed t h)

pub two_arguments : (xs : List Value) → takes O.Pull (sights (M.values (plains xs))) ≡ true → 2 ≤ length xs
two_arguments [] h = absurd cc
two_arguments (x ∷ []) h = absurd (one_short (sight (plain x)) h)
  where
    one_short : (s : Sight) → is_pull (s ∷ []) ≡ true → ⊥
    one_short (a_function t (Some k)) e = absurd cc
    one_short (a_function t None) e = absurd cc
    one_short a_nil e = absurd cc
    one_short a_bool e = absurd cc
    one_short (an_int n) e = absurd cc
    one_short (a_vector n) e = absurd cc
    one_short a_cell e = absurd cc
    one_short an_empty e = absurd cc
    one_short a_cons e = absurd cc
    one_short a_chunked e = absurd cc
    one_short another e = absurd cc
two_arguments (x ∷ y ∷ xs) h = omega arith

pub first_arguments : (xs : List Value) (x y : Value) → drop 0 xs ≡ x ∷ drop (0 + 1) xs → drop 1 xs ≡ y ∷ drop (1 + 1) xs → xs ≡ x ∷ y ∷ drop 2 xs
first_arguments [] x y e q = absurd cc
first_arguments (a ∷ []) x y e q = absurd cc
first_arguments (a ∷ b ∷ zs) x y e q = e ∙ ap (λ l. x ∷ l) q

-- with the states that were kept
begins_at : ℕ → M.Value ℕ → M.Value ℕ → List (M.Value ℕ) → List (M.Value ℕ) → Plan ℕ
begins_at size xf c states stages = seq c (λ s. pull_at size xf stages (replaced (fresh stages) states) [] s)

pub pull_thrown : (size : ℕ) (xs : List Value) (xf c : Value) (why : Thrown) (r : Next State) → xs ≡ xf ∷ c ∷ drop 2 xs → Opens (with_stages (plain xf)) (D.Thrown why) → Takes (throw why) r → Takes (pull_term size (plains xs)) r
pull_thrown size xs xf c why r q e h = takes_same (sym (e.goes (λ stages. seq (plain c) (λ s. pull_at size (plain xf) stages (replaced (fresh stages) (plains (drop 2 xs))) [] s))) ∙ ap (λ l. pull_term size (plains l)) (sym q)) h

pub pull_opened : (size : ℕ) (xs : List Value) (xf c : Value) (st : Stages) (r : Next State) → xs ≡ xf ∷ c ∷ drop 2 xs → Opens (with_stages (plain xf)) (D.Stages st) → AreFresh st → Takes (seq (plain c) (λ s. pull_at size (plain xf) (stages_in st) (replaced (states_in st) (plains (drop 2 xs))) [] s)) r → Takes (pull_term size (plains xs)) r
pull_opened size xs xf c st r q e n h =
    takes_same (
    (λ i. seq (plain c) (λ s. pull_at size (plain xf) (stages_in st) (replaced (n i) (plains (drop 2 xs))) [] s))
    ∙ sym (e.goes (λ stages. seq (plain c) (λ s. pull_at size (plain xf) stages (replaced (fresh stages) (plains (drop 2 xs))) [] s)))
    ∙ ap (λ l. pull_term size (plains l)) (sym q)) h

pub kept_fit : (xs : List Value) (xf c : Value) (st : Stages) → xs ≡ xf ∷ c ∷ drop 2 xs → IsThrough (plain xf) (stages_in st) → takes O.Pull (sights (M.values (plains xs))) ≡ true → are_states (kept_in st) (sights (M.values (plains (drop 2 xs)))) ≡ true
kept_fit xs xf c st q t h = sym (pull_by (sight (plain xf)) (sight (plain c)) (kept_in st) (sights (M.values (plains (drop 2 xs)))) t) ∙ ap (λ l. takes O.Pull (sights (M.values (plains l)))) (sym q) ∙ h

pub still_through : (xf : M.Value ℕ) (before after : List (M.Value ℕ)) → IsThrough xf before → after ≡ before → IsThrough xf after
still_through xf before after t e = subst (IsThrough xf) (sym e) t

pub starts_same : (size : ℕ) (xf c : M.Value ℕ) (stages stages' states states' : List (M.Value ℕ)) (outputs : List Value) (r : Next State) → stages' ≡ stages → states' ≡ states → outputs ≡ [] → Takes (seq c (λ s. pull_at size xf stages' states' (plains outputs) s)) r → Takes (seq c (λ s. pull_at size xf stages states [] s)) r
starts_same size xf c stages stages' states states' outputs r e q o h = takes_same (λ i. seq c (λ s. pull_at size xf (e i) (q i) (plains (o i)) s)) h

-- ## A round

list_back : (xs : List (M.Value ℕ)) → M.list (M.values (M.list (M.values xs))) ≡ xs
list_back xs = list_values (M.list (M.values xs)) ∙ list_values xs

pub nothing_left : (size : ℕ) (xf : M.Value ℕ) (stages states outputs : List (M.Value ℕ)) (r : Next State) → Takes (pull_ends stages states outputs) r → Takes (pull_at size xf stages states outputs M.nil) r
nothing_left size xf stages states outputs r h =
    takes_loop pull_from (M.int (pos size) ∷ M.vector (M.values stages) ∷ M.vector (M.values states) ∷ M.vector (M.values outputs) ∷ M.nil ∷ []) (after_pull xf stages) refl
    (takes_same (λ i. pull_ends stages (sym (list_back states) i) (sym (list_back outputs) i)) h)

module _ (size : ℕ) (xf : M.Value ℕ) (stages : List (M.Value ℕ)) (s : M.Value ℕ) where
  -- what goes on after an element in the loop alone
  abbrev in_loop : Onward ℕ
  in_loop = λ states sink done.
      cond done
      (give (pulled true states (outputs_of sink) M.nil))
      (cond (int_le (pos size) (pos (length (outputs_of sink))))
      (give (pulled false states (outputs_of sink) (rest_of s)))
      (seq (rest_of s) (λ t. go pull_from (M.int (pos size) ∷ M.vector (M.values stages) ∷ M.vector (M.values states) ∷ M.vector (M.values (outputs_of sink)) ∷ t ∷ []) give)))

  enough_same : (b : Bool) (states outputs : List (M.Value ℕ)) → then (cond b (give (pulled false states outputs (rest_of s))) (seq (rest_of s) (λ t. go pull_from (M.int (pos size) ∷ M.vector (M.values stages) ∷ M.vector (M.values states) ∷ M.vector (M.values outputs) ∷ t ∷ []) give))) (after_pull xf stages) ≡ cond b (pull_stops xf states outputs (rest_of s)) (seq (rest_of s) (λ t. pull_at size xf stages states outputs t))
  enough_same true states outputs = λ i. pull_stops xf (list_values states i) (list_values outputs i) (rest_of s)
  enough_same false states outputs = refl

  on_same : (states : List (M.Value ℕ)) (sink : Sink ℕ) (done : Bool) → then (in_loop states sink done) (after_pull xf stages) ≡ pull_on size xf stages (rest_of s) states sink done
  on_same states sink true = λ i. pull_ends stages (list_values states i) (list_values (outputs_of sink) i)
  on_same states sink false = enough_same (int_le (pos size) (pos (length (outputs_of sink)))) states (outputs_of sink)

  entered_same : (states outputs : List (M.Value ℕ)) → then (enter (M.list (M.values stages)) (M.list (M.values states)) (gathers (M.list (M.values outputs))) (first_of s) in_loop) (after_pull xf stages) ≡ enter stages states (gathers outputs) (first_of s) (pull_on size xf stages (rest_of s))
  entered_same states outputs =
      then_enter (after_pull xf stages) (M.list (M.values stages)) (M.list (M.values states)) (gathers (M.list (M.values outputs))) (first_of s) in_loop
      ∙ (λ i. enter (list_values stages i) (list_values states i) (gathers (list_values outputs i)) (first_of s) (λ new sink done. on_same new sink done i))

pub element_there : (p : Pulling) (c : Cursor) (r : Next State) → Takes (visit (left_step (T.Pull p c))) r → Takes (left_seq (Q.Pull p) (stands c)) r
element_there p c r h =
    takes_loop pull_from (M.int (pos p.pull.enough) ∷ M.vector (M.values (stages_in p.stages)) ∷ M.vector (M.values (states_in p.stages)) ∷ M.vector (M.values (plains p.outputs.items.items)) ∷ stands c ∷ []) (after_pull (plain p.pull.transducer.value) (stages_in p.stages)) refl
    (rw (some_cursor c) (takes_same (ap visit (sym (entered_same p.pull.enough (plain p.pull.transducer.value) (stages_in p.stages) (stands c) (states_in p.stages) (plains p.outputs.items.items)))) h))

-- ## An element

on_stages : (stages : List (M.Value ℕ)) (errand : Errand) (t : GatheringTurn) → Gathers stages errand t → (k : List (M.Value ℕ) → Onward ℕ) → gathering_node t (k (gathering_stages t)) ≡ gathering_node t (k stages)
on_stages stages errand (GT.Asks n) h k = λ i. node n.turn (λ t. left_gathering n.state t (k (h.rests i)))
on_stages stages errand (GT.Throw why) h k = refl
on_stages stages errand (GT.Rest s o) h k = λ i. k (h.rests i) (states_in s) (gathers (plains o.items.items)) s.done

gather_goes : (stages : List (M.Value ℕ)) (errand : Errand) (t : GatheringTurn) (k : List (M.Value ℕ) → Onward ℕ) (r : Next State) → Gathers stages errand t → Takes (gathering_node t (k (gathering_stages t))) r → Takes (errand (k stages)) r
gather_goes stages errand t k r h g = takes_from (silent_stages (h.goes (k stages))) (takes_same (on_stages stages errand t h k) g)

turn_through : (xf : M.Value ℕ) (stages : List (M.Value ℕ)) (errand : Errand) (t : GatheringTurn) → Gathers stages errand t → IsThrough xf stages → TurnThrough xf t
turn_through xf stages errand (GT.Asks n) h e = subst (IsThrough xf) (sym h.rests) e
turn_through xf stages errand (GT.Throw why) h e = tt
turn_through xf stages errand (GT.Rest s o) h e = subst (IsThrough xf) (sym h.rests) e

pub step_goes : (p : Pulling) (c : Cursor) (first : M.Value ℕ) (rest : M.Value ℕ) (t : GatheringTurn) (r : Next State) → first ≡ first_of (stands c) → rest ≡ rest_of (stands c) → Gathers (stages_in p.stages) (λ k. enter (stages_in p.stages) (states_in p.stages) (gathers (plains p.outputs.items.items)) first k) t → Takes (gathering_node t (pull_on p.pull.enough (plain p.pull.transducer.value) (gathering_stages t) rest)) r → Takes (left_step (T.Pull p c)) r
step_goes p c first rest t r e q g h =
    takes_same (λ i. enter (stages_in p.stages) (states_in p.stages) (gathers (plains p.outputs.items.items)) (e i) (pull_on p.pull.enough (plain p.pull.transducer.value) (stages_in p.stages) (q i)))
    (gather_goes (stages_in p.stages) (λ k. enter (stages_in p.stages) (states_in p.stages) (gathers (plains p.outputs.items.items)) first k) t (λ stages. pull_on p.pull.enough (plain p.pull.transducer.value) stages rest) r g h)

pub step_through : (p : Pulling) (first : M.Value ℕ) (t : GatheringTurn) → Gathers (stages_in p.stages) (λ k. enter (stages_in p.stages) (states_in p.stages) (gathers (plains p.outputs.items.items)) first k) t → TurnThrough (plain p.pull.transducer.value) t
step_through p first t g = turn_through (plain p.pull.transducer.value) (stages_in p.stages) _ t g p.through

pub midway_through : (m : Midway) (errand : Errand) (t : GatheringTurn) → Gathers (waiting_stages m.gathering.waiting) errand t → TurnThrough (plain m.pull.transducer.value) t
midway_through m errand t g = turn_through (plain m.pull.transducer.value) (waiting_stages m.gathering.waiting) errand t g m.through

pub midway_goes : (m : Midway) (errand : Errand) (t : GatheringTurn) (r : Next State) → Gathers (waiting_stages m.gathering.waiting) errand t → Takes (gathering_node t (pull_on m.pull.enough (plain m.pull.transducer.value) (gathering_stages t) (rested m.rest))) r → Takes (errand (pull_on m.pull.enough (plain m.pull.transducer.value) (waiting_stages m.gathering.waiting) (rested m.rest))) r
midway_goes m errand t r g h = gather_goes (waiting_stages m.gathering.waiting) errand t (λ stages. pull_on m.pull.enough (plain m.pull.transducer.value) stages (rested m.rest)) r g h

pub midway_waits : (n : Next Gathering) (p : Pull) (rest : Rest) (m : Midway) → m.gathering ≡ n.state → m.pull ≡ p → m.rest ≡ rest → IsAsked (waiting_for n.state.waiting) n.turn → Takes (gathering_node (GT.Asks n) (pull_on p.enough (plain p.transducer.value) (waiting_stages n.state.waiting) (rested rest))) (record { state = S.Stages (A.Pull m); turn = n.turn })
midway_waits n p rest m e q o h =
    takes_same (λ i. node n.turn (λ t. left_gathering (e i) t (pull_on (q i).enough (plain (q i).transducer.value) (waiting_stages (e i).waiting) (rested (o i)))))
    (record { goes = arrives; step = h.step; waits = ap (λ g. waiting_for g.waiting) e ∙ h.waits; well = h.well })

-- by what the turn is
pub asked_through : (xf : M.Value ℕ) (t : GatheringTurn) (n : Next Gathering) → t ≡ GT.Asks n → TurnThrough xf t → IsThrough xf (waiting_stages n.state.waiting)
asked_through xf t n e h = subst (TurnThrough xf) e h

pub rest_through : (xf : M.Value ℕ) (t : GatheringTurn) (s : Stages) (o : Outputs) → t ≡ GT.Rest s o → TurnThrough xf t → IsThrough xf (stages_in s)
rest_through xf t s o e h = subst (TurnThrough xf) e h

pub asks_of : (t : GatheringTurn) (n : Next Gathering) → t ≡ GT.Asks n → IsGatheringAsked t → IsAsked (waiting_for n.state.waiting) n.turn
asks_of t n e h = subst IsGatheringAsked e h

-- ## After an element

module _ (size : ℕ) (xf rest : M.Value ℕ) (stages states : List (M.Value ℕ)) (outputs : List Value) (done : Bool) (r : Next State) where
  pub all_done : done ≡ true → Takes (pull_ends stages states (plains outputs)) r → Takes (pull_on size xf stages rest states (gathers (plains outputs)) done) r
  all_done d h = rw d h

  is_enough : size ≤ length outputs → int_le (pos size) (pos (length (plains outputs))) ≡ true
  is_enough b = let l : length (plains outputs) ≡ length outputs = length-map outputs plain in rw l (search (rules, arith))

  is_few : length outputs < size → int_le (pos size) (pos (length (plains outputs))) ≡ false
  is_few b = let l : length (plains outputs) ≡ length outputs = length-map outputs plain in rw l (search (rules, arith))

  pub outputs_enough : done ≡ false → size ≤ length outputs → Takes (pull_stops xf states (plains outputs) rest) r → Takes (pull_on size xf stages rest states (gathers (plains outputs)) done) r
  outputs_enough d b h = rw (d, is_enough b) h

  pub outputs_few : done ≡ false → length outputs < size → Takes (seq rest (λ t. pull_at size xf stages states (plains outputs) t)) r → Takes (pull_on size xf stages rest states (gathers (plains outputs)) done) r
  outputs_few d b h = rw (d, is_few b) h

-- ## The end

pub end_waits : (n : Next Gathering) → IsAsked (waiting_for n.state.waiting) n.turn → Takes (gathering_node (GT.Asks n) pull_over) (record { state = S.Stages (A.PullEnd n.state); turn = n.turn })
end_waits n h = record { goes = arrives; step = h.step; waits = h.waits; well = h.well }

pub end_goes : (stages : List (M.Value ℕ)) (errand : Errand) (t : GatheringTurn) (r : Next State) → Gathers stages errand t → Takes (gathering_node t pull_over) r → Takes (errand pull_over) r
end_goes stages errand t r h g = takes_from (silent_stages (h.goes pull_over)) g

-- ## Outputs enough

pub stops_same : (xf : M.Value ℕ) (states : List (M.Value ℕ)) (o : Outputs) (c rest : M.Value ℕ) (r : Next State) → c ≡ rest → Takes (make_pull xf states c (λ m. left_part (P.Pulled o) m)) r → Takes (pull_stops xf states (plains o.items.items) rest) r
stops_same xf states o c rest r e h = takes_same (λ i. make_pull xf states (e i) (λ m. left_part (P.Pulled o) m)) h
