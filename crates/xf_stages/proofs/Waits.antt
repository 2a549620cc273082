-- What waits after an input.
use Rattle.std.proofs.Common.{◌≡◌, ℕ, Bool, true, false, ◌||◌, List, [], ◌∷◌, ◌++◌, take, drop, refl, ap, sym, ◌∙◌}
use Rattle.seq_values.specs.Model as M
use Rattle.seq_plan.specs.Plan.{Plan, seq}
use Rattle.seq_plan.specs.Stages.{Sink, Onward, enter}
use Rattle.seq_turns.specs.Seen.{rested}
use Rattle.xf_stages.specs.Left.{at_end, from_stage, walks_on, waiting, after_input, stages_stand, states_stand, through, entering}
use Rattle.xf_stages.specs.Flowing.{last_way, Lasts, entering_last}
use Rattle.xf_stages.specs.declared.state.Flow.{Flow}
use Rattle.xf_stages.specs.declared.state.UnderWay.{UnderWay}
use Rattle.xf_stages.specs.declared.state.UnderWay.TheVariants as U
use Rattle.xf_stages.specs.declared.state.Walk.{Walk}

-- where all is done, nothing that waits goes on
pub waits_no_more : (ws : List Walk) (stages : List (M.Value ℕ)) (k : Onward ℕ) (states : List (M.Value ℕ)) (sink : Sink ℕ) → waiting ws stages k states sink true ≡ k states sink true
waits_no_more [] stages k states sink = refl
waits_no_more (w ∷ ws) stages k states sink = waits_no_more ws stages (walks_on w.at (rested w.rest) stages k) states sink

-- the innermost walk is the last
pub waits_last : (ws : List Walk) (w : Walk) (stages : List (M.Value ℕ)) (k : Onward ℕ) → waiting (ws ++ w ∷ []) stages k ≡ walks_on w.at (rested w.rest) stages (waiting ws stages k)
waits_last [] w stages k = refl
waits_last (v ∷ ws) w stages k = waits_last ws w stages (walks_on v.at (rested v.rest) stages k)

is_last : (b : Bool) → b || true ≡ true
is_last true = refl
is_last false = refl

ends_last : (u : UnderWay) (stages : List (M.Value ℕ)) (k : Onward ℕ) (states : List (M.Value ℕ)) (sink : Sink ℕ) (done : Bool) → at_end (last_way u) stages k states sink done ≡ at_end u stages k states sink true
ends_last (U.Input last) stages k states sink done = ap (λ b. k states sink b) (sym (is_last last))
ends_last (U.Completion from) stages k states sink done = refl

-- where nothing waits
abbrev pub ends : Flow → Onward ℕ → Onward ℕ
ends f k = at_end f.under_way (stages_stand f.stages.items) k

pub last_ends : (f g : Flow) → Lasts f g → (k : Onward ℕ) (states : List (M.Value ℕ)) (sink : Sink ℕ) (done : Bool) → after_input g k states sink done ≡ after_input f k states sink true
last_ends f g h k states sink done =
    (λ i. waiting (h.walks i) (stages_stand (h.stages i)) (at_end (h.under_way i) (stages_stand (h.stages i)) k) states sink done)
    ∙ ends_last f.under_way (stages_stand f.stages.items) k states sink done
    ∙ sym (waits_no_more f.walks.items (stages_stand f.stages.items) (ends f k) states sink)

-- an input that is the last one enters as any other, once nothing waits
pub enters_last_as : (f g : Flow) → Lasts f g → (at : ℕ) (x : M.Value ℕ) (sink : Sink ℕ) (k : Onward ℕ) → entering_last f at x sink k ≡ entering g at x sink k
enters_last_as f g h at x sink k = λ i. enter
    (drop at (stages_stand (sym h.stages i))) (drop at (states_stand (sym h.stages i))) sink x
    (λ new after done. sym (last_ends f g h k (take at (states_stand (sym h.stages i)) ++ new) after done) i)

pub through_last_as : (f g : Flow) → Lasts f g → (done : Bool) (sink : Sink ℕ) (k : Onward ℕ) → through f true sink k ≡ through g done sink k
through_last_as f g h done sink k = sym (last_ends f g h k (states_stand f.stages.items) sink done) ∙ ap (λ ss. after_input g k (states_stand ss) sink done) (sym h.stages)
