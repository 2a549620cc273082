-- The loop of stages hands on what it is given.
use Rattle.std.proofs.Common.{◌≡◌, Bool, List, [], ◌∷◌, refl, ap}
use Rattle.seq_values.specs.Model.{Value, vector, list, values}
use Rattle.seq_plan.specs.Stages.{Sink, reduces, gathers, Onward, sink_values, standing, entered, each_round, enter_round}

module _ {C : Type 0} where
  pub list_values : (xs : List (Value C)) → list (values xs) ≡ xs
  list_values [] = refl
  list_values (x ∷ xs) = ap (λ l. x ∷ l) (list_values xs)

  pub standing_enters : (k : Onward C) (states : List (Value C)) (sink : Sink C) (done : Bool) → entered k (standing states sink done) ≡ k states sink done
  standing_enters k states (reduces f answer) done = ap (λ l. k l (reduces f answer) done) (list_values states)
  standing_enters k states (gathers xs) done = λ i. k (list_values states i) (gathers (list_values xs i)) done

  pub round_is_of_each : (stages states : List (Value C)) (s : Value C) (sink : Sink C) → enter_round (vector (values stages) ∷ vector (values states) ∷ s ∷ sink_values sink) ≡ each_round stages states sink s
  round_is_of_each stages states s (reduces f answer) = λ i. each_round (list_values stages i) (list_values states i) (reduces f answer) s
  round_is_of_each stages states s (gathers xs) = λ i. each_round (list_values stages i) (list_values states i) (gathers (list_values xs i)) s
