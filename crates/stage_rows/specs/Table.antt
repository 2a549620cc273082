-- The rows of what runs the stages of a transducer: `transduce`, `into` with a transducer, `sequence` and its term Pull.
-- https://clojure.org/reference/transducers
use Rattle.std.specs.Prelude.{ℕ, pos, int_le, Bool, true, false, cond, List, [], ◌∷◌, length}
use Rattle.seq_base.specs.declared.thrown.Thrown.TheVariants.{Arity, BadType}
use Rattle.seq_values.specs.declared.words.Builtin.{Builtin}
use Rattle.seq_values.specs.declared.words.Builtin.TheVariants as B
use Rattle.seq_values.specs.declared.words.Kind.TheVariants.{Lazy}
use Rattle.seq_values.specs.declared.words.Op.TheVariants as O
use Rattle.seq_values.specs.declared.words.Target.TheVariants as T
use Rattle.seq_values.specs.Model.{Value, nil, bool, int, vector, function, cell, empty, chunk, no_values, ◌&◌, list, values}
use Rattle.seq_plan.specs.Plan.{Plan, seq, call, go, give, throw, Loop, enter_from, pull_from, Round, ends_with, fails, visits}
use Rattle.seq_plan.specs.Nodes.{first_of, rest_of, with_items, round_at, give_value, with_members, make_term}
use Rattle.seq_plan.specs.Stages.{reduces, gathers, with_stages, fresh, answer_of, outputs_of, enter, enter_each, enter_round, complete}

module _ {C : Type 0} where
  -- ## transduce

  -- Each element of the collection enters the stages until all is done. Then, done or not, the stages are completed, and the function is called with the answer alone. Source: clojure.core's `transduce`.
  abbrev pub transduce_rule : List (Value C) → Value C → Value C → Value C → Plan C
  transduce_rule stages f init c =
      enter_each stages (fresh stages) (reduces f init) c (λ states sink done.
      complete stages states sink (λ after. call f (answer_of after ∷ []) give))

  -- ## sequence and Pull

  -- the states that are kept, of the stages that keep one
  abbrev pub kept : List (Value C) → List (Value C)
  kept [] = []
  kept (nil ∷ states) = kept states
  kept (state ∷ states) = state ∷ kept states

  -- a state for each stage again: those kept stand where a fresh stage has one
  abbrev pub replaced : List (Value C) → List (Value C) → List (Value C)
  replaced [] states = []
  replaced (nil ∷ news) states = nil ∷ replaced news states
  replaced (new ∷ news) [] = new ∷ replaced news []
  replaced (new ∷ news) (state ∷ states) = state ∷ replaced news states

  -- makes the part that pulls from the collection: the transducer, the collection, and the states that are kept
  abbrev pub make_pull : Value C → List (Value C) → Value C → (C → Plan C) → Plan C
  make_pull xf states c k = with_members (xf ∷ c ∷ kept states) (λ args. make_term Lazy O.Pull args k)

  -- What the loop of Pull gives: whether it came to an end, the states, the outputs, and what is left of the collection.
  abbrev pub pulled : Bool → List (Value C) → List (Value C) → Value C → Value C
  pulled ended states outputs c = vector (bool ended & vector (values states) & vector (values outputs) & c & no_values)

  -- The rounds of Pull: how many outputs end it, the stages, their states, the outputs so far, and the seq. It comes to an end with the collection, or where all is done.
  abbrev pub pull_round : List (Value C) → Round C
  pull_round (int size ∷ vector stages ∷ vector states ∷ vector outputs ∷ s ∷ []) =
      round_at s
      (ends_with (pulled true (list states) (list outputs) nil))
      (visits (enter (list stages) (list states) (gathers (list outputs)) (first_of s) (λ new sink done.
      cond done
      (give (pulled true new (outputs_of sink) nil))
      (cond (int_le size (pos (length (outputs_of sink))))
      (give (pulled false new (outputs_of sink) (rest_of s)))
      (seq (rest_of s) (λ t. go pull_from (int size ∷ vector stages ∷ vector (values new) ∷ vector (values (outputs_of sink)) ∷ t ∷ []) give))))))
  pull_round _ = fails BadType

  -- the outputs as the last chunk, or nil
  abbrev pub last_outputs : List (Value C) → Plan C
  last_outputs [] = give nil
  last_outputs (x ∷ xs) = with_members (x ∷ xs) (λ outputs. give_value (chunk (values outputs) empty))

  -- at an end the completion's outputs are added; else a part for what is left stands behind the outputs, or alone where there are none
  abbrev pub after_pull : Value C → List (Value C) → Value C → Plan C
  after_pull xf stages (vector (bool true & vector states & vector outputs & c & no_values)) =
      complete stages (list states) (gathers (list outputs)) (λ sink. last_outputs (outputs_of sink))
  after_pull xf stages (vector (bool false & vector states & vector outputs & c & no_values)) =
      make_pull xf (list states) c (λ m. with_members (list outputs) (λ xs. give_value (with_items (values xs) (cell m))))
  after_pull xf stages _ = throw BadType

  -- Pull, by how many outputs end it. Source: clojure.core's `sequence` over a transducer; that so many outputs are pulled at once is a rule of this language.
  abbrev pub pull_term : ℕ → List (Value C) → Plan C
  pull_term size (xf ∷ c ∷ states) = with_stages xf (λ stages. seq c (λ s.
      go pull_from (int (pos size) ∷ vector (values stages) ∷ vector (values (replaced (fresh stages) states)) ∷ vector no_values ∷ s ∷ []) (after_pull xf stages)))
  pull_term size _ = throw BadType

  -- ## The words

  -- A transducer comes first where it is an argument, before the function is called for the first answer. `into` is `transduce` by `conj`. Sources: clojure.core's `transduce`, `into` and `sequence`.
  abbrev pub stage_call : Builtin → List (Value C) → Plan C
  stage_call B.Transduce (xf ∷ f ∷ c ∷ []) = with_stages xf (λ stages. call f [] (λ init. transduce_rule stages f init c))
  stage_call B.Transduce (xf ∷ f ∷ init ∷ c ∷ []) = with_stages xf (λ stages. transduce_rule stages f init c)
  stage_call B.Into (to ∷ xf ∷ c ∷ []) = with_stages xf (λ stages. transduce_rule stages (function (T.Builtin B.Conj) no_values) to c)
  stage_call B.Sequence (xf ∷ c ∷ []) = with_stages xf (λ stages. make_pull xf (fresh stages) c (λ m. give (cell m)))
  -- the transducer `cat` isn't called
  stage_call B.Cat _ = throw BadType
  stage_call _ _ = throw Arity

  -- ## The loops

  abbrev pub stage_round : Loop → List (Value C) → Round C
  stage_round enter_from xs = enter_round xs
  stage_round pull_from xs = pull_round xs
  stage_round _ _ = fails BadType
