-- The text of a value. Printing realises the value from left to right, with one own step for each value that it prints.
use Rattle.std.specs.Prelude.{ℕ, Bool, true, false, List, [], ◌∷◌, ◌++◌, flat_map, codes}
use Rattle.std.specs.Fmt.{signed_decimal}
use Rattle.seq_base.specs.declared.thrown.Thrown.TheVariants.{BadType}
use Rattle.seq_values.specs.Model.{Value, nil, bool, int, keyword, text, vector, function, reduced, list}
use Rattle.seq_values.specs.Text.{escaped}
use Rattle.seq_plan.specs.Plan.{Plan, seq, go, give, throw, then, print_value, print_rest, Round, ends_with, fails, visits}
use Rattle.seq_plan.specs.Nodes.{first_of, rest_of, round_at}

-- the text so far, with a space where an element stands in it
abbrev pub spaced : Bool → List ℕ → List ℕ
spaced true so_far = so_far ++ codes " "
spaced false so_far = so_far

module _ {C : Type 0} where
  -- adds to the text so far
  abbrev pub adds : List ℕ → List ℕ → Plan C
  adds so_far bytes = give (text (so_far ++ bytes))

  -- prints a value after the text so far, and goes on with the text
  abbrev pub prints_next : List ℕ → Value C → (Value C → Plan C) → Plan C
  prints_next so_far v k = go print_value (text so_far ∷ v ∷ []) k

  -- the further items of a vector, each after a space, and the bracket
  abbrev pub print_items : List (Value C) → Value C → Plan C
  print_items [] (text so_far) = adds so_far (codes "]")
  print_items (x ∷ xs) (text so_far) = prints_next (so_far ++ codes " ") x (print_items xs)
  print_items _ _ = throw BadType

  abbrev pub print_vector : List ℕ → List (Value C) → Plan C
  print_vector so_far [] = adds so_far (codes "[]")
  print_vector so_far (x ∷ xs) = prints_next (so_far ++ codes "[") x (print_items xs)

  -- What printing a value does after its own step. A node or a lazy part is printed element by element.
  abbrev pub print_on : List ℕ → Value C → Plan C
  print_on so_far nil = adds so_far (codes "nil")
  print_on so_far (bool true) = adds so_far (codes "true")
  print_on so_far (bool false) = adds so_far (codes "false")
  print_on so_far (int n) = adds so_far (signed_decimal n)
  print_on so_far (keyword name) = adds so_far (codes ":" ++ name)
  print_on so_far (text bytes) = adds so_far (34 ∷ flat_map escaped bytes ++ 34 ∷ [])
  print_on so_far (vector xs) = print_vector so_far (list xs)
  print_on so_far (function t xs) = adds so_far (codes "#fn")
  print_on so_far (reduced v) = prints_next (so_far ++ codes "#reduced ") v give
  print_on so_far v = seq v (λ s. go print_rest (text (so_far ++ codes "(") ∷ bool false ∷ s ∷ []) give)

  -- `print` of a value: the text so far, and the value
  abbrev pub value_round : List (Value C) → Round C
  value_round (text so_far ∷ v ∷ []) = visits (print_on so_far v)
  value_round _ = fails BadType

  -- The elements from a seq on: the text so far, whether an element stands in it, and the seq. The own step of a round is that of printing the element.
  abbrev pub rest_round : List (Value C) → Round C
  rest_round (text so_far ∷ bool after ∷ s ∷ []) =
      round_at s
      (ends_with (text (so_far ++ codes ")")))
      (visits (then (print_on (spaced after so_far) (first_of s)) (λ t. seq (rest_of s) (λ u. go print_rest (t ∷ bool true ∷ u ∷ []) give))))
  rest_round _ = fails BadType

  -- the text of a value
  abbrev pub print_rule : Value C → Plan C
  print_rule v = prints_next [] v give
