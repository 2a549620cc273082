-- The values of the forms before, as references see them. Only a `def` can be referred to; what a book keeps of any other form doesn't count.
use Rattle.std.specs.Prelude.{List, [], ◌∷◌}
use Rattle.seq_values.specs.Model.{Value, nil}
use Rattle.clj_script.specs.Trees.{Top, def, defn, prn, ledger}

module _ {C : Type 0} where
  -- the value of a `def`, and nil for any other form, whatever it gave
  abbrev pub seen_of : Top → Value C → Value C
  seen_of (def name e) v = v
  seen_of defn v = nil
  seen_of (prn e) v = nil
  seen_of ledger v = nil

  -- of the program's forms and the values that are kept of the first ones, in order
  abbrev pub referred : List Top → List (Value C) → List (Value C)
  referred (t ∷ tops) (v ∷ vs) = seen_of t v ∷ referred tops vs
  referred tops vs = []
