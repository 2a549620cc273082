-- Lists of the language: how one is made of its elements, and how elements are put before a sequence, or before the part for the rest of it.
use Rattle.std.specs.Prelude.{List, [], ◌∷◌, ◌++◌, reverse}
use Rattle.seq_base.specs.declared.thrown.Thrown.TheVariants.{BadType}
use Rattle.seq_values.specs.Model.{Value, nil, cell, vector, empty, cons, chunk, range, vec_seq, no_values, ◌&◌, list, values}
use Rattle.seq_values.specs.declared.words.Kind.TheVariants.{Lazy}
use Rattle.seq_values.specs.declared.words.Op.{Op}
use Rattle.seq_plan.specs.Plan.{Plan, seq, give, throw}
use Rattle.seq_plan.specs.Nodes.{if_nil, with_items, with_value, give_value, with_members, make_term}

module _ {C : Type 0} where
  -- `()`, or one node with all of the elements, after which nothing comes
  abbrev pub list_of : List (Value C) → Value C
  list_of [] = empty
  list_of (x ∷ xs) = cons (values (reverse (x ∷ xs))) nil

  -- gives a list of these elements
  abbrev pub give_list : List (Value C) → Plan C
  give_list xs = with_members xs (λ ys. with_value (list_of ys) give)

  -- One node before another: a Cons takes the element among its heads.
  abbrev pub put_before : Value C → Value C → (Value C → Plan C) → Plan C
  put_before x (cons ys r) k = with_members (list ys ++ x ∷ []) (λ zs. with_value (cons (values zs) r) k)
  put_before x s k = with_value (cons (x & no_values) s) k

  -- `cons`: before nil a list of the element alone; before a node or a lazy cell the element, and nothing is asked; a vector counts as its seq. See `cons` at https://clojure.org/reference/sequences.
  abbrev pub with_first : Value C → Value C → (Value C → Plan C) → Plan C
  with_first x nil k = put_before x nil k
  with_first x (vector no_values) k = put_before x nil k
  with_first x (vector (y & ys)) k = put_before x (vec_seq (y & ys) 0) k
  with_first x (cell c) k = put_before x (cell c) k
  with_first x empty k = put_before x empty k
  with_first x (cons ys r) k = put_before x (cons ys r) k
  with_first x (chunk ys r) k = put_before x (chunk ys r) k
  with_first x (range from at end) k = put_before x (range from at end) k
  with_first x (vec_seq ys at) k = put_before x (vec_seq ys at) k
  with_first x _ k = throw BadType

  -- makes a lazy part and gives its cell
  abbrev pub lazily : Op → List (Value C) → Plan C
  lazily op xs = make_term Lazy op xs (λ m. give (cell m))

  -- a Cons of one element and the part for the rest
  abbrev pub first_and : Value C → Op → List (Value C) → Plan C
  first_and x op xs = make_term Lazy op xs (λ m. give_value (cons (x & no_values) (cell m)))

  -- a Chunk of the elements and the part for the rest, or its cell itself where there are none
  abbrev pub items_and : List (Value C) → Op → List (Value C) → Plan C
  items_and ys op xs = make_term Lazy op xs (λ m. give_value (with_items (values ys) (cell m)))

  -- goes on with the seq, or gives nil where that is nil
  abbrev pub with_seq : Value C → (Value C → Plan C) → Plan C
  with_seq c k = seq c (λ s. if_nil s (give nil) (k s))
