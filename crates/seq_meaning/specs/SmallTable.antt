-- A small table of rules, for worked scripts: a part of the language's rows, with which a few programs are followed through to their text. No program is run by it.
use Rattle.std.specs.Prelude.{ℕ, Bool, ℤ, pos, negsuc, ◌+ℤ◌, ◌-ℤ◌, int_le, cond, List, [], ◌∷◌, ◌++◌, Option, Some, None, ◌&&◌}
use Rattle.seq_base.specs.declared.thrown.Thrown.TheVariants.{Overflow, Arity, BadType}
use Rattle.seq_values.specs.declared.words.Builtin.{Builtin}
use Rattle.seq_values.specs.declared.words.Builtin.TheVariants as B
use Rattle.seq_values.specs.declared.words.Kind.TheVariants.{Lazy}
use Rattle.seq_values.specs.declared.words.Op.{Op}
use Rattle.seq_values.specs.declared.words.Op.TheVariants as O
use Rattle.seq_values.specs.declared.words.Target.{Target}
use Rattle.seq_values.specs.declared.words.Target.TheVariants as T
use Rattle.seq_values.specs.Model.{Value, nil, int, reduced, cell, cons, no_values, ◌&◌, values}
use Rattle.seq_plan.specs.Plan.{Plan, visit, seq, call, go, give, throw, Loop, reduce_from, print_value, print_rest, Round, ends_with, fails, visits, Rules}
use Rattle.seq_plan.specs.Nodes.{first_of, rest_of, with_items, chunk_of, range_at, if_nil, round_at, give_value, make_term, call_each}
use Rattle.seq_plan.specs.Alike.{Tells, LikeRules}
use Rattle.seq_meaning.specs.Names.{Name}
use Rattle.seq_meaning.specs.Twins.{Renames}
use Rattle.seq_meaning.specs.Prints.{value_round, rest_round, print_rule}

-- elements of a chunk of a range or of a vector's seq
abbrev pub chunk_size : ℕ
chunk_size = 32

module _ {C : Type 0} where
  -- gives an integer of 64 bits
  abbrev pub give_int : ℤ → Plan C
  give_int n = cond (int_le (negsuc 9223372036854775807) n && int_le n (pos 9223372036854775807)) (give (int n)) (throw Overflow)

  -- Map, after its seq: f of each element of a chunk, and the part for the rest; or f of the first element alone
  abbrev pub map_on : Value C → Value C → Option (List (Value C) × Value C) → Plan C
  map_on f s (Some p) =
      call_each f [] p.0 (λ ys. make_term Lazy O.Map (f ∷ p.1 ∷ []) (λ m. give_value (with_items (values ys) (cell m))))
  map_on f s None =
      call f (first_of s ∷ []) (λ y. make_term Lazy O.Map (f ∷ rest_of s ∷ []) (λ m. give_value (cons (y & no_values) (cell m))))

  abbrev pub map_rule : Value C → Value C → Plan C
  map_rule f c = seq c (λ s. if_nil s (give nil) (map_on f s (chunk_of chunk_size s)))

  -- Take: its collection isn't touched where nothing is to be taken
  abbrev pub take_rule : ℤ → Value C → Plan C
  take_rule n c =
      cond (int_le n (pos 0))
      (give nil)
      (seq c (λ s. if_nil s
      (give nil)
      (make_term Lazy O.Take (int (n -ℤ pos 1) ∷ rest_of s ∷ []) (λ m. give_value (cons (first_of s & no_values) (cell m))))))

  -- Next, of `iterate`
  abbrev pub next_rule : Value C → Value C → Plan C
  next_rule f x = call f (x ∷ []) (λ y. make_term Lazy O.Next (f ∷ y ∷ []) (λ m. give_value (cons (y & no_values) (cell m))))

  abbrev pub term_rule : Op → List (Value C) → Plan C
  term_rule O.Map (f ∷ c ∷ []) = map_rule f c
  term_rule O.Take (int n ∷ c ∷ []) = take_rule n c
  term_rule O.Next (f ∷ x ∷ []) = next_rule f x
  term_rule O.Call (f ∷ x ∷ []) = call f (x ∷ []) give
  term_rule _ _ = throw BadType

  -- a reduced answer ends a reduction with its value
  abbrev pub unless_reduced : Value C → Plan C → Plan C
  unless_reduced (reduced v) p = give v
  unless_reduced _ p = p

  -- the rounds of `reduce`: the function, the value so far and the seq
  abbrev pub reduce_round : List (Value C) → Round C
  reduce_round (f ∷ acc ∷ s ∷ []) =
      round_at s
      (ends_with acc)
      (visits (call f (acc ∷ first_of s ∷ []) (λ y. unless_reduced y (seq (rest_of s) (λ t. go reduce_from (f ∷ y ∷ t ∷ []) give)))))
  reduce_round _ = fails BadType

  abbrev pub word_rule : Builtin → List (Value C) → Plan C
  word_rule B.Inc (int n ∷ []) = give_int (n +ℤ pos 1)
  word_rule B.Inc (_ ∷ []) = throw BadType
  word_rule B.Plus [] = give (int (pos 0))
  word_rule B.Plus (int m ∷ int n ∷ []) = give_int (m +ℤ n)
  word_rule B.Plus (_ ∷ _ ∷ []) = throw BadType
  word_rule B.Map (f ∷ c ∷ []) = make_term Lazy O.Map (f ∷ c ∷ []) (λ m. give (cell m))
  word_rule B.Take (int n ∷ c ∷ []) = make_term Lazy O.Take (int n ∷ c ∷ []) (λ m. give (cell m))
  word_rule B.Take (_ ∷ _ ∷ []) = throw BadType
  word_rule B.Iterate (f ∷ x ∷ []) = make_term Lazy O.Next (f ∷ x ∷ []) (λ m. give_value (cons (x & no_values) (cell m)))
  word_rule B.Range (int b ∷ []) = give (range_at (pos 0) (pos 0) b)
  word_rule B.Range (_ ∷ []) = throw BadType
  word_rule B.First (c ∷ []) = seq c (λ s. give (first_of s))
  word_rule B.Reduce (f ∷ c ∷ []) =
      seq c (λ s. if_nil s
      (call f [] give)
      (visit (seq (rest_of s) (λ t. go reduce_from (f ∷ first_of s ∷ t ∷ []) give))))
  word_rule B.Reduce (f ∷ i ∷ c ∷ []) = seq c (λ s. go reduce_from (f ∷ i ∷ s ∷ []) give)
  word_rule _ _ = throw Arity

  abbrev pub call_rule : Target → List (Value C) → List (Value C) → Plan C
  call_rule (T.Builtin b) bs xs = word_rule b xs
  call_rule T.Partial (f ∷ bs) xs = call f (bs ++ xs) give
  call_rule _ bs xs = throw BadType

  abbrev pub loop_rule : Loop → List (Value C) → Round C
  loop_rule reduce_from xs = reduce_round xs
  loop_rule print_value xs = value_round xs
  loop_rule print_rest xs = rest_round xs
  loop_rule _ xs = fails BadType

abbrev pub small : {C : Type 0} → Rules C
small = record { on_call = call_rule; on_term = term_rule; on_loop = loop_rule; on_print = print_rule }

-- the small table looks at cells only to ask them: by the names of twin evaluations, and by numbers for names
abbrev pub SmallRenames : Type 0
SmallRenames = Renames small × ((test : ℕ → Name → Bool) → LikeRules (Tells test) small small)
