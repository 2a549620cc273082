-- Which terms, turns and answers are well formed, as tests that compute.
use Rattle.std.specs.Prelude.{pos, Bool, true, false, ◌&&◌, nat_le, int_lt, length, List, [], ◌∷◌, map}
use Rattle.std.specs.Prelude.{Some}
use Rattle.seq_values.specs.Sight.{Kept, left, dropping, group_of, Sight, a_nil, a_bool, an_int, a_vector, a_cell, an_empty, a_cons, a_chunked, a_function}
use Rattle.seq_values.specs.WellFormed.{is_one, is_two, sight_of, is_well_formed, are_well_formed}
use Rattle.seq_values.specs.declared.words.Target.TheVariants.{Xf}
use Rattle.seq_values.specs.declared.words.XfKind.TheVariants as X
use Rattle.seq_values.specs.declared.words.Op.{Op}
use Rattle.seq_values.specs.declared.words.Op.TheVariants.{Map, MapN, Filter, Keep, Take, TakeWhile, Drop, DropWhile, Concat, Mapcat, Next, Repeat, Cycle, Parts, Pull, Rets, Step, Derefs, Call, Ahead, AheadOf, Near, Fold, Body}
use Rattle.seq_values.specs.declared.term.Term.{Term}
use Rattle.seq_values.specs.declared.term.Turn.{Turn}
use Rattle.seq_values.specs.declared.term.Turn.TheVariants as T
use Rattle.seq_values.specs.declared.term.Answer.{Answer}
use Rattle.seq_values.specs.declared.term.Answer.TheVariants as A

-- what `seq` gives: nil, or a node that isn't `()`
abbrev pub is_seq : Sight → Bool
is_seq a_nil = true
is_seq a_cons = true
is_seq a_chunked = true
is_seq _ = false

-- what a rest or a lazy cell is: nil, a node or a cell
abbrev pub is_sequence : Sight → Bool
is_sequence an_empty = true
is_sequence a_cell = true
is_sequence other = is_seq other

-- a count, then a collection of any kind
abbrev pub is_count_of : List Sight → Bool
is_count_of (an_int n ∷ collection ∷ []) = true
is_count_of _ = false

-- a size of at least 1, then a collection of any kind
abbrev pub is_size_of : List Sight → Bool
is_size_of (an_int n ∷ collection ∷ []) = int_lt (pos 0) n
is_size_of _ = false

-- the value of a stage between two inputs; the elements of a group are fewer than a full one has
abbrev pub is_state : Kept → Sight → Bool
is_state left (an_int n) = true
is_state dropping a_bool = true
is_state (group_of size) (a_vector count) = int_lt (pos count) size
is_state _ _ = false

-- one state for each stage that keeps one, in the order of the stages
abbrev pub are_states : List Kept → List Sight → Bool
are_states [] [] = true
are_states (kept ∷ more) (state ∷ states) = is_state kept state && are_states more states
are_states _ _ = false

-- a transducer, a collection of any kind, and the states
abbrev pub is_pull : List Sight → Bool
is_pull (a_function target (Some kept) ∷ collection ∷ states) = are_states kept states
is_pull _ = false

-- a stage of a fold that can be split, as the transducer that acts as it does
abbrev pub is_fold_stage : Sight → Bool
is_fold_stage (a_function (Xf X.Map) kept) = true
is_fold_stage (a_function (Xf X.Filter) kept) = true
is_fold_stage (a_function (Xf X.Remove) kept) = true
is_fold_stage (a_function (Xf X.Mapcat) kept) = true
is_fold_stage _ = false

abbrev pub are_fold_stages : List Sight → Bool
are_fold_stages [] = true
are_fold_stages (stage ∷ stages) = is_fold_stage stage && are_fold_stages stages

-- a vector, the size of a group, the combining and the reducing function, and the stages from the vector outwards
abbrev pub is_fold : List Sight → Bool
is_fold (a_vector count ∷ an_int size ∷ combine ∷ reduce ∷ stages) = int_lt (pos 0) size && are_fold_stages stages
is_fold _ = false

-- an element, the elements after it, and two sequences: `pmap` asks the element and makes the next step of the two
abbrev pub is_step : List Sight → Bool
is_step (element ∷ others ∷ values ∷ ahead ∷ []) = is_seq others && (is_sequence values && is_sequence ahead)
is_step _ = false

abbrev pub is_derefs : List Sight → Bool
is_derefs (collection ∷ []) = is_sequence collection
is_derefs _ = false

abbrev pub is_ahead_of : List Sight → Bool
is_ahead_of (a_cell ∷ []) = true
is_ahead_of _ = false

-- a collection of any kind, and the cell that is ahead of it
abbrev pub is_near : List Sight → Bool
is_near (collection ∷ a_cell ∷ []) = true
is_near _ = false

-- The arguments with which each operation is made. A function, an element or a collection may be of any kind: what doesn't fit is thrown where it is used.
abbrev pub takes : Op → List Sight → Bool
-- f and c
takes Map args = is_two args
-- f and two to four collections
takes MapN args = nat_le 3 (length args) && nat_le (length args) 5
takes Filter args = is_two args
takes Keep args = is_two args
takes Take args = is_count_of args
takes TakeWhile args = is_two args
takes Drop args = is_count_of args
takes DropWhile args = is_two args
-- any number of collections
takes Concat args = true
takes Mapcat args = is_two args
-- f and x
takes Next args = is_two args
takes Repeat args = is_one args
-- the whole and what is left of this round
takes Cycle args = is_two args
takes Parts args = is_size_of args
takes Pull args = is_pull args
takes Rets args = is_two args
takes Step args = is_step args
takes Derefs args = is_derefs args
takes Call args = is_two args
takes Ahead args = is_size_of args
takes AheadOf args = is_ahead_of args
takes Near args = is_near args
takes Fold args = is_fold args
-- the locals in scope
takes (Body number) args = true

abbrev pub is_well_formed_term : Term → Bool
is_well_formed_term t = are_well_formed t.args && takes t.op (map sight_of t.args)

abbrev pub is_well_formed_turn : Turn → Bool
is_well_formed_turn (T.Seq value) = is_well_formed value
is_well_formed_turn (T.Apply function args) = is_well_formed function && are_well_formed args
is_well_formed_turn (T.Make kind term) = is_well_formed_term term
is_well_formed_turn (T.Give value) = is_well_formed value
is_well_formed_turn _ = true

abbrev pub is_well_formed_answer : Answer → Bool
is_well_formed_answer (A.Got value) = is_well_formed value
is_well_formed_answer _ = true
