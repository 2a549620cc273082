-- Which values are well formed, as tests that compute.
use Rattle.std.specs.Prelude.{pos, Bool, true, false, ◌&&◌, nat_lt, nat_le, int_lt, int_le, length, List, [], ◌∷◌, map}
use Rattle.seq_values.specs.Depth.{Grade, graded, graded_node, graded_function}
use Rattle.seq_values.specs.Layers.{Value, Node, FnValue, ValueLayer, NodeLayer, FunctionLayer, Value-F, Node-F, fold_value, fold_node, fold_function}
use Rattle.seq_values.specs.Sight.{Sight, a_nil, a_bool, an_int, a_vector, a_cell, an_empty, a_cons, a_chunked, a_function, another, kept_by_function}
use Rattle.seq_values.specs.declared.words.Target.{Target}
use Rattle.seq_values.specs.declared.words.Target.TheVariants.{Builtin, User, Partial, Comp, Complement, Constantly, Completing, Monoid, Xf, Folder}
use Rattle.seq_values.specs.declared.words.XfKind.{XfKind}
use Rattle.seq_values.specs.declared.words.XfKind.TheVariants as X
use Rattle.seq_values.specs.declared.words.FolderKind.{FolderKind}
use Rattle.seq_values.specs.declared.words.FolderKind.TheVariants as F

-- ## What a function binds

-- one argument of any kind
abbrev pub is_one : List Sight → Bool
is_one (_ ∷ []) = true
is_one _ = false

abbrev pub is_two : List Sight → Bool
is_two (_ ∷ _ ∷ []) = true
is_two _ = false

-- a count alone
abbrev pub is_count : List Sight → Bool
is_count (an_int n ∷ []) = true
is_count _ = false

-- a group's size alone, which is at least 1
abbrev pub is_size : List Sight → Bool
is_size (an_int n ∷ []) = int_lt (pos 0) n
is_size _ = false

-- a transducer's stage binds what its word is given before the collection
abbrev pub binds_stage : XfKind → List Sight → Bool
binds_stage X.Cat [] = true
binds_stage X.Cat (_ ∷ _) = false
binds_stage X.Take bound = is_count bound
binds_stage X.Drop bound = is_count bound
binds_stage X.PartitionAll bound = is_size bound
binds_stage _ bound = is_one bound

-- a reducer value binds what its word is given, the collection last
abbrev pub binds_folder : FolderKind → List Sight → Bool
binds_folder F.Take (an_int n ∷ collection ∷ []) = true
binds_folder F.Take _ = false
binds_folder _ bound = is_two bound

abbrev pub binds : Target → List Sight → Bool
binds (Builtin word) [] = true
binds (User number) [] = true
-- a function and any number of first arguments
binds Partial (f ∷ _) = true
-- at least one function: without any, `comp` gives `identity`
binds Comp (f ∷ _) = true
binds Complement (f ∷ []) = true
binds Constantly (x ∷ []) = true
binds Completing (f ∷ []) = true
binds Completing (f ∷ g ∷ []) = true
binds Monoid (op ∷ ctor ∷ []) = true
binds (Xf kind) bound = binds_stage kind bound
binds (Folder kind) bound = binds_folder kind bound
binds _ _ = false

-- ## Values

-- what is seen of a value, and whether it stands: each rule on what it holds is kept, for all that it holds too
pub record Seen : Type 0 where
  pub sight : Sight
  pub stands : Bool

-- a value of this kind that stands
abbrev pub good : Sight → Seen
good kind = record { sight = kind; stands = true }

abbrev pub sights : List Seen → List Sight
sights seen = map (λ s. s.sight) seen

abbrev pub all_stand : List Seen → Bool
all_stand [] = true
all_stand (s ∷ ss) = s.stands && all_stand ss

-- the rest of a Cons: nil, `()`, a lazy cell or what is chunked, and never another Cons
abbrev pub ends_cons : Sight → Bool
ends_cons a_nil = true
ends_cons an_empty = true
ends_cons a_cell = true
ends_cons a_chunked = true
ends_cons _ = false

-- the rest of a chunk: a lazy cell or `()`
abbrev pub ends_chunk : Sight → Bool
ends_chunk a_cell = true
ends_chunk an_empty = true
ends_chunk _ = false

abbrev pub not_empty : List Seen → Bool
not_empty seen = nat_lt 0 (length seen)

abbrev pub node_seen : NodeLayer Seen → Seen
node_seen Node-F.Empty = good an_empty
node_seen (Node-F.Cons kept heads rest) = record { sight = a_cons; stands = not_empty heads && (all_stand heads && (rest.stands && ends_cons rest.sight)) }
node_seen (Node-F.Chunk kept items rest) = record { sight = a_chunked; stands = not_empty items && (all_stand items && (rest.stands && ends_chunk rest.sight)) }
node_seen (Node-F.Range from at end) = record { sight = a_chunked; stands = int_le from at && int_lt at end }
node_seen (Node-F.VecSeq kept items at) = record { sight = a_chunked; stands = nat_lt at (length items) && all_stand items }

abbrev pub value_seen : ValueLayer Seen → Seen
value_seen Value-F.Nil = good a_nil
value_seen (Value-F.Bool truth) = good a_bool
value_seen (Value-F.Int number) = good (an_int number)
value_seen (Value-F.Keyword name) = good another
value_seen (Value-F.Text bytes) = good another
value_seen (Value-F.Vector kept items) = record { sight = a_vector (length items); stands = all_stand items }
value_seen (Value-F.Function function) = function
value_seen (Value-F.Node node) = node
value_seen (Value-F.Reduced kept held) = record { sight = another; stands = held.stands }
value_seen (Value-F.Cell id) = good a_cell

abbrev pub function_seen : FunctionLayer Seen → Seen
function_seen f = record { sight = a_function f.target (kept_by_function f.target (sights f.bound)); stands = all_stand f.bound && binds f.target (sights f.bound) }

abbrev pub seen : Value → Seen
seen = fold_value Seen node_seen value_seen function_seen

abbrev pub seen_node : Node → Seen
seen_node = fold_node Seen node_seen value_seen function_seen

abbrev pub seen_function : FnValue → Seen
seen_function = fold_function Seen node_seen value_seen function_seen

abbrev pub sight_of : Value → Sight
sight_of v = (seen v).sight

-- right numbers, and at most 256 deep
abbrev pub is_measured : Grade → Bool
is_measured g = g.right && nat_le g.depth 256

-- A value is well formed where it and all that it holds stand, each number that is kept in it is the depth of what keeps it, and it is at most 256 deep. The number of a cell doesn't say which kind of part it is; the book of the parts does.
abbrev pub is_well_formed : Value → Bool
is_well_formed v = (seen v).stands && is_measured (graded v)

abbrev pub is_well_formed_node : Node → Bool
is_well_formed_node n = (seen_node n).stands && is_measured (graded_node n)

abbrev pub is_well_formed_function : FnValue → Bool
is_well_formed_function f = (seen_function f).stands && is_measured (graded_function f)

abbrev pub are_well_formed : List Value → Bool
are_well_formed [] = true
are_well_formed (v ∷ vs) = is_well_formed v && are_well_formed vs
