-- The literals of values.
use Rattle.std.specs.Prelude.{Bool, true, false}
use Rattle.seq_values.specs.declared.value.Value.{Value, out-Value}
use Rattle.seq_values.specs.declared.value.Node.{Node, out-Node}
use Rattle.seq_values.specs.declared.value.Node.TheOpen.{Value-F, Node-F}
use Rattle.clj_script.specs.declared.atom.Atom.{Atom}
use Rattle.clj_script.specs.declared.atom.Atom.TheVariants as atom
use Rattle.clj_script.specs.Trees as tree

-- the literal that a script writes
abbrev pub literal_of_atom : Atom → tree.Literal
literal_of_atom atom.Nil = tree.nil_literal
literal_of_atom (atom.Bool b) = tree.bool_literal b
literal_of_atom (atom.Int z) = tree.int_literal z
literal_of_atom (atom.Keyword name) = tree.keyword_literal name
literal_of_atom (atom.Text text) = tree.text_literal text

-- the literal of a value that a script can write
abbrev pub literal_of_level : {N V F : Type 0} → Value-F N V F → tree.Literal
literal_of_level Value-F.Nil = tree.nil_literal
literal_of_level (Value-F.Bool b) = tree.bool_literal b
literal_of_level (Value-F.Int z) = tree.int_literal z
literal_of_level (Value-F.Keyword name) = tree.keyword_literal name
literal_of_level (Value-F.Text text) = tree.text_literal text
literal_of_level _ = tree.empty_literal

abbrev pub literal_of : Value → tree.Literal
literal_of v = literal_of_level (out-Value v)

abbrev pub is_empty_level : {N V F : Type 0} → Node-F N V F → Bool
is_empty_level Node-F.Empty = true
is_empty_level _ = false

-- one level of a value that a script can write
abbrev pub is_written_level : {V F : Type 0} → Value-F Node V F → Bool
is_written_level Value-F.Nil = true
is_written_level (Value-F.Bool b) = true
is_written_level (Value-F.Int z) = true
is_written_level (Value-F.Keyword name) = true
is_written_level (Value-F.Text text) = true
is_written_level (Value-F.Node node) = is_empty_level (out-Node node)
is_written_level _ = false

-- whether a script can write a value: nil, a truth value, an integer, a keyword, a text or `()`
abbrev pub is_written : Value → Bool
is_written v = is_written_level (out-Value v)
