-- The text with which an atom or a function is printed.
use Rattle.std.specs.Prelude.{ℕ, true, false, nat_eq, if◌then◌else◌, List, [], ◌∷◌, ◌++◌, flat_map, codes}
use Rattle.std.specs.Prelude.{Option, Some, None}
use Rattle.std.specs.Fmt.{signed_decimal}
use Rattle.seq_values.specs.Layers.{Value, Node, FnValue, Value-F, out-Value}

-- The bytes that are shown by a letter after a backslash: newline, tab, return, form feed, backspace, quote and backslash. They are those of `char-escape-string` in Clojure's core_print.clj.
abbrev pub letter_for : ℕ → Option ℕ
letter_for byte =
    if nat_eq byte 10 then Some 110
    else if nat_eq byte 9 then Some 116
    else if nat_eq byte 13 then Some 114
    else if nat_eq byte 12 then Some 102
    else if nat_eq byte 8 then Some 98
    else if nat_eq byte 34 then Some 34
    else if nat_eq byte 92 then Some 92
    else None

abbrev with_backslash : ℕ → Option ℕ → List ℕ
with_backslash byte None = byte ∷ []
with_backslash byte (Some letter) = 92 ∷ letter ∷ []

-- a byte as it is shown inside the quotes
abbrev pub escaped : ℕ → List ℕ
escaped byte = with_backslash byte (letter_for byte)

-- the text of a value, given its first layer; nothing where it is no atom and no function
abbrev pub text_at : Value-F Node Value FnValue → Option (List ℕ)
text_at Value-F.Nil = Some (codes "nil")
text_at (Value-F.Bool true) = Some (codes "true")
text_at (Value-F.Bool false) = Some (codes "false")
text_at (Value-F.Int number) = Some (signed_decimal number)
text_at (Value-F.Keyword name) = Some (58 ∷ name)
text_at (Value-F.Text bytes) = Some (34 ∷ flat_map escaped bytes ++ 34 ∷ [])
text_at (Value-F.Function f) = Some (codes "#fn")
text_at _ = None

abbrev pub atom_text : Value → Option (List ℕ)
atom_text v = text_at (out-Value v)
