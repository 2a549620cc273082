-- A text as pieces, end to end: separators, comments, brackets, words and texts. They follow Clojure's reader
-- (https://clojure.org/reference/reader), without its dispatch characters, quotes, braces and characters.
use Rattle.std.specs.Prelude.{◌≡◌, ◌≢◌, ℕ, ◌<◌, true, false, List, [], ◌∷◌, ◌++◌, length, map, Some, None}
use Rattle.std.specs.List.{AllByRecursion, flat_map}
use Rattle.clj_reader.specs.declared.place.Place.{Place}
use Rattle.clj_reader.specs.declared.token.Lexeme.{Lexeme}
use Rattle.clj_reader.specs.declared.token.Token.TheVariants.{Atom}
use Rattle.clj_reader.specs.declared.token.Atom.TheVariants as atom
use Rattle.clj_reader.specs.Places.{behind_all}
use Rattle.clj_reader.specs.Spellings.{is_separator, is_bracket, bracket_token, is_word_byte, word_token, escaped, lexeme, unreadable}

-- in a text: a byte that stands for itself, or `\` and a byte, with what they stand for
pub data Item : Type 0 where
  plain : ℕ → Item
  escape : ℕ → ℕ → Item

pub data Piece : Type 0 where
  separator : ℕ → Piece
  -- what stands between `;` and the end of its line
  comment : List ℕ → Piece
  bracket : ℕ → Piece
  word : List ℕ → Piece
  -- what stands between two quotes
  text : List Item → Piece
  -- what stands behind a quote whose text is refused, to the end
  broken : List ℕ → Piece

abbrev pub item_bytes : Item → List ℕ
item_bytes (plain b) = b ∷ []
item_bytes (escape b c) = 92 ∷ b ∷ []

abbrev pub item_content : Item → ℕ
item_content (plain b) = b
item_content (escape b c) = c

-- the bytes of a piece
abbrev pub piece_bytes : Piece → List ℕ
piece_bytes (separator b) = b ∷ []
piece_bytes (comment line) = 59 ∷ line
piece_bytes (bracket b) = b ∷ []
piece_bytes (word w) = w
piece_bytes (text items) = 34 ∷ (flat_map item_bytes items ++ 34 ∷ [])
piece_bytes (broken bytes) = 34 ∷ bytes

-- the tokens of a piece that begins at a place
abbrev pub piece_tokens : Place → Piece → List Lexeme
piece_tokens p (separator b) = []
piece_tokens p (comment line) = []
piece_tokens p (bracket b) = lexeme p (bracket_token b) ∷ []
piece_tokens p (word w) = lexeme p (word_token w) ∷ []
piece_tokens p (text items) = lexeme p (Atom (atom.Text (map item_content items))) ∷ []
piece_tokens p (broken bytes) = unreadable p ∷ []

abbrev pub IsItem : Item → Type 0
IsItem (plain b) = (b ≢ 34) × (b ≢ 92)
IsItem (escape b c) = escaped b ≡ Some c

-- bytes that end a comment: none, or those from a newline on
abbrev pub EndsLine : List ℕ → Type 0
EndsLine [] = Unit {0}
EndsLine (b ∷ bs) = b ≡ 10

-- bytes that end a word
abbrev pub EndsWord : List ℕ → Type 0
EndsWord [] = Unit {0}
EndsWord (b ∷ bs) = is_word_byte b ≡ false

-- bytes that end a text, and no quote does: none, `\` alone, or `\` and a byte that make no escape
abbrev pub Breaks : List ℕ → Type 0
Breaks [] = Unit {0}
Breaks (b ∷ []) = b ≡ 92
Breaks (b ∷ c ∷ bs) = (b ≡ 92) × (escaped c ≡ None)

-- A piece is well formed before the rest of its text.
abbrev pub IsPiece : Piece → List ℕ → Type 0
IsPiece (separator b) rest = is_separator b ≡ true
IsPiece (comment line) rest = AllByRecursion (λ b. b ≢ 10) line × EndsLine rest
IsPiece (bracket b) rest = is_bracket b ≡ true
IsPiece (word w) rest = (0 < length w) × AllByRecursion (λ b. is_word_byte b ≡ true) w × EndsWord rest
IsPiece (text items) rest = AllByRecursion IsItem items
IsPiece (broken bytes) rest = (items : List Item) × (tail : List ℕ) × AllByRecursion IsItem items × Breaks tail × (bytes ≡ flat_map item_bytes items ++ tail) × (rest ≡ [])

-- the pieces, end to end, are the bytes
abbrev pub Spells : List Piece → List ℕ → Type 0
Spells [] bytes = bytes ≡ []
Spells (x ∷ xs) bytes = (rest : List ℕ) × (bytes ≡ piece_bytes x ++ rest) × IsPiece x rest × Spells xs rest

-- the tokens of pieces that begin at a place
abbrev pub pieces_tokens : Place → List Piece → List Lexeme
pieces_tokens p [] = []
pieces_tokens p (x ∷ xs) = piece_tokens p x ++ pieces_tokens (behind_all (piece_bytes x) p) xs
