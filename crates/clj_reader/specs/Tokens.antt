-- The tokens of a text by one pass over its bytes, each with the place at which it begins. The code is proved by it; they
-- are those of the text's pieces.
use Rattle.std.specs.Prelude.{ℕ, ◌==◌, Option, Some, None, List, [], ◌∷◌, ◌++◌, if◌then◌else◌}
use Rattle.clj_reader.specs.declared.place.Place.{Place}
use Rattle.clj_reader.specs.declared.token.Token.TheVariants.{Atom}
use Rattle.clj_reader.specs.declared.token.Lexeme.{Lexeme}
use Rattle.clj_reader.specs.declared.token.Atom.TheVariants as atom
use Rattle.clj_reader.specs.Places.{start, behind}
use Rattle.clj_reader.specs.Spellings.{is_separator, is_bracket, bracket_token, is_word_byte, word_token, escaped, lexeme, unreadable}

-- Between two bytes a text stands between tokens, in a comment, in a word that began at a place, with its bytes so far,
-- in a text that began at a place, with its content so far, or behind a `\` in such a text.
pub data Standing : Type 0 where
  between : Standing
  comment : Standing
  word : Place → List ℕ → Standing
  text : Place → List ℕ → Standing
  escape : Place → List ℕ → Standing

-- what a byte between tokens begins at its place; go are the tokens after it
abbrev pub begun : (Standing → List Lexeme) → Place → ℕ → List Lexeme
begun go p b =
    if is_separator b then go between
    else (if b == 59 then go comment
    else (if is_bracket b then lexeme p (bracket_token b) ∷ go between
    else (if b == 34 then go (text p [])
    else go (word p (b ∷ [])))))

-- the tokens after an escape: none behind one that stands for nothing, since its text is refused
abbrev pub unescaped : (Standing → List Lexeme) → Place → List ℕ → Option ℕ → List Lexeme
unescaped go s content None = unreadable s ∷ []
unescaped go s content (Some c) = go (text s (content ++ c ∷ []))

-- the tokens of the bytes from a place on
unfoldable pub tokens : Standing → Place → List ℕ → List Lexeme
tokens between p [] = []
tokens comment p [] = []
tokens (word s w) p [] = lexeme s (word_token w) ∷ []
tokens (text s content) p [] = unreadable s ∷ []
tokens (escape s content) p [] = unreadable s ∷ []
tokens between p (b ∷ bs) = begun (λ standing. tokens standing (behind b p) bs) p b
tokens comment p (b ∷ bs) = if b == 10 then tokens between (behind b p) bs else tokens comment (behind b p) bs
tokens (word s w) p (b ∷ bs) = if is_word_byte b then tokens (word s (w ++ b ∷ [])) (behind b p) bs
    else lexeme s (word_token w) ∷ begun (λ standing. tokens standing (behind b p) bs) p b
tokens (text s content) p (b ∷ bs) =
    if b == 34 then lexeme s (Atom (atom.Text content)) ∷ tokens between (behind b p) bs
    else (if b == 92 then tokens (escape s content) (behind b p) bs
    else tokens (text s (content ++ b ∷ [])) (behind b p) bs)
tokens (escape s content) p (b ∷ bs) = unescaped (λ standing. tokens standing (behind b p) bs) s content (escaped b)

-- the tokens of a whole text
abbrev pub tokens_of : List ℕ → List Lexeme
tokens_of bytes = tokens between start bytes
