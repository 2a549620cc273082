-- Where the code's reading of bytes stands.
use Rattle.std.specs.Prelude.{◌≡◌, ℕ, ◌+◌, ◌-◌, ◌<◌, ◌≤◌, List, ◌∷◌, length, take, drop}
use Rattle.clj_reader.specs.declared.cursor.Cursor.{Cursor}
use Rattle.clj_reader.specs.declared.token.Lexeme.{Lexeme}
use Rattle.clj_reader.specs.Tokens.{Standing, between, word, tokens}

-- the cursor is within a text that is short enough for its lines and columns
pub record Fits (bytes : List ℕ) (c : Cursor) : Type 0 where
  pub short : length bytes ≤ 1048576
  pub within : c.at ≤ length bytes
  pub line : c.place.line ≤ c.at + 1
  pub column : c.place.column ≤ c.at + 1

-- the tokens from a cursor on
abbrev pub tokens_at : Standing → List ℕ → Cursor → List Lexeme
tokens_at standing bytes c = tokens standing c.place (drop c.at bytes)

-- in the word that began at a cursor, with its bytes up to another
abbrev pub in_word : List ℕ → Cursor → Cursor → Standing
in_word bytes start to = word start.place (take (to.at - start.at) (drop start.at bytes))

-- the next token from a cursor on, which ends at another
pub record Reads (bytes : List ℕ) (from : Cursor) (l : Lexeme) (to : Cursor) : Type 0 where
  pub fits : Fits bytes to
  pub later : from.at < to.at
  pub reads : tokens_at between bytes from ≡ l ∷ tokens_at between bytes to
