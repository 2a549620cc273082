-- How the tokens of a script are spelled, byte by byte. A byte from 128 on stands in texts and comments alone.
-- They are a part of those of Clojure's reader (https://clojure.org/reference/reader, "Reader forms"): decimal integers of
-- 64 bits, symbols of ASCII with `r/` as the one namespace, keywords without a namespace, and five escapes.
use Rattle.std.specs.Prelude.{ℕ, ◌+◌, ◌*◌, ◌-◌, ◌^◌, ◌==◌, Bool, true, false, not, ◌&&◌, ◌||◌, nat_le, nat_lt, List, [], ◌∷◌, drop, codes, if◌then◌else◌, Option, Some, None, pos, neg_ℤ, ℤ}
use Rattle.std.specs.List.{list_all}
use Rattle.std.specs.Str.{bytes_eq}
use Rattle.clj_reader.specs.declared.place.Place.{Place}
use Rattle.clj_reader.specs.declared.token.Lexeme.{Lexeme}
use Rattle.clj_reader.specs.declared.token.Token.{Token}
use Rattle.clj_reader.specs.declared.token.Token.TheVariants.{Open, Close, Atom, Bad}
use Rattle.clj_reader.specs.declared.token.Bracket.TheVariants.{Round, Square}
use Rattle.clj_reader.specs.declared.token.Flaw.TheVariants.{Unreadable, TooLarge}
use Rattle.clj_reader.specs.declared.token.Atom.TheVariants as atom

-- space, tab, newline, form feed, carriage return and comma separate tokens
unfoldable pub is_separator : ℕ → Bool
is_separator b = b == 32 || (b == 9 || (b == 10 || (b == 12 || (b == 13 || b == 44))))

-- `(`, `)`, `[` and `]`
unfoldable pub is_bracket : ℕ → Bool
is_bracket b = b == 40 || (b == 41 || (b == 91 || b == 93))

-- the token that a bracket is
unfoldable pub bracket_token : ℕ → Token
bracket_token b = if b == 40 then Open Round else (if b == 41 then Close Round else (if b == 91 then Open Square else Close Square))

-- a word goes on up to a separator, a bracket, `"` or `;`
unfoldable pub is_word_byte : ℕ → Bool
is_word_byte b = not (is_separator b) && (not (is_bracket b) && (not (b == 34) && not (b == 59)))

-- what an escape in a text stands for, by the character behind `\`: `"`, `\`, newline, tab or carriage return
unfoldable pub escaped : ℕ → Option ℕ
escaped b = if b == 34 then Some 34 else (if b == 92 then Some 92
    else (if b == 110 then Some 10 else (if b == 116 then Some 9 else (if b == 114 then Some 13 else None))))

abbrev pub is_digit : ℕ → Bool
is_digit b = nat_le 48 b && nat_le b 57

abbrev pub is_sign : ℕ → Bool
is_sign b = b == 43 || b == 45

abbrev pub all_digits : List ℕ → Bool
all_digits bs = list_all is_digit bs

-- 0 alone, or a digit from 1 to 9 with further digits
abbrev pub is_number : List ℕ → Bool
is_number [] = false
is_number (b ∷ bs) = if b == 48 then bytes_eq bs [] else (is_digit b && all_digits bs)

-- a word without the sign in front
abbrev pub unsigned : List ℕ → List ℕ
unsigned [] = []
unsigned (b ∷ bs) = if is_sign b then bs else b ∷ bs

abbrev pub is_negative : List ℕ → Bool
is_negative [] = false
is_negative (b ∷ bs) = b == 45

-- an integer is an optional sign and a number
abbrev pub is_integer : List ℕ → Bool
is_integer w = is_number (unsigned w)

-- the number that decimal digits behind those of n stand for
abbrev pub decimal_from : ℕ → List ℕ → ℕ
decimal_from n [] = n
decimal_from n (b ∷ bs) = decimal_from (10 * n + (b - 48)) bs

-- the number below 0 with a magnitude, where 64 bits hold it
abbrev pub negative_of : ℕ → Option ℤ
negative_of n = if nat_le n (2 ^ 63) then Some (neg_ℤ (pos n)) else None

-- what an integer stands for, where 64 bits hold it
abbrev pub integer_value : List ℕ → Option ℤ
integer_value w = let n = decimal_from 0 (unsigned w) in
    if is_negative w then negative_of n else (if nat_lt n (2 ^ 63) then Some (pos n) else None)

abbrev pub integer_token : Option ℤ → Token
integer_token None = Bad TooLarge
integer_token (Some z) = Atom (atom.Int z)

abbrev pub is_letter : ℕ → Bool
is_letter b = (nat_le 97 b && nat_le b 122) || (nat_le 65 b && nat_le b 90)

-- a letter, or one of `* + ! - _ ? < > =`
abbrev pub begins_symbol : ℕ → Bool
begins_symbol b = is_letter b || (b == 42 || (b == 43 || (b == 33 || (b == 45 || (b == 95 || (b == 63 || (b == 60 || (b == 62 || b == 61))))))))

-- one of these, a digit or `'`
abbrev pub in_symbol : ℕ → Bool
in_symbol b = begins_symbol b || (is_digit b || b == 39)

abbrev pub all_in_symbol : List ℕ → Bool
all_in_symbol bs = list_all in_symbol bs

-- a symbol without `/`, where it stands behind `:` or `r/`
abbrev pub is_plain : List ℕ → Bool
is_plain [] = false
is_plain (b ∷ bs) = begins_symbol b && all_in_symbol bs

abbrev pub begins_with_digit : List ℕ → Bool
begins_with_digit [] = false
begins_with_digit (b ∷ bs) = is_digit b

-- the word begins with a sign and a digit
abbrev pub is_signed : List ℕ → Bool
is_signed [] = false
is_signed (b ∷ bs) = is_sign b && begins_with_digit bs

-- what stands behind the first byte, where that is c
abbrev pub behind_byte : ℕ → List ℕ → Option (List ℕ)
behind_byte c [] = None
behind_byte c (b ∷ bs) = if b == c then Some bs else None

abbrev pub is_plain_behind : Option (List ℕ) → Bool
is_plain_behind None = false
is_plain_behind (Some w) = is_plain w

-- `r/` and a plain symbol
abbrev pub is_reducers_symbol : List ℕ → Bool
is_reducers_symbol [] = false
is_reducers_symbol (b ∷ bs) = b == 114 && is_plain_behind (behind_byte 47 bs)

-- a plain symbol that doesn't begin as a number does, or `r/` and a plain symbol
abbrev pub is_symbol : List ℕ → Bool
is_symbol w = (is_plain w && not (is_signed w)) || is_reducers_symbol w

-- `:` and a plain symbol
abbrev pub is_keyword : List ℕ → Bool
is_keyword w = is_plain_behind (behind_byte 58 w)

-- The token that a word is. The three literals are no symbols.
unfoldable pub word_token : List ℕ → Token
word_token w =
    if bytes_eq w (codes "nil") then Atom atom.Nil
    else (if bytes_eq w (codes "true") then Atom (atom.Bool true)
    else (if bytes_eq w (codes "false") then Atom (atom.Bool false)
    else (if is_integer w then integer_token (integer_value w)
    else (if is_symbol w then Atom (atom.Symbol w)
    else (if is_keyword w then Atom (atom.Keyword (drop 1 w))
    else Bad Unreadable)))))

-- a token at a place, and one there that is spelled as none
abbrev pub lexeme : Place → Token → Lexeme
lexeme place token = record { place = place; token = token }

abbrev pub unreadable : Place → Lexeme
unreadable place = lexeme place (Bad Unreadable)
