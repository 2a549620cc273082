-- The tokens of a text are those of its pieces.
use Rattle.std.proofs.Common.{◌≡◌, ◌≢◌, ℕ, Bool, true, false, eqb, not, ◌&&◌, List, [], ◌∷◌, ◌++◌, map, refl, sym, ◌∙◌, ap, arith}
use Rattle.std.proofs.lemmas.Bool.{ne_eqb}
use Rattle.std.proofs.lemmas.Bool.Decides.{nat_tests}
use Rattle.std.proofs.lemmas.List.{append-nil, append_assoc}
use Rattle.std.specs.List.{AllByRecursion, flat_map}
use Rattle.clj_reader.specs.declared.place.Place.{Place}
use Rattle.clj_reader.specs.declared.token.Lexeme.{Lexeme}
use Rattle.clj_reader.specs.declared.token.Token.TheVariants.{Atom}
use Rattle.clj_reader.specs.declared.token.Atom.TheVariants as atom
use Rattle.clj_reader.specs.Places.{behind, behind_all}
use Rattle.clj_reader.specs.Spellings.{is_separator, is_bracket, is_word_byte, word_token, lexeme, unreadable}
use Rattle.clj_reader.specs.Tokens as standing
use Rattle.clj_reader.specs.Tokens.{Standing, tokens}
use Rattle.clj_reader.specs.Pieces.{Item, Piece, plain, escape, separator, comment, bracket, word, text, broken, item_bytes, item_content, piece_bytes, piece_tokens, pieces_tokens, IsItem, EndsLine, EndsWord, Breaks, IsPiece, Spells}
use Rattle.clj_reader.proofs.TokenLemmas.{separator_first, comment_first, bracket_first, quote_first, word_first, comment_first_more, comment_first_ends, comment_at_end, tokens_of_none, word_first_more, word_first_ends, word_at_end, text_at_end, escape_at_end, text_first_ends, text_first_escape, text_first_more, escape_first, escape_first_none}

behind_append : (xs ys : List ℕ) (p : Place) → behind_all (xs ++ ys) p ≡ behind_all ys (behind_all xs p)
behind_append [] ys p = refl
behind_append (x ∷ xs) ys p = behind_append xs ys (behind x p)

-- bytes that begin one thing begin no other

and_parts : (a b : Bool) → (a && b) ≡ true → (a ≡ true) × (b ≡ true)
and_parts true b h = (refl, h)
and_parts false b h = absurd (cc h)

not_parts : (a : Bool) → not a ≡ true → a ≡ false
not_parts true h = absurd (cc h)
not_parts false h = refl

-- a byte of a word begins nothing else
pub record IsOfWord (b : ℕ) : Type 0 where
  pub separator : is_separator b ≡ false
  pub bracket : is_bracket b ≡ false
  pub quote : eqb b 34 ≡ false
  pub comment : eqb b 59 ≡ false

pub of_word : (b : ℕ) → is_word_byte b ≡ true → IsOfWord b
unfolding is_word_byte
of_word b h =
    let first = and_parts (not (is_separator b)) (not (is_bracket b) && (not (eqb b 34) && not (eqb b 59))) h in
    let second = and_parts (not (is_bracket b)) (not (eqb b 34) && not (eqb b 59)) first.1 in
    let third = and_parts (not (eqb b 34)) (not (eqb b 59)) second.1 in
    record { separator = not_parts _ first.0; bracket = not_parts _ second.0; quote = not_parts _ third.0; comment = not_parts _ third.1 }

pub of_bracket : (b : ℕ) → is_bracket b ≡ true → (is_separator b ≡ false) × (eqb b 59 ≡ false)
unfolding is_bracket is_separator
of_bracket b h = (grind (arith, nat_tests), grind (arith, nat_tests))

quote_is : (is_separator 34 ≡ false) × (is_bracket 34 ≡ false)
unfolding is_bracket is_separator
quote_is = (refl, refl)

comment_is : is_separator 59 ≡ false
unfolding is_separator
comment_is = refl

-- inside a comment, a word and a text

in_comment : (line rest : List ℕ) (p : Place) → AllByRecursion (λ b. b ≢ 10) line → EndsLine rest → tokens standing.comment p (line ++ rest) ≡ tokens standing.between (behind_all line p) rest
in_comment [] [] p h e = comment_at_end p
in_comment [] (b ∷ rest) p h e = comment_first_ends b rest p e
in_comment (b ∷ line) rest p h e = comment_first_more b (line ++ rest) p (ne_eqb b 10 h.0) ∙ in_comment line rest (behind b p) h.1 e

in_word : (s : Place) (had w rest : List ℕ) (p : Place) → AllByRecursion (λ b. is_word_byte b ≡ true) w → EndsWord rest
    → tokens (standing.word s had) p (w ++ rest) ≡ lexeme s (word_token (had ++ w)) ∷ tokens standing.between (behind_all w p) rest
in_word s had [] [] p h e = word_at_end s p had ∙ ap (λ (v : List ℕ). lexeme s (word_token v) ∷ tokens standing.between p []) (sym (append-nil had))
in_word s had [] (b ∷ rest) p h e = word_first_ends s p had b rest e ∙ ap (λ (v : List ℕ). lexeme s (word_token v) ∷ tokens standing.between p (b ∷ rest)) (sym (append-nil had))
in_word s had (b ∷ w) rest p h e = word_first_more s p had b (w ++ rest) h.0 ∙ in_word s (had ++ b ∷ []) w rest (behind b p) h.1 e
    ∙ ap (λ (v : List ℕ). lexeme s (word_token v) ∷ tokens standing.between (behind_all w (behind b p)) rest) (append_assoc had (b ∷ []) w)

in_text : (s : Place) (had : List ℕ) (items : List Item) (rest : List ℕ) (p : Place) → AllByRecursion IsItem items
    → tokens (standing.text s had) p (flat_map item_bytes items ++ rest) ≡ tokens (standing.text s (had ++ map item_content items)) (behind_all (flat_map item_bytes items) p) rest
in_text s had [] rest p h = ap (λ (v : List ℕ). tokens (standing.text s v) p rest) (sym (append-nil had))
in_text s had (plain b ∷ items) rest p h = text_first_more s p had b (flat_map item_bytes items ++ rest) (ne_eqb b 34 h.0.0) (ne_eqb b 92 h.0.1)
    ∙ in_text s (had ++ b ∷ []) items rest (behind b p) h.1
    ∙ ap (λ (v : List ℕ). tokens (standing.text s v) (behind_all (flat_map item_bytes items) (behind b p)) rest) (append_assoc had (b ∷ []) (map item_content items))
in_text s had (escape b c ∷ items) rest p h = text_first_escape s p had 92 (b ∷ (flat_map item_bytes items ++ rest)) refl refl
    ∙ escape_first s (behind 92 p) had b c (flat_map item_bytes items ++ rest) h.0
    ∙ in_text s (had ++ c ∷ []) items rest (behind b (behind 92 p)) h.1
    ∙ ap (λ (v : List ℕ). tokens (standing.text s v) (behind_all (flat_map item_bytes items) (behind b (behind 92 p))) rest) (append_assoc had (c ∷ []) (map item_content items))

in_break : (s : Place) (had tail : List ℕ) (p : Place) → Breaks tail → tokens (standing.text s had) p tail ≡ unreadable s ∷ []
in_break s had [] p h = text_at_end s p had
in_break s had (b ∷ []) p h = text_first_escape s p had b [] (rw h refl) (rw h refl) ∙ escape_at_end s (behind b p) had
in_break s had (b ∷ c ∷ bs) p h = text_first_escape s p had b (c ∷ bs) (rw h.0 refl) (rw h.0 refl) ∙ escape_first_none s (behind b p) had c bs h.1

-- one piece

piece_first : (x : Piece) (rest : List ℕ) (p : Place) → IsPiece x rest → tokens standing.between p (piece_bytes x ++ rest) ≡ piece_tokens p x ++ tokens standing.between (behind_all (piece_bytes x) p) rest
piece_first (separator b) rest p h = separator_first b rest p h
piece_first (comment line) rest p h = comment_first 59 (line ++ rest) p comment_is refl ∙ in_comment line rest (behind 59 p) h.0 h.1
piece_first (bracket b) rest p h = let o = of_bracket b h in bracket_first b rest p o.0 o.1 h
piece_first (word []) rest p h = absurd (omega (arith, h.0))
piece_first (word (b ∷ w)) rest p h = let o = of_word b h.1.0 in
    word_first b (w ++ rest) p o.separator o.comment o.bracket o.quote ∙ in_word p (b ∷ []) w rest (behind b p) h.1.1 h.2
piece_first (text items) rest p h =
    let inner = flat_map item_bytes items in
    ap (λ (bs : List ℕ). tokens standing.between p (34 ∷ bs)) (append_assoc inner (34 ∷ []) rest)
    ∙ quote_first 34 (inner ++ (34 ∷ rest)) p quote_is.0 refl quote_is.1 refl
    ∙ in_text p [] items (34 ∷ rest) (behind 34 p) h
    ∙ text_first_ends p (behind_all inner (behind 34 p)) (map item_content items) 34 rest refl
    ∙ ap (λ (q : Place). lexeme p (Atom (atom.Text (map item_content items))) ∷ tokens standing.between q rest) (sym (behind_append inner (34 ∷ []) (behind 34 p)))
piece_first (broken bytes) rest p h =
    let items = h.0 in let tail = h.1 in
    let none : rest ≡ [] = h.5 in
    ap (λ (bs : List ℕ). tokens standing.between p (34 ∷ (bytes ++ bs))) none
    ∙ ap (λ (bs : List ℕ). tokens standing.between p (34 ∷ bs)) (append-nil bytes ∙ h.4)
    ∙ quote_first 34 (flat_map item_bytes items ++ tail) p quote_is.0 refl quote_is.1 refl
    ∙ in_text p [] items tail (behind 34 p) h.2
    ∙ in_break p (map item_content items) tail (behind_all (flat_map item_bytes items) (behind 34 p)) h.3
    ∙ ap (λ (ls : List Lexeme). unreadable p ∷ ls) (sym (tokens_of_none (behind_all (34 ∷ bytes) p)))
    ∙ ap (λ (bs : List ℕ). unreadable p ∷ tokens standing.between (behind_all (34 ∷ bytes) p) bs) (sym none)

-- all pieces
pub pieces_give : (xs : List Piece) (bytes : List ℕ) (p : Place) → Spells xs bytes → tokens standing.between p bytes ≡ pieces_tokens p xs
pieces_give [] bytes p h = ap (tokens standing.between p) h ∙ tokens_of_none p
pieces_give (x ∷ xs) bytes p h = ap (tokens standing.between p) h.1 ∙ piece_first x h.0 p h.2
    ∙ ap (λ (ls : List Lexeme). piece_tokens p x ++ ls) (pieces_give xs h.0 (behind_all (piece_bytes x) p) h.3)
