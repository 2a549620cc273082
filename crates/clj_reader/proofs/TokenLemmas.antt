-- The tokens from a byte on, by the byte that stands there.
use Rattle.std.proofs.Common.{◌≡◌, ◌≢◌, ℕ, ◌+◌, ◌-◌, ◌<◌, ◌≤◌, true, false, eqb, List, [], ◌∷◌, ◌++◌, length, get_or, take, drop, refl, sym, ◌∙◌, ap, arith, Some, None}
use Rattle.std.proofs.lemmas.Bool.{ne_eqb}
use Rattle.std.proofs.lemmas.Bool.Decides.{nat_tests}
use Rattle.std.proofs.lemmas.List.{drop_more, take_more, drop_all, get_or-drop, length-drop}
use Rattle.clj_reader.specs.declared.place.Place.{Place}
use Rattle.clj_reader.specs.declared.token.Token.TheVariants.{Atom}
use Rattle.clj_reader.specs.declared.token.Lexeme.{Lexeme}
use Rattle.clj_reader.specs.declared.token.Atom.TheVariants as atom
use Rattle.clj_reader.specs.Places.{behind}
use Rattle.clj_reader.specs.Spellings.{is_separator, is_bracket, bracket_token, is_word_byte, word_token, escaped, lexeme, unreadable}
use Rattle.clj_reader.specs.Tokens.{Standing, between, comment, word, text, escape, tokens}

at_byte : (bs : List ℕ) (i : ℕ) (p : Place) → i < length bs → (standing : Standing) → tokens standing p (drop i bs) ≡ tokens standing p (get_or bs i 0 ∷ drop (i + 1) bs)
at_byte bs i p h standing = ap (tokens standing p) (drop_more bs i 0 h)

at_end : (bs : List ℕ) (i : ℕ) (p : Place) → length bs ≤ i → (standing : Standing) → tokens standing p (drop i bs) ≡ tokens standing p []
at_end bs i p h standing = ap (tokens standing p) (drop_all i bs h)

-- between tokens

pub separator_first : (b : ℕ) (bs : List ℕ) (p : Place) → is_separator b ≡ true → tokens between p (b ∷ bs) ≡ tokens between (behind b p) bs
unfolding tokens
separator_first b bs p e = rw e refl

pub separator_more : (bs : List ℕ) (i : ℕ) (p : Place) → i < length bs → is_separator (get_or bs i 0) ≡ true → tokens between p (drop i bs) ≡ tokens between (behind (get_or bs i 0) p) (drop (i + 1) bs)
separator_more bs i p h e = at_byte bs i p h between ∙ separator_first (get_or bs i 0) (drop (i + 1) bs) p e

pub comment_first : (b : ℕ) (bs : List ℕ) (p : Place) → is_separator b ≡ false → eqb b 59 ≡ true → tokens between p (b ∷ bs) ≡ tokens comment (behind b p) bs
unfolding tokens
comment_first b bs p e f = rw (e, f) refl

pub eqb_at : (a b : ℕ) → a ≡ b → eqb a b ≡ true
eqb_at a b e = grind (arith, nat_tests)

pub comment_begins : (bs : List ℕ) (i : ℕ) (p : Place) → i < length bs → is_separator (get_or bs i 0) ≡ false → get_or bs i 0 ≡ 59 → tokens between p (drop i bs) ≡ tokens comment (behind (get_or bs i 0) p) (drop (i + 1) bs)
comment_begins bs i p h e f = at_byte bs i p h between ∙ comment_first (get_or bs i 0) (drop (i + 1) bs) p e (eqb_at _ _ f)

pub bracket_first : (b : ℕ) (bs : List ℕ) (p : Place) → is_separator b ≡ false → eqb b 59 ≡ false → is_bracket b ≡ true → tokens between p (b ∷ bs) ≡ lexeme p (bracket_token b) ∷ tokens between (behind b p) bs
unfolding tokens
bracket_first b bs p e f g = rw (e, f, g) refl

pub bracket_begins : (bs : List ℕ) (i : ℕ) (p : Place) → i < length bs → is_separator (get_or bs i 0) ≡ false → get_or bs i 0 ≢ 59 → is_bracket (get_or bs i 0) ≡ true → tokens between p (drop i bs) ≡ lexeme p (bracket_token (get_or bs i 0)) ∷ tokens between (behind (get_or bs i 0) p) (drop (i + 1) bs)
bracket_begins bs i p h e f g = at_byte bs i p h between ∙ bracket_first (get_or bs i 0) (drop (i + 1) bs) p e (ne_eqb _ _ f) g

pub quote_first : (b : ℕ) (bs : List ℕ) (p : Place) → is_separator b ≡ false → eqb b 59 ≡ false → is_bracket b ≡ false → eqb b 34 ≡ true → tokens between p (b ∷ bs) ≡ tokens (text p []) (behind b p) bs
unfolding tokens
quote_first b bs p e f g k = rw (e, f, g, k) refl

pub quote_begins : (bs : List ℕ) (i : ℕ) (p : Place) → i < length bs → is_separator (get_or bs i 0) ≡ false → get_or bs i 0 ≢ 59 → is_bracket (get_or bs i 0) ≡ false → get_or bs i 0 ≡ 34 → tokens between p (drop i bs) ≡ tokens (text p []) (behind (get_or bs i 0) p) (drop (i + 1) bs)
quote_begins bs i p h e f g k = at_byte bs i p h between ∙ quote_first (get_or bs i 0) (drop (i + 1) bs) p e (ne_eqb _ _ f) g (eqb_at _ _ k)

pub word_first : (b : ℕ) (bs : List ℕ) (p : Place) → is_separator b ≡ false → eqb b 59 ≡ false → is_bracket b ≡ false → eqb b 34 ≡ false → tokens between p (b ∷ bs) ≡ tokens (word p (b ∷ [])) (behind b p) bs
unfolding tokens
word_first b bs p e f g k = rw (e, f, g, k) refl

-- one byte more of what began at a place
so_far : (bs : List ℕ) (a i : ℕ) → a ≤ i → i < length bs → take (i + 1 - a) (drop a bs) ≡ take (i - a) (drop a bs) ++ get_or bs i 0 ∷ []
so_far bs a i l h =
    let n : i + 1 - a ≡ (i - a) + 1 = omega arith in
    let m : a + (i - a) ≡ i = omega arith in
    let k : i - a < length (drop a bs) = simp length-drop (omega arith) in
    ap (λ (j : ℕ). take j (drop a bs)) n ∙ take_more (drop a bs) (i - a) 0 k
    ∙ ap (λ (b : ℕ). take (i - a) (drop a bs) ++ b ∷ []) (get_or-drop a bs (i - a) 0 ∙ ap (λ (j : ℕ). get_or bs j 0) m)

pub word_begins : (bs : List ℕ) (i : ℕ) (p : Place) → i < length bs → is_separator (get_or bs i 0) ≡ false → get_or bs i 0 ≢ 59 → is_bracket (get_or bs i 0) ≡ false → get_or bs i 0 ≢ 34 → tokens between p (drop i bs) ≡ tokens (word p (take (i + 1 - i) (drop i bs))) (behind (get_or bs i 0) p) (drop (i + 1) bs)
word_begins bs i p h e f g k =
    let n : i - i ≡ 0 = omega arith in
    let one : take (i + 1 - i) (drop i bs) ≡ get_or bs i 0 ∷ [] = so_far bs i i (omega arith) h ∙ ap (λ (j : ℕ). take j (drop i bs) ++ get_or bs i 0 ∷ []) n in
    at_byte bs i p h between ∙ word_first (get_or bs i 0) (drop (i + 1) bs) p e (ne_eqb _ _ f) g (ne_eqb _ _ k)
    ∙ ap (λ (w : List ℕ). tokens (word p w) (behind (get_or bs i 0) p) (drop (i + 1) bs)) (sym one)

-- in a comment

pub comment_first_more : (b : ℕ) (bs : List ℕ) (p : Place) → eqb b 10 ≡ false → tokens comment p (b ∷ bs) ≡ tokens comment (behind b p) bs
unfolding tokens
comment_first_more b bs p e = rw e refl

pub comment_more : (bs : List ℕ) (i : ℕ) (p : Place) → i < length bs → get_or bs i 0 ≢ 10 → tokens comment p (drop i bs) ≡ tokens comment (behind (get_or bs i 0) p) (drop (i + 1) bs)
comment_more bs i p h e = at_byte bs i p h comment ∙ comment_first_more (get_or bs i 0) (drop (i + 1) bs) p (ne_eqb _ _ e)

pub comment_first_ends : (b : ℕ) (bs : List ℕ) (p : Place) → b ≡ 10 → tokens comment p (b ∷ bs) ≡ tokens between p (b ∷ bs)
unfolding tokens is_separator
comment_first_ends b bs p e = rw e refl

pub comment_ends : (bs : List ℕ) (i : ℕ) (p : Place) → i < length bs → get_or bs i 0 ≡ 10 → tokens comment p (drop i bs) ≡ tokens between p (drop i bs)
comment_ends bs i p h e = at_byte bs i p h comment ∙ comment_first_ends (get_or bs i 0) (drop (i + 1) bs) p e ∙ sym (at_byte bs i p h between)

pub comment_at_end : (p : Place) → tokens comment p [] ≡ tokens between p []
unfolding tokens
comment_at_end p = refl

pub comment_over : (bs : List ℕ) (i : ℕ) (p : Place) → length bs ≤ i → tokens comment p (drop i bs) ≡ tokens between p (drop i bs)
comment_over bs i p h = at_end bs i p h comment ∙ comment_at_end p ∙ sym (at_end bs i p h between)

-- at the end

pub tokens_of_none : (p : Place) → tokens between p [] ≡ []
unfolding tokens
tokens_of_none p = refl

pub nothing_over : (bs : List ℕ) (i : ℕ) (p : Place) → length bs ≤ i → tokens between p (drop i bs) ≡ []
nothing_over bs i p h = at_end bs i p h between ∙ tokens_of_none p

-- in a word

pub word_first_more : (s p : Place) (w : List ℕ) (b : ℕ) (bs : List ℕ) → is_word_byte b ≡ true → tokens (word s w) p (b ∷ bs) ≡ tokens (word s (w ++ b ∷ [])) (behind b p) bs
unfolding tokens
word_first_more s p w b bs e = rw e refl

pub word_more : (bs : List ℕ) (a i : ℕ) (s p : Place) → a ≤ i → i < length bs → is_word_byte (get_or bs i 0) ≡ true → tokens (word s (take (i - a) (drop a bs))) p (drop i bs) ≡ tokens (word s (take (i + 1 - a) (drop a bs))) (behind (get_or bs i 0) p) (drop (i + 1) bs)
word_more bs a i s p l h e = at_byte bs i p h (word s (take (i - a) (drop a bs))) ∙ word_first_more s p (take (i - a) (drop a bs)) (get_or bs i 0) (drop (i + 1) bs) e
    ∙ ap (λ (w : List ℕ). tokens (word s w) (behind (get_or bs i 0) p) (drop (i + 1) bs)) (sym (so_far bs a i l h))

pub word_first_ends : (s p : Place) (w : List ℕ) (b : ℕ) (bs : List ℕ) → is_word_byte b ≡ false → tokens (word s w) p (b ∷ bs) ≡ lexeme s (word_token w) ∷ tokens between p (b ∷ bs)
unfolding tokens
word_first_ends s p w b bs e = rw e refl

pub word_ends : (bs : List ℕ) (i : ℕ) (s p : Place) (w : List ℕ) → i < length bs → is_word_byte (get_or bs i 0) ≡ false → tokens (word s w) p (drop i bs) ≡ lexeme s (word_token w) ∷ tokens between p (drop i bs)
word_ends bs i s p w h e = at_byte bs i p h (word s w) ∙ word_first_ends s p w (get_or bs i 0) (drop (i + 1) bs) e ∙ ap (λ (ls : List Lexeme). lexeme s (word_token w) ∷ ls) (sym (at_byte bs i p h between))

pub word_at_end : (s p : Place) (w : List ℕ) → tokens (word s w) p [] ≡ lexeme s (word_token w) ∷ tokens between p []
unfolding tokens
word_at_end s p w = refl

pub word_over : (bs : List ℕ) (i : ℕ) (s p : Place) (w : List ℕ) → length bs ≤ i → tokens (word s w) p (drop i bs) ≡ lexeme s (word_token w) ∷ tokens between p (drop i bs)
word_over bs i s p w h = at_end bs i p h (word s w) ∙ word_at_end s p w ∙ ap (λ (ls : List Lexeme). lexeme s (word_token w) ∷ ls) (sym (at_end bs i p h between))

-- in a text

pub text_at_end : (s p : Place) (content : List ℕ) → tokens (text s content) p [] ≡ unreadable s ∷ []
unfolding tokens
text_at_end s p content = refl

pub text_over : (bs : List ℕ) (i : ℕ) (s p : Place) (content : List ℕ) → length bs ≤ i → tokens (text s content) p (drop i bs) ≡ unreadable s ∷ []
text_over bs i s p content h = at_end bs i p h (text s content) ∙ text_at_end s p content

pub escape_at_end : (s p : Place) (content : List ℕ) → tokens (escape s content) p [] ≡ unreadable s ∷ []
unfolding tokens
escape_at_end s p content = refl

pub escape_over : (bs : List ℕ) (i : ℕ) (s p : Place) (content : List ℕ) → length bs ≤ i → tokens (escape s content) p (drop i bs) ≡ unreadable s ∷ []
escape_over bs i s p content h = at_end bs i p h (escape s content) ∙ escape_at_end s p content

pub text_first_ends : (s p : Place) (content : List ℕ) (b : ℕ) (bs : List ℕ) → eqb b 34 ≡ true → tokens (text s content) p (b ∷ bs) ≡ lexeme s (Atom (atom.Text content)) ∷ tokens between (behind b p) bs
unfolding tokens
text_first_ends s p content b bs e = rw e refl

pub text_ends : (bs : List ℕ) (i : ℕ) (s p : Place) (content : List ℕ) → i < length bs → get_or bs i 0 ≡ 34 → tokens (text s content) p (drop i bs) ≡ lexeme s (Atom (atom.Text content)) ∷ tokens between (behind (get_or bs i 0) p) (drop (i + 1) bs)
text_ends bs i s p content h e = at_byte bs i p h (text s content) ∙ text_first_ends s p content (get_or bs i 0) (drop (i + 1) bs) (eqb_at _ _ e)

pub text_first_escape : (s p : Place) (content : List ℕ) (b : ℕ) (bs : List ℕ) → eqb b 34 ≡ false → eqb b 92 ≡ true → tokens (text s content) p (b ∷ bs) ≡ tokens (escape s content) (behind b p) bs
unfolding tokens
text_first_escape s p content b bs e f = rw (e, f) refl

pub text_escape : (bs : List ℕ) (i : ℕ) (s p : Place) (content : List ℕ) → i < length bs → get_or bs i 0 ≢ 34 → get_or bs i 0 ≡ 92 → tokens (text s content) p (drop i bs) ≡ tokens (escape s content) (behind (get_or bs i 0) p) (drop (i + 1) bs)
text_escape bs i s p content h e f = at_byte bs i p h (text s content) ∙ text_first_escape s p content (get_or bs i 0) (drop (i + 1) bs) (ne_eqb _ _ e) (eqb_at _ _ f)

pub text_first_more : (s p : Place) (content : List ℕ) (b : ℕ) (bs : List ℕ) → eqb b 34 ≡ false → eqb b 92 ≡ false → tokens (text s content) p (b ∷ bs) ≡ tokens (text s (content ++ b ∷ [])) (behind b p) bs
unfolding tokens
text_first_more s p content b bs e f = rw (e, f) refl

pub text_more : (bs : List ℕ) (i : ℕ) (s p : Place) (content : List ℕ) → i < length bs → get_or bs i 0 ≢ 34 → get_or bs i 0 ≢ 92 → tokens (text s content) p (drop i bs) ≡ tokens (text s (content ++ get_or bs i 0 ∷ [])) (behind (get_or bs i 0) p) (drop (i + 1) bs)
text_more bs i s p content h e f = at_byte bs i p h (text s content) ∙ text_first_more s p content (get_or bs i 0) (drop (i + 1) bs) (ne_eqb _ _ e) (ne_eqb _ _ f)

pub escape_first : (s p : Place) (content : List ℕ) (b c : ℕ) (bs : List ℕ) → escaped b ≡ Some c → tokens (escape s content) p (b ∷ bs) ≡ tokens (text s (content ++ c ∷ [])) (behind b p) bs
unfolding tokens
escape_first s p content b c bs e = rw e refl

pub escape_more : (bs : List ℕ) (i : ℕ) (s p : Place) (content : List ℕ) (c : ℕ) → i < length bs → escaped (get_or bs i 0) ≡ Some c → tokens (escape s content) p (drop i bs) ≡ tokens (text s (content ++ c ∷ [])) (behind (get_or bs i 0) p) (drop (i + 1) bs)
escape_more bs i s p content c h e = at_byte bs i p h (escape s content) ∙ escape_first s p content (get_or bs i 0) c (drop (i + 1) bs) e

pub escape_first_none : (s p : Place) (content : List ℕ) (b : ℕ) (bs : List ℕ) → escaped b ≡ None → tokens (escape s content) p (b ∷ bs) ≡ unreadable s ∷ []
unfolding tokens
escape_first_none s p content b bs e = rw e refl

pub escape_none : (bs : List ℕ) (i : ℕ) (s p : Place) (content : List ℕ) → i < length bs → escaped (get_or bs i 0) ≡ None → tokens (escape s content) p (drop i bs) ≡ unreadable s ∷ []
escape_none bs i s p content h e = at_byte bs i p h (escape s content) ∙ escape_first_none s p content (get_or bs i 0) (drop (i + 1) bs) e

-- the steps of each of the code's loops

pub ruleset comment_steps = (comment_more, comment_ends, comment_over)

pub ruleset gap_steps = (separator_more, comment_begins)

pub ruleset word_steps = (word_begins, word_more, word_ends, word_over)

pub ruleset text_steps = (text_over, text_ends, text_escape, text_more, escape_over, escape_more, escape_none)
