-- Every text is made of pieces.
use Rattle.std.proofs.Common.{◌≡◌, ◌≢◌, ℕ, ◌⊎◌, inl, inr, ⊎_elim, Bool, true, false, eqb, List, [], ◌∷◌, ◌++◌, Option, Some, None, refl, sym, ◌∙◌, ap, subst, arith}
use Rattle.std.proofs.lemmas.Bool.Decides.{eqb_tells}
use Rattle.std.proofs.lemmas.List.{append-nil, append_assoc}
use Rattle.std.specs.List.{AllByRecursion, flat_map}
use Rattle.clj_reader.specs.Spellings.{is_separator, is_bracket, is_word_byte, escaped}
use Rattle.clj_reader.specs.Pieces.{Item, Piece, plain, escape, separator, comment, bracket, word, text, broken, item_bytes, IsItem, EndsLine, EndsWord, Breaks, Spells}

-- what a text is, from a place between pieces on
abbrev pub Pieces : List ℕ → Type 0
Pieces bytes = (xs : List Piece) × Spells xs bytes

-- from a place in a comment on
record Comment (bytes : List ℕ) : Type 0 where
  line : List ℕ
  rest : List ℕ
  parts : bytes ≡ line ++ rest
  each : AllByRecursion (λ b. b ≢ 10) line
  ends : EndsLine rest
  pieces : Pieces rest

-- from a place in a word on
record Word (bytes : List ℕ) : Type 0 where
  w : List ℕ
  rest : List ℕ
  parts : bytes ≡ w ++ rest
  each : AllByRecursion (λ b. is_word_byte b ≡ true) w
  ends : EndsWord rest
  pieces : Pieces rest

-- from a place in a text on, where a quote ends it
record Text (bytes : List ℕ) : Type 0 where
  items : List Item
  rest : List ℕ
  parts : bytes ≡ flat_map item_bytes items ++ 34 ∷ rest
  each : AllByRecursion IsItem items
  pieces : Pieces rest

-- the same, where none does
record Broken (bytes : List ℕ) : Type 0 where
  items : List Item
  tail : List ℕ
  parts : bytes ≡ flat_map item_bytes items ++ tail
  each : AllByRecursion IsItem items
  breaks : Breaks tail

-- from a place behind a `\` in a text on
record Escaped (bytes : List ℕ) : Type 0 where
  b : ℕ
  c : ℕ
  rest : List ℕ
  parts : bytes ≡ b ∷ rest
  escapes : escaped b ≡ Some c
  goes : Text rest ⊎ Broken rest

record Whole (bytes : List ℕ) : Type 0 where
  pieces : Pieces bytes
  comment : Comment bytes
  word : Word bytes
  text : Text bytes ⊎ Broken bytes
  escape : Escaped bytes ⊎ Breaks (92 ∷ bytes)

-- a piece in front

with_separator : (b : ℕ) (bs : List ℕ) → is_separator b ≡ true → Pieces bs → Pieces (b ∷ bs)
with_separator b bs h k = (separator b ∷ k.0, (bs, refl, h, k.1))

with_bracket : (b : ℕ) (bs : List ℕ) → is_bracket b ≡ true → Pieces bs → Pieces (b ∷ bs)
with_bracket b bs h k = (bracket b ∷ k.0, (bs, refl, h, k.1))

with_comment : (b : ℕ) (bs : List ℕ) → b ≡ 59 → Comment bs → Pieces (b ∷ bs)
with_comment b bs h k = (comment k.line ∷ k.pieces.0, (k.rest, ap (λ (x : ℕ). x ∷ bs) h ∙ ap (λ (xs : List ℕ). 59 ∷ xs) k.parts, (k.each, k.ends), k.pieces.1))

with_word : (b : ℕ) (bs : List ℕ) → is_word_byte b ≡ true → Word bs → Pieces (b ∷ bs)
with_word b bs h k = (word (b ∷ k.w) ∷ k.pieces.0, (k.rest, ap (λ (xs : List ℕ). b ∷ xs) k.parts, (omega arith, (h, k.each), k.ends), k.pieces.1))

with_text : (b : ℕ) (bs : List ℕ) → b ≡ 34 → Text bs ⊎ Broken bs → Pieces (b ∷ bs)
with_text b bs h (inl k) = (text k.items ∷ k.pieces.0, (k.rest, ap (λ (x : ℕ). x ∷ bs) h ∙ ap (λ (xs : List ℕ). 34 ∷ xs) (k.parts ∙ sym (append_assoc (flat_map item_bytes k.items) (34 ∷ []) k.rest)), k.each, k.pieces.1))
with_text b bs h (inr k) = (broken bs ∷ [], ([], ap (λ (x : ℕ). x ∷ bs) h ∙ ap (λ (xs : List ℕ). 34 ∷ xs) (sym (append-nil bs)), (k.items, k.tail, k.each, k.breaks, k.parts, refl), refl))

-- one byte more

eqb_is : (a b : ℕ) → eqb a b ≡ true → a ≡ b
eqb_is a b h = ⊎_elim (λ t. t.1) (λ t. absurd (cc t.0)) (eqb_tells a b)

eqb_is_not : (a b : ℕ) → eqb a b ≡ false → a ≢ b
eqb_is_not a b h = ⊎_elim (λ t. absurd (cc t.0)) (λ t. t.1) (eqb_tells a b)

word_byte : (b : ℕ) → is_separator b ≡ false → eqb b 59 ≡ false → is_bracket b ≡ false → eqb b 34 ≡ false → is_word_byte b ≡ true
unfolding is_word_byte
word_byte b s c r q = rw (s, c, r, q) refl

begins : (b : ℕ) (bs : List ℕ) → Whole bs → (s c r q : Bool) → is_separator b ≡ s → eqb b 59 ≡ c → is_bracket b ≡ r → eqb b 34 ≡ q → Pieces (b ∷ bs)
begins b bs k true c r q hs hc hr hq = with_separator b bs hs k.pieces
begins b bs k false true r q hs hc hr hq = with_comment b bs (eqb_is b 59 hc) k.comment
begins b bs k false false true q hs hc hr hq = with_bracket b bs hr k.pieces
begins b bs k false false false true hs hc hr hq = with_text b bs (eqb_is b 34 hq) k.text
begins b bs k false false false false hs hc hr hq = with_word b bs (word_byte b hs hc hr hq) k.word

comments : (b : ℕ) (bs : List ℕ) → Whole bs → Pieces (b ∷ bs) → (t : Bool) → eqb b 10 ≡ t → Comment (b ∷ bs)
comments b bs k here true h = record { line = []; rest = b ∷ bs; parts = refl; each = tt; ends = eqb_is b 10 h; pieces = here }
comments b bs k here false h = record { line = b ∷ k.comment.line; rest = k.comment.rest; parts = ap (λ (xs : List ℕ). b ∷ xs) k.comment.parts; each = (eqb_is_not b 10 h, k.comment.each); ends = k.comment.ends; pieces = k.comment.pieces }

words : (b : ℕ) (bs : List ℕ) → Whole bs → Pieces (b ∷ bs) → (t : Bool) → is_word_byte b ≡ t → Word (b ∷ bs)
words b bs k here false h = record { w = []; rest = b ∷ bs; parts = refl; each = tt; ends = h; pieces = here }
words b bs k here true h = record { w = b ∷ k.word.w; rest = k.word.rest; parts = ap (λ (xs : List ℕ). b ∷ xs) k.word.parts; each = (h, k.word.each); ends = k.word.ends; pieces = k.word.pieces }

-- a character in front of a text
with_item : (bs rest : List ℕ) (i : Item) → bs ≡ item_bytes i ++ rest → IsItem i → Text rest ⊎ Broken rest → Text bs ⊎ Broken bs
with_item bs rest i e h (inl k) = inl (record {
  items = i ∷ k.items;
  rest = k.rest;
  parts = e ∙ ap (λ (xs : List ℕ). item_bytes i ++ xs) k.parts ∙ sym (append_assoc (item_bytes i) (flat_map item_bytes k.items) (34 ∷ k.rest));
  each = (h, k.each);
  pieces = k.pieces;
})
with_item bs rest i e h (inr k) = inr (record {
  items = i ∷ k.items;
  tail = k.tail;
  parts = e ∙ ap (λ (xs : List ℕ). item_bytes i ++ xs) k.parts ∙ sym (append_assoc (item_bytes i) (flat_map item_bytes k.items) k.tail);
  each = (h, k.each);
  breaks = k.breaks;
})

behind_backslash : (bs : List ℕ) → Escaped bs ⊎ Breaks (92 ∷ bs) → Text (92 ∷ bs) ⊎ Broken (92 ∷ bs)
behind_backslash bs (inl k) = with_item (92 ∷ bs) k.rest (escape k.b k.c) (ap (λ (xs : List ℕ). 92 ∷ xs) k.parts) k.escapes k.goes
behind_backslash bs (inr k) = inr (record { items = []; tail = 92 ∷ bs; parts = refl; each = tt; breaks = k })

texts : (b : ℕ) (bs : List ℕ) → Whole bs → (q e : Bool) → eqb b 34 ≡ q → eqb b 92 ≡ e → Text (b ∷ bs) ⊎ Broken (b ∷ bs)
texts b bs k true e hq he = inl (record { items = []; rest = bs; parts = ap (λ (x : ℕ). x ∷ bs) (eqb_is b 34 hq); each = tt; pieces = k.pieces })
texts b bs k false true hq he = subst (λ (x : ℕ). Text (x ∷ bs) ⊎ Broken (x ∷ bs)) (sym (eqb_is b 92 he)) (behind_backslash bs k.escape)
texts b bs k false false hq he = with_item (b ∷ bs) bs (plain b) refl (eqb_is_not b 34 hq, eqb_is_not b 92 he) k.text

escapes : (b : ℕ) (bs : List ℕ) → Whole bs → (o : Option ℕ) → escaped b ≡ o → Escaped (b ∷ bs) ⊎ Breaks (92 ∷ b ∷ bs)
escapes b bs k (Some c) h = inl (record { b = b; c = c; rest = bs; parts = refl; escapes = h; goes = k.text })
escapes b bs k None h = inr (refl, h)

whole : (bytes : List ℕ) → Whole bytes
whole [] = record {
  pieces = ([], refl);
  comment = record { line = []; rest = []; parts = refl; each = tt; ends = tt; pieces = ([], refl) };
  word = record { w = []; rest = []; parts = refl; each = tt; ends = tt; pieces = ([], refl) };
  text = inr (record { items = []; tail = []; parts = refl; each = tt; breaks = tt });
  escape = inr refl;
}
whole (b ∷ bs) =
    let k : Whole bs = whole bs in
    let here : Pieces (b ∷ bs) = begins b bs k (is_separator b) (eqb b 59) (is_bracket b) (eqb b 34) refl refl refl refl in
    record {
      pieces = here;
      comment = comments b bs k here (eqb b 10) refl;
      word = words b bs k here (is_word_byte b) refl;
      text = texts b bs k (eqb b 34) (eqb b 92) refl refl;
      escape = escapes b bs k (escaped b) refl;
    }

-- each text is made of pieces
pub pieces_of : (bytes : List ℕ) → Pieces bytes
pieces_of bytes = (whole bytes).pieces
