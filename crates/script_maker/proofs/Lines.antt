-- A walk over the lines of a text, byte by byte.
use Rattle.std.proofs.Common.{◌≡◌, ℕ, suc, ◌+◌, ◌-◌, ◌<◌, ◌≤◌, List, [], ◌∷◌, ◌++◌, length, get_or, take, drop, refl, ap, sym, subst, ◌∙◌, arith, add-one, append_assoc}
use Rattle.std.specs.Prelude.{cond, slice_range, codes}
use Rattle.std.proofs.Math.Seq.{drop-cons, drop-length, take-suc}
use Rattle.std.proofs.lemmas.List.{get_or-drop, length-drop}
use Rattle.std.proofs.lemmas.Bool.{ne_eqb}
use Rattle.seq_table.specs.Answers.{forms_line, last_of, lines_after, lines_of, summary}
use Rattle.seq_table.specs.Outputs.{decimal, newline}
use Rattle.script_maker.specs.declared.report.Walk.{Walk}
use Rattle.script_maker.specs.Walks.{IsAt}

-- an empty line in front isn't the last one, or there is none
none_first : (ls : List (List ℕ)) → last_of ([] ∷ ls) ≡ last_of ls
none_first [] = refl
none_first (l ∷ ls) = refl

-- a newline ends a line
line_ends : (line rest : List ℕ) (b : ℕ) → b ≡ 10 → lines_after line (b ∷ rest) ≡ (line ++ b ∷ []) ∷ lines_after [] rest
line_ends line rest b e = subst (λ x. lines_after line (x ∷ rest) ≡ (line ++ x ∷ []) ∷ lines_after [] rest) (sym e) refl

-- any other byte is one more of the line
line_goes_on : (line rest : List ℕ) (b : ℕ) → (b ≡ 10 → ⊥) → lines_after line (b ∷ rest) ≡ lines_after (line ++ b ∷ []) rest
line_goes_on line rest b other = ap (λ t. cond t ((line ++ b ∷ []) ∷ lines_after [] rest) (lines_after (line ++ b ∷ []) rest)) (ne_eqb b 10 other)

-- a range that is one byte longer
one_byte_more : (text : List ℕ) (from at : ℕ) → from ≤ at → at < length text → slice_range text from (at + 1) ≡ slice_range text from at ++ (get_or text at 0 ∷ [])
one_byte_more text from at below inside =
    let within : at - from < length (drop from text) = rw (length-drop from text) (omega arith) in
    let more = take-suc (drop from text) (at - from) 0 within in
    let place : from + (at - from) ≡ at = omega arith in
    let size : at + 1 - from ≡ suc (at - from) = omega arith in
    let byte : get_or (drop from text) (at - from) 0 ≡ get_or text at 0 = get_or-drop from text (at - from) 0 ∙ ap (λ k. get_or text k 0) place in
    ap (λ k. take k (drop from text)) size ∙ (more ∙ ap (λ b. take (at - from) (drop from text) ++ (b ∷ [])) byte)

-- a range from a place to itself
no_bytes : (text : List ℕ) (at : ℕ) → slice_range text at at ≡ []
no_bytes text at = let none : at - at ≡ 0 = omega arith in ap (λ k. take k (drop at text)) none

-- the bytes from a place on
here_on : (text : List ℕ) (at : ℕ) → at < length text → drop at text ≡ get_or text at 0 ∷ drop (at + 1) text
here_on text at inside = rw add-one (drop-cons text at 0 inside)

nothing_more : (n : ℕ) → 0 + n ≡ n
nothing_more n = omega arith

pub walk_starts : (text : List ℕ) → IsAt text 0 (record { count = 0; start = 0; end = 0 })
walk_starts text = record {
  few = omega arith;
  ordered = omega arith;
  within = omega arith;
  last = none_first (lines_of text);
  counted = nothing_more (length (lines_of text));
}

pub walk_goes_on : (text : List ℕ) (at byte : ℕ) (walk : Walk) → at < length text → byte ≡ get_or text at 0 → (byte ≡ 10 → ⊥) → IsAt text at walk → IsAt text (at + 1) walk
walk_goes_on text at byte walk inside read other w =
    let line = slice_range text walk.end at in
    let rest = drop (at + 1) text in
    let b = get_or text at 0 in
    let same : lines_after line (drop at text) ≡ lines_after (slice_range text walk.end (at + 1)) rest = ap (λ t. lines_after line t) (here_on text at inside) ∙ (line_goes_on line rest b (λ e. other (read ∙ e)) ∙ ap (λ l. lines_after l rest) (sym (one_byte_more text walk.end at w.within inside))) in
    record {
      few = omega (arith, w.few);
      ordered = w.ordered;
      within = omega (arith, w.within);
      last = ap (λ ls. last_of (slice_range text walk.start walk.end ∷ ls)) (sym same) ∙ w.last;
      counted = ap (λ ls. walk.count + length ls) (sym same) ∙ w.counted;
    }

pub walk_ends_line : (text : List ℕ) (at byte : ℕ) (walk : Walk) → at < length text → byte ≡ get_or text at 0 → byte ≡ 10 → IsAt text at walk → IsAt text (at + 1) (record { count = walk.count + 1; start = walk.end; end = at + 1 })
walk_ends_line text at byte walk inside read is w =
    let line = slice_range text walk.end at in
    let rest = drop (at + 1) text in
    let b = get_or text at 0 in
    let ended : lines_after line (drop at text) ≡ slice_range text walk.end (at + 1) ∷ lines_after [] rest = ap (λ t. lines_after line t) (here_on text at inside) ∙ (line_ends line rest b (sym read ∙ is) ∙ ap (λ l. l ∷ lines_after [] rest) (sym (one_byte_more text walk.end at w.within inside))) in
    let fresh : lines_after (slice_range text (at + 1) (at + 1)) rest ≡ lines_after [] rest = ap (λ l. lines_after l rest) (no_bytes text (at + 1)) in
    let counted : walk.count + suc (length (lines_after [] rest)) ≡ length (lines_of text) = ap (λ ls. walk.count + length ls) (sym ended) ∙ w.counted in
    let last : last_of (slice_range text walk.end (at + 1) ∷ lines_after [] rest) ≡ last_of (lines_of text) = ap (λ ls. last_of (slice_range text walk.start walk.end ∷ ls)) (sym ended) ∙ w.last in
    record {
      few = omega (arith, w.few);
      ordered = omega (arith, w.within);
      within = omega arith;
      last = ap (λ ls. last_of (slice_range text walk.end (at + 1) ∷ ls)) fresh ∙ last;
      counted = ap (λ ls. walk.count + 1 + length ls) fresh ∙ omega (arith, counted);
    }

-- behind the last byte there are no more lines
none_left : (text line : List ℕ) → lines_after line (drop (length text) text) ≡ []
none_left text line = ap (λ t. lines_after line t) (drop-length text)

pub walk_is_over : (text : List ℕ) (walk : Walk) → IsAt text (length text) walk → (walk.count ≡ length (lines_of text)) × (slice_range text walk.start walk.end ≡ last_of (lines_of text))
walk_is_over text walk w =
    let none = none_left text (slice_range text walk.end (length text)) in
    let counted : walk.count + 0 ≡ length (lines_of text) = ap (λ ls. walk.count + length ls) (sym none) ∙ w.counted in
    (omega (arith, counted), ap (λ ls. last_of (slice_range text walk.start walk.end ∷ ls)) (sym none) ∙ w.last)

-- the counts of a walk that is over, and its last line, are the summary
pub summed_up : (forms : ℕ) (text head : List ℕ) (walk : Walk) → IsAt text (length text) walk → head ≡ forms_line forms ++ codes "lines " ++ decimal walk.count ++ newline → head ++ slice_range text walk.start walk.end ≡ summary forms text
summed_up forms text head walk w is =
    let over = walk_is_over text walk w in
    let joined : (f l d n s : List ℕ) → (f ++ l ++ d ++ n) ++ s ≡ f ++ l ++ d ++ n ++ s = λ f l d n s. simp append_assoc in
    ap (λ h. h ++ slice_range text walk.start walk.end) is
    ∙ (joined (forms_line forms) (codes "lines ") (decimal walk.count) newline (slice_range text walk.start walk.end)
    ∙ (ap (λ n. forms_line forms ++ codes "lines " ++ decimal n ++ newline ++ slice_range text walk.start walk.end) over.0
    ∙ ap (λ s. forms_line forms ++ codes "lines " ++ decimal (length (lines_of text)) ++ newline ++ s) over.1))
