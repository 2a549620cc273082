-- The answers to a text.
use Rattle.std.proofs.Common.{◌≡◌, ℕ, ◌<◌, ◌≤◌, ◌⊎◌, inl, inr, ⊎_elim, Bool, true, false, List, [], length, take, Option, Some, None, Result, Ok, Err, refl, sym, ◌∙◌, ap, arith}
use Rattle.std.proofs.lemmas.Bool.{cases_lt, false≢true}
use Rattle.std.proofs.lemmas.Str.{is_utf8-from_IsUtf8, IsUtf8-from_is_utf8}
use Rattle.std.specs.Str.{IsUtf8, is_utf8}
use Rattle.std.specs.Str.Lossy.{utf8_valid_len}
use Rattle.clj_reader.specs.declared.form.Form.{Form}
use Rattle.clj_reader.specs.declared.refusal.ReadRefusal.{ReadRefusal}
use Rattle.clj_reader.specs.declared.refusal.ReadFormsStop.{ReadFormsStop}
use Rattle.clj_reader.specs.declared.refusal.ReadFormsStop.TheVariants.{Refused, Memory}
use Rattle.clj_reader.specs.Places.{start, behind_all}
use Rattle.clj_reader.specs.Tokens.{tokens_of}
use Rattle.clj_reader.specs.Pieces.{Piece, Spells, pieces_tokens}
use Rattle.clj_reader.specs.Refusals.{refusal, first_refusal}
use Rattle.clj_reader.specs.Marks.{marks, marks_of_tokens}
use Rattle.clj_reader.specs.Nests.{assembled, Gives}
use Rattle.clj_reader.specs.Scripts.{IsScript, IsRefused, too_long, not_utf8, at_token, IsAnswer}
use Rattle.clj_reader.proofs.AssemblyLemmas.{follows, Follows}
use Rattle.clj_reader.proofs.NestingLemmas.{accepted_if_shallow, shallow_if_accepted}
use Rattle.clj_reader.proofs.PieceLemmas.{pieces_give}
use Rattle.clj_reader.proofs.PiecesOfText.{pieces_of}
use Rattle.clj_reader.proofs.UniqueLemmas.{same_forms}

-- from the code's steps

pub answer_too_long : (bytes : List ℕ) → 1048576 < length bytes → IsRefused bytes (refusal 6 start)
answer_too_long bytes h = too_long h refl

pub answer_not_utf8 : (bytes : List ℕ) (n : ℕ) → length bytes ≤ 1048576 → (IsUtf8 bytes → ⊥) → n ≡ utf8_valid_len bytes → IsRefused bytes (refusal 1 (behind_all (take n bytes) start))
answer_not_utf8 bytes n h k e = not_utf8 h k (ap (λ (m : ℕ). refusal 1 (behind_all (take m bytes) start)) e)

-- what a pass over the tokens of a text read
from_pass : (bytes : List ℕ) (read : Result (List Form) ReadRefusal) → length bytes ≤ 1048576 → IsUtf8 bytes → Follows [] [] (tokens_of bytes) read
    → (xs : List Piece) → Spells xs bytes → (result : Result (List Form) ReadFormsStop) → Gives (λ (fs : List Form). fs) result read → IsAnswer bytes result
from_pass bytes (Ok forms) h u f xs s (Ok gs) g =
    let e : forms ≡ gs = cc in
    let written : marks_of_tokens (tokens_of bytes) ≡ marks gs = f.1 ∙ ap marks e in
    let same : tokens_of bytes ≡ pieces_tokens start xs = pieces_give xs bytes start s in
    record { short = h; utf8 = u; pieces = xs; spelled = s; written = ap marks_of_tokens (sym same) ∙ written; shallow = shallow_if_accepted (tokens_of bytes) gs written f.0 }
from_pass bytes (Err r) h u f xs s (Ok gs) g = absurd (cc g)
from_pass bytes read h u f xs s (Err Memory) g = tt
from_pass bytes (Ok forms) h u f xs s (Err (Refused r)) g = absurd (cc g)
from_pass bytes (Err q) h u f xs s (Err (Refused r)) g =
    let e : q ≡ r = cc in
    at_token h u xs s (ap (first_refusal []) (sym (pieces_give xs bytes start s)) ∙ f ∙ ap (λ (x : ReadRefusal). Some x) e)

pub answer_of_pass : (bytes : List ℕ) (result : Result (List Form) ReadFormsStop) → Gives (λ (fs : List Form). fs) result (assembled [] [] (tokens_of bytes)) → length bytes ≤ 1048576 → IsUtf8 bytes → IsAnswer bytes result
answer_of_pass bytes result g h u =
    let made = pieces_of bytes in
    from_pass bytes (assembled [] [] (tokens_of bytes)) h u (follows (tokens_of bytes) [] []) made.0 made.1 result g

-- one answer for each text

same_tokens : (bytes : List ℕ) (xs ys : List Piece) → Spells xs bytes → Spells ys bytes → pieces_tokens start xs ≡ pieces_tokens start ys
same_tokens bytes xs ys s t = sym (pieces_give xs bytes start s) ∙ pieces_give ys bytes start t

pub one_script : (bytes : List ℕ) (forms others : List Form) → IsScript bytes forms → IsScript bytes others → forms ≡ others
one_script bytes forms others a b = same_forms forms others (sym a.written ∙ ap marks_of_tokens (same_tokens bytes a.pieces b.pieces a.spelled b.spelled) ∙ b.written)

same_some : (o : Option ReadRefusal) (r q : ReadRefusal) → o ≡ Some r → o ≡ Some q → r ≡ q
same_some o r q d e = let k : Some r ≡ Some q = sym d ∙ e in cc

pub one_refusal : (bytes : List ℕ) (r q : ReadRefusal) → IsRefused bytes r → IsRefused bytes q → r ≡ q
one_refusal bytes r q (too_long h e) (too_long k f) = e ∙ sym f
one_refusal bytes r q (too_long h e) (not_utf8 k n f) = absurd (omega arith)
one_refusal bytes r q (too_long h e) (at_token k u xs s f) = absurd (omega arith)
one_refusal bytes r q (not_utf8 h n e) (too_long k f) = absurd (omega arith)
one_refusal bytes r q (not_utf8 h n e) (not_utf8 k m f) = e ∙ sym f
one_refusal bytes r q (not_utf8 h n e) (at_token k u xs s f) = absurd (n u)
one_refusal bytes r q (at_token h u xs s e) (too_long k f) = absurd (omega arith)
one_refusal bytes r q (at_token h u xs s e) (not_utf8 k n f) = absurd (n u)
one_refusal bytes r q (at_token h u xs s e) (at_token k v ys t f) = same_some (first_refusal [] (pieces_tokens start ys)) r q (ap (first_refusal []) (same_tokens bytes ys xs t s) ∙ e) f

pub never_both : (bytes : List ℕ) (forms : List Form) (r : ReadRefusal) → IsScript bytes forms → IsRefused bytes r → ⊥
never_both bytes forms r a (too_long h e) = let short : length bytes ≤ 1048576 = a.short in omega arith
never_both bytes forms r a (not_utf8 h n e) = n a.utf8
never_both bytes forms r a (at_token h u xs s e) =
    let none : first_refusal [] (pieces_tokens start xs) ≡ None = ap (first_refusal []) (same_tokens bytes xs a.pieces s a.spelled) ∙ accepted_if_shallow (pieces_tokens start a.pieces) forms a.written a.shallow in
    let k : Some r ≡ None = sym e ∙ none in cc

-- an answer for each text

abbrev pub ScriptOrRefused : List ℕ → Type 0
ScriptOrRefused bytes = ((forms : List Form) × IsScript bytes forms) ⊎ ((r : ReadRefusal) × IsRefused bytes r)

from_result : (bytes : List ℕ) (read : Result (List Form) ReadRefusal) → ((result : Result (List Form) ReadFormsStop) → Gives (λ (fs : List Form). fs) result read → IsAnswer bytes result) → ScriptOrRefused bytes
from_result bytes (Ok forms) h = inl (forms, h (Ok forms) refl)
from_result bytes (Err r) h = inr (r, h (Err (Refused r)) refl)

by_utf8 : (bytes : List ℕ) (t : Bool) → is_utf8 bytes ≡ t → length bytes ≤ 1048576 → ScriptOrRefused bytes
by_utf8 bytes true e h = from_result bytes (assembled [] [] (tokens_of bytes)) (λ result g. answer_of_pass bytes result g h (IsUtf8-from_is_utf8 bytes e))
by_utf8 bytes false e h = inr (refusal 1 (behind_all (take (utf8_valid_len bytes) bytes) start), not_utf8 h (λ u. false≢true (sym e ∙ is_utf8-from_IsUtf8 bytes u)) refl)

pub script_or_refused : (bytes : List ℕ) → ScriptOrRefused bytes
script_or_refused bytes = ⊎_elim (λ (h : 1048576 < length bytes). inr (refusal 6 start, too_long h refl)) (λ (h : length bytes ≤ 1048576). by_utf8 bytes (is_utf8 bytes) refl h) (cases_lt 1048576 (length bytes))

-- both sides of an answer

pub answers_script : (bytes : List ℕ) (result : Result (List Form) ReadFormsStop) → IsAnswer bytes result → (forms : List Form) → IsScript bytes forms → (result ≡ Ok forms) ⊎ (result ≡ Err Memory)
answers_script bytes (Ok read) h forms script = inl (ap (λ (fs : List Form). Ok fs) (one_script bytes read forms h script))
answers_script bytes (Err Memory) h forms script = inr refl
answers_script bytes (Err (Refused r)) h forms script = absurd (never_both bytes forms r script h)

pub answers_refusal : (bytes : List ℕ) (result : Result (List Form) ReadFormsStop) → IsAnswer bytes result → (r : ReadRefusal) → IsRefused bytes r → (result ≡ Err (Refused r)) ⊎ (result ≡ Err Memory)
answers_refusal bytes (Ok read) h r refused = absurd (never_both bytes read r h refused)
answers_refusal bytes (Err Memory) h r refused = inr refl
answers_refusal bytes (Err (Refused q)) h r refused = inl (ap (λ (x : ReadRefusal). Err (Refused x)) (one_refusal bytes q r h refused))
