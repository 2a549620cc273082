-- A text has one answer at most: it means one program, or is refused in one way.
use Rattle.std.proofs.Common.{◌≡◌, ℕ, ◌<◌, true, false, List, [], length, refl, sym, ◌∙◌, ap, subst, arith}
use Rattle.std.specs.Prelude.{nat_lt, if◌then◌else◌}
use Rattle.std.proofs.lemmas.Bool.Decides.{nat_tests}
use Rattle.clj_reader.specs.declared.form.Form.{Form}
use Rattle.clj_reader.specs.declared.refusal.ReadRefusal.{ReadRefusal}
use Rattle.clj_reader.specs.Scripts.{IsScript}
use Rattle.clj_reader.proofs.ScriptLemmas.{one_script, one_refusal, never_both}
use Rattle.clj_script.specs.declared.refusal.ScriptRefusal.{ScriptRefusal}
use Rattle.clj_script.specs.Trees.{Program}
use Rattle.clj_script.specs.Refusals.{refusal, comes_before, IsLeast}
use Rattle.clj_script.specs.Scripts.{Means, program_of}
use Rattle.clj_script.specs.Seen.{IsRefusal}
use Rattle.clj_script.proofs.UniqueLemmas.{one_judged_tops}
use Rattle.seq_table.specs.Answers as meaning
use Rattle.seq_table.proofs.OneAnswered.{one_answered}
use Rattle.cljseq.specs.Answers.{MeansText, RefusesText, unread, no_program, refusal_at, OneAnswer}

-- ## The least refusal

in_order : (a b c d m n : ℕ)
    → (if nat_lt a b then true else (if nat_lt b a then false else (if nat_lt c d then true else (if nat_lt d c then false else nat_lt m n)))) ≡ false
    → (if nat_lt b a then true else (if nat_lt a b then false else (if nat_lt d c then true else (if nat_lt c d then false else nat_lt n m)))) ≡ false
    → (a ≡ b) × (c ≡ d) × (m ≡ n)
in_order a b c d m n e f = (grind (arith, nat_tests, e, f), grind (arith, nat_tests, e, f), grind (arith, nat_tests, e, f))

same_refusal : (a b c d m n : ℕ) → (a ≡ b) × (c ≡ d) × (m ≡ n) → refusal m (record { line = a; column = c }) ≡ refusal n (record { line = b; column = d })
same_refusal a b c d m n p =
    let x : a ≡ b = p.0 in
    let y : c ≡ d = p.1 in
    let z : m ≡ n = p.2 in
    (cc)

neither_before : (r q : ScriptRefusal) → comes_before r q ≡ false → comes_before q r ≡ false → r ≡ q
unfolding comes_before
neither_before r q e f =
    same_refusal r.place.line q.place.line r.place.column q.place.column r.number q.number
    (in_order r.place.line q.place.line r.place.column q.place.column r.number q.number e f)

-- one of several comes before no other, so there is one least
none_among : (r q : ScriptRefusal) (all : List ScriptRefusal) → IsLeast r all → IsLeast q all → comes_before r q ≡ false
none_among r q all l m = subst (λ (s : ScriptRefusal). comes_before s q ≡ false) l.among.2 (m.least l.among.0 r l.among.1)

one_least : (r q : ScriptRefusal) (all : List ScriptRefusal) → IsLeast r all → IsLeast q all → r ≡ q
one_least r q all l m = neither_before r q (none_among r q all l m) (none_among q r all m l)

one_meaning : (forms : List Form) (p q : Program) (rs ss : List ScriptRefusal) → Means forms p rs → Means forms q ss → (p ≡ q) × (rs ≡ ss)
one_meaning forms p q rs ss m n =
    let s = one_judged_tops m.judged n.judged in
    (m.shown ∙ ap program_of s.given ∙ sym n.shown, s.refused)

same_least : (forms : List Form) (r q : ScriptRefusal) → IsRefusal forms r → IsRefusal forms q → r ≡ q
same_least forms r q a b =
    let same : a.refusals ≡ b.refusals = (one_meaning forms a.program b.program a.refusals b.refusals a.means b.means).1 in
    one_least r q b.refusals (subst (IsLeast r) same a.least) b.least

no_least : (forms : List Form) (p : Program) (r : ScriptRefusal) → Means forms p [] → IsRefusal forms r → ⊥
no_least forms p r m a =
    let same : a.refusals ≡ [] = (one_meaning forms a.program p a.refusals [] a.means m).1 in
    let few : a.least.among.0 < length a.refusals = a.least.among.1 in
    let none : length a.refusals ≡ 0 = ap length same in
    omega (arith, few, none)

-- ## One meaning of a text

one_program : (text : List ℕ) (p q : Program) → MeansText text p → MeansText text q → p ≡ q
one_program text p q m n =
    let same : m.forms ≡ n.forms = one_script text m.forms n.forms m.script n.script in
    (one_meaning n.forms p q [] [] (subst (λ (f : List Form). Means f p []) same m.means) n.means).0

one_refused : (text : List ℕ) (r s : meaning.Refusal) → RefusesText text r → RefusesText text s → r ≡ s
one_refused text r s (unread q a) (unread p b) = ap (λ (x : ReadRefusal). refusal_at x.number x.place) (one_refusal text q p a b)
one_refused text r s (unread q a) (no_program forms p t b) = absurd (never_both text forms q t a)
one_refused text r s (no_program forms p t b) (unread q a) = absurd (never_both text forms q t a)
one_refused text r s (no_program forms q t a) (no_program others p u b) =
    let same : forms ≡ others = one_script text forms others t u in
    ap (λ (x : ScriptRefusal). refusal_at x.number x.place) (same_least others q p (subst (λ (f : List Form). IsRefusal f q) same a) b)

not_both : (text : List ℕ) (p : Program) (r : meaning.Refusal) → MeansText text p → RefusesText text r → ⊥
not_both text p r m (unread q a) = never_both text m.forms q m.script a
not_both text p r m (no_program forms q t a) =
    no_least forms p q (subst (λ (f : List Form). Means f p []) (one_script text m.forms forms m.script t) m.means) a

pub one_answer : OneAnswer
one_answer options text status other output another a b = one_answered MeansText RefusesText one_program one_refused not_both a b
