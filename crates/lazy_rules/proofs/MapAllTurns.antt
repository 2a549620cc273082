-- Turns of `map` over several collections.
use Rattle.std.proofs.Common.{◌≡◌, ℕ, ◌+◌, ◌≤◌, nat_le, Bool, true, false, ◌&&◌, List, [], ◌∷◌, ◌++◌, map, reverse, length, refl, ap, sym, ◌∙◌, append_assoc, arith}
use Rattle.std.proofs.lemmas.List.{map-append, length-map, reverse-append}
use Rattle.std.proofs.lemmas.Bool.{leb-true}
use Rattle.seq_values.specs.Model as M
use Rattle.seq_values.specs.Plain.{plain, plains, plain_term}
use Rattle.seq_values.specs.WellFormed.{sight_of}
use Rattle.seq_values.specs.WellFormedTerms.{takes}
use Rattle.seq_values.specs.declared.term.Term.{Term}
use Rattle.seq_values.specs.declared.value.Value.{Value}
use Rattle.seq_values.specs.declared.words.Op.TheVariants as O
use Rattle.seq_plan.specs.Plan.{Plan, seq, call, give}
use Rattle.seq_plan.specs.Nodes.{first_of, rest_of, is_nil, found, now}
use Rattle.seq_plan.specs.Lists.{first_and}
use Rattle.seq_turns.specs.Seen.{seen}
use Rattle.seq_turns.specs.declared.next.Next.{Next}
use Rattle.seq_turns.specs.declared.places.Seen.{Seen}
use Rattle.lazy_rows.specs.Terms.{seq_each, unless_nil_among}
use Rattle.lazy_rules.specs.Arguments.{is_any_nil}
use Rattle.lazy_rules.specs.Left.{seens, map_all_on, Takes}
use Rattle.lazy_rules.specs.declared.state.State.{State}
use Rattle.lazy_rules.proofs.Taking.{takes_same, now_goes}

and_left : (a b : Bool) → (a && b) ≡ true → a ≡ true
and_left true b h = refl
and_left false b h = absurd cc

and_right : (a b : Bool) → (a && b) ≡ true → b ≡ true
and_right true b h = h
and_right false b h = absurd cc

-- a function and two to four collections
pub few_args : (args : List Value) → takes O.MapN (map sight_of args) ≡ true → (3 ≤ length args) × (length args ≤ 5)
few_args args h =
    let e : length (map sight_of args) ≡ length args = length-map args sight_of in
    let a : 3 ≤ length (map sight_of args) = leb-true 3 (length (map sight_of args)) (and_left _ _ h) in
    let b : length (map sight_of args) ≤ 5 = leb-true (length (map sight_of args)) 5 (and_right (nat_le 3 (length (map sight_of args))) _ h) in
    (omega (arith, e, a), omega (arith, e, b))

pub few_seqs : (seqs : List Seen) (args : List Value) → length seqs + 1 ≡ length args → takes O.MapN (map sight_of args) ≡ true → (2 ≤ length seqs) × (length seqs ≤ 4)
few_seqs seqs args e h =
    let p = few_args args h in
    let a : 3 ≤ length args = p.0 in
    let b : length args ≤ 5 = p.1 in
    (omega (arith, e, a), omega (arith, e, b))

-- ## The seqs

pub seqs_end : (ss : List (M.Value ℕ)) (f : M.Value ℕ) (all : List Value) (r : Next State) → all ≡ [] → Takes (map_all_on f ss) r → Takes (seq_each ss (plains all) (map_all_on f)) r
seqs_end ss f all r e h = rw e h

pub seqs_found : (ss : List (M.Value ℕ)) (f : M.Value ℕ) (all : List Value) (v : Value) (xs : List Value) (w : M.Value ℕ) (r : Next State) → all ≡ v ∷ xs → found (plain v) ≡ now w → Takes (seq_each (ss ++ w ∷ []) (plains xs) (map_all_on f)) r → Takes (seq_each ss (plains all) (map_all_on f)) r
seqs_found ss f all v xs w r e q h = rw e (now_goes (λ s. seq_each (ss ++ s ∷ []) (plains xs) (map_all_on f)) refl q h)

pub seqs_asked : (ss : List (M.Value ℕ)) (f : M.Value ℕ) (all : List Value) (v w : Value) (xs : List Value) (r : Next State) → all ≡ v ∷ xs → plain w ≡ plain v → Takes (seq (plain w) (λ s. seq_each (ss ++ s ∷ []) (plains xs) (map_all_on f))) r → Takes (seq_each ss (plains all) (map_all_on f)) r
seqs_asked ss f all v w xs r e q h = rw e (takes_same (ap (λ x. seq x (λ s. seq_each (ss ++ s ∷ []) (plains xs) (map_all_on f))) q) h)

pub seqs_joined : (seqs all : List Seen) (what : Seen) (f : M.Value ℕ) (xs : List (M.Value ℕ)) → all ≡ seqs ++ what ∷ [] → seq_each (seens all) xs (map_all_on f) ≡ seq_each (seens seqs ++ seen what ∷ []) xs (map_all_on f)
seqs_joined seqs all what f xs e = ap (λ ss. seq_each ss xs (map_all_on f)) (ap seens e ∙ map-append seen seqs (what ∷ []))

-- ## The call

true_false : true ≡ false → ⊥
true_false e = absurd cc

some_step : (s : M.Value ℕ) (ss : List (M.Value ℕ)) (p : Plan ℕ) (b : Bool) → is_nil s ≡ b → is_any_nil (s ∷ ss) ≡ true → (is_any_nil ss ≡ true → unless_nil_among ss p ≡ give M.nil) → unless_nil_among (s ∷ ss) p ≡ give M.nil
some_step s ss p true q e k = rw q refl
some_step s ss p false q e k = rw q (k (rw q at e))

some_nil : (ss : List (M.Value ℕ)) (p : Plan ℕ) → is_any_nil ss ≡ true → unless_nil_among ss p ≡ give M.nil
some_nil [] p e = absurd cc
some_nil (s ∷ ss) p e = some_step s ss p (is_nil s) refl e (λ t. some_nil ss p t)

none_step : (s : M.Value ℕ) (ss : List (M.Value ℕ)) (p : Plan ℕ) (b : Bool) → is_nil s ≡ b → is_any_nil (s ∷ ss) ≡ false → (is_any_nil ss ≡ false → unless_nil_among ss p ≡ p) → unless_nil_among (s ∷ ss) p ≡ p
none_step s ss p true q e k = absurd (true_false (rw q at e))
none_step s ss p false q e k = rw q (k (rw q at e))

none_nil : (ss : List (M.Value ℕ)) (p : Plan ℕ) → is_any_nil ss ≡ false → unless_nil_among ss p ≡ p
none_nil [] p e = refl
none_nil (s ∷ ss) p e = none_step s ss p (is_nil s) refl e (λ t. none_nil ss p t)

pub ends_with_nil : (f : M.Value ℕ) (ss : List (M.Value ℕ)) (r : Next State) → is_any_nil ss ≡ true → Takes (give M.nil) r → Takes (map_all_on f ss) r
ends_with_nil f ss r e h = takes_same (sym (some_nil ss _ e)) h

pub calls_with_all : (f : M.Value ℕ) (ss : List (M.Value ℕ)) (p : Plan ℕ) → is_any_nil ss ≡ false → p ≡ call f (map first_of ss) (λ y. first_and y O.MapN (f ∷ map rest_of ss)) → p ≡ map_all_on f ss
calls_with_all f ss p e q = q ∙ sym (none_nil ss _ e)

pub firsts_are : (f : M.Value ℕ) (fs gs : List (M.Value ℕ)) (k : M.Value ℕ → Plan ℕ) → fs ≡ gs → call f fs k ≡ call f gs k
firsts_are f fs gs k e = ap (λ l. call f l k) e

pub all_called : (f called : Value) (firsts : List Value) (fs rs : List (M.Value ℕ)) (rests : List Value) (t : Term) (r : Next State) → called ≡ f → plains firsts ≡ fs → plains rests ≡ plain f ∷ rs → plain_term t ≡ record { op = O.MapN; args = plains rests } → Takes (call (plain called) (plains firsts) (λ y. first_and y t.op (plains t.args))) r → Takes (call (plain f) fs (λ y. first_and y O.MapN (plain f ∷ rs))) r
all_called f called firsts fs rs rests t r e1 e2 e3 q h =
    let p : plain_term t ≡ record { op = O.MapN; args = plain f ∷ rs } = q ∙ ap (λ l. record { op = O.MapN; args = l }) e3 in
    takes_same (λ i. call (plain (e1 i)) (e2 i) (λ y. first_and y (p i).op (p i).args)) h

-- ## The lists of firsts and rests

pub one_more_first : (fs more : List (M.Value ℕ)) (v w : M.Value ℕ) (rest whole : List (M.Value ℕ)) → more ≡ fs ++ v ∷ [] → v ≡ w → fs ++ w ∷ rest ≡ whole → more ++ rest ≡ whole
one_more_first fs more v w rest whole m e h = ap (λ l. l ++ rest) m ∙ append_assoc fs (v ∷ []) rest ∙ ap (λ x. fs ++ x ∷ rest) e ∙ h

-- the last seq goes over to the rests, which stand the other way round
pub one_more_rest : (seqs left : List Seen) (w : Seen) (rs more : List (M.Value ℕ)) (v : M.Value ℕ) (whole : List (M.Value ℕ)) → seqs ≡ left ++ w ∷ [] → more ≡ rs ++ v ∷ [] → v ≡ rest_of (seen w) → map rest_of (seens seqs) ++ reverse rs ≡ whole → map rest_of (seens left) ++ reverse more ≡ whole
one_more_rest seqs left w rs more v whole s m e h =
    let a : map rest_of (seens seqs) ≡ map rest_of (seens left) ++ rest_of (seen w) ∷ [] = ap (λ l. map rest_of (seens l)) s ∙ ap (map rest_of) (map-append seen left (w ∷ [])) ∙ map-append rest_of (seens left) (seen w ∷ []) in
    let b : reverse more ≡ v ∷ reverse rs = ap reverse m ∙ reverse-append rs (v ∷ []) in
    ap (λ l. map rest_of (seens left) ++ l) (b ∙ ap (λ x. x ∷ reverse rs) e)
    ∙ sym (append_assoc (map rest_of (seens left)) (rest_of (seen w) ∷ []) (reverse rs))
    ∙ sym (ap (λ l. l ++ reverse rs) a)
    ∙ h

plains_join : (xs ys : List Value) → plains (xs ++ ys) ≡ plains xs ++ plains ys
plains_join [] ys = refl
plains_join (x ∷ xs) ys = ap (λ zs. plain x ∷ zs) (plains_join xs ys)

plains_back : (xs : List Value) → plains (reverse xs) ≡ reverse (plains xs)
plains_back [] = refl
plains_back (x ∷ xs) =
    ap plains (reverse-append (x ∷ []) xs)
    ∙ plains_join (reverse xs) (x ∷ [])
    ∙ ap (λ ys. ys ++ plain x ∷ []) (plains_back xs)
    ∙ sym (reverse-append (plain x ∷ []) (plains xs))

pub turned_rests : (rs all turned items : List Value) (f : Value) (left : List Seen) (whole : List (M.Value ℕ)) → left ≡ [] → map rest_of (seens left) ++ reverse (plains rs) ≡ whole → all ≡ rs ++ f ∷ [] → turned ≡ reverse all → items ≡ turned → plains items ≡ plain f ∷ whole
turned_rests rs all turned items f left whole l h a t i =
    let w : reverse (plains rs) ≡ whole = sym (ap (λ x. map rest_of (seens x) ++ reverse (plains rs)) l) ∙ h in
    ap plains (i ∙ t) ∙ plains_back all ∙ ap (λ x. reverse (plains x)) a ∙ ap reverse (plains_join rs (f ∷ [])) ∙ reverse-append (plains rs) (plain f ∷ []) ∙ ap (λ x. plain f ∷ x) w
