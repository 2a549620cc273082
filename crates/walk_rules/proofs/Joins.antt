-- Turns of `cons` and `conj`.
use Rattle.std.proofs.Common.{◌≡◌, ◌≢◌, ℕ, ◌+◌, ◌<◌, true, List, [], ◌∷◌, ◌++◌, length, drop, Some, None, refl, ap, sym, ◌∙◌, arith}
use Rattle.seq_base.specs.declared.thrown.Thrown.{Thrown}
use Rattle.seq_base.specs.declared.thrown.Thrown.TheVariants.{Arity}
use Rattle.seq_values.specs.Model as M
use Rattle.seq_values.specs.Plain.{plain, plains}
use Rattle.seq_values.specs.declared.value.Value.{Value}
use Rattle.seq_plan.specs.Plan.{Plan, seq, give, throw}
use Rattle.seq_plan.specs.Nodes.{with_members, with_value}
use Rattle.seq_plan.specs.Lists.{with_first}
use Rattle.seq_plan.proofs.CursorLemmas.{list_values}
use Rattle.lazy_rows.specs.Walks.{cons_call, conj_call, conj_rule, conj_each, with_one_more}
use Rattle.seq_turns.specs.declared.next.Next.{Next}
use Rattle.seq_turns.specs.declared.made.Made.{Made}
use Rattle.seq_turns.specs.declared.made.Made.TheVariants as D
use Rattle.seq_turns.specs.declared.proper.Proper.{Proper}
use Rattle.seq_turns.specs.declared.proper.ProperList.{ProperList}
use Rattle.seq_turns.specs.Arguments.{part_in}
use Rattle.seq_turns.specs.Making.{made, Makes}
use Rattle.walk_rules.specs.Left.{left_seq, Takes}
use Rattle.walk_rules.specs.Words.{is_another}
use Rattle.walk_rules.specs.declared.state.AtSeq.TheVariants as Q
use Rattle.walk_rules.specs.declared.state.State.{State}
use Rattle.walk_rules.proofs.Taking.{same}

-- ## `cons`

pub cons_two : (args : List Value) (x c : Proper) (m : Made) (r : Next State) → plains args ≡ plain x.value ∷ plain c.value ∷ [] → Makes (with_first (plain x.value) (plain c.value)) m → Takes (made m give) r → Takes (cons_call (plains args)) r
cons_two args x c m r e g h = same (sym (g.goes give) ∙ ap cons_call (sym e)) h

pub cons_others : (args : List Value) (r : Next State) → length args ≢ 2 → Takes (throw Arity) r → Takes (cons_call (plains args)) r
cons_others [] r n h = h
cons_others (x ∷ []) r n h = h
cons_others (x ∷ y ∷ []) r n h = absurd (n refl)
cons_others (x ∷ y ∷ z ∷ zs) r n h = h

-- ## `conj`

pub conj_none : (args : List Value) (r : Next State) → length args ≡ 0 → Takes (give (M.vector M.no_values)) r → Takes (conj_call (plains args)) r
conj_none [] r e h = h
conj_none (x ∷ xs) r e h = absurd cc

pub conj_one : (args : List Value) (c : Proper) (r : Next State) → length args ≡ 1 → drop 0 args ≡ c.value ∷ drop (0 + 1) args → Takes (give (plain c.value)) r → Takes (conj_call (plains args)) r
conj_one [] c r b e h = absurd cc
conj_one (x ∷ []) c r b e h = let p : c.value ≡ x = cc in same (ap (λ v. give (plain v)) p) h
conj_one (x ∷ y ∷ ys) c r b e h = absurd (omega (arith, b))

by_cell : (c : M.Value ℕ) (n : ℕ) (xs : List (M.Value ℕ)) → Some n ≡ part_in c → seq c (λ s. conj_each s xs) ≡ conj_rule c xs
by_cell M.nil n xs e = absurd cc
by_cell (M.bool b) n xs e = absurd cc
by_cell (M.int m) n xs e = absurd cc
by_cell (M.keyword k) n xs e = absurd cc
by_cell (M.text t) n xs e = absurd cc
by_cell (M.vector ys) n xs e = absurd cc
by_cell (M.function t ys) n xs e = absurd cc
by_cell (M.reduced v) n xs e = absurd cc
by_cell (M.cell c) n xs e = refl
by_cell M.empty n xs e = absurd cc
by_cell (M.cons ys r) n xs e = absurd cc
by_cell (M.chunk ys r) n xs e = absurd cc
by_cell (M.range from at end) n xs e = absurd cc
by_cell (M.vec_seq ys at) n xs e = absurd cc

pub conj_cell : (args : List Value) (c : Proper) (n : ℕ) (all : ProperList) (r : Next State) → all.items ≡ args → 1 < length args → drop 0 args ≡ c.value ∷ drop (0 + 1) args → Some n ≡ part_in (plain c.value) → Takes (seq (plain c.value) (λ s. left_seq (Q.Conj all) s)) r → Takes (conj_call (plains args)) r
conj_cell [] c n all r a b e k h = absurd (omega arith)
conj_cell (x ∷ []) c n all r a b e k h = absurd (omega arith)
conj_cell (x ∷ y ∷ ys) c n all r a b e k h =
    let p : c.value ≡ x = cc in
    same ((λ i. seq (plain c.value) (λ s. conj_each s (plains (drop 1 (a i))))) ∙ by_cell (plain c.value) n (plain y ∷ plains ys) k ∙ ap (λ v. conj_rule (plain v) (plain y ∷ plains ys)) p) h

by_each : (c : M.Value ℕ) (xs : List (M.Value ℕ)) → None ≡ part_in c → conj_each c xs ≡ conj_rule c xs
by_each M.nil xs e = refl
by_each (M.bool b) xs e = refl
by_each (M.int m) xs e = refl
by_each (M.keyword k) xs e = refl
by_each (M.text t) xs e = refl
by_each (M.vector ys) xs e = refl
by_each (M.function t ys) xs e = refl
by_each (M.reduced v) xs e = refl
by_each (M.cell c) xs e = absurd cc
by_each M.empty xs e = refl
by_each (M.cons ys r) xs e = refl
by_each (M.chunk ys r) xs e = refl
by_each (M.range from at end) xs e = refl
by_each (M.vec_seq ys at) xs e = refl

pub conj_another : (args : List Value) (c : Proper) (r : Next State) → 1 < length args → drop 0 args ≡ c.value ∷ drop (0 + 1) args → None ≡ part_in (plain c.value) → Takes (conj_each (plain c.value) (plains (drop 1 args))) r → Takes (conj_call (plains args)) r
conj_another [] c r b e k h = absurd (omega arith)
conj_another (x ∷ []) c r b e k h = absurd (omega arith)
conj_another (x ∷ y ∷ ys) c r b e k h =
    let p : c.value ≡ x = cc in
    same (by_each (plain c.value) (plain y ∷ plains ys) k ∙ ap (λ v. conj_rule (plain v) (plain y ∷ plains ys)) p) h

pub conj_seen : (args : ProperList) (s : M.Value ℕ) (v : Proper) (r : Next State) → plain v.value ≡ s → Takes (conj_each (plain v.value) (plains (drop 1 args.items))) r → Takes (left_seq (Q.Conj args) s) r
conj_seen args s v r e h = same (ap (λ x. conj_each x (plains (drop 1 args.items))) e) h

pub empty_made : (items : List Value) (m : Made) (r : Next State) → items ≡ [] → Makes (with_value (M.vector (M.values (plains items)))) m → Takes (made m give) r → Takes (give (M.vector M.no_values)) r
empty_made items m r e g h = same (sym (g.goes give) ∙ ap (λ xs. with_value (M.vector (M.values (plains xs))) give) e) h

-- ## One more

pub one_into_nil : (v : M.Value ℕ) (x n : Proper) (m : Made) → v ≡ M.nil → plain n.value ≡ M.nil → Makes (with_first (plain x.value) (plain n.value)) m → Makes (with_one_more v (plain x.value)) m
one_into_nil v x n m e f g = record { goes = λ k. ap (λ w. with_one_more w (plain x.value) k) e ∙ ap (λ w. with_first (plain x.value) w k) (sym f) ∙ g.goes k }

pub one_into_vector : (v : M.Value ℕ) (xs : List Value) (x : Proper) (m : Made) → v ≡ M.vector (M.values (plains xs)) → Makes (λ k. with_members (plains xs ++ plain x.value ∷ []) (λ ys. with_value (M.vector (M.values ys)) k)) m → Makes (with_one_more v (plain x.value)) m
one_into_vector v xs x m e g = record { goes = λ k. ap (λ w. with_one_more w (plain x.value) k) e ∙ ap (λ ys. with_members (ys ++ plain x.value ∷ []) (λ zs. with_value (M.vector (M.values zs)) k)) (list_values (plains xs)) ∙ g.goes k }

by_first : (v x : M.Value ℕ) (k : M.Value ℕ → Plan ℕ) → is_another v ≡ true → with_one_more v x k ≡ with_first x v k
by_first M.nil x k e = absurd cc
by_first (M.bool b) x k e = refl
by_first (M.int m) x k e = refl
by_first (M.keyword n) x k e = refl
by_first (M.text t) x k e = refl
by_first (M.vector ys) x k e = absurd cc
by_first (M.function t ys) x k e = refl
by_first (M.reduced v) x k e = refl
by_first (M.cell c) x k e = refl
by_first M.empty x k e = refl
by_first (M.cons ys r) x k e = refl
by_first (M.chunk ys r) x k e = refl
by_first (M.range from at end) x k e = refl
by_first (M.vec_seq ys at) x k e = refl

pub one_into_another : (v : M.Value ℕ) (p x : Proper) (m : Made) → plain p.value ≡ v → is_another v ≡ true → Makes (with_first (plain x.value) (plain p.value)) m → Makes (with_one_more v (plain x.value)) m
one_into_another v p x m e a g = record { goes = λ k. by_first v (plain x.value) k a ∙ ap (λ w. with_first (plain x.value) w k) (sym e) ∙ g.goes k }

-- ## One after the other

pub goes_in : (w x : Proper) (v : Proper) (rest all : List Value) → all ≡ x.value ∷ rest → Makes (with_one_more (plain w.value) (plain x.value)) (D.Value v) → conj_each (plain v.value) (plains rest) ≡ conj_each (plain w.value) (plains all)
goes_in w x v rest all e g = sym (g.goes (λ d. conj_each d (plains rest))) ∙ ap (λ ys. conj_each (plain w.value) (plains ys)) (sym e)

pub fails_in : (w x : Proper) (why : Thrown) (rest all : List Value) → all ≡ x.value ∷ rest → Makes (with_one_more (plain w.value) (plain x.value)) (D.Thrown why) → throw why ≡ conj_each (plain w.value) (plains all)
fails_in w x why rest all e g = sym (g.goes (λ d. conj_each d (plains rest))) ∙ ap (λ ys. conj_each (plain w.value) (plains ys)) (sym e)

pub none_in : (w : Proper) (all : List Value) → all ≡ [] → give (plain w.value) ≡ conj_each (plain w.value) (plains all)
none_in w all e = ap (λ ys. conj_each (plain w.value) (plains ys)) (sym e)
