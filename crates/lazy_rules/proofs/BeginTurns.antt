-- How the terms begin.
use Rattle.std.proofs.Common.{◌≡◌, ◌≢◌, ℕ, ◌+◌, ◌<◌, ℤ, pos, ◌<ℤ◌, int_lt, true, List, [], ◌∷◌, map, length, drop, None, refl, ap, sym, ◌∙◌, arith}
use Rattle.std.proofs.lemmas.Int.{ints}
use Rattle.seq_base.specs.declared.thrown.Thrown.TheVariants.{BadType}
use Rattle.seq_values.specs.Model as M
use Rattle.seq_values.specs.Plain.{plain, plains}
use Rattle.seq_values.specs.Sight.{Sight, an_int}
use Rattle.seq_values.specs.WellFormed.{sight_of}
use Rattle.seq_values.specs.WellFormedTerms.{takes}
use Rattle.seq_values.specs.declared.value.Value.{Value}
use Rattle.seq_values.specs.declared.words.Op.{Op}
use Rattle.seq_values.specs.declared.words.Op.TheVariants as O
use Rattle.seq_plan.specs.Nodes.{if_nil}
use Rattle.seq_plan.specs.Plan.{Plan, seq, go, give, throw, parts_from}
use Rattle.seq_turns.specs.declared.next.Next.{Next}
use Rattle.lazy_rows.specs.Table.{lazy_term}
use Rattle.lazy_rows.specs.Terms.{repeat_rule, seq_each}
use Rattle.seq_turns.specs.declared.places.Seen.{Seen}
use Rattle.lazy_rules.specs.Arguments.{counted}
use Rattle.lazy_rules.specs.Left.{purpose_op, apply_at, map_all_on, left_seq, seens, Takes}
use Rattle.lazy_rules.specs.declared.state.AtSeq.TheVariants as Q
use Rattle.lazy_rules.specs.declared.state.Group.{Group}
use Rattle.lazy_rules.specs.declared.state.Keeps.TheVariants as K
use Rattle.lazy_rules.specs.declared.state.Purpose.{Purpose}
use Rattle.lazy_rules.specs.declared.state.Purpose.TheVariants as U
use Rattle.lazy_rules.specs.declared.state.State.{State}
use Rattle.lazy_rules.proofs.ApplyTurns.{apply_is}
use Rattle.lazy_rules.proofs.Taking.{takes_same}

-- what an operation takes no other number of arguments than two for
apply_none : (u : Purpose) (size : ℕ) → lazy_term {C = ℕ} size (purpose_op u) [] ≡ throw BadType
apply_none (U.Sift K.Answers) size = refl
apply_none (U.Sift K.Elements) size = refl
apply_none (U.Sift K.SomeAnswers) size = refl
apply_none U.TakeWhile size = refl
apply_none U.DropWhile size = refl
apply_none U.Mapcat size = refl

apply_one : (u : Purpose) (size : ℕ) (x : M.Value ℕ) → lazy_term size (purpose_op u) (x ∷ []) ≡ throw BadType
apply_one (U.Sift K.Answers) size x = refl
apply_one (U.Sift K.Elements) size x = refl
apply_one (U.Sift K.SomeAnswers) size x = refl
apply_one U.TakeWhile size x = refl
apply_one U.DropWhile size x = refl
apply_one U.Mapcat size x = refl

apply_many : (u : Purpose) (size : ℕ) (x y z : M.Value ℕ) (zs : List (M.Value ℕ)) → lazy_term size (purpose_op u) (x ∷ y ∷ z ∷ zs) ≡ throw BadType
apply_many (U.Sift K.Answers) size x y z zs = refl
apply_many (U.Sift K.Elements) size x y z zs = refl
apply_many (U.Sift K.SomeAnswers) size x y z zs = refl
apply_many U.TakeWhile size x y z zs = refl
apply_many U.DropWhile size x y z zs = refl
apply_many U.Mapcat size x y z zs = refl

pub apply_misfit : (u : Purpose) (size : ℕ) (args : List Value) (r : Next State) → length args ≢ 2 → Takes (throw BadType) r → Takes (lazy_term size (purpose_op u) (plains args)) r
apply_misfit u size [] r n h = takes_same (sym (apply_none u size)) h
apply_misfit u size (x ∷ []) r n h = takes_same (sym (apply_one u size (plain x))) h
apply_misfit u size (x ∷ y ∷ []) r n h = absurd (n refl)
apply_misfit u size (x ∷ y ∷ z ∷ zs) r n h = takes_same (sym (apply_many u size (plain x) (plain y) (plain z) (plains zs))) h

pub apply_pair : (u : Purpose) (size : ℕ) (args : List Value) (f c : Value) → args ≡ f ∷ c ∷ [] → seq (plain c) (λ s. apply_at u size (plain f) s) ≡ lazy_term size (purpose_op u) (plains args)
apply_pair u size args f c e = apply_is u size (plain f) (plain c) ∙ sym (ap (λ l. lazy_term size (purpose_op u) (plains l)) e)

pub pair_begins : (size : ℕ) (op : Op) (args : List Value) (f c : Value) (p : Plan ℕ) → args ≡ f ∷ c ∷ [] → p ≡ lazy_term size op (plain f ∷ plain c ∷ []) → p ≡ lazy_term size op (plains args)
pair_begins size op args f c p e q = q ∙ sym (ap (λ l. lazy_term size op (plains l)) e)

pub counted_begins : (size : ℕ) (op : Op) (args : List Value) (n : ℤ) (c : M.Value ℕ) (p : Plan ℕ) → plains args ≡ M.int n ∷ c ∷ [] → p ≡ lazy_term size op (M.int n ∷ c ∷ []) → p ≡ lazy_term size op (plains args)
counted_begins size op args n c p e q = q ∙ sym (ap (λ l. lazy_term size op l) e)

pub next_misfit : (size : ℕ) (args : List Value) (r : Next State) → length args ≢ 2 → Takes (throw BadType) r → Takes (lazy_term size O.Next (plains args)) r
next_misfit size [] r n h = h
next_misfit size (x ∷ []) r n h = h
next_misfit size (x ∷ y ∷ []) r n h = absurd (n refl)
next_misfit size (x ∷ y ∷ z ∷ zs) r n h = h

pub cycle_misfit : (size : ℕ) (args : List Value) (r : Next State) → length args ≢ 2 → Takes (throw BadType) r → Takes (lazy_term size O.Cycle (plains args)) r
cycle_misfit size [] r n h = h
cycle_misfit size (x ∷ []) r n h = h
cycle_misfit size (x ∷ y ∷ []) r n h = absurd (n refl)
cycle_misfit size (x ∷ y ∷ z ∷ zs) r n h = h

pub repeat_misfit : (size : ℕ) (args : List Value) (r : Next State) → length args ≢ 1 → Takes (throw BadType) r → Takes (lazy_term size O.Repeat (plains args)) r
repeat_misfit size [] r n h = h
repeat_misfit size (x ∷ []) r n h = absurd (n refl)
repeat_misfit size (x ∷ y ∷ ys) r n h = h

-- what isn't a number and a second argument
abbrev Misfits : ℕ → List (M.Value ℕ) → Type 0
Misfits size xs = (lazy_term size O.Take xs ≡ throw BadType) × (lazy_term size O.Drop xs ≡ throw BadType) × (lazy_term size O.Parts xs ≡ throw BadType)

misfits : (size : ℕ) (xs : List (M.Value ℕ)) → counted xs ≡ None → Misfits size xs
misfits size [] e = (refl, refl, refl)
misfits size (M.int n ∷ []) e = (refl, refl, refl)
misfits size (M.int n ∷ c ∷ []) e = absurd cc
misfits size (M.int n ∷ c ∷ d ∷ ds) e = (refl, refl, refl)
misfits size (M.nil ∷ xs) e = (refl, refl, refl)
misfits size ((M.bool b) ∷ xs) e = (refl, refl, refl)
misfits size ((M.keyword k) ∷ xs) e = (refl, refl, refl)
misfits size ((M.text t) ∷ xs) e = (refl, refl, refl)
misfits size ((M.vector ys) ∷ xs) e = (refl, refl, refl)
misfits size ((M.function t ys) ∷ xs) e = (refl, refl, refl)
misfits size ((M.reduced v) ∷ xs) e = (refl, refl, refl)
misfits size ((M.cell m) ∷ xs) e = (refl, refl, refl)
misfits size (M.empty ∷ xs) e = (refl, refl, refl)
misfits size ((M.cons ys v) ∷ xs) e = (refl, refl, refl)
misfits size ((M.chunk ys v) ∷ xs) e = (refl, refl, refl)
misfits size ((M.range a b o) ∷ xs) e = (refl, refl, refl)
misfits size ((M.vec_seq ys i) ∷ xs) e = (refl, refl, refl)

pub take_misfit : (size : ℕ) (args : List Value) (r : Next State) → counted (plains args) ≡ None → Takes (throw BadType) r → Takes (lazy_term size O.Take (plains args)) r
take_misfit size args r e h = takes_same (sym (misfits size (plains args) e).0) h

pub drop_misfit : (size : ℕ) (args : List Value) (r : Next State) → counted (plains args) ≡ None → Takes (throw BadType) r → Takes (lazy_term size O.Drop (plains args)) r
drop_misfit size args r e h = takes_same (sym (misfits size (plains args) e).1) h

pub parts_misfit : (size : ℕ) (args : List Value) (r : Next State) → counted (plains args) ≡ None → Takes (throw BadType) r → Takes (lazy_term size O.Parts (plains args)) r
parts_misfit size args r e h = takes_same (sym (misfits size (plains args) e).2) h

-- a group has at least one element
pub size_positive : (args : List Value) (n : ℤ) (b : Sight) → takes O.Parts (map sight_of args) ≡ true → map sight_of args ≡ an_int n ∷ b ∷ [] → int_lt (pos 0) n ≡ true
size_positive args n b t e = sym (ap (takes O.Parts) e) ∙ t

pub map_all_begun : (size : ℕ) (args : List Value) (f : Value) (seqs : List Seen) (r : Next State) → drop 0 args ≡ f ∷ drop (0 + 1) args → seqs ≡ [] → Takes (seq_each (seens seqs) (plains (drop 1 args)) (map_all_on (plain f))) r → Takes (lazy_term size O.MapN (plains args)) r
map_all_begun size args f seqs r e q h = takes_same (ap (λ ss. seq_each (seens ss) (plains (drop 1 args)) (map_all_on (plain f))) q ∙ sym (ap (λ l. lazy_term size O.MapN (plains l)) e)) h

pub some_args : (args : List Value) → takes O.MapN (map sight_of args) ≡ true → 0 < length args
some_args [] h = absurd cc
some_args (x ∷ xs) h = omega arith

pub one_begins : (size : ℕ) (args : List Value) (x : Value) → args ≡ x ∷ [] → repeat_rule (plain x) ≡ lazy_term size O.Repeat (plains args)
one_begins size args x e = sym (ap (λ l. lazy_term size O.Repeat (plains l)) e)

pub drop_begun : (size : ℕ) (args : List Value) (n m : ℤ) (c : M.Value ℕ) (r : Next State) → plains args ≡ M.int n ∷ c ∷ [] → m ≡ n → Takes (seq c (λ s. left_seq (Q.Drop m) s)) r → Takes (lazy_term size O.Drop (plains args)) r
drop_begun size args n m c r e q h = takes_same (ap (λ k. seq c (λ s. left_seq (Q.Drop k) s)) q ∙ sym (ap (λ l. lazy_term size O.Drop l) e)) h

-- the plan of a group's first round, by its numbers and what was taken
abbrev group_plan : ℤ → ℤ → List Value → M.Value ℕ → Plan ℕ
group_plan n left xs s = if_nil s (give M.nil) (go parts_from (M.int n ∷ M.int left ∷ M.vector (M.values (plains xs)) ∷ s ∷ []) give)

pub parts_begun : (size : ℕ) (args : List Value) (n : ℤ) (c : M.Value ℕ) (g : Group) (r : Next State) → plains args ≡ M.int n ∷ c ∷ [] → g.size ≡ n → g.left ≡ n → g.taken.items.items ≡ [] → Takes (seq c (λ s. left_seq (Q.Parts g) s)) r → Takes (lazy_term size O.Parts (plains args)) r
parts_begun size args n c g r e q p t h = takes_same ((λ i. seq c (λ s. group_plan (q i) (p i) (t i) s)) ∙ sym (ap (λ l. lazy_term size O.Parts l) e)) h

pub part_size : (args : List Value) (n : ℤ) (b : Sight) → takes O.Parts (map sight_of args) ≡ true → map sight_of args ≡ an_int n ∷ b ∷ [] → pos 0 <ℤ n
part_size args n b t e =
    let h : int_lt (pos 0) n ≡ true = size_positive args n b t e in
    grind (arith, ints)
