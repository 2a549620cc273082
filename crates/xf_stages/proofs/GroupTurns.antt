-- Groups of `partition-all`.
use Rattle.std.proofs.Common.{◌≡◌, ℕ, ℤ, pos, int_le, nat_le, Bool, true, false, cond, List, [], ◌∷◌, ◌++◌, length, refl, ap, sym, ◌∙◌, subst}
use Rattle.std.proofs.lemmas.List.{length-map}
use Rattle.seq_base.specs.declared.thrown.Thrown.{Thrown}
use Rattle.seq_base.specs.declared.thrown.Thrown.TheVariants.{Overflow, Depth}
use Rattle.seq_values.specs.Model as M
use Rattle.seq_values.specs.Model.{◌&◌}
use Rattle.seq_values.specs.Plain.{plain, plains}
use Rattle.seq_values.specs.declared.value.Value.{Value}
use Rattle.seq_values.specs.declared.words.Target.TheVariants as T
use Rattle.seq_values.specs.declared.words.XfKind.TheVariants as X
use Rattle.seq_plan.specs.Plan.{Plan, give, throw}
use Rattle.seq_plan.specs.Nodes.{with_members, with_value, deepest, longest, depth}
use Rattle.seq_plan.specs.Stages.{passes, passes_nothing, group_one}
use Rattle.seq_plan.proofs.StageLoops.{list_values}
use Rattle.seq_turns.specs.Making.{made, Makes}
use Rattle.seq_turns.specs.declared.made.Made.{Made}
use Rattle.seq_turns.specs.declared.made.Made.TheVariants as D
use Rattle.seq_turns.specs.declared.proper.Proper.{Proper}
use Rattle.xf_stages.specs.Left.{stage_value}
use Rattle.xf_stages.specs.Reacting.{OnEffect, Comes, Reacts, effect_plan, group_full, is_vector, members}
use Rattle.xf_stages.specs.declared.state.Effect.TheVariants as E
use Rattle.xf_stages.specs.declared.state.Group.{Group}
use Rattle.xf_stages.specs.declared.state.Reacted.{Reacted}
use Rattle.xf_stages.specs.declared.state.Stage.TheVariants as S

-- the vector of these members, where it may be made
abbrev pub vector_of : List (M.Value ℕ) → (M.Value ℕ → Plan ℕ) → Plan ℕ
vector_of xs h = with_members xs (λ ys. with_value (M.vector (M.values ys)) h)

pub made_vector : (xs : List (M.Value ℕ)) (v : Proper) → Makes (vector_of xs) (D.Value v) → is_vector (plain v.value) ≡ true
made_vector xs v q = by (nat_le (length xs) longest) (nat_le (depth (M.vector (M.values xs))) deepest) (plain v.value) (q.goes give)
  where
    by : (a b : Bool) (w : M.Value ℕ) → cond a (cond b (give (M.vector (M.values xs))) (throw Depth)) (throw Overflow) ≡ give w → is_vector w ≡ true
    by true true w e = let p : M.vector (M.values xs) ≡ w = cc in subst (λ z. is_vector z ≡ true) p refl
    by true false w e = absurd cc
    by false b w e = absurd cc

one_as_full : (n : ℤ) (xs : List (M.Value ℕ)) (k : OnEffect) → group_one n xs k ≡ vector_of xs (λ v. group_full n v k)
one_as_full n xs k = λ i. with_members xs (λ ys. with_value (M.vector (M.values ys)) (λ v. cond (int_le n (pos (length (sym (list_values ys) i)))) (k (M.vector M.no_values) (passes v)) (k v passes_nothing)))

-- ## The group with one element more

pub members_long : (items : List Value) (v : M.Value ℕ) → M.vector (M.values (plains items)) ≡ v → length (members v) ≡ length items
members_long items v e = ap (λ z. length (members z)) (sym e) ∙ ap length (list_values (plains items)) ∙ length-map items plain

abbrev pub parts : ℤ → M.Value ℕ
parts n = M.function (T.Xf X.PartitionAll) (M.int n & M.no_values)

full_as : (n : ℤ) (items : List Value) (v : M.Value ℕ) (b : Bool) (k : OnEffect) → M.vector (M.values (plains items)) ≡ v → b ≡ int_le n (pos (length items)) → group_full n v k ≡ cond b (k (M.vector M.no_values) (passes v)) (k v passes_nothing)
full_as n items v b k e q = ap (λ z. cond z (k (M.vector M.no_values) (passes v)) (k v passes_nothing)) (ap (λ l. int_le n (pos l)) (members_long items v e) ∙ sym q)

pub full_passes : (n m : ℤ) (items : List Value) (v : M.Value ℕ) (b : Bool) (r : Reacted) → m ≡ n → M.vector (M.values (plains items)) ≡ v → b ≡ int_le m (pos (length items)) → b ≡ true → stage_value r.stage ≡ parts m → ((k : OnEffect) → effect_plan r.stage r.effect k ≡ k (M.vector M.no_values) (passes (M.vector (M.values (plains items))))) → Comes (parts n) (group_full n v) r
full_passes n m items v b r en e q t same h = record {
  same = same ∙ ap parts en;
  goes = λ k. full_as n items v b k e (q ∙ ap (λ z. int_le z (pos (length items))) en) ∙ ap (λ z. cond z (k (M.vector M.no_values) (passes v)) (k v passes_nothing)) t ∙ ap (λ w. k (M.vector M.no_values) (passes w)) (sym e) ∙ sym (h k);
}

pub part_waits : (n m : ℤ) (items : List Value) (v : M.Value ℕ) (b : Bool) (g : Group) → m ≡ n → M.vector (M.values (plains items)) ≡ v → b ≡ int_le m (pos (length items)) → b ≡ false → g.size ≡ n → g.items ≡ items → Comes (parts n) (group_full n v) (record { stage = S.PartitionAll g; effect = E.PassesNothing })
part_waits n m items v b g en e q t es ei = record {
  same = ap parts es;
  goes = λ k. full_as n items v b k e (q ∙ ap (λ z. int_le z (pos (length items))) en) ∙ ap (λ z. cond z (k (M.vector M.no_values) (passes v)) (k v passes_nothing)) t ∙ ap (λ w. k w passes_nothing) (sym e ∙ ap (λ l. M.vector (M.values (plains l))) (sym ei));
}

module _ (g : Group) (x : M.Value ℕ) where
  group_plan : (m : Made) → Makes (vector_of (plains g.items ++ x ∷ [])) m → (k : OnEffect) → group_one g.size (M.list (M.values (plains g.items)) ++ x ∷ []) k ≡ made m (λ v. group_full g.size v k)
  group_plan m q k = ap (λ l. group_one g.size (l ++ x ∷ []) k) (list_values (plains g.items)) ∙ one_as_full g.size (plains g.items ++ x ∷ []) k ∙ q.goes (λ v. group_full g.size v k)

  pub group_goes : (v : Proper) (n : ℤ) (r : Reacted) → n ≡ g.size → Makes (vector_of (plains g.items ++ x ∷ [])) (D.Value v) → Comes (parts n) (group_full n (plain v.value)) r → Reacts (S.PartitionAll g) x r
  group_goes v n r e q h = record { same = h.same ∙ ap parts e; goes = λ k. group_plan (D.Value v) q k ∙ ap (λ m. group_full m (plain v.value) k) (sym e) ∙ h.goes k }

  pub group_ends : (why : Thrown) (n : ℤ) (r : Reacted) → n ≡ g.size → Makes (vector_of (plains g.items ++ x ∷ [])) (D.Thrown why) → stage_value r.stage ≡ parts n → r.effect ≡ E.Throws why → Reacts (S.PartitionAll g) x r
  group_ends why n r en q same e = record { same = same ∙ ap parts en; goes = λ k. group_plan (D.Thrown why) q k ∙ ap (λ z. effect_plan r.stage z k) (sym e) }
