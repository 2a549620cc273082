-- `PVec` as a type that may hold the type that holds it: it is seen as the list of its items, and hides none.
use mathlib.Core.Path.{◌≡◌, refl, sym, ap, subst, ◌∙◌}
use Prim.Native.Nat.{ℕ, ◌≤◌}
use native.Mathlib.Bridge.{le_prop}
use lib.ListN.{length, length-map}
use mathlib.Core.Logic.{◌⊎◌, inl, inr}
use mathlib.Core.List.{List, [], map}
use mathlib.Core.Former.{Former, none_left, this, const, or, list, via, children}
use base.Stored.{code_map}
use denote.RattleType.{RattleType}
use denote.HoleLaws.{Alike}
use denote.HolePlaces.{Recodes, struct_places, enum_places, eachs, laid}
use denote.Hole.Carrier.{listed, list-listed}
use denote.Hole.Fix.{over}
use denote.Param.Weighed.{Weighed, w_list}
use denote.Model.Placed.{held, view_places}
use Rattle.std.specs.declared.vec.Vec.{Vec}
use Rattle.std.specs.contracts.vec.Vec as vec
use Rattle.std.specs.formers.vec.Vec as vec_former
use Rattle.std.specs.declared.alloc.Global.{Global}
use Rattle.std.specs.contracts.alloc.Global as heap
use Rattle.std.specs.contracts.impls.GlobalAllocator.TheImpl.{ghosts}
use Rattle.seq_vector.specs.Blocks.{joined}
use Rattle.seq_vector.specs.Forms.{Second, Whole, form_items, IsForm}
use Rattle.seq_vector.specs.Levels.{Level, deep_former, top, deep}
use Rattle.seq_vector.specs.declared.blocks.Deep.{Deep}
use Rattle.seq_vector.specs.declared.pvec.Form.{Form}
use Rattle.seq_vector.specs.declared.pvec.Form.TheVariants.{Empty, Few, Many}
use Rattle.seq_vector.specs.declared.pvec.PVec.TheInside.{Inside}
use Rattle.seq_vector.specs.declared.pvec.PVec.TheView.{view, invariant}
use Rattle.seq_vector.specs.contracts.shared.Shared as shared
use Rattle.seq_vector.specs.contracts.run.Run as run
use Rattle.seq_vector.specs.contracts.blocks.Deep as deep_type
use Rattle.seq_vector.specs.contracts.pvec.Form as form
use Rattle.seq_vector.specs.contracts.pvec.PVec as C
use Rattle.seq_vector.specs.contracts.pvec.PVec.TheInside as I
use Rattle.seq_vector.specs.formers.shared.Shared as shared_former
use Rattle.seq_vector.specs.formers.run.Run as run_former

abbrev pub the_former : Former {0} → Former {0}
the_former g = list g

abbrev pub the_weighed : {g : Former {0}} → Weighed g → Weighed (the_former g)
the_weighed w = w_list w

pub the_empty : List ⊥
the_empty = []

abbrev pub the_items : (X : Type 0) → List X → List X
the_items X items = items

pub the_items_listed : (X : Type 0) (items : List X) → listed _ (children (the_former this) X items) ≡ the_items X items
the_items_listed X items = list-listed X items

abbrev second_former : Former {0}
second_former = deep_former (list this) (list (list (list this)))

abbrev whole_former : Former {0}
whole_former = deep_former this second_former

abbrev whole_level : Level this whole_former
whole_level = deep this second_former (deep (list this) (list (list (list this))) (top (list (list this))))

abbrev Owned : Type 0 → Type 0
Owned X = Vec X Global

module _ {X : Type 0} where
  abbrev split : Form X → Unit {0} ⊎ (Owned X ⊎ Whole X)
  split Empty = inl tt
  split (Few owned) = inr (inl owned)
  split (Many whole) = inr (inr whole)

  abbrev join : Unit {0} ⊎ (Owned X ⊎ Whole X) → Form X
  join (inl _) = Empty
  join (inr (inl owned)) = Few owned
  join (inr (inr whole)) = Many whole

  join-split : (o : Form X) → join (split o) ≡ o
  join-split Empty = refl
  join-split (Few owned) = refl
  join-split (Many whole) = refl

  split-join : (o : Unit {0} ⊎ (Owned X ⊎ Whole X)) → split (join o) ≡ o
  split-join (inl _) = refl
  split-join (inr (inl owned)) = refl
  split-join (inr (inr whole)) = refl

abbrev fields : Former {0}
fields = via (or (const (Unit {0})) (or (vec_former.the_former this Global) whole_former)) Inside (λ X a. split a.form) (λ X v. record { form = join v })
    (λ X a i. record { form = join-split a.form i }) (λ X v. split-join v)

module _ {X Y : Type 0} (h : X → Y) where
  abbrev second_map : Second X → Second Y
  second_map d = record { count = d.count; left = map (map h) d.left; upper = map (map (map h)) d.upper; right = map (map h) d.right }

  abbrev whole_map : Whole X → Whole Y
  whole_map d = record { count = d.count; left = map h d.left; upper = second_map d.upper; right = map h d.right }

  abbrev mapped : Form X → Form Y
  mapped Empty = Empty
  mapped (Few owned) = Few (vec_former.mapped h owned)
  mapped (Many whole) = Many (whole_map whole)

module _ (X : Type 0) where
  keeps : (o : Form X) → held (list this) X (view X (record { form = o })) ≡ held fields X (record { form = o })
  keeps Empty = refl
  keeps (Few owned) = refl
  keeps (Many whole) = whole_level.keeps X whole (none_left, tt)

  good_one : (o : Form X) (p q : IsForm X o) → p ≡ q
  good_one Empty p q = refl
  good_one (Few owned) p q = refl
  good_one (Many whole) p q = whole_level.one X whole p q

  module _ (Y : Type 0) (h : X → Y) where
    natural : (o : Form X) → view Y (fields.map X Y h (record { form = o })) ≡ (list this).map X Y h (view X (record { form = o }))
    natural Empty = refl
    natural (Few owned) = refl
    natural (Many whole) = whole_level.natural X Y h whole

    same_length : (o : Form X) → length (view Y (fields.map X Y h (record { form = o }))) ≡ length (view X (record { form = o }))
    same_length o = ap length (natural o) ∙ length-map (view X (record { form = o })) h

    good_to : (o : Form X) → IsForm X o → IsForm Y (fields.map X Y h (record { form = o })).form
    good_to Empty g = tt
    good_to (Few owned) g = tt
    good_to (Many whole) g = whole_level.to X Y h whole g

    good_from : (o : Form X) → IsForm Y (fields.map X Y h (record { form = o })).form → IsForm X o
    good_from Empty g = tt
    good_from (Few owned) g = tt
    good_from (Many whole) g = whole_level.from X Y h whole g

    map_form : (o : Form X) → (fields.map X Y h (record { form = o })).form ≡ mapped h o
    map_form Empty = refl
    map_form (Few owned) = refl
    map_form (Many whole) = refl

holds_one : (X : Type 0) (u : Inside X) (p q : invariant X u) → p ≡ q
holds_one X u p q = λ i. (good_one X u.form p.0 q.0 i, le_prop p.1 q.1 i)

holds_to : (X Y : Type 0) (h : X → Y) (u : Inside X) → invariant X u → invariant Y (fields.map X Y h u)
holds_to X Y h u e = (good_to X Y h u.form e.0, subst (λ (n : ℕ). n ≤ 4294967295) (sym (same_length X Y h u.form)) e.1)

holds_from : (X Y : Type 0) (h : X → Y) (u : Inside X) → invariant Y (fields.map X Y h u) → invariant X u
holds_from X Y h u e = (good_from X Y h u.form e.0, subst (λ (n : ℕ). n ≤ 4294967295) (same_length X Y h u.form) e.1)

-- A level is laid out alike where its blocks and the level above are.
module _ (B B' U U' : RattleType) (k : B.Denot → B'.Denot) (m : U.Denot → U'.Denot) where
  abbrev deep_map : Deep B.Denot U.Denot → Deep B'.Denot U'.Denot
  deep_map d = record { count = d.count; left = map k d.left; upper = m d.upper; right = map k d.right }

  deep_places : Alike B B' k → Alike U U' m → Alike (deep_type.the_row B U) (deep_type.the_row B' U') deep_map
  deep_places a e =
      let blocks = run_former.the_places B B' k a in
      struct_places (deep_type.the_type B U) (deep_type.the_type B' U') ((λ n. n), (map k, (m, (map k, tt)))) deep_map (λ d. refl) refl
      ((refl, (λ y. refl, λ y. refl)), (laid _ _ _ blocks, (laid _ _ _ e, (laid _ _ _ blocks, tt))))

module _ (R S : RattleType) (h : R.Denot → S.Denot) where
  abbrev vec_of : RattleType → RattleType
  vec_of Q = vec.the_row Q heap.the_row ghosts

  abbrev second_row : RattleType → RattleType
  second_row Q = deep_type.the_row (run.the_row Q) (run.the_row (run.the_row (run.the_row Q)))

  abbrev whole_row : RattleType → RattleType
  whole_row Q = deep_type.the_row Q (second_row Q)

  variant : (o : Form R.Denot)
      → (form.enum S).as_values (mapped h o)
      ≡ eachs (form.enum R).parts (form.enum S).parts (tt, ((vec_former.mapped h, tt), ((whole_map h, tt), tt))) ((form.enum R).as_values o)
  variant Empty = refl
  variant (Few owned) = refl
  variant (Many whole) = refl

  whole_places : Alike R S h → Alike (whole_row R) (whole_row S) (whole_map h)
  whole_places a =
      let one = run_former.the_places R S h a in
      let two = run_former.the_places (run.the_row R) (run.the_row S) (map h) one in
      let three = run_former.the_places (run.the_row (run.the_row R)) (run.the_row (run.the_row S)) (map (map h)) two in
      let second = deep_places (run.the_row R) (run.the_row S) (run.the_row (run.the_row (run.the_row R))) (run.the_row (run.the_row (run.the_row S))) (map h) (map (map (map h))) one three in
      deep_places R S (second_row R) (second_row S) h (second_map h) a second

  pub the_places : Alike R S h → Alike (C.the_row R) (C.the_row S) ((the_former this).map R.Denot S.Denot h)
  the_places a =
      let few = shared_former.the_places (vec_of R) (vec_of S) (vec_former.mapped h) (vec_former.the_places heap.the_row ghosts R S h a) in
      let many = shared_former.the_places (whole_row R) (whole_row S) (whole_map h) (whole_places a) in
      let field = enum_places (form.enum R) (form.enum S) (tt, ((vec_former.mapped h, tt), ((whole_map h, tt), tt))) (mapped h) variant refl
      (tt, ((laid _ _ _ few, tt), ((laid _ _ _ many, tt), tt))) in
      view_places fields (list this) view (λ X Y k u. natural X Y k u.form) (λ X u. keeps X u.form) R.Denot S.Denot h (C.the_row R).coded (C.the_row S).coded
      (invariant R.Denot) (invariant S.Denot) (holds_one R.Denot) (holds_one S.Denot) (holds_to R.Denot S.Denot h) (holds_from R.Denot S.Denot h)
      (over (I.the_row R)) (over (I.the_row S))
      (struct_places (I.the_type R) (I.the_type S) (mapped h, tt) _ (λ d i. (map_form R.Denot S.Denot h d.form i, tt)) refl (laid _ _ _ field, tt))

  pub the_codes_placed : Recodes R S h → Recodes (C.the_row R) (C.the_row S) ((the_former this).map R.Denot S.Denot h)
  the_codes_placed e d = sym (code_map R.coded.code S.coded.code h (λ x. sym (e x)) d)
