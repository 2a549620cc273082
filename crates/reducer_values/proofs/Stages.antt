-- A layer of a collection that is folded.
use Rattle.std.proofs.Common.{◌≡◌, ◌≢◌, ℕ, ℤ, ◌+◌, ◌≤◌, ◌<◌, max, true, false, List, [], ◌∷◌, ◌++◌, map, length, Some, None, refl, ap, sym, subst, ◌∙◌, arith}
use Rattle.std.specs.Prelude.{IsTrue, Option}
use Rattle.seq_values.specs.Depth.{depth, depth_of_all}
use Rattle.seq_values.specs.Model as M
use Rattle.seq_values.specs.Model.{◌&◌}
use Rattle.seq_values.specs.Plain.{plain, plains}
use Rattle.seq_values.specs.Sight.{Kept, Sight, a_function}
use Rattle.seq_values.specs.WellFormed.{binds, binds_stage, is_well_formed, is_well_formed_function, are_well_formed, sight_of}
use Rattle.seq_values.specs.WellFormedTerms.{is_fold_stage}
use Rattle.seq_values.specs.declared.value.FnValue.{FnValue}
use Rattle.seq_values.specs.declared.value.Node.TheVariants as N
use Rattle.seq_values.specs.declared.value.Value.{Value}
use Rattle.seq_values.specs.declared.value.Value.TheVariants as V
use Rattle.seq_values.specs.declared.words.FolderKind.{FolderKind}
use Rattle.seq_values.specs.declared.words.FolderKind.TheVariants as F
use Rattle.seq_values.specs.declared.words.Target.{Target}
use Rattle.seq_values.specs.declared.words.Target.TheVariants as T
use Rattle.seq_values.specs.declared.words.XfKind.{XfKind}
use Rattle.seq_values.specs.declared.words.XfKind.TheVariants as X
use Rattle.seq_values.proofs.Rolls.{graded_as_function, graded_fn, seen_as_function, seen_fn}
use Rattle.seq_values.proofs.WellFormedLemmas.{one_well, one_within, within, as_function}
use Rattle.seq_plan.proofs.CursorLemmas.{plain_cons, plain_chunk, plain_vec_seq, plain_empty}
use Rattle.seq_turns.proofs.Seeing.{plain_range}
use Rattle.fold_rows.specs.Table.{bottom, reducer_stage, reducer_stages, can_split}
use Rattle.reducer_values.specs.Layers.{stage_kind, Peels, IsLayer}
use Rattle.reducer_values.specs.declared.shapes.Layer.{Layer}
use Rattle.reducer_values.specs.declared.shapes.Layer.TheVariants as L
use Rattle.reducer_values.proofs.Looked.{plain_function}

-- ## The kinds

the_kind : (a b : XfKind) → Some a ≡ Some b → a ≡ b
the_kind a b e = cc e

pub kind_fits : (folder : FolderKind) (kind : XfKind) → stage_kind folder ≡ Some kind → (kept : Option (List Kept)) → is_fold_stage (a_function (T.Xf kind) kept) ≡ true
kind_fits F.Map kind e kept = ap (λ k. is_fold_stage (a_function (T.Xf k) kept)) (sym (the_kind X.Map kind e))
kind_fits F.Filter kind e kept = ap (λ k. is_fold_stage (a_function (T.Xf k) kept)) (sym (the_kind X.Filter kind e))
kind_fits F.Remove kind e kept = ap (λ k. is_fold_stage (a_function (T.Xf k) kept)) (sym (the_kind X.Remove kind e))
kind_fits F.Mapcat kind e kept = ap (λ k. is_fold_stage (a_function (T.Xf k) kept)) (sym (the_kind X.Mapcat kind e))
kind_fits F.Take kind e kept = absurd (cc e)
kind_fits F.TakeWhile kind e kept = absurd (cc e)

pub kind_binds : (folder : FolderKind) (kind : XfKind) → stage_kind folder ≡ Some kind → (a : Sight) → binds_stage kind (a ∷ []) ≡ true
kind_binds F.Map kind e a = ap (λ k. binds_stage k (a ∷ [])) (sym (the_kind X.Map kind e))
kind_binds F.Filter kind e a = ap (λ k. binds_stage k (a ∷ [])) (sym (the_kind X.Filter kind e))
kind_binds F.Remove kind e a = ap (λ k. binds_stage k (a ∷ [])) (sym (the_kind X.Remove kind e))
kind_binds F.Mapcat kind e a = ap (λ k. binds_stage k (a ∷ [])) (sym (the_kind X.Mapcat kind e))
kind_binds F.Take kind e a = absurd (cc e)
kind_binds F.TakeWhile kind e a = absurd (cc e)

as_stage : (folder : FolderKind) (kind : XfKind) (x : M.Value ℕ) → stage_kind folder ≡ Some kind → reducer_stage folder x ≡ M.function (T.Xf kind) (x & M.no_values)
as_stage F.Map kind x e = ap (λ k. M.function (T.Xf k) (x & M.no_values)) (the_kind X.Map kind e)
as_stage F.Filter kind x e = ap (λ k. M.function (T.Xf k) (x & M.no_values)) (the_kind X.Filter kind e)
as_stage F.Remove kind x e = ap (λ k. M.function (T.Xf k) (x & M.no_values)) (the_kind X.Remove kind e)
as_stage F.Mapcat kind x e = ap (λ k. M.function (T.Xf k) (x & M.no_values)) (the_kind X.Mapcat kind e)
as_stage F.Take kind x e = absurd (cc e)
as_stage F.TakeWhile kind x e = absurd (cc e)

splits_under : (folder : FolderKind) (kind : XfKind) (x c : M.Value ℕ) → stage_kind folder ≡ Some kind → can_split (M.function (T.Folder folder) (x & c & M.no_values)) ≡ can_split c
splits_under F.Map kind x c e = refl
splits_under F.Filter kind x c e = refl
splits_under F.Remove kind x c e = refl
splits_under F.Mapcat kind x c e = refl
splits_under F.Take kind x c e = absurd (cc e)
splits_under F.TakeWhile kind x c e = absurd (cc e)

-- ## A stage that is made

pub stage_well : (v : Value) (bound : List Value) → bound ≡ v ∷ [] → IsTrue (is_well_formed v) → IsTrue (are_well_formed bound)
stage_well v bound e h = subst (λ l. IsTrue (are_well_formed l)) (sym e) (one_well v h)

pub stage_binds : (kind : XfKind) (v : Value) (bound : List Value) → bound ≡ v ∷ [] → ((a : Sight) → binds_stage kind (a ∷ []) ≡ true) → IsTrue (binds (T.Xf kind) (map sight_of bound))
stage_binds kind v bound e h = subst (λ l. IsTrue (binds (T.Xf kind) (map sight_of l))) (sym e) (h (sight_of v))

pub stage_within : (v : Value) (bound : List Value) → bound ≡ v ∷ [] → depth v ≤ 255 → depth_of_all bound ≤ 255
stage_within v bound e h = subst (λ l. depth_of_all l ≤ 255) (sym e) (one_within v h)

pub stage_stands : (kind : XfKind) (v : Value) (bound : List Value) (f : FnValue) → bound ≡ v ∷ [] → f.target ≡ T.Xf kind → f.bound ≡ bound → plain (V.Function f) ≡ M.function (T.Xf kind) (plain v & M.no_values)
stage_stands kind v bound f e t b = plain_function f ∙ ap (λ k. M.function k (M.values (plains f.bound))) t ∙ ap (λ l. M.function (T.Xf kind) (M.values (plains l))) (b ∙ e)

function_sight : (f : FnValue) → (kept : Option (List Kept)) × (sight_of (V.Function f) ≡ a_function f.target kept)
function_sight f = (_, ap (λ s. s.sight) (seen_as_function f ∙ seen_fn f))

pub stage_fits : (kind : XfKind) (f : FnValue) → f.target ≡ T.Xf kind → ((kept : Option (List Kept)) → is_fold_stage (a_function (T.Xf kind) kept) ≡ true) → is_fold_stage (sight_of (V.Function f)) ≡ true
stage_fits kind f t h =
    let s = function_sight f in
    ap is_fold_stage s.1 ∙ ap (λ k. is_fold_stage (a_function k s.0)) t ∙ h s.0

-- ## A reducer value

deep : (f : FnValue) → depth (V.Function f) ≡ depth_of_all f.bound + 1
deep f = ap (λ g. g.depth) (graded_as_function f ∙ graded_fn f)

bound_deep : (f : FnValue) (x c : Value) → f.bound ≡ x ∷ c ∷ [] → depth_of_all f.bound ≡ max (depth x) (max (depth c) 0)
bound_deep f x c e = ap depth_of_all e

pub first_shallow : (f : FnValue) (x c : Value) → f.bound ≡ x ∷ c ∷ [] → IsTrue (is_well_formed_function f) → depth x ≤ 255
first_shallow f x c e h =
    let d : depth (V.Function f) ≤ 256 = within (V.Function f) (subst IsTrue (sym (as_function f)) h) in
    omega (arith, deep f, bound_deep f x c e, d)

inner_less : (f : FnValue) (x c : Value) → f.bound ≡ x ∷ c ∷ [] → depth c < depth (V.Function f)
inner_less f x c e = omega (arith, deep f, bound_deep f x c e)

of_two : (f : FnValue) (folder : FolderKind) (x c : Value) → f.target ≡ T.Folder folder → f.bound ≡ x ∷ c ∷ [] → plain (V.Function f) ≡ M.function (T.Folder folder) (plain x & plain c & M.no_values)
of_two f folder x c t e = plain_function f ∙ ap (λ k. M.function k (M.values (plains f.bound))) t ∙ ap (λ l. M.function (T.Folder folder) (M.values (plains l))) e

pub peeled : (f : FnValue) (folder : FolderKind) (kind : XfKind) (x c s : Value) → f.target ≡ T.Folder folder → stage_kind folder ≡ Some kind → f.bound ≡ x ∷ c ∷ [] → plain s ≡ M.function (T.Xf kind) (plain x & M.no_values) → is_fold_stage (sight_of s) ≡ true → Peels (V.Function f) s c
peeled f folder kind x c s t k e p q =
    let o = of_two f folder x c t e in
    record {
      stages_are = ap reducer_stages o ∙ ap (λ v. reducer_stages (plain c) ++ v ∷ []) (as_stage folder kind (plain x) k ∙ sym p);
      bottom_is = ap bottom o;
      splits_as = ap can_split o ∙ splits_under folder kind (plain x) (plain c) k;
      fits = q;
      less = inner_less f x c e;
    }

-- ## What can't be split

folder_of_not_two : (folder : FolderKind) (xs : List Value) → length xs ≢ 2 → can_split (M.function (T.Folder folder) (M.values (plains xs))) ≡ false
folder_of_not_two F.Take xs n = refl
folder_of_not_two F.TakeWhile xs n = refl
folder_of_not_two F.Map [] n = refl
folder_of_not_two F.Map (x ∷ []) n = refl
folder_of_not_two F.Map (x ∷ y ∷ []) n = absurd (n refl)
folder_of_not_two F.Map (x ∷ y ∷ z ∷ zs) n = refl
folder_of_not_two F.Filter [] n = refl
folder_of_not_two F.Filter (x ∷ []) n = refl
folder_of_not_two F.Filter (x ∷ y ∷ []) n = absurd (n refl)
folder_of_not_two F.Filter (x ∷ y ∷ z ∷ zs) n = refl
folder_of_not_two F.Remove [] n = refl
folder_of_not_two F.Remove (x ∷ []) n = refl
folder_of_not_two F.Remove (x ∷ y ∷ []) n = absurd (n refl)
folder_of_not_two F.Remove (x ∷ y ∷ z ∷ zs) n = refl
folder_of_not_two F.Mapcat [] n = refl
folder_of_not_two F.Mapcat (x ∷ []) n = refl
folder_of_not_two F.Mapcat (x ∷ y ∷ []) n = absurd (n refl)
folder_of_not_two F.Mapcat (x ∷ y ∷ z ∷ zs) n = refl

as_folder : (f : FnValue) (folder : FolderKind) → f.target ≡ T.Folder folder → plain (V.Function f) ≡ M.function (T.Folder folder) (M.values (plains f.bound))
as_folder f folder t = plain_function f ∙ ap (λ k. M.function k (M.values (plains f.bound))) t

pub not_two : (f : FnValue) (folder : FolderKind) → f.target ≡ T.Folder folder → length f.bound ≢ 2 → can_split (plain (V.Function f)) ≡ false
not_two f folder t n = ap can_split (as_folder f folder t) ∙ folder_of_not_two folder f.bound n

takes_whole : (folder : FolderKind) (xs : M.Values ℕ) → stage_kind folder ≡ None → can_split (M.function (T.Folder folder) xs) ≡ false
takes_whole F.Map xs e = absurd (cc e)
takes_whole F.Filter xs e = absurd (cc e)
takes_whole F.Remove xs e = absurd (cc e)
takes_whole F.Mapcat xs e = absurd (cc e)
takes_whole F.Take xs e = refl
takes_whole F.TakeWhile xs e = refl

pub no_stage_whole : (f : FnValue) (folder : FolderKind) → f.target ≡ T.Folder folder → stage_kind folder ≡ None → can_split (plain (V.Function f)) ≡ false
no_stage_whole f folder t k = ap can_split (as_folder f folder t) ∙ takes_whole folder (M.values (plains f.bound)) k

target_whole : (t : Target) (xs : M.Values ℕ) → ((folder : FolderKind) → t ≢ T.Folder folder) → can_split (M.function t xs) ≡ false
target_whole (T.Builtin w) xs n = refl
target_whole (T.User u) xs n = refl
target_whole T.Partial xs n = refl
target_whole T.Comp xs n = refl
target_whole T.Complement xs n = refl
target_whole T.Constantly xs n = refl
target_whole T.Completing xs n = refl
target_whole T.Monoid xs n = refl
target_whole (T.Xf k) xs n = refl
target_whole (T.Folder folder) xs n = absurd (n folder refl)

pub other_whole : (f : FnValue) → ((folder : FolderKind) → f.target ≢ T.Folder folder) → can_split (plain (V.Function f)) ≡ false
other_whole f n = ap can_split (plain_function f) ∙ target_whole f.target (M.values (plains f.bound)) n

pub is_whole : (v : Value) (l : Layer) → l ≡ L.Whole → can_split (plain v) ≡ false → IsLayer v l
is_whole v l e h = subst (IsLayer v) (sym e) h

pub empty_whole : can_split (plain (V.Node N.Empty)) ≡ false
empty_whole = ap can_split plain_empty

pub cons_whole : (kept : ℕ) (heads : List Value) (rest : Value) → can_split (plain (V.Node (N.Cons kept heads rest))) ≡ false
cons_whole kept heads rest = ap can_split (plain_cons kept heads rest)

pub chunk_whole : (kept : ℕ) (items : List Value) (rest : Value) → can_split (plain (V.Node (N.Chunk kept items rest))) ≡ false
chunk_whole kept items rest = ap can_split (plain_chunk kept items rest)

pub range_whole : (from at end : ℤ) → can_split (plain (V.Node (N.Range from at end))) ≡ false
range_whole from at end = ap can_split (plain_range from at end)

pub vec_seq_whole : (kept : ℕ) (items : List Value) (at : ℕ) → can_split (plain (V.Node (N.VecSeq kept items at))) ≡ false
vec_seq_whole kept items at = ap can_split (plain_vec_seq kept items at)
