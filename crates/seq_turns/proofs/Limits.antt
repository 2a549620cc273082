-- What goes on with a value that was made, and where it would be too deep or have too many members.
use Rattle.std.proofs.Common.{◌≡◌, ℕ, suc, ◌+◌, ◌<◌, ◌≤◌, max, nat_le, ℤ, Bool, true, false, List, [], ◌∷◌, ◌++◌, reverse, length, refl, ap, sym, subst, ◌∙◌, arith, rules}
use Rattle.std.proofs.lemmas.List.{length-map, length-append, length-reverse, reverse-append, reverse-reverse, map-append}
use Rattle.seq_base.specs.declared.thrown.Thrown.{Thrown}
use Rattle.seq_base.specs.declared.thrown.Thrown.TheVariants as E
use Rattle.seq_values.specs.Model as M
use Rattle.seq_values.specs.Model.{◌&◌}
use Rattle.seq_values.specs.Depth as D
use Rattle.seq_values.specs.Plain.{plain, plains}
use Rattle.seq_values.specs.declared.value.FnValue.{FnValue}
use Rattle.seq_values.specs.declared.value.Value.{Value}
use Rattle.seq_values.specs.declared.value.Value.TheVariants as V
use Rattle.seq_values.specs.declared.value.Node.TheVariants as N
use Rattle.seq_values.specs.declared.value.Node.TheFolds.{the_lemmas}
use Rattle.seq_values.specs.declared.words.Target.{Target}
use Rattle.seq_values.proofs.WellFormedLemmas.{within}
use Rattle.seq_values.proofs.PartLemmas.{deepest_joined}
use Rattle.seq_plan.specs.Plan.{Plan, throw}
use Rattle.seq_plan.specs.Nodes.{longest, depth, depths, with_value, with_members, with_items}
use Rattle.seq_plan.specs.Lists.{list_of, put_before, with_first}
use Rattle.seq_plan.proofs.Depths.{depth_agrees}
use Rattle.seq_plan.proofs.CursorLemmas.{plain_cons, plain_chunk, plain_vec_seq, plain_empty, list_values}
use Rattle.seq_turns.proofs.Seeing.{plain_range, plain_vector}
use Rattle.seq_turns.specs.Making.{made, Makes}
use Rattle.seq_turns.specs.declared.made.Made.{Made}
use Rattle.seq_turns.specs.declared.made.Made.TheVariants as R
use Rattle.seq_turns.specs.declared.proper.Proper.{Proper}

is_le : (a b : ℕ) → a ≤ b → nat_le a b ≡ true
is_le a b h = search (rules, arith)

not_le : (a b : ℕ) → b < a → nat_le a b ≡ false
not_le a b h = search (rules, arith)

depths_plain : (xs : List Value) → depths (M.values (plains xs)) ≡ D.depth_of_all xs
depths_plain [] = refl
depths_plain (x ∷ xs) = rw (depth_agrees x, depths_plain xs) refl

-- ## Whatever was made

-- a well-formed value is not too deep
pub value_goes : (v : M.Value ℕ) (p : Proper) → plain p.value ≡ v → Makes (with_value v) (R.Value p)
value_goes v p e =
    let d : depth v ≤ 256 = omega (arith, ap depth e, depth_agrees p.value, within p.value p.well) in
    let l : nat_le (depth v) 256 ≡ true = is_le (depth v) 256 d in
    record { goes = λ k. rw l (ap k (sym e)) }

deep_goes : (v : M.Value ℕ) (m : Made) → m ≡ R.Thrown E.Depth → 256 < depth v → Makes (with_value v) m
deep_goes v m e d =
    let l : nat_le (depth v) 256 ≡ false = not_le (depth v) 256 d in
    record { goes = λ k. rw (e, l) refl }

same_goes : (p q : (M.Value ℕ → Plan ℕ) → Plan ℕ) (m : Made) → p ≡ q → Makes p m → Makes q m
same_goes p q m e h = subst (λ x. Makes x m) e h

-- ## Vectors and functions

pub vector_deep : (xs : List Value) (m : Made) → m ≡ R.Thrown E.Depth → 255 < D.depth_of_all xs → Makes (with_value (M.vector (M.values (plains xs)))) m
vector_deep xs m e d = deep_goes (M.vector (M.values (plains xs))) m e (omega (arith, depths_plain xs, d))

plain_function : (t : Target) (kept : ℕ) (xs : List Value) → plain (V.Function (record { target = t; depth = kept; bound = xs })) ≡ M.function t (M.values (plains xs))
plain_function t kept xs = search (rules, the_lemmas)

pub function_goes : (t : Target) (kept : ℕ) (xs : List Value) (f : FnValue) (p : Proper) → f ≡ record { target = t; depth = kept; bound = xs } → p.value ≡ V.Function f → Makes (with_value (M.function t (M.values (plains xs)))) (R.Value p)
function_goes t kept xs f p e q = value_goes (M.function t (M.values (plains xs))) p (ap plain q ∙ ap (λ g. plain (V.Function g)) e ∙ plain_function t kept xs)

pub function_deep : (t : Target) (xs : List Value) (m : Made) → m ≡ R.Thrown E.Depth → 255 < D.depth_of_all xs → Makes (with_value (M.function t (M.values (plains xs)))) m
function_deep t xs m e d = deep_goes (M.function t (M.values (plains xs))) m e (omega (arith, depths_plain xs, d))

-- ## Before a part

pub plain_cell : (id : ℕ) → plain (V.Cell id) ≡ M.cell id
plain_cell id = search (rules, the_lemmas)

pub first_goes : (x : Value) (id : ℕ) (p : Proper) → plain p.value ≡ M.cons (plain x & M.no_values) (plain (V.Cell id)) → Makes (with_value (M.cons (plain x & M.no_values) (M.cell id))) (R.Value p)
first_goes x id p e = value_goes (M.cons (plain x & M.no_values) (M.cell id)) p (e ∙ ap (λ r. M.cons (plain x & M.no_values) r) (plain_cell id))

pub first_deep : (x : Value) (id : ℕ) (m : Made) → m ≡ R.Thrown E.Depth → 255 < D.depth x → Makes (with_value (M.cons (plain x & M.no_values) (M.cell id))) m
first_deep x id m e d = deep_goes (M.cons (plain x & M.no_values) (M.cell id)) m e (omega (arith, depth_agrees x, d))

chunk_items : (xs : List Value) (r : M.Value ℕ) → 0 < length xs → with_items (M.values (plains xs)) r ≡ M.chunk (M.values (plains xs)) r
chunk_items [] r b = absurd (omega arith)
chunk_items (x ∷ xs) r b = refl

no_items : (xs : List Value) (r : M.Value ℕ) → length xs ≡ 0 → with_items (M.values (plains xs)) r ≡ r
no_items [] r b = refl
no_items (x ∷ xs) r b = absurd cc

pub items_none : (xs : List Value) (id : ℕ) (p : Proper) → length xs ≡ 0 → plain p.value ≡ M.cell id → Makes (with_value (with_items (M.values (plains xs)) (M.cell id))) (R.Value p)
items_none xs id p b e = value_goes (with_items (M.values (plains xs)) (M.cell id)) p (e ∙ sym (no_items xs (M.cell id) b))

pub items_goes : (xs : List Value) (id : ℕ) (p : Proper) → 0 < length xs → plain p.value ≡ M.chunk (M.values (plains xs)) (plain (V.Cell id)) → Makes (with_value (with_items (M.values (plains xs)) (M.cell id))) (R.Value p)
items_goes xs id p b e = value_goes (with_items (M.values (plains xs)) (M.cell id)) p (e ∙ ap (λ r. M.chunk (M.values (plains xs)) r) (plain_cell id) ∙ sym (chunk_items xs (M.cell id) b))

pub items_deep : (xs : List Value) (id : ℕ) (m : Made) → 0 < length xs → m ≡ R.Thrown E.Depth → 255 < D.depth_of_all xs → Makes (with_value (with_items (M.values (plains xs)) (M.cell id))) m
items_deep xs id m b e d =
    let c : depth (with_items (M.values (plains xs)) (M.cell id)) ≡ suc (max (depths (M.values (plains xs))) 0) = ap depth (chunk_items xs (M.cell id) b) in
    deep_goes (with_items (M.values (plains xs)) (M.cell id)) m e (omega (arith, c, depths_plain xs, d))

pub end_goes : (xs : List Value) (p : Proper) → plain p.value ≡ M.chunk (M.values (plains xs)) (plain (V.Node N.Empty)) → Makes (with_value (M.chunk (M.values (plains xs)) M.empty)) (R.Value p)
end_goes xs p e = value_goes (M.chunk (M.values (plains xs)) M.empty) p (e ∙ ap (λ r. M.chunk (M.values (plains xs)) r) plain_empty)

pub end_deep : (xs : List Value) (m : Made) → m ≡ R.Thrown E.Depth → 255 < D.depth_of_all xs → Makes (with_value (M.chunk (M.values (plains xs)) M.empty)) m
end_deep xs m e d = deep_goes (M.chunk (M.values (plains xs)) M.empty) m e (omega (arith, depths_plain xs, d))

-- ## Lists

list_some : (ys : List (M.Value ℕ)) → 0 < length ys → list_of ys ≡ M.cons (M.values (reverse ys)) M.nil
list_some [] b = absurd (omega arith)
list_some (y ∷ ys) b = refl

list_turned_round : (xs : List (M.Value ℕ)) → 0 < length xs → list_of (reverse xs) ≡ M.cons (M.values xs) M.nil
list_turned_round xs b = list_some (reverse xs) (omega (arith, length-reverse xs)) ∙ ap (λ ys. M.cons (M.values ys) M.nil) (reverse-reverse xs)

list_of_plains : (hs : List Value) → 0 < length hs → list_of (reverse (plains hs)) ≡ M.cons (M.values (plains hs)) M.nil
list_of_plains hs b = list_turned_round (plains hs) (omega (arith, length-map hs plain))

pub heads_none : (hs : List Value) (p : Proper) → length hs ≡ 0 → plain p.value ≡ M.empty → Makes (with_value (list_of (reverse (plains hs)))) (R.Value p)
heads_none [] p b e = value_goes M.empty p e
heads_none (h ∷ hs) p b e = absurd cc

pub heads_goes : (hs : List Value) (p : Proper) → 0 < length hs → plain p.value ≡ M.cons (M.values (plains hs)) M.nil → Makes (with_value (list_of (reverse (plains hs)))) (R.Value p)
heads_goes hs p b e = value_goes (list_of (reverse (plains hs))) p (e ∙ sym (list_of_plains hs b))

pub heads_deep : (hs : List Value) (m : Made) → 0 < length hs → m ≡ R.Thrown E.Depth → 255 < D.depth_of_all hs → Makes (with_value (list_of (reverse (plains hs)))) m
heads_deep hs m b e d =
    let c : depth (list_of (reverse (plains hs))) ≡ suc (max (depths (M.values (plains hs))) 0) = ap depth (list_of_plains hs b) in
    deep_goes (list_of (reverse (plains hs))) m e (omega (arith, c, depths_plain hs, d))

plains_back : (xs : List Value) → plains (reverse xs) ≡ reverse (plains xs)
plains_back [] = refl
plains_back (x ∷ xs) =
    ap plains (reverse-append (x ∷ []) xs)
    ∙ map-append plain (reverse xs) (x ∷ [])
    ∙ ap (λ ys. ys ++ plain x ∷ []) (plains_back xs)
    ∙ sym (reverse-append (plain x ∷ []) (plains xs))

pub list_turned : (ms hs : List Value) (m : Made) → hs ≡ reverse ms → Makes (with_value (list_of (reverse (plains hs)))) m → Makes (with_value (list_of (plains ms))) m
list_turned ms hs m e h =
    let q : reverse (plains hs) ≡ plains ms = ap (λ xs. reverse (plains xs)) e ∙ ap reverse (plains_back ms) ∙ reverse-reverse (plains ms) in
    same_goes (with_value (list_of (reverse (plains hs)))) (with_value (list_of (plains ms))) m (ap (λ xs. with_value (list_of xs)) q) h

-- what holds a value that is too deep is too deep
module _ (l : M.Value ℕ) (id : ℕ) where
  abbrev whole : M.Value ℕ → M.Value ℕ
  whole x = M.cons (x & M.no_values) (M.cell id)

  by_depth : (k : M.Value ℕ → Plan ℕ) (b : Bool) → nat_le (depth l) 256 ≡ b → with_value (whole l) k ≡ with_value l (λ x. with_value (whole x) k)
  by_depth k true e = rw e refl
  by_depth k false e =
      let d : 256 < depth l = grind arith in
      let f : nat_le (suc (max (max (depth l) 0) 0)) 256 ≡ false = not_le _ 256 (omega arith) in
      rw (e, f) refl

  inner : (k : M.Value ℕ → Plan ℕ) → with_value (whole l) k ≡ with_value l (λ x. with_value (whole x) k)
  inner k = by_depth k (nat_le (depth l) 256) refl

  pub list_in : (p : Proper) (m : Made) → Makes (with_value l) (R.Value p) → Makes (with_value (M.cons (plain p.value & M.no_values) (M.cell id))) m → Makes (with_value (M.cons (l & M.no_values) (M.cell id))) m
  list_in p m h g = record { goes = λ k. inner k ∙ h.goes (λ x. with_value (whole x) k) ∙ g.goes k }

  pub list_not : (why : Thrown) → Makes (with_value l) (R.Thrown why) → Makes (with_value (M.cons (l & M.no_values) (M.cell id))) (R.Thrown why)
  list_not why h = record { goes = λ k. inner k ∙ h.goes (λ x. with_value (whole x) k) }

-- ## One more item, and one more head

long_more : (xs : List Value) (x : Value) → length (plains xs ++ plain x ∷ []) ≡ length xs + 1
long_more xs x = length-append (plains xs) (plain x ∷ []) ∙ ap (λ n. n + 1) (length-map xs plain)

plains_more : (xs : List Value) (x : Value) → plains (xs ++ x ∷ []) ≡ plains xs ++ plain x ∷ []
plains_more xs x = map-append plain xs (x ∷ [])

deep_more : (xs : List Value) (x : Value) → depths (M.values (plains xs ++ plain x ∷ [])) ≡ max (D.depth_of_all xs) (max (D.depth x) 0)
deep_more xs x = ap (λ ys. depths (M.values ys)) (sym (plains_more xs x)) ∙ depths_plain (xs ++ x ∷ []) ∙ deepest_joined xs (x ∷ [])

-- given what is made of the members
module _ (xs : List Value) (x : Value) (whole : List (M.Value ℕ) → M.Value ℕ) where
  abbrev with_more : (M.Value ℕ → Plan ℕ) → Plan ℕ
  with_more k = with_members (plains xs ++ plain x ∷ []) (λ ys. with_value (whole ys) k)

  short_more : length xs < 4294967295 → nat_le (length (plains xs ++ plain x ∷ [])) longest ≡ true
  short_more b = is_le _ _ (omega (arith, long_more xs x, b))

  more_goes_by : (p : Proper) → length xs < 4294967295 → plain p.value ≡ whole (plains xs ++ plain x ∷ []) → Makes with_more (R.Value p)
  more_goes_by p b e = record { goes = λ k. rw (short_more b) ((value_goes (whole (plains xs ++ plain x ∷ [])) p e).goes k) }

  more_deep_by : (m : Made) → length xs < 4294967295 → m ≡ R.Thrown E.Depth → 256 < depth (whole (plains xs ++ plain x ∷ [])) → Makes with_more m
  more_deep_by m b e d = record { goes = λ k. rw (short_more b) ((deep_goes (whole (plains xs ++ plain x ∷ [])) m e d).goes k) }

  more_many_by : (m : Made) → 4294967295 ≤ length xs → m ≡ R.Thrown E.Overflow → Makes with_more m
  more_many_by m b e =
      let l : nat_le (length (plains xs ++ plain x ∷ [])) longest ≡ false = not_le _ _ (omega (arith, long_more xs x, b)) in
      record { goes = λ k. rw (e, l) refl }

abbrev a_vector : List (M.Value ℕ) → M.Value ℕ
a_vector ys = M.vector (M.values ys)

pub more_goes : (xs : List Value) (x : Value) (kept : ℕ) (p : Proper) → length xs < 4294967295 → p.value ≡ V.Vector kept (xs ++ x ∷ []) → Makes (λ k. with_members (plains xs ++ plain x ∷ []) (λ ys. with_value (M.vector (M.values ys)) k)) (R.Value p)
more_goes xs x kept p b e = more_goes_by xs x a_vector p b (ap plain e ∙ plain_vector kept (xs ++ x ∷ []) ∙ ap a_vector (plains_more xs x))

pub more_deep : (xs : List Value) (x : Value) (m : Made) → length xs < 4294967295 → m ≡ R.Thrown E.Depth → 255 < D.depth x → Makes (λ k. with_members (plains xs ++ plain x ∷ []) (λ ys. with_value (M.vector (M.values ys)) k)) m
more_deep xs x m b e d = more_deep_by xs x a_vector m b e (omega (arith, deep_more xs x, d))

pub more_many : (xs : List Value) (x : Value) (m : Made) → 4294967295 ≤ length xs → m ≡ R.Thrown E.Overflow → Makes (λ k. with_members (plains xs ++ plain x ∷ []) (λ ys. with_value (M.vector (M.values ys)) k)) m
more_many xs x m b e = more_many_by xs x a_vector m b e

module _ (hs : List Value) (r x : Value) where
  abbrev a_cons : List (M.Value ℕ) → M.Value ℕ
  a_cons ys = M.cons (M.values ys) (plain r)

  put_same : (λ k. with_members (plains hs ++ plain x ∷ []) (λ ys. with_value (a_cons ys) k)) ≡ put_before (plain x) (M.cons (M.values (plains hs)) (plain r))
  put_same = ap (λ zs k. with_members (zs ++ plain x ∷ []) (λ ys. with_value (a_cons ys) k)) (sym (list_values (plains hs)))

  pub head_goes : (kept : ℕ) (p : Proper) → length hs < 4294967295 → p.value ≡ V.Node (N.Cons kept (hs ++ x ∷ []) r) → Makes (put_before (plain x) (M.cons (M.values (plains hs)) (plain r))) (R.Value p)
  head_goes kept p b e = same_goes _ (put_before (plain x) (M.cons (M.values (plains hs)) (plain r))) (R.Value p) put_same (more_goes_by hs x a_cons p b (ap plain e ∙ plain_cons kept (hs ++ x ∷ []) r ∙ ap a_cons (plains_more hs x)))

  pub head_deep : (m : Made) → length hs < 4294967295 → m ≡ R.Thrown E.Depth → 255 < D.depth x → Makes (put_before (plain x) (M.cons (M.values (plains hs)) (plain r))) m
  head_deep m b e d = same_goes _ (put_before (plain x) (M.cons (M.values (plains hs)) (plain r))) m put_same (more_deep_by hs x a_cons m b e (omega (arith, deep_more hs x, d)))

  pub head_many : (m : Made) → 4294967295 ≤ length hs → m ≡ R.Thrown E.Overflow → Makes (put_before (plain x) (M.cons (M.values (plains hs)) (plain r))) m
  head_many m b e = same_goes _ (put_before (plain x) (M.cons (M.values (plains hs)) (plain r))) m put_same (more_many_by hs x a_cons m b e)

-- ## Before a rest

pub rest_deep_first : (x r : Value) (m : Made) → m ≡ R.Thrown E.Depth → 255 < D.depth x → Makes (with_value (M.cons (plain x & M.no_values) (plain r))) m
rest_deep_first x r m e d = deep_goes (M.cons (plain x & M.no_values) (plain r)) m e (omega (arith, depth_agrees x, d))

pub rest_deep_rest : (x r : Value) (m : Made) → m ≡ R.Thrown E.Depth → 255 < D.depth r → Makes (with_value (M.cons (plain x & M.no_values) (plain r))) m
rest_deep_rest x r m e d = deep_goes (M.cons (plain x & M.no_values) (plain r)) m e (omega (arith, depth_agrees r, d))

-- the element goes before what the value of the code stands for
module _ (x : M.Value ℕ) (m : Made) where
  abbrev Before : M.Value ℕ → Type 0
  Before r = Makes (with_value (M.cons (x & M.no_values) r)) m

  abbrev First : M.Value ℕ → Type 0
  First s = Makes (with_first x s) m

  moved : (r s : M.Value ℕ) → r ≡ s → (Before s → First s) → Before r → First r
  moved r s e f h = subst First (sym e) (f (subst Before e h))

  plain_nil : plain V.Nil ≡ M.nil
  plain_nil = search (rules, the_lemmas)

  pub before_nil : Before (plain V.Nil) → First (plain V.Nil)
  before_nil h = moved (plain V.Nil) M.nil plain_nil (λ g. g) h

  pub before_cell : (id : ℕ) → Before (plain (V.Cell id)) → First (plain (V.Cell id))
  before_cell id h = moved (plain (V.Cell id)) (M.cell id) (plain_cell id) (λ g. g) h

  pub before_empty : Before (plain (V.Node N.Empty)) → First (plain (V.Node N.Empty))
  before_empty h = moved (plain (V.Node N.Empty)) M.empty plain_empty (λ g. g) h

  pub before_chunk : (kept : ℕ) (ys : List Value) (r : Value) → Before (plain (V.Node (N.Chunk kept ys r))) → First (plain (V.Node (N.Chunk kept ys r)))
  before_chunk kept ys r h = moved _ (M.chunk (M.values (plains ys)) (plain r)) (plain_chunk kept ys r) (λ g. g) h

  pub before_range : (from at end : ℤ) → Before (plain (V.Node (N.Range from at end))) → First (plain (V.Node (N.Range from at end)))
  before_range from at end h = moved _ (M.range from at end) (plain_range from at end) (λ g. g) h

  pub before_vec_seq : (kept : ℕ) (ys : List Value) (at : ℕ) → Before (plain (V.Node (N.VecSeq kept ys at))) → First (plain (V.Node (N.VecSeq kept ys at)))
  before_vec_seq kept ys at h = moved _ (M.vec_seq (M.values (plains ys)) at) (plain_vec_seq kept ys at) (λ g. g) h

  pub before_cons : (kept : ℕ) (ys : List Value) (r : Value) → Makes (put_before x (M.cons (M.values (plains ys)) (plain r))) m → First (plain (V.Node (N.Cons kept ys r)))
  before_cons kept ys r h = subst First (sym (plain_cons kept ys r)) h

  some_items : (ys : List Value) → 0 < length ys → Before (M.vec_seq (M.values (plains ys)) 0) → First (M.vector (M.values (plains ys)))
  some_items [] b h = absurd (omega arith)
  some_items (y ∷ ys) b h = h

  pub before_items : (kept : ℕ) (ys : List Value) → 0 < length ys → Before (plain (V.Node (N.VecSeq kept ys 0))) → First (plain (V.Vector kept ys))
  before_items kept ys b h = subst First (sym (plain_vector kept ys)) (some_items ys b (subst Before (plain_vec_seq kept ys 0) h))

  pub before_no_items : (kept : ℕ) (ys : List Value) → length ys ≡ 0 → Before (plain V.Nil) → First (plain (V.Vector kept ys))
  before_no_items kept [] b h = subst First (sym (plain_vector kept [])) (subst Before plain_nil h)
  before_no_items kept (y ∷ ys) b h = absurd cc

  -- what is no sequence
  abbrev Wrong : M.Value ℕ → Type 0
  Wrong s = (k : M.Value ℕ → Plan ℕ) → with_first x s k ≡ throw E.BadType

  wrong : (v s : M.Value ℕ) → v ≡ s → Wrong s → m ≡ R.Thrown E.BadType → First v
  wrong v s e w t = record { goes = λ k. subst Wrong (sym e) w k ∙ sym (ap (λ n. made n k) t) }

  pub before_bool : (b : Bool) → m ≡ R.Thrown E.BadType → First (plain (V.Bool b))
  before_bool b t = wrong (plain (V.Bool b)) (M.bool b) (search (rules, the_lemmas)) (λ k. refl) t

  pub before_int : (n : ℤ) → m ≡ R.Thrown E.BadType → First (plain (V.Int n))
  before_int n t = wrong (plain (V.Int n)) (M.int n) (search (rules, the_lemmas)) (λ k. refl) t

  pub before_keyword : (name : List ℕ) → m ≡ R.Thrown E.BadType → First (plain (V.Keyword name))
  before_keyword name t = wrong (plain (V.Keyword name)) (M.keyword name) (search (rules, the_lemmas)) (λ k. refl) t

  pub before_text : (bytes : List ℕ) → m ≡ R.Thrown E.BadType → First (plain (V.Text bytes))
  before_text bytes t = wrong (plain (V.Text bytes)) (M.text bytes) (search (rules, the_lemmas)) (λ k. refl) t

  pub before_function : (f : FnValue) → m ≡ R.Thrown E.BadType → First (plain (V.Function f))
  before_function f t = wrong (plain (V.Function f)) (M.function f.target (M.values (plains f.bound))) (plain_function f.target f.depth f.bound) (λ k. refl) t

  plain_reduced : (kept : ℕ) (held : Value) → plain (V.Reduced kept held) ≡ M.reduced (plain held)
  plain_reduced kept held = search (rules, the_lemmas)

  pub before_reduced : (kept : ℕ) (held : Value) → m ≡ R.Thrown E.BadType → First (plain (V.Reduced kept held))
  before_reduced kept held t = wrong (plain (V.Reduced kept held)) (M.reduced (plain held)) (plain_reduced kept held) (λ k. refl) t
