-- The forms that the compiler keeps in a row.
use Rattle.std.proofs.Common.{◌≡◌, ℕ, ◌+◌, ◌<◌, List, [], ◌∷◌, ◌++◌, length, refl, sym, ◌∙◌, ap, subst, arith, map, take, zero, suc, Some, get_or, slice_index_or, length-append, append_assoc, append-nil}
use Rattle.clj_script.specs.declared.source.Entry.{Entry}
use Rattle.clj_script.specs.Sources.{Source}
use Rattle.clj_script.specs.Arena.{at, AllBelow, trees_behind, LowerFrom}
use Rattle.clj_reader.specs.declared.place.Place.{Place}
use Rattle.clj_script.specs.declared.source.Content.{Content}
use Rattle.clj_script.specs.declared.source.Content.TheVariants as content
use Rattle.clj_script.specs.Sources.{round, square, sources, listed, in_round, in_square, source_of, sources_of}
use Rattle.clj_reader.specs.declared.form.Form.{Form}
use Rattle.std.specs.Prelude.{slice_get}
use Rattle.clj_script.specs.Entries.{no_form, form_with, form_over, parts_of, parts_of_content, forms_of, form_at, IsLower, IsAdded, AreAdded, IsContent}
use Rattle.std.specs.declared.vec.Vec.{Vec}
use Rattle.std.specs.declared.alloc.Global.{Global}
use Rattle.clj_script.proofs.ArenaLemmas.{at-last, at-kept, all_at-kept, below_more, below_both, trees_behind-append, trees_behind-join, trees_keep, trees-length, lower_more, no_item, read_behind, Keeps}

-- one more entry at the end
pub added : (old new : List Entry) (e : Entry) (n : ℕ) → IsLower old → AllBelow (length old) (parts_of e) → new ≡ old ++ e ∷ [] → n ≡ length old → IsAdded old new n (form_over (forms_of old) e)
unfolding forms_of IsLower
added old new e n l b f g = record {
  more = e ∷ [];
  grown = f;
  lower = subst (λ (es : List Entry). LowerFrom parts_of 0 es) (sym f) (lower_more parts_of 0 old e l (subst (λ (m : ℕ). AllBelow m (parts_of e)) (omega arith) b));
  below = omega (arith, ap length f, length-append old (e ∷ []));
  stands =
      let h : trees_behind form_over [] (old ++ e ∷ []) ≡ trees_behind form_over [] old ++ form_over (trees_behind form_over [] old) e ∷ [] = trees_behind-append form_over parts_of [] old e in
      let k : length (trees_behind form_over [] old) ≡ 0 + length old = trees-length form_over parts_of [] old in
      rw (f, h) (at-last no_form (trees_behind form_over [] old) (form_over (trees_behind form_over [] old) e) n (omega (arith, g, k)));
}

forms-length : (es : List Entry) → length (forms_of es) ≡ length es
unfolding forms_of
forms-length es =
    let k : length (trees_behind form_over [] es) ≡ 0 + length es = trees-length form_over parts_of [] es in
    omega (arith, k)

-- forms that come later leave the forms so far
forms_keep : (es fs : List Entry) → Keeps form_over parts_of (forms_of es) (forms_of (es ++ fs))
unfolding forms_of
forms_keep es fs =
    let k : Keeps form_over parts_of (trees_behind form_over [] es) (trees_behind form_over (trees_behind form_over [] es) fs) = trees_keep form_over parts_of (trees_behind form_over [] es) fs in
    subst (λ (us : List Source). Keeps form_over parts_of (trees_behind form_over [] es) us) (sym (trees_behind-join form_over parts_of [] es fs)) k

pub form_at-kept : (es fs : List Entry) (n : ℕ) → n < length es → form_at (es ++ fs) n ≡ form_at es n
form_at-kept es fs n h =
    let k : Keeps form_over parts_of (forms_of es) (forms_of (es ++ fs)) = forms_keep es fs in
    ap (λ (us : List Source). at no_form us n) k.kept ∙ at-kept no_form (forms_of es) k.more n (omega (arith, forms-length es))

pub all_form_at-kept : (es fs : List Entry) (ns : List ℕ) → AllBelow (length es) ns → map (form_at (es ++ fs)) ns ≡ map (form_at es) ns
all_form_at-kept es fs ns h =
    let k : Keeps form_over parts_of (forms_of es) (forms_of (es ++ fs)) = forms_keep es fs in
    ap (λ (us : List Source). map (at no_form us) ns) k.kept ∙ all_at-kept no_form (forms_of es) k.more ns (below_more (length es) (length (forms_of es)) ns (omega (arith, forms-length es)) h)

-- no number
pub none_added : (old : List Entry) → IsLower old → AreAdded old old [] []
none_added old l = record { more = []; grown = sym (append-nil old); lower = l; below = tt; stand = refl }

pub map-one : {X Y : Type 0} (f : X → Y) (xs : List X) (x : X) → map f (xs ++ x ∷ []) ≡ map f xs ++ f x ∷ []
map-one f [] x = refl
map-one f (y ∷ xs) x = ap (λ ys. f y ∷ ys) (map-one f xs x)

-- one number more
pub one_more_added : (old mid new : List Entry) (ns : List ℕ) (n : ℕ) (ss : List Source) (s : Source) → AreAdded old mid ns ss → IsAdded mid new n s → AreAdded old new (ns ++ n ∷ []) (ss ++ s ∷ [])
one_more_added old mid new ns n ss s a b =
    let g : new ≡ old ++ (a.more ++ b.more) = b.grown ∙ ap (λ (es : List Entry). es ++ b.more) a.grown ∙ append_assoc old a.more b.more in
    let l : length new ≡ length mid + length b.more = ap length b.grown ∙ length-append mid b.more in
    let k : map (form_at new) ns ≡ map (form_at mid) ns = ap (λ (es : List Entry). map (form_at es) ns) b.grown ∙ all_form_at-kept mid b.more ns a.below in
    record {
      more = a.more ++ b.more;
      grown = g;
      lower = b.lower;
      below = below_both (length new) ns n (below_more (length mid) (length new) ns (omega (arith, l)) a.below) b.below;
      stand = map-one (form_at new) ns n ∙ ap (λ (us : List Source). us ++ form_at new n ∷ []) (k ∙ a.stand) ∙ ap (λ (u : Source). ss ++ u ∷ []) b.stands;
    }

pub take_more : {X : Type 0} (xs : List X) (n : ℕ) (x : X) → slice_get xs n ≡ Some x → take (n + 1) xs ≡ take n xs ++ x ∷ []
take_more [] n x e = absurd (no_item n x e)
take_more (y ∷ ys) zero x e = let f : y ≡ x = (cc) in ap (λ z. z ∷ []) f
take_more (y ∷ ys) (suc n) x e =
    let h : take (n + 1) ys ≡ take n ys ++ x ∷ [] = take_more ys n x e in
    let k : suc n + 1 ≡ suc (n + 1) = omega arith in
    rw k (ap (λ zs. y ∷ zs) h)

-- one form of the reader more
pub one_more_form : (old mid new : List Entry) (ns ms : List ℕ) (n m : ℕ) (forms : List Form) (f : Form) → AreAdded old mid ns (sources_of (take n forms)) → IsAdded mid new m (source_of f) → slice_get forms n ≡ Some f → ms ≡ ns ++ m ∷ [] → AreAdded old new ms (sources_of (take (n + 1) forms))
one_more_form old mid new ns ms n m forms f a b e g =
    let h : take (n + 1) forms ≡ take n forms ++ f ∷ [] = take_more forms n f e in
    rw (g, h, map-one source_of (take n forms) f) (one_more_added old mid new ns m (sources_of (take n forms)) (source_of f) a b)

-- content that holds no form
pub of_nothing : (old : List Entry) (c : Content) (form : Place → Source) → IsLower old → parts_of_content c ≡ [] → ((p : Place) → form_with (forms_of old) p c ≡ form p) → IsContent old old c form
of_nothing old c form l e f = record { more = []; grown = sym (append-nil old); lower = l; below = rw e tt; stands = f }

pub of_list : (old new : List Entry) (ns : Vec ℕ Global) (ss : List Source) → AreAdded old new ns.items ss → IsContent old new (content.List ns) (λ p. round p (sources ss))
of_list old new ns ss a = record { more = a.more; grown = a.grown; lower = a.lower; below = a.below; stands = λ p. ap (λ (us : List Source). round p (sources us)) a.stand }

pub of_vector : (old new : List Entry) (ns : Vec ℕ Global) (ss : List Source) → AreAdded old new ns.items ss → IsContent old new (content.Vector ns) (λ p. square p (sources ss))
of_vector old new ns ss a = record { more = a.more; grown = a.grown; lower = a.lower; below = a.below; stands = λ p. ap (λ (us : List Source). square p (sources us)) a.stand }

-- an entry of such content, once it is added
pub of_content : (old mid new : List Entry) (e : Entry) (form : Place → Source) (n : ℕ) → IsContent old mid e.content form → IsAdded mid new n (form_over (forms_of mid) e) → IsAdded old new n (form e.place)
of_content old mid new e form n c a = record {
  more = c.more ++ a.more;
  grown = a.grown ∙ ap (λ (es : List Entry). es ++ a.more) c.grown ∙ append_assoc old c.more a.more;
  lower = a.lower;
  below = a.below;
  stands = a.stands ∙ c.stands e.place;
}

over_kept : (ts more : List Source) (e : Entry) → AllBelow (length ts) (parts_of e) → form_over (ts ++ more) e ≡ form_over ts e
over_kept ts more e b = with_kept e.place e.content b where
  with_kept : (p : Place) (c : Content) → AllBelow (length ts) (parts_of_content c) → form_with (ts ++ more) p c ≡ form_with ts p c
  with_kept p (content.Literal value) b = refl
  with_kept p (content.Symbol name) b = refl
  with_kept p (content.List items) b = ap (λ (us : List Source). round p (sources us)) (all_at-kept no_form ts more items.items b)
  with_kept p (content.Vector items) b = ap (λ (us : List Source). square p (sources us)) (all_at-kept no_form ts more items.items b)

-- a form by its entry
pub read_entry : (es : List Entry) (n : ℕ) (e : Entry) → IsLower es → slice_get es n ≡ Some e → form_at es n ≡ form_over (forms_of es) e
unfolding forms_of IsLower
read_entry es n e l f =
    let m : n ≡ 0 + n = omega arith in
    ap (λ (k : ℕ). at no_form (trees_behind form_over [] es) k) m ∙ read_behind form_over parts_of no_form over_kept [] es n e l f

parts_from : (k : ℕ) (es : List Entry) (n : ℕ) (e : Entry) → LowerFrom parts_of k es → slice_get es n ≡ Some e → AllBelow (k + length es) (parts_of e)
parts_from k [] n e l f = absurd (no_item n e f)
parts_from k (x ∷ es) zero e l f =
    let g : x ≡ e = (cc) in
    below_more k (k + length (x ∷ es)) (parts_of e) (omega arith) (subst (λ (y : Entry). AllBelow k (parts_of y)) g l.0)
parts_from k (x ∷ es) (suc n) e l f = subst (λ (m : ℕ). AllBelow m (parts_of e)) (omega arith) (parts_from (k + 1) es n e l.1 f)

pub read_parts : (es : List Entry) (n : ℕ) (e : Entry) → IsLower es → slice_get es n ≡ Some e → AllBelow (length es) (parts_of e)
unfolding IsLower
read_parts es n e l f = subst (λ (m : ℕ). AllBelow m (parts_of e)) (omega arith) (parts_from 0 es n e l f)

pub listed_sources : (ss : List Source) → listed (sources ss) ≡ ss
listed_sources [] = refl
listed_sources (s ∷ ss) = ap (λ (us : List Source). s ∷ us) (listed_sources ss)

pub list_items : (es : List Entry) (f : Source) (p : Place) (ns : List ℕ) → f ≡ round p (sources (map (at no_form (forms_of es)) ns)) → in_round f ≡ Some (map (form_at es) ns)
list_items es f p ns e = rw e (ap (λ (us : List Source). Some us) (listed_sources (map (at no_form (forms_of es)) ns)))

pub vector_items : (es : List Entry) (f : Source) (p : Place) (ns : List ℕ) → f ≡ square p (sources (map (at no_form (forms_of es)) ns)) → in_square f ≡ Some (map (form_at es) ns)
vector_items es f p ns e = rw e (ap (λ (us : List Source). Some us) (listed_sources (map (at no_form (forms_of es)) ns)))

pub item_got : {X : Type 0} (xs : List X) (n : ℕ) (x : X) → n < length xs → x ≡ get_or xs n x → slice_get xs n ≡ Some x
item_got [] n x h e = absurd (omega arith)
item_got (y ∷ ys) zero x h e = ap (λ z. Some z) (sym e)
item_got (y ∷ ys) (suc n) x h e = item_got ys n x (omega arith) e

pub number_got : (ns : List ℕ) (i : ℕ) → i < length ns → slice_get ns i ≡ Some (slice_index_or ns i 0)
number_got [] i h = absurd (omega arith)
number_got (n ∷ ns) zero h = refl
number_got (n ∷ ns) (suc i) h = number_got ns i (omega arith)
