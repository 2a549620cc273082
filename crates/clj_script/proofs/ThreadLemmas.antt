-- Threading over forms in a row.
use Rattle.std.proofs.Common.{◌≡◌, ℕ, ◌+◌, ◌<◌, List, [], ◌∷◌, ◌++◌, length, map, Option, Some, None, zero, suc, take, ◌≤◌, refl, sym, ◌∙◌, ap, subst, arith, append_assoc, append-nil, length-append}
use Rattle.std.specs.Prelude.{slice_get}
use Rattle.clj_script.specs.Arena.{AllBelow}
use Rattle.clj_script.proofs.ArenaLemmas.{below_both, no_item}
use Rattle.clj_script.proofs.EntryLemmas.{form_at-kept, take_more, map-one}
use Rattle.std.specs.declared.vec.Vec.{Vec}
use Rattle.std.specs.declared.alloc.Global.{Global}
use Rattle.clj_reader.specs.declared.place.Place.{Place}
use Rattle.clj_script.specs.declared.refusal.ScriptRefusal.{ScriptRefusal}
use Rattle.clj_script.specs.declared.source.Entry.{Entry}
use Rattle.clj_script.specs.declared.source.Content.TheVariants as content
use Rattle.clj_script.specs.declared.thread.Way.{Way}
use Rattle.clj_script.specs.declared.thread.Way.TheVariants.{Second, Last}
use Rattle.clj_script.specs.Refusals.{refusal, earlier, earliest}
use Rattle.clj_script.specs.Sources.{Source, atom, symbol, round, square, sources, place_of, spelling, in_round}
use Rattle.clj_script.specs.Threading.{with_item, step_items, put, step_refusals, written_out, refusals_of_steps}
use Rattle.clj_script.specs.Entries.{form_over, forms_of, form_at, IsLower, IsAdded}

none_some : {X : Type 0} {x : X} → None ≡ Some x → ⊥
none_some e = (cc)

pub items_of_symbol : (s : Source) (name : List ℕ) → spelling s ≡ Some name → step_items s ≡ s ∷ []
items_of_symbol (symbol p n) name e = refl
items_of_symbol (atom p l) name e = absurd (none_some e)
items_of_symbol (round p ss) name e = absurd (none_some e)
items_of_symbol (square p ss) name e = absurd (none_some e)

some_same : {X : Type 0} {x y : X} → Some x ≡ Some y → x ≡ y
some_same e = (cc)

pub items_of_list : (s : Source) (items : List Source) → in_round s ≡ Some items → step_items s ≡ items
items_of_list (round p ss) items e = some_same e
items_of_list (symbol p n) items e = absurd (none_some e)
items_of_list (atom p l) items e = absurd (none_some e)
items_of_list (square p ss) items e = absurd (none_some e)

pub items_of_other : (s : Source) → spelling s ≡ None → in_round s ≡ None → step_items s ≡ []
items_of_other (atom p l) e f = refl
items_of_other (square p ss) e f = refl
items_of_other (symbol p n) e f = absurd (none_some (sym e))
items_of_other (round p ss) e f = absurd (none_some (sym f))

-- a step that takes nothing
pub put_nowhere : (way : Way) (x s : Source) → step_items s ≡ [] → put way x s ≡ x
put_nowhere way x s e = rw e refl

pub refused_nowhere : (least : Option ScriptRefusal) (s : Source) → step_items s ≡ [] → earliest least (step_refusals s) ≡ earlier least (refusal 10 (place_of s))
refused_nowhere least s e = rw e refl

mapped_with : {X Y : Type 0} (f : X → Y) (way : Way) (x : X) (xs : List X) → map f (with_item way x xs) ≡ with_item way (f x) (map f xs)
mapped_with f Second x [] = refl
mapped_with f Second x (y ∷ ys) = refl
mapped_with f Last x [] = refl
mapped_with f Last x (y ∷ ys) = ap (λ zs. f y ∷ zs) (mapped_with f Last x ys)

pub refused_somewhere : (least : Option ScriptRefusal) (s : Source) (f : ℕ → Source) (n : ℕ) (ns : List ℕ) → map f (n ∷ ns) ≡ step_items s → earliest least (step_refusals s) ≡ least
refused_somewhere least s f n ns e = rw (sym e) refl

-- a step that takes what stands so far, as an entry that is added
pub put_somewhere : (old new : List Entry) (p : Place) (v : Vec ℕ Global) (n standing : ℕ) (way : Way) (s : Source) (ns : List ℕ) → IsAdded old new n (form_over (forms_of old) (record { place = p; content = content.List v })) → p ≡ place_of s → v.items ≡ with_item way standing ns → map (form_at old) ns ≡ step_items s → 0 < length ns → IsAdded old new n (put way (form_at old standing) s)
put_somewhere old new p v n standing way s [] a e f g h = absurd (omega arith)
put_somewhere old new p v n standing way s (k ∷ ns) a e f g h =
    let m : map (form_at old) v.items ≡ with_item way (form_at old standing) (map (form_at old) (k ∷ ns)) = ap (map (form_at old)) f ∙ mapped_with (form_at old) way standing (k ∷ ns) in
    let q : round p (sources (map (form_at old) v.items)) ≡ put way (form_at old standing) s = rw (m, e, ← g) refl in
    subst (λ (t : Source). IsAdded old new n t) q a

pub below_with : (m : ℕ) (way : Way) (n : ℕ) (ns ms : List ℕ) → ms ≡ with_item way n ns → n < m → AllBelow m ns → AllBelow m ms
below_with m way n ns ms e h b = rw e (with_way way ns b) where
  with_way : (way : Way) (ns : List ℕ) → AllBelow m ns → AllBelow m (with_item way n ns)
  with_way Second [] b = (h, tt)
  with_way Second (k ∷ ks) b = (b.0, (h, b.1))
  with_way Last ns b = below_both m ns n b h

written_out-more : (way : Way) (x : Source) (ss : List Source) (s : Source) → written_out way x (ss ++ s ∷ []) ≡ put way (written_out way x ss) s
written_out-more way x [] s = refl
written_out-more way x (t ∷ ss) s = written_out-more way (put way x t) ss s

refusals-more : (ss : List Source) (s : Source) → refusals_of_steps (ss ++ s ∷ []) ≡ refusals_of_steps ss ++ step_refusals s
refusals-more [] s = append-nil (step_refusals s)
refusals-more (t ∷ ss) s = ap (λ rs. step_refusals t ++ rs) (refusals-more ss s) ∙ sym (append_assoc (step_refusals t) (refusals_of_steps ss) (step_refusals s))

pub earliest-join : (least : Option ScriptRefusal) (rs ss : List ScriptRefusal) → earliest least (rs ++ ss) ≡ earliest (earliest least rs) ss
earliest-join least [] ss = refl
earliest-join least (r ∷ rs) ss = earliest-join (earlier least r) rs ss

-- these steps were written out, and what was refused of them is taken into account
pub record HasPut (old now : List Entry) (before after : Option ScriptRefusal) (way : Way) (first standing : ℕ) (steps : List ℕ) : Type 0 where
  pub added : IsAdded old now standing (written_out way (form_at old first) (map (form_at old) steps))
  pub refused : after ≡ earliest before (refusals_of_steps (map (form_at old) steps))

pub none_put : (old : List Entry) (least : Option ScriptRefusal) (way : Way) (first : ℕ) → IsLower old → first < length old → HasPut old old least least way first first []
none_put old least way first l h = record { added = record { more = []; grown = sym (append-nil old); lower = l; below = h; stands = refl }; refused = refl }

pub grown-length : (old now more : List Entry) → now ≡ old ++ more → length old ≤ length now
grown-length old now more e = omega (arith, ap length e, length-append old more)

pub below_at : (m : ℕ) (ns : List ℕ) (i k : ℕ) → AllBelow m ns → slice_get ns i ≡ Some k → k < m
below_at m [] i k b e = absurd (no_item i k e)
below_at m (n ∷ ns) zero k b e = let f : n ≡ k = (cc) in subst (λ (j : ℕ). j < m) f b.0
below_at m (n ∷ ns) (suc i) k b e = below_at m ns i k b.1 e

pub one_put : (old mid new : List Entry) (before between after : Option ScriptRefusal) (way : Way) (first standing n i s : ℕ) (steps : List ℕ) → HasPut old mid before between way first standing (take i steps) → AllBelow (length old) steps → slice_get steps i ≡ Some s → IsAdded mid new n (put way (form_at mid standing) (form_at mid s)) → after ≡ earliest between (step_refusals (form_at mid s)) → HasPut old new before after way first n (take (i + 1) steps)
one_put old mid new before between after way first standing n i s steps h b e a r =
    let k : form_at mid s ≡ form_at old s = ap (λ (es : List Entry). form_at es s) h.added.grown ∙ form_at-kept old h.added.more s (below_at (length old) steps i s b e) in
    let t : take (i + 1) steps ≡ take i steps ++ s ∷ [] = take_more steps i s e in
    let u : map (form_at old) (take (i + 1) steps) ≡ map (form_at old) (take i steps) ++ form_at old s ∷ [] = ap (map (form_at old)) t ∙ map-one (form_at old) (take i steps) s in
    let w : put way (form_at mid standing) (form_at mid s) ≡ put way (written_out way (form_at old first) (map (form_at old) (take i steps))) (form_at old s) = ap (λ (x : Source). put way x (form_at mid s)) h.added.stands ∙ ap (λ (x : Source). put way (written_out way (form_at old first) (map (form_at old) (take i steps))) x) k in
    let v : written_out way (form_at old first) (map (form_at old) (take (i + 1) steps)) ≡ put way (written_out way (form_at old first) (map (form_at old) (take i steps))) (form_at old s) = ap (written_out way (form_at old first)) u ∙ written_out-more way (form_at old first) (map (form_at old) (take i steps)) (form_at old s) in
    record {
      added = record {
        more = h.added.more ++ a.more;
        grown = a.grown ∙ ap (λ (es : List Entry). es ++ a.more) h.added.grown ∙ append_assoc old h.added.more a.more;
        lower = a.lower;
        below = a.below;
        stands = a.stands ∙ w ∙ sym v;
      };
      refused = r ∙ ap (λ (x : Source). earliest between (step_refusals x)) k ∙ ap (λ (l : Option ScriptRefusal). earliest l (step_refusals (form_at old s))) h.refused ∙ sym (earliest-join before (refusals_of_steps (map (form_at old) (take i steps))) (step_refusals (form_at old s))) ∙ ap (earliest before) (sym (ap refusals_of_steps u ∙ refusals-more (map (form_at old) (take i steps)) (form_at old s)));
    }
