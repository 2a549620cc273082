-- Values that are the same but for names are alike.
use Rattle.std.proofs.Common.{◌≡◌, refl, ap, ◌∙◌, ℕ}
use Rattle.seq_values.specs.Model.{Value, nil, Values}
use Rattle.clj_script.specs.Trees.{Program}
use Rattle.seq_plan.specs.Plan.{Rules}
use Rattle.seq_plan.specs.Alike.{Likeness, Like, like_nil, like_bool, like_int, like_keyword, like_text, like_reduced, like_function, like_cell, LikeAll, like_none, like_more, LikeRules}
use Rattle.seq_plan.proofs.AlikeNodes.{like-first_of, like-rest_of, like-found}
use Rattle.seq_meaning.specs.Names.{Name}
use Rattle.seq_table.specs.World.{World, names_world, Read, cut, done, ◌▸◌, IsWide, wide_cut, wide_done, wide_more, Begins, not_read, asked, at_end, element, elements}
use Rattle.seq_table.specs.Same.{Same}
use Rattle.seq_table.specs.Plains.{Plain, plain_function, plain_reduced, plain_list, Plains, ◌then◌, PlainOf, of_nil, of_bool, of_int, of_keyword, of_text, of_reduced, of_function, of_list, of_deep, of_cell, PlainAll, all_none, all_more, PlainRead, read_cut, read_done, read_more}
use Rattle.seq_table.proofs.SameCells.{shows_alike}
use Rattle.seq_table.proofs.OneCall.{both_now, both_ask, one_kind, other_kind}

pub data LikeRead (R : Likeness Name Name) : Read Name → Read Name → Type 0 where
  like_cut : LikeRead R cut cut
  like_done : LikeRead R done done
  like_read : {x y : Value Name} {l m : Read Name} → Like R x y → LikeRead R l m → LikeRead R (x ▸ l) (y ▸ m)

module _ (rules : Rules Name) (program : Program) (limit : ℕ) (renames : (R : Likeness Name Name) → LikeRules R rules rules) where
  abbrev w : World Name
  w = names_world rules program limit

  abbrev S : Likeness Name Name
  S = Same rules program limit

  pub nil_only : {R : Likeness Name Name} {s : Value Name} → Like R nil s → s ≡ nil
  nil_only like_nil = refl

  pub nil_left : {R : Likeness Name Name} {s : Value Name} → Like R s nil → s ≡ nil
  nil_left like_nil = refl

  -- like values show like elements
  pub begins_alike : {v : Value Name} {l : Read Name} → Begins w v l → {u : Value Name} {l' : Read Name} {m : ℕ} → Begins w u l' → Like S v u → IsWide m l → IsWide m l' → LikeRead S l l'
  begins_alike (asked q g b) (asked q' g' b') h x x' = begins_alike b b' (shows_alike rules program limit renames (both_ask rules program limit renames (like-found h) q q') g g') x x'
  begins_alike (asked q g b) (at_end q') h x x' = absurd (other_kind rules program limit renames (like-found h) q q')
  begins_alike (asked q g b) (element q' n b') h x x' = absurd (other_kind rules program limit renames (like-found h) q q')
  begins_alike (asked q g b) not_read h wide_cut x' = like_cut
  begins_alike (asked q g b) not_read h wide_done x' = elim x' [ ]
  begins_alike (asked q g b) not_read h (wide_more x) x' = elim x' [ ]
  begins_alike not_read b' h wide_cut wide_cut = like_cut
  begins_alike (at_end q) (at_end q') h x x' = like_done
  begins_alike (at_end q) (element q' n b) h x x' = absurd (n (nil_only (both_now rules program limit renames (like-found h) q q')))
  begins_alike (at_end q) (asked q' g b) h x x' = absurd (one_kind rules program limit renames (like-found h) q q')
  begins_alike (at_end q) not_read h wide_done x' = elim x' [ ]
  begins_alike (element q n b) (at_end q') h x x' = absurd (n (nil_left (both_now rules program limit renames (like-found h) q q')))
  begins_alike (element q n b) (element q' n' b') h (wide_more x) (wide_more x') = let k = both_now rules program limit renames (like-found h) q q' in like_read (like-first_of k) (begins_alike b b' (like-rest_of k) x x')
  begins_alike (element q n b) (asked q' g b') h x x' = absurd (one_kind rules program limit renames (like-found h) q q')
  begins_alike (element q n b) not_read h (wide_more x) x' = elim x' [ ]

  mutual
    pub plain_alike : {m d : ℕ} {v : Value Name} {p : Plain} → PlainOf w m d v p → {u : Value Name} {q : Plain} → PlainOf w m d u q → Like S v u → p ≡ q
    plain_alike of_nil of_nil like_nil = refl
    plain_alike of_nil (of_list s e k) like_nil = elim s [ ]
    plain_alike of_nil (of_deep s) like_nil = elim s [ ]
    plain_alike (of_list s e k) of_nil like_nil = elim s [ ]
    plain_alike (of_deep s) of_nil like_nil = elim s [ ]
    plain_alike of_bool of_bool like_bool = refl
    plain_alike of_bool (of_list s e k) like_bool = elim s [ ]
    plain_alike of_bool (of_deep s) like_bool = elim s [ ]
    plain_alike (of_list s e k) of_bool like_bool = elim s [ ]
    plain_alike (of_deep s) of_bool like_bool = elim s [ ]
    plain_alike of_int of_int like_int = refl
    plain_alike of_int (of_list s e k) like_int = elim s [ ]
    plain_alike of_int (of_deep s) like_int = elim s [ ]
    plain_alike (of_list s e k) of_int like_int = elim s [ ]
    plain_alike (of_deep s) of_int like_int = elim s [ ]
    plain_alike of_keyword of_keyword like_keyword = refl
    plain_alike of_keyword (of_list s e k) like_keyword = elim s [ ]
    plain_alike of_keyword (of_deep s) like_keyword = elim s [ ]
    plain_alike (of_list s e k) of_keyword like_keyword = elim s [ ]
    plain_alike (of_deep s) of_keyword like_keyword = elim s [ ]
    plain_alike of_text of_text like_text = refl
    plain_alike of_text (of_list s e k) like_text = elim s [ ]
    plain_alike of_text (of_deep s) like_text = elim s [ ]
    plain_alike (of_list s e k) of_text like_text = elim s [ ]
    plain_alike (of_deep s) of_text like_text = elim s [ ]
    plain_alike (of_reduced a) (of_reduced b) (like_reduced h) = ap plain_reduced (plain_alike a b h)
    plain_alike (of_reduced a) (of_list s e k) (like_reduced h) = elim s [ ]
    plain_alike (of_reduced a) (of_deep s) (like_reduced h) = elim s [ ]
    plain_alike (of_list s e k) (of_reduced b) (like_reduced h) = elim s [ ]
    plain_alike (of_deep s) (of_reduced b) (like_reduced h) = elim s [ ]
    plain_alike (of_function {t = t} a) (of_function b) (like_function h) = ap (plain_function t) (all_alike a b h)
    plain_alike (of_function a) (of_list s e k) (like_function h) = elim s [ ]
    plain_alike (of_function a) (of_deep s) (like_function h) = elim s [ ]
    plain_alike (of_list s e k) (of_function b) (like_function h) = elim s [ ]
    plain_alike (of_deep s) (of_function b) (like_function h) = elim s [ ]
    plain_alike (of_list s (elements b x) k) (of_list s' (elements b' x') k') h = ap plain_list (read_alike k k' (begins_alike b b' h x x'))
    plain_alike (of_deep s) (of_deep s') h = refl
    plain_alike of_nil of_bool h = elim h [ ]
    plain_alike of_nil of_int h = elim h [ ]
    plain_alike of_nil of_keyword h = elim h [ ]
    plain_alike of_nil of_text h = elim h [ ]
    plain_alike of_nil (of_reduced b) h = elim h [ ]
    plain_alike of_nil (of_function b) h = elim h [ ]
    plain_alike of_bool of_nil h = elim h [ ]
    plain_alike of_bool of_int h = elim h [ ]
    plain_alike of_bool of_keyword h = elim h [ ]
    plain_alike of_bool of_text h = elim h [ ]
    plain_alike of_bool (of_reduced b) h = elim h [ ]
    plain_alike of_bool (of_function b) h = elim h [ ]
    plain_alike of_int of_nil h = elim h [ ]
    plain_alike of_int of_bool h = elim h [ ]
    plain_alike of_int of_keyword h = elim h [ ]
    plain_alike of_int of_text h = elim h [ ]
    plain_alike of_int (of_reduced b) h = elim h [ ]
    plain_alike of_int (of_function b) h = elim h [ ]
    plain_alike of_keyword of_nil h = elim h [ ]
    plain_alike of_keyword of_bool h = elim h [ ]
    plain_alike of_keyword of_int h = elim h [ ]
    plain_alike of_keyword of_text h = elim h [ ]
    plain_alike of_keyword (of_reduced b) h = elim h [ ]
    plain_alike of_keyword (of_function b) h = elim h [ ]
    plain_alike of_text of_nil h = elim h [ ]
    plain_alike of_text of_bool h = elim h [ ]
    plain_alike of_text of_int h = elim h [ ]
    plain_alike of_text of_keyword h = elim h [ ]
    plain_alike of_text (of_reduced b) h = elim h [ ]
    plain_alike of_text (of_function b) h = elim h [ ]
    plain_alike (of_reduced a) of_nil h = elim h [ ]
    plain_alike (of_reduced a) of_bool h = elim h [ ]
    plain_alike (of_reduced a) of_int h = elim h [ ]
    plain_alike (of_reduced a) of_keyword h = elim h [ ]
    plain_alike (of_reduced a) of_text h = elim h [ ]
    plain_alike (of_reduced a) (of_function b) h = elim h [ ]
    plain_alike (of_function a) of_nil h = elim h [ ]
    plain_alike (of_function a) of_bool h = elim h [ ]
    plain_alike (of_function a) of_int h = elim h [ ]
    plain_alike (of_function a) of_keyword h = elim h [ ]
    plain_alike (of_function a) of_text h = elim h [ ]
    plain_alike (of_function a) (of_reduced b) h = elim h [ ]
    plain_alike (of_cell g a) (of_cell g' b) (like_cell k) = plain_alike a b (shows_alike rules program limit renames k g g')
    plain_alike (of_cell g a) (of_list s e k) (like_cell h) = elim s [ ]
    plain_alike (of_cell g a) (of_deep s) (like_cell h) = elim s [ ]
    plain_alike (of_list s e k) (of_cell g b) (like_cell h) = elim s [ ]
    plain_alike (of_deep s) (of_cell g b) (like_cell h) = elim s [ ]
    plain_alike (of_cell g a) of_nil h = elim h [ ]
    plain_alike (of_cell g a) of_bool h = elim h [ ]
    plain_alike (of_cell g a) of_int h = elim h [ ]
    plain_alike (of_cell g a) of_keyword h = elim h [ ]
    plain_alike (of_cell g a) of_text h = elim h [ ]
    plain_alike (of_cell g a) (of_reduced b) h = elim h [ ]
    plain_alike (of_cell g a) (of_function b) h = elim h [ ]
    plain_alike of_nil (of_cell g b) h = elim h [ ]
    plain_alike of_bool (of_cell g b) h = elim h [ ]
    plain_alike of_int (of_cell g b) h = elim h [ ]
    plain_alike of_keyword (of_cell g b) h = elim h [ ]
    plain_alike of_text (of_cell g b) h = elim h [ ]
    plain_alike (of_reduced a) (of_cell g b) h = elim h [ ]
    plain_alike (of_function a) (of_cell g b) h = elim h [ ]

    all_alike : {m d : ℕ} {xs : Values Name} {ps : Plains} → PlainAll w m d xs ps → {ys : Values Name} {qs : Plains} → PlainAll w m d ys qs → LikeAll S xs ys → ps ≡ qs
    all_alike all_none all_none like_none = refl
    all_alike (all_more {p = p} {ps = ps} a as') (all_more {p = q} {ps = qs} b bs) (like_more h k) = ap (λ r. r then ps) (plain_alike a b h) ∙ ap (λ r. q then r) (all_alike as' bs k)
    all_alike all_none (all_more b bs) h = elim h [ ]
    all_alike (all_more a as') all_none h = elim h [ ]

    read_alike : {m d : ℕ} {l : Read Name} {ps : Plains} → PlainRead w m d l ps → {l' : Read Name} {qs : Plains} → PlainRead w m d l' qs → LikeRead S l l' → ps ≡ qs
    read_alike read_cut read_cut like_cut = refl
    read_alike read_done read_done like_done = refl
    read_alike (read_more {p = p} {ps = ps} a as') (read_more {p = q} {ps = qs} b bs) (like_read h k) = ap (λ r. r then ps) (plain_alike a b h) ∙ ap (λ r. q then r) (read_alike as' bs k)
    read_alike read_cut read_done h = elim h [ ]
    read_alike read_cut (read_more b bs) h = elim h [ ]
    read_alike read_done read_cut h = elim h [ ]
    read_alike read_done (read_more b bs) h = elim h [ ]
    read_alike (read_more a as') read_cut h = elim h [ ]
    read_alike (read_more a as') read_done h = elim h [ ]

  pub like_is_alike : (y z : Value Name) → Like S y z → (m : ℕ) (p q : Plain) → PlainOf w m m y p → PlainOf w m m z q → p ≡ q
  like_is_alike y z h m p q a b = plain_alike a b h
