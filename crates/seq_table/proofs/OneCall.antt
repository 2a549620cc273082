-- What a call comes to is one value but for names.
use Rattle.std.proofs.Common.{◌≡◌, refl, subst, ℕ, List}
use Rattle.seq_values.specs.Model.{Value}
use Rattle.clj_script.specs.Trees.{Program}
use Rattle.seq_plan.specs.Plan.{Plan, Rules}
use Rattle.seq_plan.specs.Nodes.{Found, now, asks_for}
use Rattle.seq_plan.specs.Alike.{Likeness, Like, LikeList, LikePlan, like_visit, like_ask, like_seq, like_call, like_go, like_make, like_give, LikeRules}
use Rattle.seq_meaning.specs.Alike.{LikeScript, like_script}
use Rattle.seq_meaning.specs.Names.{Name}
use Rattle.seq_table.specs.World.{World, names_world, SeqTo, seq_now, seq_asked, Comes, comes_visit, comes_ask, comes_seq, comes_call, comes_go, comes_make, comes_give, CallTo, script_in}
use Rattle.seq_table.specs.Same.{same_cell, Same}
use Rattle.seq_plan.proofs.AlikeNodes.{LikeFound, like_now, like_asks_for, like_no_seq, like-found}
use Rattle.seq_plan.proofs.AlikePlans.{like-plan_of}
use Rattle.seq_meaning.proofs.AlikeWalk.{like-called}
use Rattle.seq_meaning.proofs.Twinned.{like_refl, like_list_refl}
use Rattle.seq_table.proofs.SameCells.{same_parts, shows_alike}

module _ (rules : Rules Name) (program : Program) (limit : ℕ) (renames : (R : Likeness Name Name) → LikeRules R rules rules) where
  abbrev w : World Name
  w = names_world rules program limit

  abbrev S : Likeness Name Name
  S = Same rules program limit

  pub both_now : {f g : Found Name} {s s' : Value Name} → LikeFound S f g → f ≡ now s → g ≡ now s' → Like S s s'
  both_now {s = s} {s' = s'} (like_now {v = v} {w = u} l) p q =
      let a : v ≡ s = cc in
      let b : u ≡ s' = cc in
      subst (λ x. Like S x s') a (subst (λ y. Like S v y) b l)
  both_now (like_asks_for r) p q = absurd cc
  both_now like_no_seq p q = absurd cc

  pub both_ask : {f g : Found Name} {c d : Name} → LikeFound S f g → f ≡ asks_for c → g ≡ asks_for d → S.same c d
  both_ask (like_now l) p q = absurd cc
  both_ask {c = c} {d = d} (like_asks_for {c = c'} {d = d'} r) p q =
      let a : c' ≡ c = cc in
      let b : d' ≡ d = cc in
      subst (λ x. S.same x d) a (subst (λ y. S.same c' y) b r)
  both_ask like_no_seq p q = absurd cc

  pub one_kind : {f g : Found Name} {s : Value Name} {d : Name} → LikeFound S f g → f ≡ now s → g ≡ asks_for d → ⊥
  one_kind (like_now l) p q = absurd cc
  one_kind (like_asks_for r) p q = absurd cc
  one_kind like_no_seq p q = absurd cc

  pub other_kind : {f g : Found Name} {s : Value Name} {d : Name} → LikeFound S f g → f ≡ asks_for d → g ≡ now s → ⊥
  other_kind (like_now l) p q = absurd cc
  other_kind (like_asks_for r) p q = absurd cc
  other_kind like_no_seq p q = absurd cc

  seq_alike : {x s : Value Name} → SeqTo w x s → {y s' : Value Name} → SeqTo w y s' → Like S x y → Like S s s'
  seq_alike (seq_now p) (seq_now q) l = both_now (like-found l) p q
  seq_alike (seq_now p) (seq_asked q g r) l = absurd (one_kind (like-found l) p q)
  seq_alike (seq_asked p g r) (seq_now q) l = absurd (other_kind (like-found l) p q)
  seq_alike (seq_asked p g r) (seq_asked q g' r') l = seq_alike r r' (shows_alike rules program limit renames (both_ask (like-found l) p q) g g')

  pub script_like : {ds es : List (Value Name)} → LikeList S ds es → LikeScript S (script_in w ds) (script_in w es)
  script_like l = like_script {functions = program.functions} {bodies = program.bodies} (renames S) l

  pub like_comes : {ds : List (Value Name)} {p : Plan Name} {v : Value Name} → Comes w ds p v → {es : List (Value Name)} {q : Plan Name} {u : Value Name} → LikePlan S p q → LikeList S ds es → Comes w es q u → Like S v u
  like_comes (comes_visit d) (like_visit h) l (comes_visit d') = like_comes d h l d'
  like_comes (comes_ask g d) (like_ask r h) l (comes_ask g' d') = like_comes d (h _ _ (shows_alike rules program limit renames r g g')) l d'
  like_comes (comes_seq s d) (like_seq x h) l (comes_seq s' d') = like_comes d (h _ _ (seq_alike s s' x)) l d'
  like_comes (comes_call a d) (like_call f xs h) l (comes_call a' d') =
      let y = like_comes a (like-called (script_like l) f xs) l a' in
      like_comes d (h _ _ y) l d'
  like_comes (comes_go a d) (like_go {l = m} xs h) l (comes_go a' d') =
      let y = like_comes a (like-plan_of ((renames S).loops m _ _ xs)) l a' in
      like_comes d (h _ _ y) l d'
  like_comes (comes_make p d) (like_make t h) l (comes_make p' d') = like_comes d (h _ _ (same_parts rules program limit renames p p' l t)) l d'
  like_comes comes_give (like_give h) l comes_give = h

  pub one_call : (ds : List (Value Name)) (f : Value Name) (xs : List (Value Name)) (y z : Value Name) → CallTo w ds f xs y → CallTo w ds f xs z → Like S y z
  one_call ds f xs y z a b =
      let r : LikeList S ds ds = like_list_refl S refl (λ c. (0, same_cell)) ds in
      like_comes a (like-called (script_like r) (like_refl S refl (λ c. (0, same_cell)) f) (like_list_refl S refl (λ c. (0, same_cell)) xs)) r b
