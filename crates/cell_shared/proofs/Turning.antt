-- Each step keeps the rule of a shared book.
use Rattle.std.proofs.Common.{◌≡◌, ◌≢◌, ℕ, zero, suc, ◌+◌, ◌<◌, ◌≤◌, eqb, leb, ◌==◌, Bool, true, false, true≢false, cond, if◌then◌else◌, List, [], ◌∷◌, ◌++◌, length, get_or, set, sym, refl, ap, ◌∙◌, subst, ⊎_elim, ◌⊎◌, inl, inr, arith, rules, le_refl, length-append, Some, None, Option}
use Rattle.std.specs.Prelude.{slice_get, sum_by}
use Rattle.std.proofs.lemmas.List.Sums.{sum_by-set, sum_by_push, sum_by-cons, sum_by-append}
use Rattle.std.proofs.lemmas.Option.{none-some, same_Some, slice_get_within}
use mathlib.Core.Logic.{dite}
use mathlib.Core.Option.{Option as Option', none, some, some-injective, some-ne-none}
use native.Mathlib.Decide.{ℕ_discrete}
use lib.ListN.{get_elem?}
use lib.Seq.{set-get_or}
use prog.Atomic.{either}
use Rattle.atomic_table.specs.Table.{State, keeps as stay, takes as takes_slot, gives, step, put_back, rest, Allows, Splits, Joins, opening}
use Rattle.atomic_table.proofs.Lists.{at_set, set_again, set_here, set_else, at_snoc, at_longer}
use Rattle.cell_book.specs.Account.{Account, opens, begun}
use Rattle.cell_book.specs.Glimpses.{glimpse, Onward}
use Rattle.cell_book.proofs.Lists.{get_longer, get_snoc}
use Rattle.cell_book.proofs.Onwards.{onward_same, onward_then}
use Rattle.cell_shared.specs.Growing.{fresh, times, counted, Grows, Asks, Knows, Turns}
use Rattle.cell_shared.proofs.Growing.{grows_same, grows_further, onward_between}
use Rattle.cell_shared.specs.declared.view.View.{View}
use Rattle.cell_shared.specs.Turning.{resting, noting, both, spent, Fits, AtHome, Away, Kept, Sat, takes, releases, settles, HasTurn}
use Rattle.cell_shared.specs.Known.{Known, Ruled}

-- lists

elem : {A : Type 0} (l : List A) (i : ℕ) (a : A) → get_elem? l i ≡ some a → (i < length l) × (get_or l i a ≡ a)
elem [] i a e = absurd (some-ne-none a (sym e))
elem (x ∷ xs) zero a e = (omega arith, some-injective x a e)
elem (x ∷ xs) (suc i) a e = let t = elem xs i a e in let l = t.0 in (omega arith, t.1)

sum_set : {A : Type 0} (f : A → ℕ) (l : List A) (i : ℕ) (v w : A) → get_elem? l i ≡ some v → sum_by f (set l i w) + f v ≡ sum_by f l + f w
sum_set {A} f l i v w e = let t = elem l i v e in subst (λ (x : A). sum_by f (set l i w) + f x ≡ sum_by f l + f w) t.1 (sum_by-set f l i w v t.0)

sum_part : {A : Type 0} (f : A → ℕ) (l : List A) (i : ℕ) (v : A) → get_elem? l i ≡ some v → f v ≤ sum_by f l
sum_part f [] i v e = absurd (some-ne-none v (sym e))
sum_part f (x ∷ xs) zero v e = let c = sum_by-cons f x xs in let h : f x ≡ f v = ap f (some-injective x v e) in omega arith
sum_part f (x ∷ xs) (suc i) v e = let c = sum_by-cons f x xs in let h = sum_part f xs i v e in omega arith

-- two different views together
sum_two : {A : Type 0} (f : A → ℕ) (l : List A) (i j : ℕ) (v w z : A) → f z ≡ 0 → j ≢ i → get_elem? l i ≡ some v → get_elem? l j ≡ some w → f v + f w ≤ sum_by f l
sum_two f l i j v w z none_of n e g = let s = sum_set f l i v z e in let p = sum_part f (set l i z) j w (set_else l i j z n ∙ g) in omega arith

all_set : {A : Type 0} (F : ℕ → A → Type 0) (l : List A) (i : ℕ) (w : A) → F i w → ((j : ℕ) (u : A) → j ≢ i → get_elem? l j ≡ some u → F j u) → (j : ℕ) (u : A) → get_elem? (set l i w) j ≡ some u → F j u
all_set {A} F l i w mine others j u e = ⊎_elim (λ (x : (j ≡ i) × (w ≡ u)). subst (λ (y : ℕ × A). F y.0 y.1) (λ k. (sym x.0 k, x.1 k)) mine)
    (λ (x : (j ≢ i) × (get_elem? l j ≡ some u)). others j u x.0 x.1) (at_set l i j w u e)

get_last : {X : Type 0} (l : List X) (x : X) (n : ℕ) → length l ≡ n → slice_get (l ++ x ∷ []) n ≡ Some x
get_last [] x zero e = refl
get_last [] x (suc n) e = absurd (omega arith)
get_last (y ∷ ys) x zero e = absurd (omega arith)
get_last (y ∷ ys) x (suc n) e = get_last ys x n (omega arith)

times_append : (c : ℕ) (xs ys : List ℕ) → times c (xs ++ ys) ≡ times c xs + times c ys
times_append c xs ys = sum_by-append (λ (x : ℕ). cond (x == c) 1 0) xs ys

abbrev nothing : View → View
nothing v = record { leads = v.leads; seen = v.seen; claims = []; at = v.at; noted = v.noted; other = v.other; other_at = v.other_at; other_claims = v.other_claims; gone = v.gone }

leads_one : (v : View) → v.leads ≡ true → ◌≡◌ {A = ℕ} (cond v.leads 1 0) 1
leads_one v is = ap (λ (z : Bool). cond z 1 0) is

leads_same : (v w : View) → v.leads ≡ w.leads → ◌≡◌ {A = ℕ} (cond v.leads 1 0) (cond w.leads 1 0)
leads_same v w is = ap (λ (z : Bool). cond z 1 0) is

not_true : (b : Bool) → (b ≡ true → ⊥) → b ≡ false
not_true true n = absurd (n refl)
not_true false n = refl

some_none : {X : Type 0} (x : X) → Some x ≡ None → ⊥
some_none x e = none-some x (sym e)

abbrev Place : State (Option Account) View → Account → Type 0
Place s b = AtHome s b ⊎ Away s b

abbrev seated : State (Option Account) View → ℕ → View → State (Option Account) View
seated s id w = record { words = s.words; homes = s.homes; views = set s.views id w }

-- a view that changes and notes what it noted
place_kept : (s : State (Option Account) View) (b : Account) (id : ℕ) (v w : View) → get_elem? s.views id ≡ some v → w.noted ≡ v.noted → Place s b → Place (seated s id w) b
place_kept s b id v w at same (inl h) = inl (h.0, h.1, all_set (λ _ (u : View). u.noted ≡ None) s.views id w (same ∙ h.2 id v at) (λ j u _ e. h.2 j u e))
place_kept s b id v w at same (inr h) =
    let hid : ℕ = h.2.0 in
    let u : View = h.2.1.0 in inr (
      h.0,
      h.1,
      (
        hid,
        dite (ℕ_discrete hid id)
            (λ here. (
              w,
              subst (λ (k : ℕ). get_elem? (set s.views id w) k ≡ some w) (sym here) (set_here s.views id w (elem s.views id v at).0),
              same ∙ ap (λ (x : View). x.noted) (some-injective v u (sym at ∙ ap (get_elem? s.views) (sym here) ∙ h.2.1.1)) ∙ h.2.1.2,
            ))
            (λ other. (u, set_else s.views id hid w other ∙ h.2.1.1, h.2.1.2)),
        all_set (λ j (x : View). (x.noted ≡ None) ⊎ ((j ≡ hid) × (x.noted ≡ Some b))) s.views id w
            (⊎_elim (λ t. inl (same ∙ t)) (λ t. inr (t.0, same ∙ t.1)) (h.2.2 id v at))
            (λ j x _ e. h.2.2 j x e),
      ),
    )

-- a view that comes and has no turn
place_longer : (s : State (Option Account) View) (b : Account) (w : View) → w.noted ≡ None → Place s b → Place record { words = s.words; homes = s.homes; views = s.views ++ w ∷ [] } b
place_longer s b w none_noted (inl h) = inl (h.0, h.1, λ j u e. ⊎_elim (λ t. h.2 j u t) (λ (t : w ≡ u). ap (λ (x : View). x.noted) (sym t) ∙ none_noted) (at_snoc s.views w u j e))
place_longer s b w none_noted (inr h) = inr (
  h.0,
  h.1,
  (
    h.2.0,
    (h.2.1.0, at_longer s.views (w ∷ []) h.2.0 h.2.1.0 h.2.1.1, h.2.1.2),
    λ j u e. ⊎_elim (λ t. h.2.2 j u t) (λ (t : w ≡ u). inl (ap (λ (x : View). x.noted) (sym t) ∙ none_noted)) (at_snoc s.views w u j e),
  ),
)

fits_longer : (past : List Account) (book b2 : Account) (age : ℕ) (v : View) → slice_get past age ≡ Some book → length past ≡ age + 1 → v.at ≤ age
    → ((c : ℕ) → 0 < times c v.claims → Onward c (glimpse book) (glimpse b2)) → (v.leads ≡ true → begun b2 ≡ begun book) → Fits past v → Fits (past ++ b2 ∷ []) v
fits_longer past book b2 age v last ends within same forms f = record {
  seen = get_longer past v.at b2 v.seen f.seen;
  other = get_longer past v.other_at b2 v.other f.other;
  before = f.before;
  kept = f.kept;
  own = λ c some j a l e. ⊎_elim
      (λ (t : (j ≡ length past) × (b2 ≡ a)). subst (λ (x : Account). Onward c (glimpse v.seen) (glimpse x)) t.1 (onward_then c (glimpse v.seen) (glimpse book) (glimpse b2) (f.own c some age book within last) (same c some)))
      (λ t. f.own c some j a l t) (get_snoc past j b2 a e);
  formed = λ is j a l e. ⊎_elim
      (λ (t : (j ≡ length past) × (b2 ≡ a)). subst (λ (x : Account). begun x ≡ begun v.seen) t.1 (forms is ∙ f.formed is age book within last))
      (λ t. f.formed is j a l t) (get_snoc past j b2 a e);
}

abbrev both_by : Bool → View → View → View
both_by t v w = record {
  leads = v.leads;
  seen = if t then w.seen else v.seen;
  claims = v.claims ++ w.claims;
  at = if t then w.at else v.at;
  noted = v.noted;
  other = if t then v.seen else w.seen;
  other_at = if t then v.at else w.at;
  other_claims = if t then v.claims else w.claims;
  gone = v.gone;
}

fits_by : (past : List Account) (v w : View) → ((i j : ℕ) (a b : Account) → i ≤ j → slice_get past i ≡ Some a → slice_get past j ≡ Some b → Grows a b) → Fits past v → Fits past w → (t : Bool) → (t ≡ true → v.at ≤ w.at) → (t ≡ false → w.at ≤ v.at) → Fits past (both_by t v w)
fits_by past v w rising f g true up down = let le = up refl in record {
  seen = g.seen;
  other = f.seen;
  before = le;
  kept = λ c some. f.own c some w.at w.seen le g.seen;
  own = λ c some j a l e. dite (ℕ_discrete (times c w.claims) 0)
      (λ none_of. let has : 0 < times c v.claims = (let m = times_append c v.claims w.claims in omega arith) in onward_between c (glimpse v.seen) (glimpse w.seen) (glimpse a) (f.own c has w.at w.seen le g.seen) (f.own c has j a (omega arith) e) (rising w.at j w.seen a l g.seen e).reaches)
      (λ some_of. g.own c (omega arith) j a l e);
  formed = λ is j a l e. f.formed is j a (omega arith) e ∙ sym (f.formed is w.at w.seen le g.seen);
}
fits_by past v w rising f g false up down = let le = down refl in record {
  seen = f.seen;
  other = g.seen;
  before = le;
  kept = λ c some. g.own c some v.at v.seen le f.seen;
  own = λ c some j a l e. dite (ℕ_discrete (times c v.claims) 0)
      (λ none_of. let has : 0 < times c w.claims = (let m = times_append c v.claims w.claims in omega arith) in onward_between c (glimpse w.seen) (glimpse v.seen) (glimpse a) (g.own c has v.at v.seen le f.seen) (g.own c has j a (omega arith) e) (rising v.at j v.seen a l f.seen e).reaches)
      (λ some_of. f.own c (omega arith) j a l e);
  formed = f.formed;
}

fits_both : (past : List Account) (v w : View) → ((i j : ℕ) (a b : Account) → i ≤ j → slice_get past i ≡ Some a → slice_get past j ≡ Some b → Grows a b) → Fits past v → Fits past w → Fits past (both v w)
fits_both past v w rising f g = fits_by past v w rising f g (leb v.at w.at) (λ e. search (arith, rules)) (λ e. grind arith)

module _ (law : Account → Type 0) where
  abbrev St : Type 0
  St = State (Option Account) View

  abbrev Rule : St → Type 0
  Rule = Kept law

  at_end : (s : St) (r : Rule s) (j : ℕ) (a : Account) → slice_get r.past j ≡ Some a → j ≤ r.age
  at_end s r j a e = let h = slice_get_within r.past j a e in let n = r.ends in omega arith

  -- a claim that a view has live is live in the book, and no other view has it
  mine_only : (s : St) (r : Rule s) (i j : ℕ) (v w : View) (c : ℕ) → j ≢ i → get_elem? s.views i ≡ some v → get_elem? s.views j ≡ some w → times c v.claims + times c w.claims ≤ opens c r.book
  mine_only s r i j v w c n e g = let t = r.shared c in let h = sum_two (λ (x : View). times c x.claims) s.views i j v w (nothing v) refl n e g in omega arith

  -- of two views one at most may begin forms
  alone_leads : (s : St) (r : Rule s) (i j : ℕ) (v w : View) → j ≢ i → get_elem? s.views i ≡ some v → get_elem? s.views j ≡ some w → w.leads ≡ true → v.leads ≡ false
  alone_leads s r i j v w n e g is = not_true v.leads (λ also. (
      let t = r.led in
      let h = sum_two (λ (x : View). cond x.leads 1 0) s.views i j v w spent refl n e g in
      let a = leads_one v also in
      let b = leads_one w is in omega arith))

  pub knows : (s : St) (r : Rule s) (i : ℕ) (v : View) → get_elem? s.views i ≡ some v → v.gone ≡ false → Knows v.leads law v.seen (counted v.claims) r.book
  knows s r i v e alive = let f = r.fits i v e alive in record {
    law = r.law;
    sound = r.sound;
    grown = r.rising v.at r.age v.seen r.book (at_end s r v.at v.seen f.seen) f.seen r.last;
    opened = λ c. (let p = sum_part (λ (x : View). times c x.claims) s.views i v e in let t = r.shared c in omega arith);
    own = λ c some. f.own c some r.age r.book (at_end s r v.at v.seen f.seen) r.last;
    begun = λ is. f.formed is r.age r.book (at_end s r v.at v.seen f.seen) r.last;
    asks = r.asks i v e;
  }

  pub knows_more : (meets : Account → Type 0) → ((b : Account) → law b → meets b) → (leads : Bool) (seen : Account) (mine : ℕ → ℕ) (b : Account) → Knows leads law seen mine b → Knows leads meets seen mine b
  knows_more meets more leads seen mine b k = record { law = more b k.law; sound = k.sound; grown = k.grown; opened = k.opened; own = k.own; begun = k.begun; asks = k.asks }

  only : (x : Account) (i : ℕ) (a : Account) → slice_get (x ∷ []) i ≡ Some a → x ≡ a
  only x zero a e = same_Some x a e
  only x (suc i) a e = absurd (none-some a e)

  pub starts : (limit : ℕ) → law (fresh limit) → Rule (opening (0 ∷ []) (Some (fresh limit) ∷ []) (resting true (fresh limit) [] 0))
  starts limit meets =
      let b : Account = fresh limit in
      let v : View = resting true b [] 0 in
      let alone : (i : ℕ) (u : View) → get_elem? (v ∷ []) i ≡ some u → v ≡ u = λ i u e. ⊎_elim (λ t. absurd (some-ne-none u (sym t))) (λ t. t) (at_snoc [] v u i e) in record {
        past = b ∷ [];
        book = b;
        age = 0;
        last = refl;
        ends = refl;
        rising = λ i j x y _ e g. subst (λ (z : Account × Account). Grows z.0 z.1) (λ k. (only b i x e k, only b j y g k)) (grows_same b);
        law = meets;
        sound = record { once = λ c. omega arith; within = omega arith };
        fits = λ i u e alive. subst (λ (z : View). Fits (b ∷ []) z) (alone i u e) record { seen = refl; other = refl; before = omega arith; kept = λ c some. absurd (omega arith); own = λ c some j a l g. absurd (omega arith); formed = λ _ j a l g. ap (λ (z : Account). begun z) (sym (only b j a g)) };
        led = omega arith;
        shared = λ c. refl;
        asks = λ i u e. subst (λ (z : View). Asks (counted z.claims) b) (alone i u e) (λ c d id some f k. absurd (omega arith));
        place = inl (refl, refl, λ i u e. ap (λ (z : View). z.noted) (sym (alone i u e)));
      }

  -- a view that changes no more than its own knowledge
  reseated : (s : St) (r : Rule s) (id : ℕ) (v w : View) → get_elem? s.views id ≡ some v → w.noted ≡ v.noted → w.claims ≡ v.claims → w.leads ≡ v.leads → (w.gone ≡ false → Fits r.past w) → Rule (seated s id w)
  reseated s r id v w at noted claims leads fits = record {
    past = r.past;
    book = r.book;
    age = r.age;
    last = r.last;
    ends = r.ends;
    rising = r.rising;
    law = r.law;
    sound = r.sound;
    fits = all_set (λ _ (u : View). u.gone ≡ false → Fits r.past u) s.views id w fits (λ j u _ e. r.fits j u e);
    led = (let t = r.led in let k = sum_set (λ (x : View). cond x.leads 1 0) s.views id v w at in let e = leads_same w v leads in omega arith);
    shared = λ c. (let t = r.shared c in let k = sum_set (λ (x : View). times c x.claims) s.views id v w at in let e : times c w.claims ≡ times c v.claims = ap (times c) claims in omega arith);
    asks = all_set (λ _ (u : View). Asks (counted u.claims) r.book) s.views id w (subst (λ (l : List ℕ). Asks (counted l) r.book) (sym claims) (r.asks id v at)) (λ j u _ e. r.asks j u e);
    place = place_kept s r.book id v w at noted r.place;
  }

  pub takes_turn : (meets : Account → Type 0) → ((b : Account) → law b → meets b) → (slots id : ℕ) (me : Sat) → me.0.gone ≡ false → Allows Rule slots id me 0 (λ x. either (eqb x 0) 1 x) (takes meets (step slots 0 0 1 none) me)
  takes_turn meets more slots id me alive s r long at small = ⊎_elim
      (λ (h : AtHome s r.book). (let w : View = noting me.0 r.book in let f = r.fits id me.0 at alive in (
        w,
        takes_slot 0 (Some r.book),
        ap (λ (hs : List (Option' (Option Account))). get_elem? hs 0) h.1,
        record {
          past = r.past;
          book = r.book;
          age = r.age;
          last = r.last;
          ends = r.ends;
          rising = r.rising;
          law = r.law;
          sound = r.sound;
          fits = all_set (λ _ (u : View). u.gone ≡ false → Fits r.past u) s.views id w (λ _. record { seen = f.seen; other = f.other; before = f.before; kept = f.kept; own = f.own; formed = f.formed }) (λ j u _ e. r.fits j u e);
          led = (let t = r.led in let k = sum_set (λ (x : View). cond x.leads 1 0) s.views id me.0 w at in omega arith);
          shared = λ c. (let t = r.shared c in let k = sum_set (λ (x : View). times c x.claims) s.views id me.0 w at in omega arith);
          asks = all_set (λ _ (u : View). Asks (counted u.claims) r.book) s.views id w (r.asks id me.0 at) (λ j u _ e. r.asks j u e);
          place = inr (
            ap (λ (ws : List ℕ). set ws 0 (either (eqb (get_or ws 0 0) 0) 1 (get_or ws 0 0))) h.0,
            ap (λ (hs : List (Option' (Option Account))). set hs 0 none) h.1,
            (
              id,
              (w, set_here s.views id w (elem s.views id me.0 at).0, refl),
              all_set (λ j (u : View). (u.noted ≡ None) ⊎ ((j ≡ id) × (u.noted ≡ Some r.book))) s.views id w (inr (refl, refl)) (λ j u _ e. inl (h.2 j u e)),
            ),
          );
        },
        ((λ _. (r.book, refl, knows_more meets more me.0.leads me.0.seen (counted me.0.claims) r.book (knows s r id me.0 at alive))), λ n. absurd (n (ap (λ (ws : List ℕ). get_or ws 0 0) h.0))),
      )))
      (λ (h : Away s r.book). (
        me.0,
        stay,
        tt,
        subst Rule (λ i. record { words = (h.0 ∙ sym (ap (λ (ws : List ℕ). set ws 0 (either (eqb (get_or ws 0 0) 0) 1 (get_or ws 0 0))) h.0)) i; homes = s.homes; views = sym (set_again s.views id me.0 at) i }) r,
        ((λ z. (let one : get_or s.words 0 0 ≡ 1 = ap (λ (ws : List ℕ). get_or ws 0 0) h.0 in absurd (omega arith))), λ _. refl),
      ))
      r.place

  abbrev out_book : List (ℕ × Option Account) → Option Account
  out_book [] = None
  out_book (x ∷ xs) = x.1

  pub releases_turn : (claims : List ℕ) (slots id : ℕ) (me : Sat) (b b2 : Account) → me.0.noted ≡ Some b → me.0.gone ≡ false → me.1 ≡ (0, Some b2) ∷ [] → (law b → law b2) → Turns me.0.leads (counted me.0.claims) b b2 (counted claims)
      → Allows Rule slots id me 0 (λ _. 0) (λ _. releases claims (step slots 0 0 0 none) me 0)
  releases_turn claims slots id me b b2 noted alive out keep turns s r long at small = ⊎_elim
      (λ (h : AtHome s r.book). absurd (some_none b (sym noted ∙ h.2 id me.0 at)))
      (λ (h : Away s r.book). ⊎_elim
      (λ t. absurd (some_none b (sym noted ∙ t)))
      (λ (t : (id ≡ h.2.0) × (me.0.noted ≡ Some r.book)). (
      let same : b ≡ r.book = same_Some b r.book (sym noted ∙ t.1) in
      let turn : Turns me.0.leads (counted me.0.claims) r.book b2 (counted claims) = subst (λ (x : Account). Turns me.0.leads (counted me.0.claims) x b2 (counted claims)) same turns in
      let kept : law b2 = keep (subst law (sym same) r.law) in
      let age : ℕ = r.age + 1 in
      let past : List Account = r.past ++ b2 ∷ [] in
      let w : View = resting me.0.leads b2 claims age in
      let last : slice_get past age ≡ Some b2 = get_last r.past b2 age r.ends in
      let grown : (i : ℕ) (x : Account) → slice_get r.past i ≡ Some x → Grows x b2 = λ i x e. grows_further x r.book b2 (r.rising i r.age x r.book (at_end s r i x e) e r.last) turn.grows in
      let others : (j : ℕ) (u : View) → j ≢ id → get_elem? s.views j ≡ some u → (c : ℕ) → 0 < times c u.claims → Onward c (glimpse r.book) (glimpse b2) = λ j u n e c some. (
      let two = mine_only s r j id u me.0 c (λ x. n (sym x)) e at in
      let most = r.sound.once c in
      turn.others c (omega arith) (omega arith)) in (
        w,
        gives,
        tt,
        record {
          past = past;
          book = b2;
          age = age;
          last = last;
          ends = (let n = r.ends in let k = length-append r.past (b2 ∷ []) in omega arith);
          rising = λ i j x y le e g. ⊎_elim
              (λ (q : (j ≡ length r.past) × (b2 ≡ y)). subst (λ (z : Account). Grows x z) q.1 (⊎_elim (λ (p : (i ≡ length r.past) × (b2 ≡ x)). subst (λ (z : Account). Grows z b2) p.1 (grows_same b2)) (λ p. grown i x p) (get_snoc r.past i b2 x e)))
              (λ q. ⊎_elim (λ (p : (i ≡ length r.past) × (b2 ≡ x)). (let l = slice_get_within r.past j y q in let i_is = p.0 in absurd (omega arith))) (λ p. r.rising i j x y le p q) (get_snoc r.past i b2 x e))
              (get_snoc r.past j b2 y g);
          law = kept;
          sound = turn.sound;
          fits = all_set (λ _ (u : View). u.gone ≡ false → Fits past u) s.views id w
              (λ _. record {
                seen = last;
                other = last;
                before = le_refl age;
                kept = λ c some. absurd (omega arith);
                own = λ c some j a l e. ⊎_elim (λ (q : (j ≡ length r.past) × (b2 ≡ a)). subst (λ (z : Account). Onward c (glimpse b2) (glimpse z)) q.1 (onward_same c (glimpse b2))) (λ q. (let k = at_end s r j a q in absurd (omega arith))) (get_snoc r.past j b2 a e);
                formed = λ _ j a l e. ⊎_elim (λ (q : (j ≡ length r.past) × (b2 ≡ a)). ap (λ (z : Account). begun z) (sym q.1)) (λ q. (let k = at_end s r j a q in absurd (omega arith))) (get_snoc r.past j b2 a e);
              })
              (λ j u n e there. (let f = r.fits j u e there in fits_longer r.past r.book b2 r.age u r.last r.ends (at_end s r u.at u.seen f.seen) (others j u n e) (λ is. turn.begun (alone_leads s r id j me.0 u n at e is)) f));
          led = (let t = r.led in let k = sum_set (λ (x : View). cond x.leads 1 0) s.views id me.0 w at in omega arith);
          shared = λ c. (let t = r.shared c in let k = sum_set (λ (x : View). times c x.claims) s.views id me.0 w at in let d = turn.counts c in omega arith);
          asks = all_set (λ _ (u : View). Asks (counted u.claims) b2) s.views id w turn.asks
              (λ j u n e c d k some f live. (
              let was = (others j u n e c some).holds.forced_back k (Some d) f in
              r.asks j u e c d k some was (turn.askers c d k was live)));
          place = inl (
            ap (λ (ws : List ℕ). set ws 0 0) h.0,
            (λ i. put_back (h.1 i) (out i)),
            all_set (λ _ (u : View). u.noted ≡ None) s.views id w refl (λ j u n e. ⊎_elim (λ q. q) (λ q. absurd (n (q.0 ∙ sym t.0))) (h.2.2 j u e)),
          );
        },
        λ b3 e. (age, λ i. (resting me.0.leads (same_Some b2 b3 (ap out_book (sym out ∙ e)) i) claims age, rest (out i))),
      )))
      (h.2.2 id me.0 at))
      r.place

  pub settles_turn : (slots id : ℕ) (me : Sat) → me.0.noted ≡ None → me.0.gone ≡ false → Allows Rule slots id me 0 (λ x. x) (settles (step slots 0 0 0 none) me)
  settles_turn slots id me rests alive s r long at small =
      let f = r.fits id me.0 at alive in
      let w : View = resting me.0.leads me.0.seen me.0.claims me.0.at in (
        w,
        stay,
        tt,
        subst Rule (λ i. record { words = sym (set-get_or s.words 0 0) i; homes = s.homes; views = set s.views id w })
            (reseated s r id me.0 w at (sym rests) refl refl (λ _. record { seen = f.seen; other = f.seen; before = le_refl me.0.at; kept = λ c some. absurd (omega arith); own = f.own; formed = f.formed })),
        (r.rising me.0.other_at me.0.at me.0.other me.0.seen f.before f.other f.seen, f.kept, refl),
      )

  pub splits_turn : (id : ℕ) (v : View) → v.gone ≡ false → Splits Rule id v v (resting false v.seen [] v.at)
  splits_turn id v alive s r at =
      let w : View = resting false v.seen [] v.at in
      let f = r.fits id v at alive in
      subst Rule (λ i. record { words = s.words; homes = s.homes; views = sym (set_again s.views id v at) i ++ w ∷ [] }) record {
        past = r.past;
        book = r.book;
        age = r.age;
        last = r.last;
        ends = r.ends;
        rising = r.rising;
        law = r.law;
        sound = r.sound;
        fits = λ j u e there. ⊎_elim (λ t. r.fits j u t there) (λ (t : w ≡ u). subst (λ (z : View). Fits r.past z) t record { seen = f.seen; other = f.seen; before = le_refl v.at; kept = λ c some. absurd (omega arith); own = λ c some j a l g. absurd (omega arith); formed = λ no. absurd (true≢false (sym no)) }) (at_snoc s.views w u j e);
        led = (let t = r.led in let k = sum_by_push (λ (x : View). cond x.leads 1 0) s.views w in omega arith);
        shared = λ c. (let t = r.shared c in let k = sum_by_push (λ (x : View). times c x.claims) s.views w in omega arith);
        asks = λ j u e. ⊎_elim (λ t. r.asks j u t) (λ (t : w ≡ u). subst (λ (z : View). Asks (counted z.claims) r.book) t (λ c d k some f live. absurd (omega arith))) (at_snoc s.views w u j e);
        place = place_longer s r.book w refl r.place;
      }

  pub joins_turn : (id : ℕ) (v : View) (other : ℕ) (w : View) → v.noted ≡ None → w.noted ≡ None → v.gone ≡ false → w.gone ≡ false → Joins Rule id v other w (both v w) spent
  joins_turn id v other w a b alive lives s r at apart there =
      let u : View = both v w in
      let was : get_elem? s.views other ≡ some w = sym (set_else s.views id other u apart) ∙ there in
      let vs : List View = set s.views id u in
      let fit : Fits r.past u = fits_both r.past v w r.rising (r.fits id v at alive) (r.fits other w was lives) in
      let first : (j : ℕ) (x : View) → get_elem? vs j ≡ some x → x.gone ≡ false → Fits r.past x = all_set (λ _ (x : View). x.gone ≡ false → Fits r.past x) s.views id u (λ _. fit) (λ j x _ e. r.fits j x e) in record {
        past = r.past;
        book = r.book;
        age = r.age;
        last = r.last;
        ends = r.ends;
        rising = r.rising;
        law = r.law;
        sound = r.sound;
        fits = all_set (λ _ (x : View). x.gone ≡ false → Fits r.past x) vs other spent (λ gone. absurd (true≢false gone)) (λ j x _ e. first j x e);
        led = (let t = r.led in let k = sum_set (λ (x : View). cond x.leads 1 0) s.views id v u at in let l = sum_set (λ (x : View). cond x.leads 1 0) vs other w spent there in omega arith);
        shared = λ c. (
            let t = r.shared c in
            let k = sum_set (λ (x : View). times c x.claims) s.views id v u at in
            let l = sum_set (λ (x : View). times c x.claims) vs other w spent there in
            let m = times_append c v.claims w.claims in
            let z : times c [] ≡ 0 = refl in omega arith);
        asks = all_set (λ _ (x : View). Asks (counted x.claims) r.book) vs other spent (λ c d k some f live. absurd (omega arith))
            (λ j x _ e. all_set (λ _ (x : View). Asks (counted x.claims) r.book) s.views id u
            (λ c d k some f live. (
            let m = times_append c v.claims w.claims in
            let n = times_append d v.claims w.claims in
            dite (ℕ_discrete (times c v.claims) 0)
            (λ none_of. (let t = r.asks other w was c d k (omega arith) f live in omega arith))
            (λ some_of. (let t = r.asks id v at c d k (omega arith) f live in omega arith))))
            (λ j x _ e. r.asks j x e) j x e);
        place = place_kept (seated s id u) r.book other w spent there (sym b) (place_kept s r.book id v u at refl r.place);
      }

pub has_turn : (law : Account → Type 0) (v : View) (me : Sat) (a b : Account) (claims : List ℕ) → me ≡ (noting v a, (0, None) ∷ []) → v.gone ≡ false → (law a → law b) → Turns v.leads (counted v.claims) a b (counted claims) → HasTurn law me b claims
has_turn law v me a b claims took here keep turns = subst (λ (m : Sat). HasTurn law m b claims) (sym took) (a, refl, here, refl, keep, turns)

-- a caller's law, where its pass and its book are seen by their models
pub keeps_law : {L : Type 0} (law : L → Account → Type 0) (p q : Known) (s t : Ruled L) (a b : Account) → p ≡ q → s ≡ t → Knows p.leads (law s.law) p.seen (counted p.claims) a → (Knows q.leads (law t.law) q.seen (counted q.claims) a → law t.law b) → law s.law b
keeps_law {L} law p q s t a b same one k keep = subst (λ (x : Ruled L). law x.law b) (sym one) (keep (subst (λ (x : Known × Ruled L). Knows x.0.leads (law x.1.law) x.0.seen (counted x.0.claims) a) (λ i. (same i, one i)) k))

-- what is known of two passes once the shorter is known to grow to the longer
pub record Longer (v w : View) (seen : Account) : Type 0 where
  pub one : (seen ≡ v.seen) ⊎ (seen ≡ w.seen)
  pub first : Grows v.seen seen
  pub second : Grows w.seen seen
  pub own : (c : ℕ) → 0 < times c v.claims → Onward c (glimpse v.seen) (glimpse seen)
  pub others : (c : ℕ) → 0 < times c w.claims → Onward c (glimpse w.seen) (glimpse seen)

abbrev Settled : View → Type 0
Settled u = Grows u.other u.seen × ((c : ℕ) → 0 < times c u.other_claims → Onward c (glimpse u.other) (glimpse u.seen))

longer_by : (v w : View) (t : Bool) → Settled (both_by t v w) → Longer v w (both_by t v w).seen
longer_by v w true g = record { one = inr refl; first = g.0; second = grows_same w.seen; own = g.1; others = λ c _. onward_same c (glimpse w.seen) }
longer_by v w false g = record { one = inl refl; first = grows_same v.seen; second = g.0; own = λ c _. onward_same c (glimpse v.seen); others = g.1 }

pub longer : (v w : View) → Grows (both v w).other (both v w).seen × ((c : ℕ) → 0 < times c (both v w).other_claims → Onward c (glimpse (both v w).other) (glimpse (both v w).seen)) → Longer v w (both v w).seen
longer v w g = longer_by v w (leb v.at w.at) g
