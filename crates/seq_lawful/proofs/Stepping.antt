-- What each step keeps: the clauses for old cells and old claims, and lists with one member changed.
use Rattle.std.proofs.Common.{◌≡◌, ◌⊎◌, inl, inr, ℕ, zero, suc, ◌<◌, List, length, Some, slice_get, Bool, true, refl, ap, sym, subst, ◌∙◌}
use Rattle.std.specs.Prelude.{slice_set}
use Rattle.seq_values.specs.declared.words.Kind.{Kind}
use Rattle.seq_values.specs.declared.words.Kind.TheVariants.{Lazy}
use Rattle.seq_values.specs.declared.value.Value.{Value as Coded}
use Rattle.seq_values.specs.Model.{Outcome, gave}
use Rattle.seq_values.specs.Plain.{plain, plains}
use Rattle.clj_script.specs.Trees.{Top, Program}
use Rattle.seq_plan.specs.Plan.{Rules}
use Rattle.cell_book.specs.declared.cell.State.{State}
use Rattle.cell_book.specs.declared.cell.State.TheVariants as S
use Rattle.cell_book.specs.declared.cell.ClaimEnd.TheVariants as E
use Rattle.cell_book.specs.declared.cell.Attempt.{Attempt}
use Rattle.cell_book.specs.declared.cell.Cell.{Cell}
use Rattle.cell_book.specs.declared.cell.Form.{Form}
use Rattle.cell_book.specs.Account.{Account, cell_at, numbered}
use Rattle.cell_book.specs.Steps.{renumbered}
use Rattle.cell_book.proofs.Lists.{get_set, set_here, set_other, same_or, length_set}
use Rattle.seq_meaning.specs.Counts.{IsIn}
use Rattle.seq_meaning.specs.Names.{Name}
use Rattle.seq_meaning.specs.Referred.{referred}
use Rattle.seq_lawful.specs.Refers.{InValue, InList, Refers, by_term, by_kept, by_done, by_make, Reaches, reach_one, reach_more}
use Rattle.seq_lawful.specs.Sites.{Mode, own_name, Site, at_form, at_cell, ClaimAt, on_form, on_cell, Founded, HasAsker, has_asker, HasMade, Ended, ended_threw, ended_cell, ended_form, Lost, lost_given_up, lost_failed, StateOf, so_empty, so_forcing, so_done, so_failed, ValueOf, value_open, value_gave, value_threw, value_given_up}
use Rattle.seq_lawful.specs.Lawful.{Needs, CellName, cell_name, ClaimName, IsPartOf, EndsSo, Lawful}
use Rattle.seq_lawful.proofs.Growth.{later_in, Later, FormLater, Grown}
use Rattle.seq_lawful.proofs.Named.{founded_of}
use Rattle.seq_lawful.proofs.Looking.{in_split}
use Rattle.seq_lawful.proofs.Growing.{AtCell, at_cell_so, AtForm, at_form_so, claim_on_cell, claim_on_form, made_more, WasAt, was_at, was, cell_less, claim_less, founded_more, part_more, ends_more, asker_founded}

-- numbered items, one of them written over
pub data AtPut {A : Type 0} (xs : List A) (i : ℕ) (x : A) (j : ℕ) (y : A) : Type 0 where
  put_here : j ≡ i → x ≡ y → AtPut xs i x j y
  put_other : ¬ (j ≡ i) → numbered xs j ≡ Some y → AtPut xs i x j y

pub at_put : {A : Type 0} (xs : List A) (i : ℕ) (x : A) (j : ℕ) (y : A) → numbered (renumbered xs i x) j ≡ Some y → AtPut xs i x j y
at_put xs i x zero y p = absurd cc
at_put xs zero x (suc j) y p = put_other (λ e. absurd cc) p
at_put xs (suc i) x (suc j) y p = go (get_set xs i j x y p)
  where
    go : ((j ≡ i) × (x ≡ y)) ⊎ (¬ (j ≡ i) × (slice_get xs j ≡ Some y)) → AtPut xs (suc i) x (suc j) y
    go (inl t) = put_here (ap suc t.0) t.1
    go (inr t) = put_other (λ e. t.0 (cc)) t.1

pub put_same : {A : Type 0} (xs : List A) (i : ℕ) (x y : A) → numbered xs i ≡ Some y → numbered (renumbered xs i x) i ≡ Some x
put_same xs zero x y p = absurd cc
put_same xs (suc i) x y p = set_here xs i y x p

pub put_apart : {A : Type 0} (xs : List A) (i : ℕ) (x : A) (j : ℕ) (y : A) → numbered xs j ≡ Some y → (j ≡ i) ⊎ (numbered (renumbered xs i x) j ≡ Some y)
put_apart xs i x zero y p = absurd cc
put_apart xs zero x (suc j) y p = inr p
put_apart xs (suc i) x (suc j) y p = go (same_or j i)
  where
    go : (j ≡ i) ⊎ ¬ (j ≡ i) → (suc j ≡ suc i) ⊎ (slice_get (slice_set xs i x) j ≡ Some y)
    go (inl e) = inl (ap suc e)
    go (inr n) = inr (set_other xs i j x n ∙ p)

pub length_put : {A : Type 0} (xs : List A) (i : ℕ) (x : A) → length (renumbered xs i x) ≡ length xs
length_put xs zero x = refl
length_put xs (suc i) x = length_set xs i x

pub joined : (tops : List Top) (a : Account) {i l j : ℕ} → Reaches tops a i l → Reaches tops a l j → Reaches tops a i j
joined tops a (reach_one r) h = reach_more r h
joined tops a (reach_more r k) h = reach_more r (joined tops a k h)

pub later_refl : (p : Cell) → Later p p
later_refl p = record { term = refl; kind = refl; maker = refl; ordinal = refl; outcomes = refl; done = λ v e. e; failed = λ x e. e; attempts = λ x h. later_in x h refl refl (λ o e. e) }

pub form_later_refl : (f : Form) → FormLater f f
form_later_refl f = record { claim = refl; value = λ v e. e }

not_lost_value : {kind : Kind} {x : Attempt} → Lost kind x → x.end ≡ E.Value → ⊥
not_lost_value (lost_given_up p) q = cc
not_lost_value (lost_failed k p) q = cc

-- a cell whose attempt ended by a value is Done
pub is_done_by : {kind : Kind} {attempts : List Attempt} {s : State} {x : Attempt} → StateOf kind attempts s → IsIn x attempts → x.end ≡ E.Value → (v : Coded) × (s ≡ S.Done v)
is_done_by {x = x} (so_empty h) k q = absurd (not_lost_value (h x k) q)
is_done_by {x = x} (so_forcing xs b p h r) k q = go (in_split xs b x (subst (λ l. IsIn x l) p k))
  where
    go : IsIn x xs ⊎ (b ≡ x) → (v : Coded) × (S.Forcing b.claim ≡ S.Done v)
    go (inl i) = absurd (not_lost_value (h x i) q)
    go (inr e) = let z : b.end ≡ x.end = ap (λ (y : Attempt). y.end) e in absurd cc
is_done_by {x = x} (so_done {v = v} xs b p h r) k q = (v, refl)
is_done_by {x = x} (so_failed {why = why} xs b p h t r) k q = go (in_split xs b x (subst (λ l. IsIn x l) p k))
  where
    go : IsIn x xs ⊎ (b ≡ x) → (v : Coded) × (S.Failed why ≡ S.Done v)
    go (inl i) = absurd (not_lost_value (h x i) q)
    go (inr e) = let z : b.end ≡ x.end = ap (λ (y : Attempt). y.end) e in absurd cc

module _ (rules : Rules Name) (program : Program) (limit : ℕ) (old : Account) (law : Lawful rules program limit old) where
  module _ (new : Account) (g : Grown old new) where
    -- what an old claim ended by is what it had ended by
    pub ended_was : (s : Site) (x : Attempt) (o : Outcome ℕ) → ClaimAt old s x → Ended new s x o → Ended old s x o
    ended_was s x o h (ended_threw q) = ended_threw q
    ended_was (at_cell i) x o h (ended_cell {v = v} q e at st) = go (claim_on_cell old i x h)
      where
        go : AtCell old i x → Ended old (at_cell i) x (gave (plain v))
        go (at_cell_so p at0 k) =
            let d = is_done_by (law.states i p at0) k e in
            let l = g.cells i p at0 in
            let z : l.0 ≡ q = let w = l.1 in cc in
            let y : q.state ≡ S.Done d.0 = ap (λ (c : Cell). c.state) (sym z) ∙ l.2.done d.0 d.1 in
            let u : d.0 ≡ v = cc in
            ended_cell p e at0 (d.1 ∙ ap S.Done u)
    ended_was (at_form k) x o h (ended_form {v = v} f e at st) = go (claim_on_form old k x h)
      where
        go : AtForm old k x → Ended old (at_form k) x (gave (plain v))
        go (at_form_so f0 at0 z0) =
            let l = g.forms k f0 at0 in
            let z : l.0 ≡ f = let w = l.1 in cc in
            let q : f0.attempt.end ≡ E.Value = ap (λ (y : Attempt). y.end) z0 ∙ e in
            by_value (law.values k f0 at0) q (λ v0 y. (let t : f.value ≡ Some v0 = ap (λ (c : Form). c.value) (sym z) ∙ l.2.value v0 y in cc))
          where
            by_value : ValueOf f0 → f0.attempt.end ≡ E.Value → ((v0 : Coded) → f0.value ≡ Some v0 → v0 ≡ v) → Ended old (at_form k) x (gave (plain v))
            by_value (value_open q r) e2 same = absurd cc
            by_value (value_gave v0 q r) e2 same = ended_form f0 e at0 (r ∙ ap Some (same v0 r))
            by_value (value_threw q r) e2 same = absurd cc
            by_value (value_given_up q r) e2 same = absurd cc

  -- A step that adds no cell. At most one claim, with the number c at the site, is new or changed.
  module _ (new : Account) (g : Grown old new) (c : ℕ) (site : Site) (fresh : Attempt) where
    pub data Back (s : Site) (y : Attempt) : Type 0 where
      back_old : ClaimAt old s y → (y.claim ≡ c → ⊥) → Back s y
      back_new : s ≡ site → fresh ≡ y → Back s y

    module _ (num : fresh.claim ≡ c) (back : (s : Site) (y : Attempt) → ClaimAt new s y → Back s y) (was_cell : (j : ℕ) (y : Cell) → cell_at new j ≡ Some y → (z : Cell) × (cell_at old j ≡ Some z)) where
      pub one_claim_after : (s t : Site) (x y : Attempt) → ClaimAt new s x → ClaimAt new t y → x.claim ≡ y.claim → (s ≡ t) × (x ≡ y)
      one_claim_after s t x y h k e = go (back s x h) (back t y k)
        where
          go : Back s x → Back t y → (s ≡ t) × (x ≡ y)
          go (back_old h' n) (back_old k' m) = law.one_claim_each s t x y h' k' e
          go (back_old h' n) (back_new w z) = absurd (n (e ∙ (ap (λ (b : Attempt). b.claim) (sym z) ∙ num)))
          go (back_new w z) (back_old k' m) = absurd (m (sym e ∙ (ap (λ (b : Attempt). b.claim) (sym z) ∙ num)))
          go (back_new w z) (back_new w' z') = (w ∙ sym w', sym z ∙ z')

      pub cell_was : {mode : Mode} {j : ℕ} {n : Name} → CellName rules program limit new mode j n → CellName rules program limit old mode j n
      cell_was {mode = mode} (cell_name p m) = let z = was_cell _ _ p in cell_less old new g rules program limit mode law (cell_name p m) z.0 z.1

      pub parts_after : (mode : Mode) (j : ℕ) (cell : Cell) (n : Name) → cell_at new j ≡ Some cell → CellName rules program limit new mode j n → IsPartOf rules program limit new mode cell n
      parts_after mode j cell n p m =
          let z = was_cell j cell p in
          let l = g.cells j z.0 z.1 in
          let e : l.0 ≡ cell = let w = l.1 in cc in
          subst (λ x. IsPartOf rules program limit new mode x n) e (part_more old new g rules program limit mode l.2 (law.parts mode j z.0 n z.1 (cell_was m)))

      pub makers_after : (j : ℕ) (cell : Cell) → cell_at new j ≡ Some cell → Founded new cell.maker
      makers_after j cell p =
          let z = was_cell j cell p in
          let l = g.cells j z.0 z.1 in
          let e : l.0 ≡ cell = let w = l.1 in cc in
          subst (λ x. Founded new x) (sym l.2.maker ∙ ap (λ (x : Cell). x.maker) e) (founded_more old new g (law.makers j z.0 z.1))

      pub cells_after : (i j : ℕ) (n : Name) → CellName rules program limit new own_name i n → CellName rules program limit new own_name j n → i ≡ j
      cells_after i j n p q = law.one_cell_each i j n (cell_was p) (cell_was q)

      asker_more : {a b : Attempt} → a.asker ≡ b.asker → HasAsker old a → HasAsker new b
      asker_more e (has_asker s f) = has_asker (sym e ∙ s) (founded_more old new g f)

      -- the asker of an old claim
      pub asker_after : (j : ℕ) (cell : Cell) (b : Attempt) → cell_at new j ≡ Some cell → IsIn b cell.attempts → cell.kind ≡ Lazy → Founded old b.claim → HasAsker new b
      asker_after j cell b p h k f = go (was old new g rules program limit own_name law j cell b p h f)
        where
          go : WasAt old new g rules program limit own_name law j cell b → HasAsker new b
          go (was_at z d w h' e s q) = asker_more s (law.askers j z d w h' (sym q ∙ k))

      pub asked_after : (j : ℕ) (cell : Cell) (b : Attempt) (d : ℕ) (n e : Name) → cell_at new j ≡ Some cell → IsIn b cell.attempts → cell.kind ≡ Lazy → b.asker ≡ Some d → CellName rules program limit new own_name j n → ClaimName rules program limit new own_name d e → Founded old b.claim → Needs rules program limit e n
      asked_after j cell b d n e p h k r m l f = go (was old new g rules program limit own_name law j cell b p h f)
        where
          go : WasAt old new g rules program limit own_name law j cell b → Needs rules program limit e n
          go (was_at z a w h' q s t) =
              let kz = sym t ∙ k in
              let sz = s ∙ r in
              law.asked j z a d n e w h' kz sz (cell_was m) (claim_less old new g rules program limit own_name law l (asker_founded old new g rules program limit own_name law (law.askers j z a w h' kz) sz))

      pub noted_after : (old.gave_up ≡ true → new.gave_up ≡ true) → (fresh.end ≡ E.GivenUp → new.gave_up ≡ true) → (s : Site) (x : Attempt) → ClaimAt new s x → x.end ≡ E.GivenUp → new.gave_up ≡ true
      noted_after more here s x h q = go (back s x h)
        where
          go : Back s x → new.gave_up ≡ true
          go (back_old h' n) = more (law.noted s x h' q)
          go (back_new w z) = here (ap (λ (b : Attempt). b.end) z ∙ q)

      pub ended_after : ((o : Outcome ℕ) → Ended new site fresh o → (mode : Mode) (e : Name) → ClaimName rules program limit new mode c e → EndsSo rules program limit new mode c e o) → (mode : Mode) (s : Site) (x : Attempt) (o : Outcome ℕ) (e : Name) → ClaimAt new s x → Ended new s x o → ClaimName rules program limit new mode x.claim e → EndsSo rules program limit new mode x.claim e o
      ended_after here mode s x o e h q m = go (back s x h)
        where
          go : Back s x → EndsSo rules program limit new mode x.claim e o
          go (back_old h' n) = ends_more old new g rules program limit mode (law.ended mode s x o e h' (ended_was new g s x o h' q) (claim_less old new g rules program limit mode law m (founded_of rules program limit old law h')))
          go (back_new w z) =
              let t : c ≡ x.claim = sym num ∙ ap (λ (b : Attempt). b.claim) z in
              let r : Ended new site fresh o = subst (λ b. Ended new site b o) (sym z) (subst (λ b. Ended new b x o) w q) in
              subst (λ b. EndsSo rules program limit new mode b e o) t (here o r mode e (subst (λ b. ClaimName rules program limit new mode b e) (sym t) m))

      pub no_gaps_after : (i : ℕ) (cell : Cell) (j : ℕ) → cell_at new i ≡ Some cell → suc j < cell.ordinal → HasMade new cell.maker (suc j)
      no_gaps_after i cell j p h =
          let z = was_cell i cell p in
          let l = g.cells i z.0 z.1 in
          let e : l.0 ≡ cell = let w = l.1 in cc in
          let mk : z.0.maker ≡ cell.maker = sym l.2.maker ∙ ap (λ (x : Cell). x.maker) e in
          let od : cell.ordinal ≡ z.0.ordinal = sym (ap (λ (x : Cell). x.ordinal) e) ∙ l.2.ordinal in
          subst (λ x. HasMade new x (suc j)) mk (made_more old new g (law.no_gaps i z.0 j z.1 (subst (λ x. suc j < x) od h)))

      module _ (values : (i : ℕ) (cell : Cell) (v : Coded) (x : ℕ) → cell_at new i ≡ Some cell → cell.state ≡ S.Done v → InValue x (plain v) → Reaches program.tops old i x) where
        refers_was : {i j : ℕ} → Refers program.tops new i j → Reaches program.tops old i j
        refers_was {i = i} {j = j} (by_term cell p h) =
            let z = was_cell i cell p in
            let l = g.cells i z.0 z.1 in
            let e : l.0 ≡ cell = let w = l.1 in cc in
            let t : cell.term ≡ z.0.term = sym (ap (λ (x : Cell). x.term) e) ∙ l.2.term in
            reach_one (by_term z.0 z.1 (subst (λ x. InList j (plains x.args)) t h))
        refers_was {i = i} {j = j} (by_kept cell p h) =
            let z = was_cell i cell p in
            let l = g.cells i z.0 z.1 in
            let e : l.0 ≡ cell = let w = l.1 in cc in
            let t : cell.outcomes ≡ z.0.outcomes = sym (ap (λ (x : Cell). x.outcomes) e) ∙ l.2.outcomes in
            reach_one (by_kept z.0 z.1 (subst (λ x. InList j (referred program.tops (plains x))) t h))
        refers_was {i = i} {j = j} (by_done cell v p s h) = values i cell v j p s h
        refers_was {i = i} {j = j} (by_make cell made a p h q e) =
            let y = was_cell j made q in
            let l = g.cells j y.0 y.1 in
            let d : l.0 ≡ made = let w = l.1 in cc in
            let mk : y.0.maker ≡ a.claim = sym l.2.maker ∙ (ap (λ (x : Cell). x.maker) d ∙ e) in
            go y.0 y.1 mk (was old new g rules program limit own_name law i cell a p h (subst (λ x. Founded old x) mk (law.makers j y.0 y.1)))
          where
            go : (y : Cell) → cell_at old j ≡ Some y → y.maker ≡ a.claim → WasAt old new g rules program limit own_name law i cell a → Reaches program.tops old i j
            go y r mk (was_at z b w k f s t) = reach_one (by_make z y b w k r (mk ∙ sym f))

        reaches_was : {i j : ℕ} → Reaches program.tops new i j → Reaches program.tops old i j
        reaches_was (reach_one r) = refers_was r
        reaches_was (reach_more r h) = joined program.tops old (refers_was r) (reaches_was h)

        pub acyclic_after : (i : ℕ) → ¬ (Reaches program.tops new i i)
        acyclic_after i h = law.acyclic i (reaches_was h)

-- one cell changed
module _ (a : Account) (i : ℕ) (cell new_cell : Cell) (note : Bool) (p : cell_at a i ≡ Some cell) (later : Later cell new_cell) where
  abbrev pub changed_book : Account
  changed_book = record a { cells = renumbered a.cells i new_cell; gave_up = note }

  pub was_cell : (j : ℕ) (y : Cell) → cell_at changed_book j ≡ Some y → (z : Cell) × (cell_at a j ≡ Some z)
  was_cell j y q = go (at_put a.cells i new_cell j y q)
    where
      go : AtPut a.cells i new_cell j y → (z : Cell) × (cell_at a j ≡ Some z)
      go (put_here e w) = (cell, subst (λ x. cell_at a x ≡ Some cell) (sym e) p)
      go (put_other n r) = (y, r)

  -- an attempt of the new book is on the changed cell, or an old one
  pub data AtChanged (s : Site) (b : Attempt) : Type 0 where
    at_changed : s ≡ at_cell i → IsIn b new_cell.attempts → AtChanged s b
    at_unchanged : ClaimAt a s b → (s ≡ at_cell i → ⊥) → AtChanged s b

  pub changed_at : (s : Site) (b : Attempt) → ClaimAt changed_book s b → AtChanged s b
  changed_at s b (on_form r f) = at_unchanged (on_form r f) (λ e. cc)
  changed_at s b (on_cell {id = j} {p = y} r h) = go (at_put a.cells i new_cell j y r)
    where
      go : AtPut a.cells i new_cell j y → AtChanged (at_cell j) b
      go (put_here e w) = at_changed (ap at_cell e) (subst (λ (x : Cell). IsIn b x.attempts) (sym w) h)
      go (put_other n w) = at_unchanged (on_cell w h) (λ e. n cc)

  pub grown : ((b : Attempt) → IsIn b new_cell.attempts → Founded a b.claim → (x : Attempt) × IsIn x cell.attempts × (x.claim ≡ b.claim) × (x.asker ≡ b.asker)) → Grown a changed_book
  grown back = record {
    cells = λ j z q. cells j z q (put_apart a.cells i new_cell j z q);
    forms = λ k f q. (f, q, form_later_refl f);
    claims = λ s b h f. claims s b f (changed_at s b h);
  }
    where
      cells : (j : ℕ) (z : Cell) → cell_at a j ≡ Some z → (j ≡ i) ⊎ (cell_at changed_book j ≡ Some z) → (y : Cell) × (cell_at changed_book j ≡ Some y) × Later z y
      cells j z q (inl e) =
          let w : z ≡ cell = let r = subst (λ x. cell_at a x ≡ Some z) e q in cc in
          (new_cell, subst (λ x. cell_at changed_book x ≡ Some new_cell) (sym e) (put_same a.cells i new_cell cell p), subst (λ x. Later x new_cell) (sym w) later)
      cells j z q (inr r) = (z, r, later_refl z)

      claims : (s : Site) (b : Attempt) → Founded a b.claim → AtChanged s b → (x : Attempt) × ClaimAt a s x × (x.claim ≡ b.claim) × (x.asker ≡ b.asker)
      claims s b f (at_changed e h) = let r = back b h f in (r.0, subst (λ x. ClaimAt a x r.0) (sym e) (on_cell p r.1), r.2, r.3)
      claims s b f (at_unchanged h n) = (b, h, refl, refl)
