-- The next make of an open claim keeps a book lawful.
use Rattle.std.proofs.Common.{◌≡◌, ◌⊎◌, inl, inr, ℕ, zero, suc, ◌+◌, ◌<◌, ◌≤◌, List, [], ◌∷◌, ◌++◌, length, Some, slice_get, Bool, true, false, refl, ap, sym, subst, ◌∙◌, arith, length-append}
use Rattle.std.proofs.lemmas.Option.{slice_get_within}
use Rattle.seq_values.specs.declared.words.Kind.{Kind}
use Rattle.seq_values.specs.declared.term.Term.{Term as CodedTerm}
use Rattle.seq_values.specs.Model.{Outcome, gave}
use Rattle.seq_values.specs.Plain.{plain, plains, plain_term}
use Rattle.clj_script.specs.Trees.{Program}
use Rattle.seq_plan.specs.Plan.{Rules}
use Rattle.seq_plan.specs.Alike.{LikeOutcome, like_gave}
use Rattle.cell_book.specs.declared.cell.Attempt.{Attempt}
use Rattle.cell_book.specs.declared.cell.Cell.{Cell}
use Rattle.cell_book.specs.Account.{Account, Duty, cell_at, numbered}
use Rattle.cell_book.specs.Steps.{fresh_cell}
use Rattle.cell_book.proofs.Lists.{get_snoc, get_longer, get_last}
use Rattle.seq_meaning.specs.Counts.{IsIn, Distinct, none_twice}
use Rattle.seq_meaning.specs.Gives.{part_of}
use Rattle.seq_meaning.specs.Names.{Name, part}
use Rattle.seq_meaning.specs.Referred.{referred}
use Rattle.seq_lawful.specs.Refers.{InList, Refers, by_term, by_kept, by_done, by_make, Reaches, reach_one, reach_more}
use Rattle.seq_lawful.specs.Sites.{Mode, any_name, own_name, Site, at_cell, ClaimAt, on_form, on_cell, Founded, HasAsker, has_asker, HasMade, StateOf, so_empty}
use Rattle.seq_lawful.specs.Lawful.{CellName, cell_name, ClaimName, form_name, future_name, failing_name, other_name, called, IsPartOf, is_part_of, GivesSo, gives_so, Lawful}
use Rattle.seq_lawful.specs.Runs.{in_value}
use Rattle.seq_lawful.proofs.NextSteps.{MakesNext, makes_next}
use Rattle.seq_lawful.proofs.Growth.{Grown}
use Rattle.seq_lawful.proofs.More.{as-list, as-term, value_has, list_has, term_has}
use Rattle.seq_lawful.proofs.Named.{founded_of, some_name}
use Rattle.seq_lawful.proofs.Looking.{tells}
use Rattle.seq_lawful.proofs.Growing.{made_more, cell_more, claim_less, cell_less, founded_more, part_more, ends_more, asker_founded}
use Rattle.seq_lawful.proofs.Stepping.{joined, later_refl, form_later_refl, ended_was}

-- numbered items with one more at the end
pub data AtPushed {A : Type 0} (xs : List A) (x : A) (i : ℕ) (y : A) : Type 0 where
  at_old : numbered xs i ≡ Some y → AtPushed xs x i y
  at_new : i ≡ suc (length xs) → x ≡ y → AtPushed xs x i y

pub at_pushed : {A : Type 0} (xs : List A) (x : A) (i : ℕ) (y : A) → numbered (xs ++ x ∷ []) i ≡ Some y → AtPushed xs x i y
at_pushed xs x zero y p = absurd cc
at_pushed xs x (suc i) y p = go (get_snoc xs i x y p)
  where
    go : ((i ≡ length xs) × (x ≡ y)) ⊎ (slice_get xs i ≡ Some y) → AtPushed xs x (suc i) y
    go (inl t) = at_new (ap suc t.0) t.1
    go (inr t) = at_old t

pub old_at : {A : Type 0} (xs : List A) (x : A) (i : ℕ) (y : A) → numbered xs i ≡ Some y → numbered (xs ++ x ∷ []) i ≡ Some y
old_at xs x zero y p = absurd cc
old_at xs x (suc i) y p = get_longer xs i x y p

pub new_at : {A : Type 0} (xs : List A) (x : A) → numbered (xs ++ x ∷ []) (suc (length xs)) ≡ Some x
new_at xs x = get_last xs x (length xs) refl

pub number_within : {A : Type 0} (xs : List A) (i : ℕ) (y : A) → numbered xs i ≡ Some y → i ≤ length xs
number_within xs zero y p = absurd cc
number_within xs (suc i) y p = let h = slice_get_within xs i y p in omega arith

module _ (rules : Rules Name) (program : Program) (limit : ℕ) (a : Account) (law : Lawful rules program limit a) where
  placed : {mode : Mode} {c : ℕ} {n : Name} → CellName rules program limit a mode c n → c ≤ length a.cells
  placed (cell_name {id = i} {p = p} e m) = number_within a.cells i p e

  any_at : (i : ℕ) (p : Cell) → cell_at a i ≡ Some p → (n : Name) × CellName rules program limit a any_name i n
  any_at i p e = let r = some_name rules program limit a (law.makers i p e) in (part r.0 p.ordinal, cell_name e r.1)

  -- what is referred to is a cell of the book
  pub from_book : {i j : ℕ} → Refers program.tops a i j → i ≤ length a.cells
  from_book {i = i} (by_term p e h) = number_within a.cells i p e
  from_book {i = i} (by_kept p e h) = number_within a.cells i p e
  from_book {i = i} (by_done p v e s h) = number_within a.cells i p e
  from_book {i = i} (by_make p q x e h f m) = number_within a.cells i p e

  pub within : {i j : ℕ} → Refers program.tops a i j → j ≤ length a.cells
  within {i = i} {j = j} (by_term p e h) = let m = any_at i p e in go (law.parts any_name i p m.0 e m.1)
    where
      go : {n : Name} → IsPartOf rules program limit a any_name p n → j ≤ length a.cells
      go (is_part_of q l r) = placed (term_has l h).1
  within {i = i} {j = j} (by_kept p e h) = let m = any_at i p e in go (law.parts any_name i p m.0 e m.1)
    where
      go : {n : Name} → IsPartOf rules program limit a any_name p n → j ≤ length a.cells
      go (is_part_of q l r) = placed (list_has r h).1
  within {i = i} {j = j} (by_done p v e s h) = let m = any_at i p e in go (tells rules program limit a law any_name {claim = 0} (in_value p e s) m.1).0
    where
      like : {u : Outcome Name} → LikeOutcome (called rules program limit a any_name) (gave (plain v)) u → j ≤ length a.cells
      like (like_gave l) = placed (value_has l h).1

      go : {n : Name} → GivesSo rules program limit a any_name n (gave (plain v)) → j ≤ length a.cells
      go (gives_so g l) = like l
  within {j = j} (by_make p q x e h f m) = number_within a.cells j q f

  pub reach_from : {i j : ℕ} → Reaches program.tops a i j → i ≤ length a.cells
  reach_from (reach_one r) = from_book r
  reach_from (reach_more r h) = from_book r

  module _ (site : Site) (x : Attempt) (w : Duty) (same : x.claim ≡ w.claim) (kind : Kind) (t : CodedTerm) (before : ℕ) (at : ClaimAt a site x) where
    abbrev pub new_cell : Cell
    new_cell = fresh_cell w t kind (before + 1)

    abbrev pub new : Account
    new = record a { cells = a.cells ++ new_cell ∷ [] }

    abbrev Knows : ℕ → Type 0
    Knows c = InList c (plains t.args) ⊎ InList c (referred program.tops (plains w.outcomes))

    -- a claim is old
    was_claim : (s : Site) (b : Attempt) → ClaimAt new s b → ClaimAt a s b
    was_claim s b (on_form q e) = on_form q e
    was_claim s b (on_cell {id = i} {p = y} q h) = go (at_pushed a.cells new_cell i y q)
      where
        go : AtPushed a.cells new_cell i y → ClaimAt a (at_cell i) b
        go (at_old r) = on_cell r h
        go (at_new r e) = elim (subst (λ (x : Cell). IsIn b x.attempts) (sym e) h) [ ]

    pub g : Grown a new
    g = record {
      cells = λ j z q. (z, old_at a.cells new_cell j z q, later_refl z);
      forms = λ k b q. (b, q, form_later_refl b);
      claims = λ s b h f. (b, was_claim s b h, refl, refl);
    }

    old_cell : (j : ℕ) (y : Cell) (b : Attempt) → cell_at new j ≡ Some y → IsIn b y.attempts → cell_at a j ≡ Some y
    old_cell j y b q h = go (at_pushed a.cells new_cell j y q)
      where
        go : AtPushed a.cells new_cell j y → cell_at a j ≡ Some y
        go (at_old r) = r
        go (at_new r e) = elim (subst (λ (x : Cell). IsIn b x.attempts) (sym e) h) [ ]

    founded_at : (s : Site) (b : Attempt) → ClaimAt new s b → Founded a b.claim
    founded_at s b h = founded_of rules program limit a law (was_claim s b h)

    founded_new : {mode : Mode} {d : ℕ} {e : Name} → ClaimName rules program limit new mode d e → Founded a d
    founded_new (form_name q r) = subst (λ x. Founded a x) r (founded_at _ _ (on_form q refl))
    founded_new (future_name q h r k m) = subst (λ x. Founded a x) r (founded_at _ _ (on_cell q h))
    founded_new (failing_name q h r k s m gv nd l) = subst (λ x. Founded a x) r (founded_at _ _ (on_cell q h))
    founded_new (other_name q h r k m gv) = subst (λ x. Founded a x) r (founded_at _ _ (on_cell q h))

    old_name : {mode : Mode} {d : ℕ} {e : Name} → ClaimName rules program limit new mode d e → ClaimName rules program limit a mode d e
    old_name {mode = mode} m = claim_less a new g rules program limit mode law m (founded_new m)

    -- a cell's name: an old cell's, or the next part of the maker's name
    data NewName (mode : Mode) (i : ℕ) (n : Name) : Type 0 where
      name_of_old : (cell : Cell) → cell_at a i ≡ Some cell → CellName rules program limit a mode i n → NewName mode i n
      name_of_new : (e : Name) → i ≡ suc (length a.cells) → ClaimName rules program limit a mode w.claim e → part e (before + 1) ≡ n → NewName mode i n

    new_name : {mode : Mode} {i : ℕ} {n : Name} → CellName rules program limit new mode i n → NewName mode i n
    new_name {mode = mode} (cell_name {id = i} {p = cell} {e = e} p c) = go (at_pushed a.cells new_cell i cell p)
      where
        go : AtPushed a.cells new_cell i cell → NewName mode i (part e cell.ordinal)
        go (at_old q) = name_of_old cell q (cell_name q (old_name c))
        go (at_new q r) = name_of_new e q (subst (λ x. ClaimName rules program limit a mode x e) (sym (ap (λ (x : Cell). x.maker) r)) (old_name c)) (ap (λ (x : Cell). part e x.ordinal) r)

    data Edge (i j : ℕ) : Type 0 where
      edge_old : Refers program.tops a i j → Edge i j
      edge_to : j ≡ suc (length a.cells) → site ≡ at_cell i → Edge i j
      edge_from : i ≡ suc (length a.cells) → Knows j → Edge i j

    edge : {i j : ℕ} → Refers program.tops new i j → Edge i j
    edge {i = i} {j = j} (by_term cell p h) = go (at_pushed a.cells new_cell i cell p)
      where
        go : AtPushed a.cells new_cell i cell → Edge i j
        go (at_old q) = edge_old (by_term cell q h)
        go (at_new e z) = edge_from e (inl (subst (λ (x : Cell). InList j (plains x.term.args)) (sym z) h))
    edge {i = i} {j = j} (by_kept cell p h) = go (at_pushed a.cells new_cell i cell p)
      where
        go : AtPushed a.cells new_cell i cell → Edge i j
        go (at_old q) = edge_old (by_kept cell q h)
        go (at_new e z) = edge_from e (inr (subst (λ (x : Cell). InList j (referred program.tops (plains x.outcomes))) (sym z) h))
    edge {i = i} {j = j} (by_done cell v p s h) = go (at_pushed a.cells new_cell i cell p)
      where
        go : AtPushed a.cells new_cell i cell → Edge i j
        go (at_old q) = edge_old (by_done cell v q s h)
        go (at_new e z) = let y = ap (λ (x : Cell). x.state) z ∙ s in absurd cc
    edge {i = i} {j = j} (by_make cell made b p h q e) = go (at_pushed a.cells new_cell i cell p) (at_pushed a.cells new_cell j made q)
      where
        go : AtPushed a.cells new_cell i cell → AtPushed a.cells new_cell j made → Edge i j
        go (at_new z y) k = elim (subst (λ (x : Cell). IsIn b x.attempts) (sym y) h) [ ]
        go (at_old z) (at_old y) = edge_old (by_make cell made b z h y e)
        go (at_old z) (at_new y v) =
            let k : x.claim ≡ b.claim = same ∙ (ap (λ (x : Cell). x.maker) v ∙ e) in
            edge_to y (law.one_claim_each site (at_cell i) x b at (on_cell z h) k).0

    data Path (i j : ℕ) : Type 0 where
      path_old : Reaches program.tops a i j → Path i j
      path_to : j ≡ suc (length a.cells) → (p : ℕ) → site ≡ at_cell p → (i ≡ p) ⊎ Reaches program.tops a i p → Path i j
      path_from : i ≡ suc (length a.cells) → (x : ℕ) → Knows x → (x ≡ j) ⊎ Reaches program.tops a x j → Path i j

    place_in : (p : ℕ) → site ≡ at_cell p → p ≤ length a.cells
    place_in p e = go at e
      where
        go : {q : Site} {b : Attempt} → ClaimAt a q b → q ≡ at_cell p → p ≤ length a.cells
        go (on_form z y) e = absurd cc
        go (on_cell {id = i} {p = cell} z h) e = let l = number_within a.cells i cell z in let d : i ≡ p = cc in omega arith

    or_in : {i p : ℕ} → p ≤ length a.cells → (i ≡ p) ⊎ Reaches program.tops a i p → i ≤ length a.cells
    or_in h (inl e) = omega arith
    or_in h (inr r) = reach_from r

    module _ (room : length a.cells < a.limit) (next : (mode : Mode) (e : Name) → ClaimName rules program limit a mode w.claim e → MakesNext rules program limit a mode kind (plain_term t) w.outcomes before e) (below : (i : ℕ) (cell : Cell) → cell_at a i ≡ Some cell → cell.maker ≡ w.claim → cell.ordinal ≤ before) (all_before : (j : ℕ) → j < before → HasMade a w.claim (suc j)) (seen : (i : ℕ) → site ≡ at_cell i → (c : ℕ) → Knows c → Reaches program.tops a i c) where
      known : (c : ℕ) → Knows c → c ≤ length a.cells
      known c s = let r = some_name rules program limit a (subst (λ c. Founded a c) same (founded_of rules program limit a law at)) in go s (next any_name r.0 r.1)
        where
          go : {e : Name} → Knows c → MakesNext rules program limit a any_name kind (plain_term t) w.outcomes before e → c ≤ length a.cells
          go (inl h) (makes_next of tr q l m) = placed (term_has l h).1
          go (inr h) (makes_next of tr q l m) = placed (list_has m h).1

      reach_in : {i j : ℕ} → Reaches program.tops a i j → j ≤ length a.cells
      reach_in (reach_one r) = within r
      reach_in (reach_more r h) = reach_in h

      step : {i l p : ℕ} → Refers program.tops a i l → (l ≡ p) ⊎ Reaches program.tops a l p → Reaches program.tops a i p
      step {i = i} r (inl e) = subst (λ x. Reaches program.tops a i x) e (reach_one r)
      step r (inr h) = reach_more r h

      onward : {i x j : ℕ} → Reaches program.tops a i x → (x ≡ j) ⊎ Reaches program.tops a x j → Reaches program.tops a i j
      onward {i = i} h (inl e) = subst (λ y. Reaches program.tops a i y) e h
      onward h (inr k) = joined program.tops a h k

      first : {i j : ℕ} → Edge i j → Path i j
      first (edge_old r) = path_old (reach_one r)
      first {i = i} (edge_to e pl) = path_to e i pl (inl refl)
      first {j = j} (edge_from e s) = path_from e j s (inl refl)

      longer : {i l j : ℕ} → Edge i l → Path l j → Path i j
      longer (edge_old r) (path_old h) = path_old (reach_more r h)
      longer (edge_old r) (path_to e p pl z) = path_to e p pl (inr (step r z))
      longer (edge_old r) (path_from e x s z) = let h = within r in absurd (omega arith)
      longer (edge_to e pl) (path_old h) = let k = reach_from h in absurd (omega arith)
      longer (edge_to e pl) (path_to e' p pl' z) = let k = or_in (place_in p pl') z in absurd (omega arith)
      longer {i = i} (edge_to e pl) (path_from e' x s z) = path_old (onward (seen i pl x s) z)
      longer {l = l} (edge_from e s) (path_old h) = path_from e l s (inr h)
      longer {l = l} (edge_from e s) (path_to e' p pl z) = absurd (law.acyclic p (onward (seen p pl l s) z))
      longer {l = l} (edge_from e s) (path_from e' x s' z) = let k = known l s in absurd (omega arith)

      path : {i j : ℕ} → Reaches program.tops new i j → Path i j
      path (reach_one r) = first (edge r)
      path (reach_more r h) = longer (edge r) (path h)

      no_cycle : {i : ℕ} → Path i i → ⊥
      no_cycle {i = i} (path_old h) = law.acyclic i h
      no_cycle (path_to e p pl z) = let k = or_in (place_in p pl) z in omega arith
      no_cycle (path_from e x s (inl d)) = let k = known x s in omega arith
      no_cycle (path_from e x s (inr h)) = let k = reach_in h in omega arith

      not_spent : a.spent ≡ false
      not_spent = go a.spent refl
        where
          go : (b : Bool) → a.spent ≡ b → a.spent ≡ false
          go false p = p
          go true p = let h = law.spent_at_limit p in absurd (omega arith)

      fresh : {i : ℕ} {e n : Name} → ClaimName rules program limit a own_name w.claim e → CellName rules program limit a own_name i n → part e (before + 1) ≡ n → ⊥
      fresh {e = e} c (cell_name {id = i} {p = cell} {e = e'} p c') q =
          let r : e ≡ e' = cc in
          let o : before + 1 ≡ cell.ordinal = cc in
          let s = law.claims_apart not_spent cell.maker w.claim e (subst (λ x. ClaimName rules program limit a own_name cell.maker x) (sym r) c') c in
          let b = below i cell p s in
          omega arith

      one_cell_each : {i j : ℕ} {n : Name} → NewName own_name i n → NewName own_name j n → i ≡ j
      one_cell_each (name_of_old cell p m) (name_of_old cell' p' m') = law.one_cell_each _ _ _ m m'
      one_cell_each (name_of_old cell p m) (name_of_new e q c r) = absurd (fresh c m r)
      one_cell_each (name_of_new e q c r) (name_of_old cell p m) = absurd (fresh c m r)
      one_cell_each (name_of_new e q c r) (name_of_new e' q' c' r') = q ∙ sym q'

      new_part : (mode : Mode) (e : Name) → MakesNext rules program limit a mode kind (plain_term t) w.outcomes before e → IsPartOf rules program limit new mode new_cell (part e (suc before))
      new_part mode e (makes_next of tr q l m) = is_part_of (part_of of tr q) (as-term l (λ c d i r. cell_more a new g rules program limit mode r)) (as-list m (λ c d i r. cell_more a new g rules program limit mode r))

      more_one : suc before ≡ before + 1
      more_one = omega arith

      parts : (mode : Mode) (i : ℕ) (cell : Cell) (n : Name) → cell_at new i ≡ Some cell → NewName mode i n → IsPartOf rules program limit new mode cell n
      parts mode i cell n p (name_of_old found q m) =
          let r : found ≡ cell = let s = old_at a.cells new_cell i found q in cc in
          subst (λ x. IsPartOf rules program limit new mode x n) r (part_more a new g rules program limit mode (later_refl found) (law.parts mode i found n q m))
      parts mode i cell n p (name_of_new e q c r) =
          let s : cell_at new (suc (length a.cells)) ≡ Some new_cell = new_at a.cells new_cell in
          let d : cell_at new (suc (length a.cells)) ≡ Some cell = subst (λ x. cell_at new x ≡ Some cell) q p in
          let f : new_cell ≡ cell = cc in
          subst (λ x. IsPartOf rules program limit new mode x n) f (subst (λ x. IsPartOf rules program limit new mode new_cell x) (ap (part e) more_one ∙ r) (new_part mode e (next mode e c)))

      maker : (i : ℕ) (cell : Cell) → AtPushed a.cells new_cell i cell → Founded new cell.maker
      maker i cell (at_old q) = founded_more a new g (law.makers i cell q)
      maker i cell (at_new q e) = subst (λ (x : Cell). Founded new x.maker) e (founded_more a new g (subst (λ c. Founded a c) same (founded_of rules program limit a law at)))

      state : (i : ℕ) (cell : Cell) → AtPushed a.cells new_cell i cell → StateOf cell.kind cell.attempts cell.state
      state i cell (at_old q) = law.states i cell q
      state i cell (at_new q e) = subst (λ (x : Cell). StateOf x.kind x.attempts x.state) e (so_empty (λ b h. elim h [ ]))

      once : (i : ℕ) (cell : Cell) → AtPushed a.cells new_cell i cell → Distinct cell.attempts
      once i cell (at_old q) = law.attempts_once i cell q
      once i cell (at_new q e) = subst (λ (x : Cell). Distinct x.attempts) e none_twice

      asker : {b : Attempt} → HasAsker a b → HasAsker new b
      asker (has_asker s f) = has_asker s (founded_more a new g f)

      pub making_keeps : Lawful rules program limit new
      making_keeps = record {
        one_cell_each = λ i j n p q. one_cell_each (new_name p) (new_name q);
        one_claim_each = λ p q b d h k e. law.one_claim_each p q b d (was_claim p b h) (was_claim q d k) e;
        parts = λ mode i cell n p q. parts mode i cell n p (new_name q);
        makers = λ i cell p. maker i cell (at_pushed a.cells new_cell i cell p);
        askers = λ i cell b p h k. asker (law.askers i cell b (old_cell i cell b p h) h k);
        asked = λ i cell b d n e p h k r m l. (let q = old_cell i cell b p h in law.asked i cell b d n e q h k r (cell_less a new g rules program limit own_name law m cell q) (claim_less a new g rules program limit own_name law l (asker_founded a new g rules program limit own_name law (law.askers i cell b q h k) r)));
        claims_apart = λ s c d e h k. law.claims_apart s c d e (old_name h) (old_name k);
        ended = λ mode s b o e h q m. ends_more a new g rules program limit mode (law.ended mode s b o e (was_claim s b h) (ended_was rules program limit a law new g s b o (was_claim s b h) q) (old_name m));
        no_gaps = λ i cell j p h. gaps i cell j (at_pushed a.cells new_cell i cell p) h;
        attempts_once = λ i cell p. once i cell (at_pushed a.cells new_cell i cell p);
        states = λ i cell p. state i cell (at_pushed a.cells new_cell i cell p);
        values = law.values;
        noted = λ p b h q. law.noted p b (was_claim p b h) q;
        within = omega (arith, length-append a.cells (new_cell ∷ []));
        spent_at_limit = λ s. (let h = law.spent_at_limit s in omega (arith, length-append a.cells (new_cell ∷ [])));
        spent_over = law.spent_over;
        forms_are = law.forms_are;
        forms_done = law.forms_done;
        acyclic = λ i h. no_cycle (path h);
      }
        where
          gaps : (i : ℕ) (cell : Cell) (j : ℕ) → AtPushed a.cells new_cell i cell → suc j < cell.ordinal → HasMade new cell.maker (suc j)
          gaps i cell j (at_old q) h = made_more a new g (law.no_gaps i cell j q h)
          gaps i cell j (at_new q e) h =
              let l : suc j < before + 1 = subst (λ (x : Cell). suc j < x.ordinal) (sym e) h in
              subst (λ (x : Cell). HasMade new x.maker (suc j)) e (made_more a new g (all_before j (omega arith)))
