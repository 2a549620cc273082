-- `make` by a work keeps a book lawful: the premise in names is found from the run in numbers.
use Rattle.std.proofs.Common.{◌≡◌, ◌⊎◌, inl, inr, ℕ, zero, suc, ◌+◌, ◌<◌, ◌≤◌, ◌==◌, List, [], ◌∷◌, ◌++◌, length, map, Some, slice_get, Bool, true, false, cond, refl, ap, sym, subst, ◌∙◌, arith, eq-eqb}
use Rattle.std.proofs.lemmas.Option.{slice_get_within}
use Rattle.seq_values.specs.declared.words.Kind.{Kind}
use Rattle.seq_values.specs.declared.term.Term.{Term as CodedTerm}
use Rattle.seq_values.specs.Model.{Term}
use Rattle.seq_values.specs.Plain.{plains, plain_term}
use Rattle.clj_script.specs.Trees.{Program}
use Rattle.seq_plan.specs.Plan.{Plan, make, Rules}
use Rattle.cell_book.specs.declared.cell.Attempt.{Attempt}
use Rattle.cell_book.specs.declared.cell.Cell.{Cell}
use Rattle.cell_book.specs.declared.work.Place.TheVariants as P
use Rattle.cell_book.specs.Account.{Account, Duty, cell_at, opened, made_from, made_by}
use Rattle.cell_book.specs.Glimpses.{glimpse}
use Rattle.cell_book.specs.Steps.{new_cell as next_cell, fresh_cell}
use Rattle.cell_book.proofs.Lists.{get_within}
use Rattle.seq_meaning.specs.Counts.{IsIn, here, there}
use Rattle.seq_meaning.specs.Names.{Name}
use Rattle.seq_meaning.specs.Walk.{Made, made}
use Rattle.seq_lawful.specs.Renaming.{NamesRename}
use Rattle.seq_meaning.specs.Referred.{referred}
use Rattle.seq_lawful.specs.Refers.{InList, Reaches}
use Rattle.seq_lawful.specs.Sites.{Mode, any_name, Site, at_form, at_cell, ClaimAt, on_cell, HasMade, has_made}
use Rattle.seq_lawful.specs.Lawful.{ClaimName, Lawful}
use Rattle.seq_lawful.proofs.NextSteps.{MakesNext}
use Rattle.seq_lawful.specs.Runs.{MadeIn, OnRun}
use Rattle.seq_lawful.proofs.Bridge.{term_seen}
use Rattle.seq_lawful.proofs.Premises.{on_makes}
use Rattle.seq_lawful.proofs.Making.{making_keeps}
use Rattle.seq_lawful.proofs.Parts.{here_on, open_in, sees, under, all_seen, a_name}

in_rest : (b : Bool) (n c : ℕ) (xs : List ℕ) → IsIn c xs → IsIn c (cond b (n ∷ xs) xs)
in_rest true n c xs h = there h
in_rest false n c xs h = h

in_first_of : (b : Bool) (n : ℕ) (xs : List ℕ) → b ≡ true → IsIn n (cond b (n ∷ xs) xs)
in_first_of true n xs e = here
in_first_of false n xs e = absurd cc

-- a cell that the claim made is among its makes
in_made : (claim : ℕ) (cells : List Cell) (i n : ℕ) (p : Cell) → slice_get cells i ≡ Some p → p.maker ≡ claim → IsIn (n + i) (made_from claim cells n)
in_made claim [] i n p e m = absurd cc
in_made claim (q ∷ cells) zero n p e m =
    let z : q ≡ p = cc in
    let k : n ≡ n + 0 = omega arith in
    subst (λ x. IsIn x (made_from claim (q ∷ cells) n)) k (in_first_of (q.maker == claim) n (made_from claim cells (suc n)) (eq-eqb q.maker claim (ap (λ (x : Cell). x.maker) z ∙ m)))
in_made claim (q ∷ cells) (suc i) n p e m =
    let k : suc n + i ≡ n + suc i = omega arith in
    in_rest (q.maker == claim) n (n + suc i) (made_from claim cells (suc n)) (subst (λ x. IsIn x (made_from claim cells (suc n))) k (in_made claim cells i (suc n) p e m))

in_map : {M : Type 0} (xs : List (ℕ × M)) {c : ℕ} → IsIn c (map (λ x. x.0) xs) → (j : ℕ) × (m : M) × (slice_get xs j ≡ Some (c, m))
in_map [] h = elim h [ ]
in_map (x ∷ xs) here = (0, x.1, refl)
in_map (x ∷ xs) (there h) = let r = in_map xs h in (suc r.0, r.1, r.2)

length_map : {A B : Type 0} (f : A → B) (xs : List A) → length (map f xs) ≡ length xs
length_map f [] = refl
length_map f (x ∷ xs) = ap suc (length_map f xs)

module _ (numeric : Rules ℕ) (rules : Rules Name) (program : Program) (limit : ℕ) (alike : NamesRename numeric rules program limit) (a : Account) (law : Lawful rules program limit a) (w : Duty) (left : ℕ) (kind : Kind) (t : CodedTerm) (k : ℕ → Plan ℕ) (r : OnRun numeric program limit (glimpse a) w left (make kind (plain_term t) k)) where
  made_at : (j c : ℕ) (m : Made ℕ) → slice_get r.mades j ≡ Some (c, m) → (kind : Kind) × (t : Term ℕ) × MadeIn (glimpse a) w j c kind t
  made_at j c (made kind t) q = (kind, t, r.cells j c kind t q)

  pub below : (i : ℕ) (p : Cell) → cell_at a i ≡ Some p → p.maker ≡ w.claim → p.ordinal ≤ length r.mades
  below zero p e m = absurd cc
  below (suc i) p e m =
      let u : 1 + i ≡ suc i = omega arith in
      let j = in_map r.mades (subst (λ l. IsIn (suc i) l) r.numbers (subst (λ x. IsIn x (made_from w.claim a.cells 1)) u (in_made w.claim a.cells i 1 p e m))) in
      let n = (made_at j.0 (suc i) j.1 j.2).2 in
      let z : n.cell ≡ p = let x = n.at in cc in
      let o : p.ordinal ≡ suc j.0 = ap (λ (x : Cell). x.ordinal) (sym z) ∙ n.ordinal in
      let h = slice_get_within r.mades j.0 (suc i, j.1) j.2 in
      omega arith

  pub all_before : (j : ℕ) → j < length r.mades → HasMade a w.claim (suc j)
  all_before j h =
      let x = get_within r.mades j h in
      let n = (made_at j x.0.0 x.0.1 x.1).2 in
      has_made x.0.0 n.cell n.at n.maker n.ordinal

  as_many : length (made_by w.claim a) ≡ length r.mades
  as_many = ap length r.numbers ∙ length_map (λ x. x.0) r.mades

  -- the make, from what the run is under each name
  pub make_next : (site : Site) (x : Attempt) (same : x.claim ≡ w.claim) → ClaimAt a site x → length a.cells < a.limit → ((mode : Mode) (e : Name) → ClaimName rules program limit a mode w.claim e → MakesNext rules program limit a mode kind (plain_term t) w.outcomes (length r.mades) e) → ((i : ℕ) → site ≡ at_cell i → (c : ℕ) → InList c (plains t.args) ⊎ InList c (referred program.tops (plains w.outcomes)) → Reaches program.tops a i c) → (b : Account) → b ≡ record a { cells = a.cells ++ next_cell a w t kind ∷ [] } → Lawful rules program limit b
  make_next site x same at room next seen b eq = subst (λ y. Lawful rules program limit y) (sym (eq ∙ ap (λ n. record a { cells = a.cells ++ fresh_cell w t kind (n + 1) ∷ [] }) as_many)) (making_keeps rules program limit a law site x w same kind t (length r.mades) at room next below all_before seen)

  pub make_part : {id : ℕ} {k2 : Kind} {term : CodedTerm} → w.place ≡ P.Part id k2 term → length a.cells < a.limit → (b : Account) → b ≡ record a { cells = a.cells ++ next_cell a w t kind ∷ [] } → Lawful rules program limit b
  make_part {id = id} {k2 = k2} {term = term} pl room b eq =
      let here_it = here_on numeric rules program limit alike a law w pl left (make kind (plain_term t) k) r in
      make_next (at_cell id) (opened w.claim here_it.asker) refl (on_cell here_it.at (open_in numeric rules program limit alike a law w pl left (make kind (plain_term t) k) r)) room (λ mode e m. on_makes numeric rules program limit alike a mode (at_form zero) (under numeric rules program limit alike a law w pl left (make kind (plain_term t) k) r mode (at_form zero) (all_seen numeric rules program limit alike a law w pl left (make kind (plain_term t) k) r mode) m) kind (plain_term t) k refl) seen b eq
    where
      known : (c : ℕ) → InList c (plains t.args) ⊎ InList c (referred program.tops (plains w.outcomes)) → Reaches program.tops a id c
      known c (inl h) =
          let s = sees numeric rules program limit alike a law w pl left (make kind (plain_term t) k) r in
          let n = a_name numeric rules program limit alike a law w pl left (make kind (plain_term t) k) r in
          term_seen numeric rules program limit alike a any_name (at_cell id) law w left (make kind (plain_term t) k) r s kind (plain_term t) k refl (under numeric rules program limit alike a law w pl left (make kind (plain_term t) k) r any_name (at_cell id) s n.1) c h
      known c (inr h) = (sees numeric rules program limit alike a law w pl left (make kind (plain_term t) k) r).befores c h

      seen : (i : ℕ) → at_cell id ≡ at_cell i → (c : ℕ) → InList c (plains t.args) ⊎ InList c (referred program.tops (plains w.outcomes)) → Reaches program.tops a i c
      seen i e c h = let d : id ≡ i = cc in subst (λ x. Reaches program.tops a x c) d (known c h)
