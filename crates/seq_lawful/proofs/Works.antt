-- A work on a form or a part: what its run is under each of its names, and its makes and claims.
use Rattle.std.proofs.Common.{◌≡◌, ℕ, zero, suc, ◌<◌, ◌≤◌, [], ◌∷◌, ◌++◌, length, Option, Some, None, slice_get, true, refl, ap, sym, subst, ◌∙◌, arith}
use Rattle.std.specs.Prelude.{Ok, Err}
use Rattle.std.proofs.lemmas.Option.{slice_get_within}
use Rattle.seq_base.specs.declared.thrown.Thrown.{Thrown}
use Rattle.seq_values.specs.declared.words.Kind.{Kind}
use Rattle.seq_values.specs.declared.words.Kind.TheVariants.{Future}
use Rattle.seq_values.specs.declared.term.Term.{Term as CodedTerm}
use Rattle.seq_values.specs.Model.{Value, gave, threw}
use Rattle.seq_values.specs.Plain.{plains, plain_term}
use Rattle.clj_script.specs.Trees.{Top, Program}
use Rattle.seq_plan.specs.Plan.{Plan, ask, make, give, throw, Rules}
use Rattle.seq_plan.specs.Alike.{by, LikeList}
use Rattle.cell_book.specs.declared.cell.Cell.{Cell}
use Rattle.cell_book.specs.Account.{Account, Duty, cell_at, opened}
use Rattle.cell_book.specs.Glimpses.{glimpse}
use Rattle.cell_book.specs.Steps.{begun_form, Claims, ClaimAnswer, new_cell as next_cell}
use Rattle.seq_meaning.specs.Counts.{IsIn}
use Rattle.seq_meaning.specs.Evaluates.{form_plan}
use Rattle.seq_meaning.specs.Gives.{Before, of_top}
use Rattle.seq_meaning.specs.Names.{Name, form}
use Rattle.seq_meaning.proofs.AlikeWalk.{like-form_plan}
use Rattle.seq_lawful.specs.Renaming.{NamesRename}
use Rattle.seq_meaning.specs.Referred.{referred}
use Rattle.seq_lawful.specs.Sites.{Mode, own_name, at_form, at_cell, on_form, on_cell, Founded}
use Rattle.seq_lawful.specs.Lawful.{ClaimName, form_name, future_name, failing_name, other_name, EndsSo, Lawful}
use Rattle.seq_lawful.specs.Runs.{IsBefore, script_in, Stands, stands_part, stands_form, OnRun}
use Rattle.seq_lawful.proofs.NextSteps.{MakesNext}
use Rattle.seq_lawful.proofs.More.{as-list}
use Rattle.seq_lawful.proofs.Named.{founded_of, not_on_form}
use Rattle.seq_lawful.proofs.Looking.{last_is}
use Rattle.seq_lawful.proofs.Bridge.{Both, WorksOn, works_on, like_scripts, SeesAll, works_part, Bridged, bridge, ends_value, ends_error}
use Rattle.seq_lawful.proofs.Premises.{on_makes, on_needs}
use Rattle.seq_lawful.proofs.Befores.{all_befores}
use Rattle.seq_lawful.proofs.MakeParts.{below, make_next, make_part}
use Rattle.seq_lawful.proofs.Spending.{spending_keeps}
use Rattle.seq_lawful.proofs.ClaimParts.{claim_next, claim_any_future}

module _ (numeric : Rules ℕ) (rules : Rules Name) (program : Program) (limit : ℕ) (alike : NamesRename numeric rules program limit) (a : Account) (law : Lawful rules program limit a) where
  -- the claim of a form has the form's name
  form_only : (mode : Mode) (k number claim : ℕ) → slice_get a.forms k ≡ Some (begun_form number claim) → {c : ℕ} {e : Name} → c ≡ claim → ClaimName rules program limit a mode c e → e ≡ form (suc k)
  form_only mode k number claim at z (form_name {k = j} {f = f} p q) =
      let s = (law.one_claim_each (at_form j) (at_form k) f.attempt (opened claim None) (on_form p refl) (on_form at refl) (q ∙ z)).0 in
      let d : j ≡ k = cc in ap (λ i. form (suc i)) d
  form_only mode k number claim at z (future_name p h q k2 m) = absurd (not_on_form rules program limit a law _ _ p h q at (sym z))
  form_only mode k number claim at z (failing_name p h q k2 s m g nd l) = absurd (not_on_form rules program limit a law _ _ p h q at (sym z))
  form_only mode k number claim at z (other_name p h q k2 m g) = absurd (not_on_form rules program limit a law _ _ p h q at (sym z))

  module _ (w : Duty) (left : ℕ) (plan : Plan ℕ) (r : OnRun numeric program limit (glimpse a) w left plan) where
    all : (mode : Mode) → SeesAll numeric rules program limit alike a mode (at_form zero) w r.asks r.mades
    all mode = record { terms = λ j k t q c h. tt; befores = λ c h. tt; learns = λ c o i s v q d h. tt; makes = λ c m i. tt }

    works_form : (mode : Mode) {number k : ℕ} {t : Top} {e : Name} → slice_get a.forms k ≡ Some (begun_form number w.claim) → slice_get program.tops k ≡ Some t → length w.outcomes ≡ k → ((i : ℕ) → i < k → IsBefore (glimpse a) w.outcomes i) → ClaimName rules program limit a mode w.claim e → WorksOn numeric rules program limit alike a mode (at_form zero) w (form_plan (script_in numeric program limit w.outcomes) t) e
    works_form mode {number = number} {k = k} {t = t} {e = e} at top len before m =
        let long : length w.outcomes < length a.forms = subst (λ i. i < length a.forms) (sym len) (slice_get_within a.forms k (begun_form number w.claim) at) in
        let b = all_befores rules program limit a law mode w.outcomes long (λ i h. before i (subst (λ x. i < x) len h)) in
        let l2 : LikeList (by (Both numeric rules program limit alike a mode (at_form zero))) (referred program.tops (plains w.outcomes)) b.0 = as-list b.2 (λ c d i x. (x, tt)) in
        let f = form_only mode k number w.claim at refl m in
        subst (λ x. WorksOn numeric rules program limit alike a mode (at_form zero) w (form_plan (script_in numeric program limit w.outcomes) t) x) (sym f) (works_on (of_top (subst (λ i. Before rules program limit i b.0) len b.1) top) l2 (like-form_plan (like_scripts numeric rules program limit alike a mode (at_form zero) w l2) t))

    works : (mode : Mode) {e : Name} {whole : Plan ℕ} → Stands numeric program limit (glimpse a) w whole → ClaimName rules program limit a mode w.claim e → WorksOn numeric rules program limit alike a mode (at_form zero) w whole e
    works mode (stands_part p pl at ho tm kd oc) m = works_part numeric rules program limit alike a mode (at_form zero) law (all mode) p pl at ho tm oc m
    works mode (stands_form pl at top len before) m = works_form mode at top len before m

    -- what the run is under each name of the work's claim
    pub under_any : (mode : Mode) {e : Name} → ClaimName rules program limit a mode w.claim e → Bridged numeric rules program limit alike a mode (at_form zero) w e left plan r.asks r.mades
    under_any mode m = bridge numeric rules program limit alike a mode (at_form zero) law w left plan r (all mode) m (works mode r.stands m)

    pub gives_any : (v : Value ℕ) → plan ≡ give v → (mode : Mode) (e : Name) → ClaimName rules program limit a mode w.claim e → EndsSo rules program limit a mode w.claim e (gave v)
    gives_any v z mode e m = ends_value numeric rules program limit alike a mode (at_form zero) law w left plan r (all mode) v z (under_any mode m)

    pub throws_any : (why : Thrown) → plan ≡ throw why → (mode : Mode) (e : Name) → ClaimName rules program limit a mode w.claim e → EndsSo rules program limit a mode w.claim e (threw why)
    throws_any why z mode e m = ends_error numeric rules program limit alike a mode (at_form zero) law w left plan r (all mode) why z (under_any mode m)

    -- its claim is one of the book
    pub founded_work : Founded a w.claim
    founded_work = go r.stands
      where
        go : {whole : Plan ℕ} → Stands numeric program limit (glimpse a) w whole → Founded a w.claim
        go (stands_part {asker = asker} {past = past} p pl at ho tm kd oc) = founded_of rules program limit a law (on_cell {x = opened w.claim asker} at (subst (λ l. IsIn (opened w.claim asker) l) (sym ho.attempts) (last_is past (opened w.claim asker))))
        go (stands_form pl at top len before) = founded_of rules program limit a law (on_form at refl)

  pub claim_keeps : (b : Account) (w : Duty) (n c : ℕ) (k : Value ℕ → Plan ℕ) (answer : ClaimAnswer) → OnRun numeric program limit (glimpse a) w (suc n) (ask c k) → Claims a c (Some w.claim) answer b → Lawful rules program limit b
  claim_keeps b w n c k (Ok v) r (bar, o) = claim_next numeric rules program limit a law w n c k r (founded_work w (suc n) (ask c k) r) (λ e m. on_needs numeric rules program limit alike a own_name (at_form zero) (under_any w (suc n) (ask c k) r own_name m) c k n refl refl) v b bar o
  claim_keeps b w n c k (Err e) r (eq, o) = subst (λ x. Lawful rules program limit x) (sym eq) law

  pub claim_future_keeps : (b : Account) (c : ℕ) (p : Cell) (asker : Option ℕ) (answer : ClaimAnswer) → cell_at a c ≡ Some p → p.kind ≡ Future → Claims a c asker answer b → Lawful rules program limit b
  claim_future_keeps b c p asker (Ok v) at k (bar, o) = claim_any_future numeric rules program limit a law c p asker v b at k bar o
  claim_future_keeps b c p asker (Err e) at k (eq, o) = subst (λ x. Lawful rules program limit x) (sym eq) law

  -- a make below the limit
  pub make_keeps : (b : Account) (w : Duty) (n : ℕ) (kind : Kind) (t : CodedTerm) (k : ℕ → Plan ℕ) → OnRun numeric program limit (glimpse a) w n (make kind (plain_term t) k) → length a.cells < a.limit → b ≡ record a { cells = a.cells ++ next_cell a w t kind ∷ [] } → Lawful rules program limit b
  make_keeps b w n kind t k r room eq = go r.stands
    where
      go : {whole : Plan ℕ} → Stands numeric program limit (glimpse a) w whole → Lawful rules program limit b
      go (stands_part p pl at ho tm kd oc) = make_part numeric rules program limit alike a law w n kind t k r pl room b eq
      go (stands_form {number = number} {k = j} pl at top len before) = make_next numeric rules program limit alike a law w n kind t k r (at_form j) (opened w.claim None) refl (on_form at refl) room (λ mode e m. on_makes numeric rules program limit alike a mode (at_form zero) (under_any w n (make kind (plain_term t) k) r mode m) kind (plain_term t) k refl) (λ i z c h. absurd (not_cell z)) b eq
        where
          not_cell : {i : ℕ} → at_form j ≡ at_cell i → ⊥
          not_cell z = cc

  -- a make at the limit
  pub spend_keeps : (w : Duty) (n : ℕ) (kind : Kind) (t : CodedTerm) (k : ℕ → Plan ℕ) → OnRun numeric program limit (glimpse a) w n (make kind (plain_term t) k) → length a.cells ≡ a.limit → Lawful rules program limit (record a { spent = true })
  spend_keeps w n kind t k r full = go r.stands
    where
      next : (e : Name) → ClaimName rules program limit a own_name w.claim e → MakesNext rules program limit a own_name kind (plain_term t) w.outcomes (length r.mades) e
      next e m = on_makes numeric rules program limit alike a own_name (at_form zero) (under_any w n (make kind (plain_term t) k) r own_name m) kind (plain_term t) k refl

      least : a.limit ≤ length a.cells
      least = omega (arith, full)

      few : (i : ℕ) (p : Cell) → cell_at a i ≡ Some p → p.maker ≡ w.claim → p.ordinal ≤ length r.mades
      few = below numeric rules program limit alike a law w n kind t k r

      go : {whole : Plan ℕ} → Stands numeric program limit (glimpse a) w whole → Lawful rules program limit (record a { spent = true })
      go (stands_part {id = id} {asker = asker} {past = past} p pl at ho tm kd oc) = spending_keeps rules program limit a law (at_cell id) (opened w.claim asker) kind (plain_term t) w.outcomes (length r.mades) (on_cell at (subst (λ l. IsIn (opened w.claim asker) l) (sym ho.attempts) (last_is past (opened w.claim asker)))) least next few
      go (stands_form {number = number} {k = j} pl at top len before) = spending_keeps rules program limit a law (at_form j) (opened w.claim None) kind (plain_term t) w.outcomes (length r.mades) (on_form at refl) least next few
