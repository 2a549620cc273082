-- `finish`, `fail` and `give_up` of a part keep a book lawful: the premises in names are found from the run in numbers.
use Rattle.std.proofs.Common.{◌≡◌, ℕ, zero, List, Option, Some, true, refl, ap, sym, subst, ◌∙◌}
use Rattle.seq_base.specs.declared.thrown.Thrown.{Thrown}
use Rattle.seq_values.specs.declared.words.Kind.{Kind}
use Rattle.seq_values.specs.declared.words.Kind.TheVariants.{Lazy, Future}
use Rattle.seq_values.specs.declared.term.Term.{Term as CodedTerm}
use Rattle.seq_values.specs.declared.value.Value.{Value as Coded}
use Rattle.seq_values.specs.Model.{Value, Outcome, gave, threw}
use Rattle.seq_values.specs.Plain.{plain, plains}
use Rattle.clj_script.specs.Trees.{Program}
use Rattle.seq_plan.specs.Plan.{Plan, give, throw, Rules}
use Rattle.cell_book.specs.declared.cell.State.{State}
use Rattle.cell_book.specs.declared.cell.State.TheVariants as S
use Rattle.cell_book.specs.declared.cell.ClaimEnd.TheVariants as E
use Rattle.cell_book.specs.declared.cell.Attempt.{Attempt}
use Rattle.cell_book.specs.declared.cell.Cell.{Cell}
use Rattle.cell_book.specs.declared.work.Place.TheVariants as P
use Rattle.cell_book.specs.Account.{Account, Duty, cell_at, opened, closed}
use Rattle.cell_book.specs.Glimpses.{glimpse}
use Rattle.cell_book.specs.Steps.{HasOpen, EndsPart, failed_state, with_cell, after_claim, renumbered}
use Rattle.seq_meaning.specs.Counts.{IsIn}
use Rattle.seq_meaning.specs.Names.{Name}
use Rattle.seq_meaning.specs.Walk.{Made, made}
use Rattle.seq_lawful.specs.Renaming.{NamesRename}
use Rattle.seq_meaning.specs.Referred.{referred}
use Rattle.seq_lawful.specs.Refers.{InValue, InList, by_term, by_kept, by_done, by_make, Reaches, reach_one}
use Rattle.seq_lawful.specs.Sites.{Mode, any_name, Site, at_form, at_cell, on_cell, Ended, ended_threw, ended_cell}
use Rattle.seq_lawful.specs.Lawful.{ClaimName, EndsSo, Lawful}
use Rattle.seq_lawful.specs.Runs.{AnswerIn, in_value, in_failed, in_attempt, Stands, stands_part, stands_form, OnRun}
use Rattle.seq_lawful.proofs.Named.{founded_of, some_name}
use Rattle.seq_lawful.proofs.Looking.{last_is}
use Rattle.seq_lawful.proofs.Bridge.{place_of, WorksOn, SeesAll, works_part, Bridged, bridge, ends_value, ends_error, value_seen}
use Rattle.seq_lawful.proofs.Stepping.{joined, put_same}
use Rattle.seq_lawful.proofs.Closing.{finishes, fails_lazy, fails_future, gives_up, closing_keeps}

module _ (numeric : Rules ℕ) (rules : Rules Name) (program : Program) (limit : ℕ) (alike : NamesRename numeric rules program limit) (a : Account) (law : Lawful rules program limit a) (w : Duty) where
  -- the open claim of a work on a part
  pub record OnPart (id : ℕ) (kind : Kind) (term : CodedTerm) : Type 0 where
    pub cell : Cell
    pub asker : Option ℕ
    pub past : List Attempt
    pub at : cell_at a id ≡ Some cell
    pub has : HasOpen cell w.claim asker past
    pub term_is : cell.term ≡ term
    pub kind_is : cell.kind ≡ kind
    pub outcomes : cell.outcomes ≡ w.outcomes

  module _ {id : ℕ} {kind : Kind} {term : CodedTerm} (pl : w.place ≡ P.Part id kind term) where
    on_part : {whole : Plan ℕ} → Stands numeric program limit (glimpse a) w whole → OnPart id kind term
    on_part (stands_part {id = j} {kind = k} {term = t} {asker = asker} {past = past} p pl' at ho tm kd oc) =
        let z = sym pl' ∙ pl in
        let e : j ≡ id = cc in
        let f : t ≡ term = cc in
        let g : k ≡ kind = cc in
        record { cell = p; asker = asker; past = past; at = subst (λ x. cell_at a x ≡ Some p) e at; has = ho; term_is = tm ∙ f; kind_is = kd ∙ g; outcomes = oc }
    on_part (stands_form {number = number} {k = k} pl' f t l h) = let z = sym pl' ∙ pl in absurd cc

    abbrev Seen : ℕ → Type 0
    Seen = Reaches program.tops a id

    module _ (left : ℕ) (plan : Plan ℕ) (r : OnRun numeric program limit (glimpse a) w left plan) where
      pub here_on : OnPart id kind term
      here_on = on_part r.stands

      pub open_in : IsIn (opened w.claim here_on.asker) here_on.cell.attempts
      open_in = subst (λ l. IsIn (opened w.claim here_on.asker) l) (sym here_on.has.attempts) (last_is here_on.past (opened w.claim here_on.asker))

      -- all that the work sees is reached from its cell
      pub sees : SeesAll numeric rules program limit alike a any_name (at_cell id) w r.asks r.mades
      sees = record { terms = terms; befores = λ c i. reach_one (by_kept here_on.cell here_on.at (subst (λ o. InList c (referred program.tops (plains o))) (sym here_on.outcomes) i)); learns = λ c o i s v q d h. learns c o (r.answers c o i) s v q d h; makes = makes }
        where
          terms : (j : ℕ) (k : Kind) (t : CodedTerm) → w.place ≡ P.Part j k t → (c : ℕ) → InList c (plains t.args) → Seen c
          terms j k t q c h = let z = sym q ∙ pl in let e : t ≡ term = cc in reach_one (by_term here_on.cell here_on.at (subst (λ (x : CodedTerm). InList c (plains x.args)) (e ∙ sym here_on.term_is) h))

          learns : (c : ℕ) (o : Outcome ℕ) → AnswerIn (glimpse a) w.claim c o → Seen c → (v : Value ℕ) → o ≡ gave v → (d : ℕ) → InValue d v → Seen d
          learns c _ (in_value {v = u} p at st) s v q d h = let e : plain u ≡ v = cc in joined program.tops a s (reach_one (by_done p u at st (subst (λ x. InValue d x) (sym e) h)))
          learns c _ (in_failed p at st) s v q d h = absurd cc
          learns c _ (in_attempt p x at k i y z) s v q d h = absurd cc

          makes : (c : ℕ) (m : Made ℕ) → IsIn (c, m) r.mades → Seen c
          makes c (made k t) i =
              let j = place_of i in
              let n = r.cells j.0 c k t j.1 in
              reach_one (by_make here_on.cell n.cell (opened w.claim here_on.asker) here_on.at open_in n.at n.maker)

      -- the run under each name
      pub under : (mode : Mode) (site : Site) → SeesAll numeric rules program limit alike a mode site w r.asks r.mades → {e : Name} → ClaimName rules program limit a mode w.claim e → Bridged numeric rules program limit alike a mode site w e left plan r.asks r.mades
      under mode site s {e = e} m = bridge numeric rules program limit alike a mode site law w left plan r s m (works r.stands)
        where
          works : {whole : Plan ℕ} → Stands numeric program limit (glimpse a) w whole → WorksOn numeric rules program limit alike a mode site w whole e
          works (stands_part p pl' at ho tm kd oc) = works_part numeric rules program limit alike a mode site law s p pl' at ho tm oc m
          works (stands_form pl' f t l h) = let z = sym pl' ∙ pl in absurd cc

      pub all_seen : (mode : Mode) → SeesAll numeric rules program limit alike a mode (at_form zero) w r.asks r.mades
      all_seen mode = record { terms = λ j k t q c h. tt; befores = λ c h. tt; learns = λ c o i s v q d h. tt; makes = λ c m i. tt }

      -- some name of the claim
      pub a_name : (e : Name) × ClaimName rules program limit a any_name w.claim e
      a_name = some_name rules program limit a (founded_of rules program limit a law (on_cell here_on.at open_in))

      -- the claim has come to its end by this outcome
      ends_by : (o : Outcome ℕ) → Type 0
      ends_by o = (mode : Mode) (e : Name) → ClaimName rules program limit a mode w.claim e → EndsSo rules program limit a mode w.claim e o

      pub gives_it : (v : Value ℕ) → plan ≡ give v → (mode : Mode) (e : Name) → ClaimName rules program limit a mode w.claim e → EndsSo rules program limit a mode w.claim e (gave v)
      gives_it v z mode e m = ends_value numeric rules program limit alike a mode (at_form zero) law w left plan r (all_seen mode) v z (under mode (at_form zero) (all_seen mode) m)

      pub throws_it : (why : Thrown) → plan ≡ throw why → (mode : Mode) (e : Name) → ClaimName rules program limit a mode w.claim e → EndsSo rules program limit a mode w.claim e (threw why)
      throws_it why z mode e m = ends_error numeric rules program limit alike a mode (at_form zero) law w left plan r (all_seen mode) why z (under mode (at_form zero) (all_seen mode) m)

      seen_in : (v : Value ℕ) → plan ≡ give v → (x : ℕ) → InValue x v → Reaches program.tops a id x
      seen_in v z x h = value_seen numeric rules program limit alike a any_name (at_cell id) law w left plan r sees v z (under any_name (at_cell id) sees a_name.1) x h

      pub finish_part : (v : Coded) (b : Account) → plan ≡ give (plain v) → EndsPart a id w.claim E.Value (λ k. S.Done v) b → Lawful rules program limit b
      finish_part v b z (p, asker, past, at, ho, eq) = subst (λ x. Lawful rules program limit x) (sym eq) (closing_keeps rules program limit a law id p w.claim asker past E.Value (S.Done v) a.gave_up at ho finishes ends (λ u x q h. seen_in (plain v) z x (let d : u ≡ v = cc in subst (λ y. InValue x (plain y)) d h)))
        where
          new_cell : Cell
          new_cell = after_claim p w.claim asker past E.Value (S.Done v)

          new : Account
          new = with_cell a id new_cell

          ends : (o : Outcome ℕ) → Ended (with_cell a id (after_claim p w.claim asker past E.Value (S.Done v))) (at_cell id) (closed w.claim asker E.Value) o → (mode : Mode) (e : Name) → ClaimName rules program limit a mode w.claim e → EndsSo rules program limit a mode w.claim e o
          ends _ (ended_threw q) mode e m = absurd cc
          ends _ (ended_cell {v = u} q en at' st) mode e m =
              let k = put_same a.cells id (after_claim p w.claim asker past E.Value (S.Done v)) p at in
              let y : after_claim p w.claim asker past E.Value (S.Done v) ≡ q = cc in
              let d : v ≡ u = (let s : S.Done v ≡ S.Done u = ap (λ (c : Cell). c.state) y ∙ st in cc) in
              subst (λ x. EndsSo rules program limit a mode w.claim e (gave (plain x))) d (gives_it (plain v) z mode e m)

      pub fail_part : (why : Thrown) (b : Account) → plan ≡ throw why → EndsPart a id w.claim (E.Error why) (failed_state why) b → Lawful rules program limit b
      fail_part why b z (p, asker, past, at, ho, eq) = subst (λ x. Lawful rules program limit x) (sym eq) (by_kind p.kind refl)
        where
          ends : (s : State) → (o : Outcome ℕ) → Ended (with_cell a id (after_claim p w.claim asker past (E.Error why) s)) (at_cell id) (closed w.claim asker (E.Error why)) o → (mode : Mode) (e : Name) → ClaimName rules program limit a mode w.claim e → EndsSo rules program limit a mode w.claim e o
          ends s _ (ended_threw {why = y} q) mode e m = let d : why ≡ y = cc in subst (λ x. EndsSo rules program limit a mode w.claim e (threw x)) d (throws_it why z mode e m)
          ends s _ (ended_cell q en at' st) mode e m = absurd cc

          by_kind : (k : Kind) → p.kind ≡ k → Lawful rules program limit (with_cell a id (after_claim p w.claim asker past (E.Error why) (failed_state why k)))
          by_kind Lazy k = closing_keeps rules program limit a law id p w.claim asker past (E.Error why) S.Empty a.gave_up at ho (fails_lazy k) (ends S.Empty) (λ u x q h. absurd cc)
          by_kind Future k = closing_keeps rules program limit a law id p w.claim asker past (E.Error why) (S.Failed why) a.gave_up at ho (fails_future k) (ends (S.Failed why)) (λ u x q h. absurd cc)

-- no run is needed to give up
module _ (rules : Rules Name) (program : Program) (limit : ℕ) (a : Account) (law : Lawful rules program limit a) where
  pub give_up_part : (id claim : ℕ) (m b : Account) → EndsPart a id claim E.GivenUp (λ k. S.Empty) m → b ≡ record m { gave_up = true } → Lawful rules program limit b
  give_up_part id claim m b (p, asker, past, at, ho, eq) q = subst (λ x. Lawful rules program limit x) (sym (q ∙ ap (λ (x : Account). record x { gave_up = true }) eq)) (closing_keeps rules program limit a law id p claim asker past E.GivenUp S.Empty true at ho gives_up ends (λ u x q h. absurd cc))
    where
      ends : (o : Outcome ℕ) → Ended (record a { cells = renumbered a.cells id (after_claim p claim asker past E.GivenUp S.Empty); gave_up = true }) (at_cell id) (closed claim asker E.GivenUp) o → (mode : Mode) (e : Name) → ClaimName rules program limit a mode claim e → EndsSo rules program limit a mode claim e o
      ends _ (ended_threw q) mode e m = absurd cc
      ends _ (ended_cell q en at' st) mode e m = absurd cc
