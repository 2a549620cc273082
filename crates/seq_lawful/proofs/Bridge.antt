-- The bridge: what an open claim's run in numbers is under each of its names.
use Rattle.std.proofs.Common.{◌≡◌, ℕ, zero, suc, List, Option, Some, None, slice_get, refl, ap, sym, subst, ◌∙◌}
use Rattle.seq_base.specs.declared.thrown.Thrown.{Thrown}
use Rattle.seq_values.specs.declared.words.Kind.{Kind}
use Rattle.seq_values.specs.declared.term.Term.{Term as CodedTerm}
use Rattle.seq_values.specs.Model.{Value, Term, Outcome, gave, threw}
use Rattle.seq_values.specs.Plain.{plains, plain_term}
use Rattle.clj_script.specs.Trees.{Program}
use Rattle.seq_plan.specs.Plan.{Plan, ask, make, give, throw, Rules}
use Rattle.seq_plan.specs.Alike.{Likeness, by, LikeList, LikeTerm, LikeOutcome, like_gave, like_threw, LikePlan, like_ask, like_make, like_give, like_throw}
use Rattle.cell_book.specs.declared.cell.Attempt.{Attempt}
use Rattle.cell_book.specs.declared.cell.Cell.{Cell}
use Rattle.cell_book.specs.declared.work.Place.TheVariants as P
use Rattle.cell_book.specs.Account.{Account, Duty, cell_at, opened}
use Rattle.cell_book.specs.Glimpses.{glimpse}
use Rattle.cell_book.specs.Steps.{HasOpen}
use Rattle.seq_meaning.specs.Alike.{LikeScript, like_script}
use Rattle.seq_meaning.specs.Counts.{IsIn, here, there}
use Rattle.seq_meaning.specs.Evaluates.{term_plan}
use Rattle.seq_meaning.specs.Follows.{LikeAsked, LikeNamed, Follows, HasLikes}
use Rattle.seq_meaning.specs.Gives.{work, Task, script_of, task_plan, Of}
use Rattle.seq_meaning.specs.Names.{Name, part}
use Rattle.seq_meaning.specs.Trail.{Trail, Calls}
use Rattle.seq_meaning.specs.Walk.{Made, made}
use Rattle.seq_meaning.proofs.AlikeWalk.{like-term_plan}
use Rattle.seq_meaning.proofs.TrailsAlike.{follows}
use Rattle.seq_lawful.specs.Renaming.{NamesRename, Known, SeenFrom}
use Rattle.seq_meaning.specs.Referred.{referred}
use Rattle.seq_lawful.specs.Refers.{InValue, InList}
use Rattle.seq_meaning.proofs.NamedTrails.{named_so, good_all}
use Rattle.seq_lawful.specs.Sites.{Mode, Site, HasMade, has_made}
use Rattle.seq_lawful.specs.Lawful.{at_give, at_throw, CellName, cell_name, ClaimName, called, Told, told, GivesSo, gives_so, Answered, EndsSo, ends_so, Lawful}
use Rattle.seq_lawful.specs.Runs.{MadeIn, script_in, OnRun}
use Rattle.seq_lawful.proofs.More.{as-value, as-list, as-term, value_has, term_has}
use Rattle.seq_lawful.proofs.Looking.{last_is, tells, StartsSo, starts_so, starts}

-- a member stands at a place
pub place_of : {A : Type 0} {x : A} {xs : List A} → IsIn x xs → (j : ℕ) × (slice_get xs j ≡ Some x)
place_of here = (0, refl)
place_of (there h) = let r = place_of h in (suc r.0, r.1)

module _ (a : Account) where
  abbrev pub part_at : Name → Option Cell → Name
  part_at e None = e
  part_at e (Some p) = part e p.ordinal

  -- what an evaluation of this name calls the cell
  abbrev pub named : Name → ℕ → Name
  named e c = part_at e (cell_at a c)

module _ (numeric : Rules ℕ) (rules : Rules Name) (program : Program) (limit : ℕ) (alike : NamesRename numeric rules program limit) (a : Account) (mode : Mode) (site : Site) where
  abbrev pub seen : ℕ → Type 0
  seen = SeenFrom program.tops a site

  -- the number has the name, and the cell is seen
  abbrev pub Both : ℕ → Name → Type 0
  Both c n = Known rules program limit a mode site c n

  -- the work's plan is like that of the name
  pub data WorksOn (w : Duty) (whole : Plan ℕ) (e : Name) : Type 0 where
    works_on : {defs : List (Value Name)} {task : Task} → Of rules program limit e (work defs task) → LikeList (by Both) (referred program.tops (plains w.outcomes)) defs → LikePlan (by Both) whole (task_plan rules program limit defs task) → WorksOn w whole e

  pub like_scripts : (w : Duty) {defs : List (Value Name)} → LikeList (by Both) (referred program.tops (plains w.outcomes)) defs → LikeScript (by Both) (script_in numeric program limit w.outcomes) (script_of rules program limit defs)
  like_scripts w l = like_script (alike a mode site) l

  -- which cells are seen: those that the work knows, and all that it learns and makes
  pub record SeesAll (w : Duty) (asks : List (ℕ × Outcome ℕ)) (mades : List (ℕ × Made ℕ)) : Type 0 where
    pub terms : (id : ℕ) (kind : Kind) (t : CodedTerm) → w.place ≡ P.Part id kind t → (c : ℕ) → InList c (plains t.args) → seen c
    pub befores : (c : ℕ) → InList c (referred program.tops (plains w.outcomes)) → seen c
    pub learns : (c : ℕ) (o : Outcome ℕ) → IsIn (c, o) asks → seen c → (v : Value ℕ) → o ≡ gave v → (d : ℕ) → InValue d v → seen d
    pub makes : (c : ℕ) (m : Made ℕ) → IsIn (c, m) mades → seen c

  -- What the run is under a name: a trail in names, with true answers that the book has.
  pub record Bridged (w : Duty) (e : Name) (left : ℕ) (plan : Plan ℕ) (asks : List (ℕ × Outcome ℕ)) (mades : List (ℕ × Made ℕ)) : Type 0 where
    pub defs : List (Value Name)
    pub task : Task
    pub of : Of rules program limit e (work defs task)
    pub like_defs : LikeList (by Both) (referred program.tops (plains w.outcomes)) defs
    pub goes : Follows (by Both) (named a e) (Told rules program limit a mode w.claim) (script_of rules program limit defs) limit (task_plan rules program limit defs task) left plan asks mades
    pub calls : Calls (λ j. part e j) goes.makes

  module _ (law : Lawful rules program limit a) where
    -- the work of a claim on a part
    pub works_part : {w : Duty} {asks : List (ℕ × Outcome ℕ)} {mades : List (ℕ × Made ℕ)} {id : ℕ} {kind : Kind} {term : CodedTerm} {asker : Option ℕ} {past : List Attempt} {e : Name} → SeesAll w asks mades → (p : Cell) → w.place ≡ P.Part id kind term → cell_at a id ≡ Some p → HasOpen p w.claim asker past → p.term ≡ term → p.outcomes ≡ w.outcomes → ClaimName rules program limit a mode w.claim e → WorksOn w (term_plan (script_in numeric program limit w.outcomes) (plain_term term)) e
    works_part {w = w} {id = id} {kind = kind} {term = term} {asker = asker} {past = past} {e = e} s p pl at ho tm oc m =
        go (starts rules program limit a law mode id p (opened w.claim asker) e at (subst (λ l. IsIn (opened w.claim asker) l) (sym ho.attempts) (last_is past (opened w.claim asker))) m)
      where
        go : StartsSo rules program limit a mode p e → WorksOn w (term_plan (script_in numeric program limit w.outcomes) (plain_term term)) e
        go (starts_so {defs = defs} {t = t} of lt ll) =
            let l1 : LikeList (called rules program limit a mode) (referred program.tops (plains w.outcomes)) defs = subst (λ o. LikeList (called rules program limit a mode) (referred program.tops (plains o)) defs) oc ll in
            let t1 : LikeTerm (called rules program limit a mode) (plain_term term) t = subst (λ x. LikeTerm (called rules program limit a mode) (plain_term x) t) tm lt in
            let l2 = as-list l1 (λ c d i r. (r, s.befores c i)) in
            let t2 = as-term t1 (λ c d i r. (r, s.terms id kind term pl c i)) in
            works_on of l2 (like-term_plan (like_scripts w l2) t2)

    module _ (w : Duty) (left : ℕ) (plan : Plan ℕ) (r : OnRun numeric program limit (glimpse a) w left plan) (s : SeesAll w r.asks r.mades) where
      made_at : (j c : ℕ) (m : Made ℕ) → slice_get r.mades j ≡ Some (c, m) → (kind : Kind) × (t : Term ℕ) × MadeIn (glimpse a) w j c kind t
      made_at j c (made kind t) q = (kind, t, r.cells j c kind t q)

      has_likes : {e : Name} → ClaimName rules program limit a mode w.claim e → HasLikes (by Both) (named a e) (Told rules program limit a mode w.claim) r.asks r.mades
      has_likes {e = e} m = record { answers = λ c o d i b. answer c o d i b (tells rules program limit a law mode (r.answers c o i) b.0); names = names }
        where
          answer : (c : ℕ) (o : Outcome ℕ) (d : Name) → IsIn (c, o) r.asks → Both c d → GivesSo rules program limit a mode d o × Answered rules program limit a mode w.claim d → (u : Outcome Name) × LikeOutcome (by Both) o u × Told rules program limit a mode w.claim d u
          answer c o d i b (gives_so {u = u} g l, z) = (u, like o u l (λ v q x h. s.learns c o i b.1 v q x h), told g z)
            where
              like : (o : Outcome ℕ) (u : Outcome Name) → LikeOutcome (called rules program limit a mode) o u → ((v : Value ℕ) → o ≡ gave v → (x : ℕ) → InValue x v → seen x) → LikeOutcome (by Both) o u
              like (gave v) _ (like_gave l) h = like_gave (as-value l (λ c d i r. (r, h v refl c i)))
              like _ _ like_threw h = like_threw

          names : (c : ℕ) (mm : Made ℕ) → IsIn (c, mm) r.mades → Both c (named a e c)
          names c mm i =
              let j = place_of i in
              let k = (made_at j.0 c mm j.1).2 in
              (subst (λ x. CellName rules program limit a mode c (part_at a e x)) (sym k.at) (cell_name k.at (subst (λ x. ClaimName rules program limit a mode x e) (sym k.maker) m)), s.makes c mm i)

      called_on : (e : Name) (i : ℕ) (x : ℕ × Made ℕ) → slice_get r.mades i ≡ Some x → named a e x.0 ≡ part e (suc i)
      called_on e i x q = let k = (made_at i x.0 x.1 q).2 in ap (part_at a e) k.at ∙ ap (part e) k.ordinal

      pub bridge : {e : Name} → ClaimName rules program limit a mode w.claim e → WorksOn w r.whole e → Bridged w e left plan r.asks r.mades
      bridge {e = e} m (works_on {defs = defs} {task = task} of l p) =
          let f = follows (by Both) (named a e) (Told rules program limit a mode w.claim) (like_scripts w l) limit p r.trail (has_likes m) in
          record { defs = defs; task = task; of = of; like_defs = l; goes = f; calls = λ i y q. (let x = named_so f.like_makes i y q in sym (x.2 ∙ called_on e i x.0 x.1)) }

      made_by_it : (e : Name) {makes : List (Name × Made Name)} → LikeNamed (by Both) (named a e) r.mades makes → (j : ℕ) (m : Name × Made Name) → slice_get makes j ≡ Some m → HasMade a w.claim (suc j)
      made_by_it e h j m q =
          let x = named_so h j m q in
          let k = (made_at j x.0.0 x.0.1 x.1).2 in
          has_made x.0.0 k.cell k.at k.maker k.ordinal

      -- where the run has come to its end, it ends so under each name
      pub ends_value : (v : Value ℕ) → plan ≡ give v → {e : Name} → Bridged w e left plan r.asks r.mades → EndsSo rules program limit a mode w.claim e (gave v)
      ends_value v z {e = e} b = go (subst (λ p. LikePlan (by Both) p b.goes.plan) z b.goes.like_plan) b.goes.trail
        where
          go : {q : Plan Name} → LikePlan (by Both) (give v) q → Trail (script_of rules program limit b.defs) limit (task_plan rules program limit b.defs b.task) left q b.goes.asks b.goes.makes → EndsSo rules program limit a mode w.claim e (gave v)
          go (like_give l) t = ends_so b.of t b.calls (good_all b.goes.like_asks) at_give (like_gave (as-value l (λ c d i r. r.0))) (made_by_it e b.goes.like_makes)

      pub ends_error : (why : Thrown) → plan ≡ throw why → {e : Name} → Bridged w e left plan r.asks r.mades → EndsSo rules program limit a mode w.claim e (threw why)
      ends_error why z {e = e} b = go (subst (λ p. LikePlan (by Both) p b.goes.plan) z b.goes.like_plan) b.goes.trail
        where
          go : {q : Plan Name} → LikePlan (by Both) (throw why) q → Trail (script_of rules program limit b.defs) limit (task_plan rules program limit b.defs b.task) left q b.goes.asks b.goes.makes → EndsSo rules program limit a mode w.claim e (threw why)
          go like_throw t = ends_so b.of t b.calls (good_all b.goes.like_asks) at_throw like_threw (made_by_it e b.goes.like_makes)

      -- what the run gives or makes is seen
      pub value_seen : (v : Value ℕ) → plan ≡ give v → {e : Name} → Bridged w e left plan r.asks r.mades → (x : ℕ) → InValue x v → seen x
      value_seen v z {e = e} b x h = go (subst (λ p. LikePlan (by Both) p b.goes.plan) z b.goes.like_plan)
        where
          go : {q : Plan Name} → LikePlan (by Both) (give v) q → seen x
          go (like_give l) = (value_has l h).1.1

      pub term_seen : (kind : Kind) (t : Term ℕ) (k : ℕ → Plan ℕ) → plan ≡ make kind t k → {e : Name} → Bridged w e left plan r.asks r.mades → (x : ℕ) → InList x t.args → seen x
      term_seen kind t k z {e = e} b x h = go (subst (λ p. LikePlan (by Both) p b.goes.plan) z b.goes.like_plan)
        where
          go : {q : Plan Name} → LikePlan (by Both) (make kind t k) q → seen x
          go (like_make l m) = (term_has l h).1.1

      pub ask_seen : (c : ℕ) (k : Value ℕ → Plan ℕ) → plan ≡ ask c k → {e : Name} → Bridged w e left plan r.asks r.mades → seen c
      ask_seen c k z {e = e} b = go (subst (λ p. LikePlan (by Both) p b.goes.plan) z b.goes.like_plan)
        where
          go : {q : Plan Name} → LikePlan (by Both) (ask c k) q → seen c
          go (like_ask s m) = s.1
