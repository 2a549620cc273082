-- What the end of a work is to the other works: one that asked for it meets the error, if there is one; all others stay where they are.
use Rattle.std.proofs.Common.{◌≡◌, ◌≢◌, ◌⊎◌, inl, inr, ℕ, ◌<◌, Bool, Option, Some, None, refl, ap, sym, subst, ◌∙◌}
use Rattle.seq_base.specs.declared.thrown.Thrown.{Thrown}
use Rattle.seq_values.specs.declared.words.Kind.{Kind}
use Rattle.seq_values.specs.declared.words.Kind.TheVariants.{Lazy, Future}
use Rattle.seq_values.specs.declared.term.Term.{Term as CodedTerm}
use Rattle.seq_values.specs.declared.value.Value.{Value as Coded}
use Rattle.seq_values.specs.Model.{threw}
use Rattle.clj_script.specs.Trees.{Program}
use Rattle.seq_plan.specs.Plan.{Rules}
use Rattle.cell_book.specs.declared.cell.ClaimEnd.TheVariants as E
use Rattle.cell_book.specs.declared.cell.Attempt.{Attempt}
use Rattle.cell_book.specs.declared.cell.Cell.{Cell}
use Rattle.cell_book.specs.declared.work.Place.{Place}
use Rattle.cell_book.specs.declared.work.Place.TheVariants as P
use Rattle.cell_book.specs.Account.{Account, Duty, cell_at, opened, closed}
use Rattle.cell_book.specs.Steps.{begun_form, after_claim, failed_state, HasOpen, Finishes, Fails, GivesUp, IsOpenIn}
use Rattle.cell_book.specs.Glimpses.{Glimpse, glimpse, IsForced, Onward, Answered, Fits, Sees, SeesPlace}
use Rattle.cell_book.proofs.Lists.{same_or}
use Rattle.cell_book.proofs.Onwards.{onward_answered, answered_seen, fits_onward}
use Rattle.cell_book.proofs.Moves.{ends_cell, finishes_onward, finishes_answered, fails_onward, fails_answered, gives_up_onward, gives_up_answered}
use Rattle.seq_meaning.specs.Names.{Name}
use Rattle.seq_lawful.specs.Sites.{at_form, at_cell, ClaimAt, on_form, on_cell}
use Rattle.seq_lawful.specs.Lawful.{Lawful}
use Rattle.seq_lawful.specs.Runs.{AnswerIn, in_failed, in_attempt}
use Rattle.seq_lawful.proofs.Looking.{last_is}
use Rattle.seq_lawful.proofs.OnRuns.{on_refused, on_ended}
use Rattle.seq_lawful.proofs.Going.{on_beside}
use Rattle.lawful_works.specs.Basis.{StaysOn}
use Rattle.lawful_works.specs.Calls.{OnCell, OpenedFor, for_part, for_form, Throws}

-- the claim with the number c asked for the work's claim, or did not
pub data Asked (a : Account) (w : Duty) (c : ℕ) : Type 0 where
  asked_here : (id : ℕ) (kind : Kind) (term : CodedTerm) → w.place ≡ P.Part id kind term → IsForced (glimpse a) id w.claim (Some c) → Asked a w c
  asked_not : ((id : ℕ) → ¬ IsForced (glimpse a) id w.claim (Some c)) → Asked a w c

asker_or : (o : Option ℕ) (c : ℕ) → (o ≡ Some c) ⊎ (o ≢ Some c)
asker_or None c = inr (λ e. cc)
asker_or (Some d) c = go (same_or d c)
  where
    go : (d ≡ c) ⊎ (d ≢ c) → (Some d ≡ Some c) ⊎ (Some d ≢ Some c)
    go (inl e) = inl (ap Some e)
    go (inr n) = inr (λ e. n (let z : d ≡ c = cc in z))

forced_claim : (a : Account) (id c : ℕ) (asker : Option ℕ) (f : IsForced (glimpse a) id c asker) → ClaimAt a (at_cell id) (opened c asker)
forced_claim a id c asker f = on_cell f.at (subst (λ l. Rattle.seq_meaning.specs.Counts.IsIn (opened c asker) l) (sym f.has.attempts) (last_is f.past (opened c asker)))

module _ (names : Rules Name) (program : Program) (limit : ℕ) (a : Account) (law : Lawful names program limit a) (w : Duty) where
  -- the work's claim is open in one place, for one asker
  pub one_asker : (i j : ℕ) (b d : Option ℕ) → IsForced (glimpse a) i w.claim b → IsForced (glimpse a) j w.claim d → b ≡ d
  one_asker i j b d f g = ap (λ (x : Attempt). x.asker) ((law.one_claim_each (at_cell i) (at_cell j) (opened w.claim b) (opened w.claim d) (forced_claim a i w.claim b f) (forced_claim a j w.claim d g) refl).1)

  pub not_forced_form : (k number id : ℕ) (d : Option ℕ) → (glimpse a).forms k ≡ Some (begun_form number w.claim) → IsForced (glimpse a) id w.claim d → ⊥
  not_forced_form k number id d at f = let z = (law.one_claim_each (at_form k) (at_cell id) (opened w.claim None) (opened w.claim d) (on_form at refl) (forced_claim a id w.claim d f) refl).0 in absurd cc

  pub asked_or : IsOpenIn a w → (c : ℕ) → Asked a w c
  asked_or o c = go w.place refl o
    where
      go : (x : Place) → w.place ≡ x → IsOpenIn a (record { place = x; claim = w.claim; outcomes = w.outcomes }) → Asked a w c
      go (P.Form number k) e h = asked_not (λ id f. not_forced_form k number id (Some c) h f)
      go (P.Part id kind term) e (p, asker, past, at, ho) = by (asker_or asker c)
        where
          by : (asker ≡ Some c) ⊎ (asker ≢ Some c) → Asked a w c
          by (inl s) = asked_here id kind term e (record { cell = p; past = past; at = at; has = subst (λ y. HasOpen p w.claim y past) s ho })
          by (inr n) = asked_not (λ j f. n (one_asker id j asker (Some c) (record { cell = p; past = past; at = at; has = ho }) f))

-- one step, as it was seen, by which the work w ends; another work u has its claim open before and after
module _ (alone leads : Bool) (law noted : Account → Type 0) (g h : Glimpse) (mine mine2 : ℕ → ℕ) (a b : Account) (fits : Fits alone leads law noted g mine a) (sees : Sees leads mine2 g b h) (w u : Duty) (own : 0 < mine u.claim) (still : 0 < mine2 u.claim) where
  stays_beside : Onward u.claim (glimpse a) (glimpse b) → StaysOn g h u
  stays_beside o = λ y left plan r. on_beside y.rules y.program y.limit alone leads law noted g h mine mine2 a b fits sees u own still left plan r o

  seen_answer : (id : ℕ) (x : Attempt) → Answered u.claim id x (glimpse a) (glimpse b) → Answered u.claim id x g h
  seen_answer id x s = answered_seen leads mine2 u.claim id x g b h (onward_answered u.claim id x g (glimpse a) (glimpse b) (fits_onward alone leads law noted g mine a u.claim fits own) s) sees still

  stays_answered : (id : ℕ) (x : Attempt) → ((why : Thrown) → ¬ (x.end ≡ E.Error why)) → Answered u.claim id x (glimpse a) (glimpse b) → StaysOn g h u
  stays_answered id x none s = λ y left plan r. on_ended y.rules y.program y.limit g h u left id plan x r (seen_answer id x s) none

  pub stays_finished : (v : Coded) → u.claim ≢ w.claim → Asked a w u.claim → Finishes a w v b → StaysOn g h u
  stays_finished v n (asked_here id kind term pl f) s = stays_answered id (closed w.claim (Some u.claim) E.Value) (λ why e. cc) (finishes_answered a b w v u.claim id kind term pl s n f)
  stays_finished v n (asked_not never) s = stays_beside (finishes_onward a b w v u.claim s n never)

  pub stays_given_up : u.claim ≢ w.claim → Asked a w u.claim → GivesUp a w b → StaysOn g h u
  stays_given_up n (asked_here id kind term pl f) s = stays_answered id (closed w.claim (Some u.claim) E.GivenUp) (λ why e. cc) (gives_up_answered a b w u.claim id kind term pl s n f)
  stays_given_up n (asked_not never) s = stays_beside (gives_up_onward a b w u.claim s n never)

  -- the work was opened for another claim or for none
  pub stays_failed : (names : Rules Name) (program : Program) (limit : ℕ) → Lawful names program limit a → 0 < mine w.claim → (why : Thrown) (asker : Option ℕ) → u.claim ≢ w.claim → OpenedFor g w asker → asker ≢ Some u.claim → Fails a w why b → StaysOn g h u
  stays_failed names program limit good held why asker n f other s = stays_beside (fails_onward a b w why u.claim s n (never asker f other))
    where
      until : Onward w.claim g (glimpse a)
      until = fits_onward alone leads law noted g mine a w.claim fits held

      never : (asker : Option ℕ) → OpenedFor g w asker → asker ≢ Some u.claim → (id : ℕ) → ¬ IsForced (glimpse a) id w.claim (Some u.claim)
      never asker (for_part {c = c} q) m id x = m (one_asker names program limit a good w c id asker (Some u.claim) (until.holds.forced c asker q.forced) x)
      never _ (for_form {number = number} {k = k} pl at) m id x = not_forced_form names program limit a good w k number id (Some u.claim) (until.holds.begun k number at) x

  -- the other asked for the work
  pub throws_failed : (names : Rules Name) (program : Program) (limit : ℕ) → Lawful names program limit a → 0 < mine w.claim → (why : Thrown) (c : ℕ) → u.claim ≢ w.claim → OnCell g w (Some u.claim) c → Fails a w why b → SeesPlace w.place b h → Throws g h u c why
  throws_failed names program limit good held why c n q s place = λ y left k r. on_refused y.rules y.program y.limit g h u left c k x why r (seen_answer c x (fails_answered a b w why u.claim c q.kind q.term q.place s n forced)) refl answer
    where
      x : Attempt
      x = closed w.claim (Some u.claim) (E.Error why)

      forced : IsForced (glimpse a) c w.claim (Some u.claim)
      forced = (fits_onward alone leads law noted g mine a w.claim fits held).holds.forced c (Some u.claim) q.forced

      seen : h.cells c ≡ cell_at b c
      seen = subst (λ z. SeesPlace z b h) q.place place

      answer : AnswerIn h u.claim c (threw why)
      answer = go (ends_cell a b w (E.Error why) (failed_state why) None c q.kind q.term forced.cell q.place s forced.at)
        where
          go : (asker : Option ℕ) × (past : _) × HasOpen forced.cell w.claim asker past × (cell_at b c ≡ Some (after_claim forced.cell w.claim asker past (E.Error why) (failed_state why forced.cell.kind))) → AnswerIn h u.claim c (threw why)
          go (asker, past, ho, at) = by forced.cell.kind refl
            where
              ended : Cell
              ended = after_claim forced.cell w.claim asker past (E.Error why) (failed_state why forced.cell.kind)

              who : asker ≡ Some u.claim
              who = one_asker names program limit a good w c c asker (Some u.claim) (record { cell = forced.cell; past = past; at = forced.at; has = ho }) forced

              by : (kind : Kind) → forced.cell.kind ≡ kind → AnswerIn h u.claim c (threw why)
              by Lazy e = in_attempt ended (closed w.claim asker (E.Error why)) (seen ∙ at) e (last_is past (closed w.claim asker (E.Error why))) who refl
              by Future e = in_failed ended (seen ∙ at) (ap (failed_state why) e)
