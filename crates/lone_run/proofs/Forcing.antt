-- The book of a run over a form that is begun and futures that are claimed, each with its evaluation.
use Rattle.std.proofs.Common.{◌≡◌, ◌⊎◌, inl, inr, ℕ, suc, ◌+◌, ◌<◌, ◌^◌, Bool, true, false, List, [], ◌∷◌, ◌++◌, length, Option, Some, None, slice_get, Ok, Err, refl, ap, sym, subst, ◌∙◌, arith}
use Rattle.std.specs.Prelude.{Result, IfOk, OnOk}
use Rattle.seq_base.specs.declared.thrown.Thrown.{Thrown}
use Rattle.seq_base.specs.declared.limits.Limits.{Limits}
use Rattle.seq_values.specs.declared.value.Value.{Value as Coded}
use Rattle.clj_script.specs.Trees.{Program}
use Rattle.seq_plan.specs.Plan.{Rules}
use Rattle.seq_meaning.specs.Names.{Name}
use Rattle.cell_book.specs.declared.cell.Cell.{Cell}
use Rattle.cell_book.specs.declared.cell.Form.{Form}
use Rattle.cell_book.specs.declared.work.Place.{Place}
use Rattle.cell_book.specs.declared.work.Place.TheVariants as P
use Rattle.cell_book.specs.Account.{Account, Duty, opens, cell_at}
use Rattle.cell_book.specs.Steps.{begun_form, with_cell, claimed, Begins, BeginAnswer, Claims, Opens, FindsFuture, IsOpenFuture}
use Rattle.cell_book.specs.Glimpses.{Glimpse, glimpse, Reaches, Fits, Sees, SeesPlace}
use Rattle.cell_book.specs.Whole.{is_all}
use Rattle.cell_book.proofs.Moves.{begins_reaches, claims_reaches}
use Rattle.cell_book.proofs.Onwards.{reaches_same, reaches_then}
use Rattle.cell_book.proofs.Stepping.{begins_opens, claims_opens}
use Rattle.seq_table.specs.Table.{chunk_size, language}
use Rattle.seq_lawful.specs.Lawful.{Lawful}
use Rattle.seq_lawful.specs.Runs.{Kept, MayBegin}
use Rattle.seq_lawful.proofs.Begun.{begun_long, on_begun}
use Rattle.lawful_table.proofs.Naming.{table_kept}
use Rattle.lawful_works.specs.declared.stop.Stop.{Stop}
use Rattle.lawful_works.specs.Basis.{Basis, IsGood}
use Rattle.lawful_works.specs.Calls.{FormOpened, HasValue}
use Rattle.lawful_works.specs.Evaluated as ev
use Rattle.lawful_works.specs.Evaluated.{Came, ComesTo, HasError, IsBegun, IsOnly, SameNotes}
use Rattle.lawful_works.proofs.Asking.{none_other, opens_work}
use Rattle.lawful_works.proofs.Holding.{proper_begins, proper_claims}
use Rattle.lawful_works.proofs.Making.{opens_form}
use Rattle.lawful_output.specs.Progress.{HasGiven, HasThrown, Rested}
use Rattle.lawful_output.proofs.Ended.{error_stays, value_stays}
use Rattle.lawful_output.proofs.Quiet.{begun_counts, begun_only, claimed_only, quiet_rests}
use Rattle.lone_run.specs.declared.given.Given.{Given}
use Rattle.lone_run.specs.declared.given.Given.TheVariants as G
use Rattle.lone_run.specs.declared.given.Halt.{Halt}
use Rattle.lone_run.specs.declared.given.Halt.TheVariants as H
use Rattle.lone_run.specs.Running.{names_of, basis_of}
use Rattle.lone_run.specs.Stages.{as_came, HasEnded, IsCalm, IsOver, WentOn, Settled, Evaluated, Forced}

-- ## One who is alone

fits_alone : (a : Account) → Fits true true (λ _. Unit {0}) (λ b. b ≡ a) (glimpse a) (λ c. opens c a) a
fits_alone a = (refl, is_all a a refl)

sees_all : (a b : Account) → Sees true (λ c. opens c b) (glimpse a) b (glimpse b)
sees_all a b = record {
  limit = refl;
  cells = λ id. inr (inl refl);
  forms = λ k. inr (inl refl);
  begun = λ _. refl;
  made = λ c own. refl;
  asked = λ c own id. refl;
  spent = inr refl;
  gave_up = inr refl;
}

one_longer : {X : Type 0} (xs : List X) (x : X) → length (xs ++ x ∷ []) ≡ suc (length xs)
one_longer [] x = refl
one_longer (y ∷ xs) x = ap suc (one_longer xs x)

-- ## A book is lent

pub lent : (names : Rules Name) (y : Basis) (a over b new : Account) (w : Duty) (r : Result Coded Stop) → over ≡ a → new ≡ b → Came names y over b w r → Came names y a new w r
lent names y a over b new w r e f t = subst (λ x. Came names y x new w r) e (subst (λ x. Came names y over x w r) (sym f) t)

pub lent_err : (names : Rules Name) (y : Basis) (a over b new : Account) (w : Duty) (stop known : Stop) → over ≡ a → new ≡ b → stop ≡ known → Came names y over b w (Err stop) → Came names y a new w (Err known)
lent_err names y a over b new w stop known e f same t = lent names y a over b new w (Err known) e f (subst (λ s. Came names y over b w (Err s)) same t)

module _ (program : Program) (limits : Limits) where
  abbrev Good : Account → Type 0
  Good a = IsGood (names_of limits) (basis_of program limits) a

  keeps : Kept (language limits.processors) program limits.steps (Lawful (names_of limits) program limits.steps)
  keeps = table_kept limits.processors chunk_size program limits.steps

  -- ## A form is begun

  module _ (a m : Account) (number : ℕ) (w : Duty) (calm : IsCalm program limits a) (may : MayBegin (language limits.processors) program limits.steps (glimpse a) number) (s : Begins a number (Ok w) m) where
    pub begun_good : Good m
    begun_good = (keeps.begin_form a m number (Ok w) calm.good.0 may s, proper_begins a m number (Ok w) calm.good.1 s)

    pub begun_kept : m.gave_up ≡ false
    begun_kept = ap (λ (x : Account). x.gave_up) s.3 ∙ calm.kept

    pub begun_alone : IsOnly m w
    begun_alone = begun_only a m number w calm.closed s

    pub begun_work : IsBegun (basis_of program limits) (glimpse m) w
    begun_work =
        let o : FormOpened (glimpse a) (glimpse m) w = opens_form true true (λ _. Unit {0}) (λ b. b ≡ a) (glimpse a) (glimpse m) (λ c. opens c a) (λ c. opens c m) a m (fits_alone a) (sees_all a m) number (Ok w) calm.good.1 refl (begins_opens a m number (Ok w) s) s (subst (λ (x : Place). SeesPlace x m (glimpse m)) (sym s.0) refl) in
        ev.begun_form {number = number} {k = length a.forms} {t = may.top} s.0 (subst (λ n. slice_get program.tops n ≡ Some may.top) (begun_long a.forms) may.is_top) o.kept (on_begun (language limits.processors) program limits.steps a m number w s may)

  -- ## A future is claimed

  module _ (a m : Account) (id : ℕ) (w : Duty) (calm : IsCalm program limits a) (future : IsOpenFuture a id) (s : Claims a id None (Ok w) m) where
    pub claimed_good : Good m
    claimed_good = (keeps.claim_future a m id future.0 None (Ok w) calm.good.0 future.1 future.2 s, proper_claims a m id None (Ok w) calm.good.1 s)

    claimed_is : (p : Cell) × (m ≡ with_cell a id (claimed p w.claim None))
    claimed_is = go s.1
      where
        go : Opens a id None w m → (p : Cell) × (m ≡ with_cell a id (claimed p w.claim None))
        go (p, at, empty, fresh, pl, oc, eq) = (p, eq)

    pub claimed_kept : m.gave_up ≡ false
    claimed_kept = ap (λ (x : Account). x.gave_up) claimed_is.1 ∙ calm.kept

    pub claimed_alone : IsOnly m w
    claimed_alone = claimed_only a m id None w calm.closed s

    pub claimed_work : IsBegun (basis_of program limits) (glimpse m) w
    claimed_work = ev.begun_part {asker = None} {c = id} (opens_work true true (λ _. Unit {0}) (λ b. b ≡ a) (glimpse a) (glimpse m) (λ c. opens c a) (λ c. opens c m) a m (fits_alone a) (sees_all a m) None id (Ok w) calm.good.1 (none_other w.claim) (claims_opens a m id None (Ok w) s) s refl)

    claimed_forms : length m.forms ≡ length a.forms
    claimed_forms = ap (λ (x : Account). length x.forms) claimed_is.1

  -- ## After an evaluation

  notes_of : (m b : Account) (w : Duty) (given : Given) → ComesTo m b w (as_came (Ok given)) → SameNotes m b
  notes_of m b w (G.Gave v) t = t.0
  notes_of m b w (G.Threw why) t = t.0

  module _ (a m b : Account) (w : Duty) (calm : IsCalm program limits a) (limit_same : m.limit ≡ a.limit) (unspent : m.spent ≡ a.spent) (kept : m.gave_up ≡ a.gave_up) where
    calm_after : (given : Given) → Came (names_of limits) (basis_of program limits) m b w (as_came (Ok given)) → IsCalm program limits b
    calm_after given t =
        let n = notes_of m b w given t.answer in
        let l : b.limit ≡ a.limit = t.reaches.limit ∙ limit_same in
        record {
          good = t.good;
          closed = t.closed;
          limit_is = l ∙ calm.limit_is;
          small = subst (λ x. x < 2 ^ 32) (sym l) calm.small;
          unspent = n.0 ∙ (unspent ∙ calm.unspent);
          kept = n.1 ∙ (kept ∙ calm.kept);
        }

    over_after : (k : ℕ) → length m.forms ≡ k → Came (names_of limits) (basis_of program limits) m b w (as_came (Err H.Spent)) → IsOver program limits b k
    over_after k many t = record {
      lawful = t.good.0;
      limit_is = t.reaches.limit ∙ (limit_same ∙ calm.limit_is);
      so_many = begun_counts m b t.begun_same ∙ many;
      spent = t.answer;
    }

  -- a form that ended
  form_ended : (b : Account) (w : Duty) (m : Account) (number k : ℕ) (given : Given) → w.place ≡ P.Form number k → ComesTo m b w (as_came (Ok given)) → HasEnded b k given
  form_ended b w m number k (G.Gave v) e t = subst (λ (x : Place). HasValue (glimpse b) (record w { place = x }) v) e t.1
  form_ended b w m number k (G.Threw why) e t = subst (λ (x : Place). HasError (glimpse b) (record w { place = x }) why) e t.1

  module _ (a m b : Account) (number : ℕ) (w : Duty) (calm : IsCalm program limits a) (s : Begins a number (Ok w) m) (k : ℕ) (many : length a.forms ≡ k) where
    begun_many : length m.forms ≡ suc k
    begun_many = ap (λ (x : Account). length x.forms) s.3 ∙ (one_longer a.forms (begun_form number w.claim) ∙ ap suc many)

    pub form_evaluated : (given : Given) → Came (names_of limits) (basis_of program limits) m b w (as_came (Ok given)) → Evaluated program limits a k b given
    form_evaluated given t = record {
      calm = calm_after a m b w calm (ap (λ (x : Account). x.limit) s.3) (ap (λ (x : Account). x.spent) s.3) (ap (λ (x : Account). x.gave_up) s.3) given t;
      reaches = reaches_then (glimpse a) (glimpse m) (glimpse b) (begins_reaches a m number (Ok w) s) t.reaches;
      so_many = begun_counts m b t.begun_same ∙ begun_many;
      ended = subst (λ n. HasEnded b n given) many (form_ended b w m number (length a.forms) given s.0 t.answer);
    }

    pub form_over : Came (names_of limits) (basis_of program limits) m b w (as_came (Err H.Spent)) → IsOver program limits b (suc k)
    form_over t = over_after a m b w calm (ap (λ (x : Account). x.limit) s.3) (ap (λ (x : Account). x.spent) s.3) (ap (λ (x : Account). x.gave_up) s.3) (suc k) begun_many t

    pub form_result : (result : Result Given Halt) → Came (names_of limits) (basis_of program limits) m b w (as_came result) → IfOk result (λ given. Evaluated program limits a k b given)
    form_result (Ok given) t = form_evaluated given t
    form_result (Err halt) t = tt

    pub form_result_over : (result : Result Given Halt) → Came (names_of limits) (basis_of program limits) m b w (as_came result) → result ≡ Err H.Spent → IsOver program limits b (suc k)
    form_result_over result t e = form_over (subst (λ r. Came (names_of limits) (basis_of program limits) m b w (as_came r)) e t)

  module _ (a m b : Account) (id : ℕ) (w : Duty) (calm : IsCalm program limits a) (future : IsOpenFuture a id) (s : Claims a id None (Ok w) m) where
    same_as : m ≡ with_cell a id (claimed (claimed_is a m id w calm future s).0 w.claim None)
    same_as = (claimed_is a m id w calm future s).1

    pub future_evaluated : (given : Given) → Came (names_of limits) (basis_of program limits) m b w (as_came (Ok given)) → WentOn program limits a b
    future_evaluated given t = record {
      calm = calm_after a m b w calm (ap (λ (x : Account). x.limit) same_as) (ap (λ (x : Account). x.spent) same_as) (ap (λ (x : Account). x.gave_up) same_as) given t;
      reaches = reaches_then (glimpse a) (glimpse m) (glimpse b) (claims_reaches a m id None (Ok w) s) t.reaches;
      so_many = begun_counts m b t.begun_same ∙ claimed_forms a m id w calm future s;
    }

    pub future_over : Came (names_of limits) (basis_of program limits) m b w (as_came (Err H.Spent)) → IsOver program limits b (length a.forms)
    future_over t = over_after a m b w calm (ap (λ (x : Account). x.limit) same_as) (ap (λ (x : Account). x.spent) same_as) (ap (λ (x : Account). x.gave_up) same_as) (length a.forms) (claimed_forms a m id w calm future s) t

    pub future_result : (result : Result Given Halt) → Came (names_of limits) (basis_of program limits) m b w (as_came result) → OnOk result (WentOn program limits a b)
    future_result (Ok given) t = future_evaluated given t
    future_result (Err halt) t = tt

    pub future_result_over : (result : Result Given Halt) → Came (names_of limits) (basis_of program limits) m b w (as_came result) → result ≡ Err H.Spent → IsOver program limits b (length a.forms)
    future_result_over result t e = future_over (subst (λ r. Came (names_of limits) (basis_of program limits) m b w (as_came r)) e t)

  -- ## From one turn to the next

  pub went_same : (a : Account) → IsCalm program limits a → WentOn program limits a a
  went_same a calm = record { calm = calm; reaches = reaches_same (glimpse a); so_many = refl }

  pub went_then : (a b c : Account) → WentOn program limits a b → WentOn program limits b c → WentOn program limits a c
  went_then a b c s t = record { calm = t.calm; reaches = reaches_then (glimpse a) (glimpse b) (glimpse c) s.reaches t.reaches; so_many = t.so_many ∙ s.so_many }

  -- where no future is empty, the book is settled
  pub none_left : (start a b : Account) → WentOn program limits start a → FindsFuture a None b → Settled program limits start b
  none_left start a b s (e, none) = subst (Settled program limits start) (sym e) (record { went = s; none = none })

  -- else the one that is found is evaluated
  pub found_calm : (start a b : Account) (id : ℕ) → WentOn program limits start a → FindsFuture a (Some id) b → IsCalm program limits b
  found_calm start a b id s (e, here, lowest) = subst (IsCalm program limits) (sym e) s.calm

  pub found_future : (a b : Account) (id : ℕ) → FindsFuture a (Some id) b → IsOpenFuture b id
  found_future a b id (e, here, lowest) = subst (λ x. IsOpenFuture x id) (sym e) here

  pub found_then : (start a b c : Account) (id : ℕ) → WentOn program limits start a → FindsFuture a (Some id) b → WentOn program limits b c → WentOn program limits start c
  found_then start a b c id s (e, here, lowest) t = went_then start a c s (subst (λ x. WentOn program limits x c) e t)

  pub found_over : (start a b c : Account) (id : ℕ) → WentOn program limits start a → FindsFuture a (Some id) b → IsOver program limits c (length b.forms) → IsOver program limits c (length start.forms)
  found_over start a b c id s (e, here, lowest) o = subst (IsOver program limits c) (ap (λ (x : Account). length x.forms) e ∙ s.so_many) o

  ended_stays : (b c : Account) (k : ℕ) (given : Given) → IsCalm program limits b → Reaches (glimpse b) (glimpse c) → HasEnded b k given → HasEnded c k given
  ended_stays b c k (G.Gave v) calm r h = value_stays (names_of limits) program limits.steps b calm.good.0 c r k v h
  ended_stays b c k (G.Threw why) calm r h = error_stays b c r k why h

  -- the form and all futures
  pub form_forced : (a : Account) (k : ℕ) (b c : Account) (given : Given) → Evaluated program limits a k b given → Settled program limits b c → Forced program limits a k c given
  form_forced a k b c given s t =
      let y = t.went.calm in
      record {
        calm = y;
        reaches = reaches_then (glimpse a) (glimpse b) (glimpse c) s.reaches t.went.reaches;
        rested = record {
          lawful = y.good.0;
          rests = quiet_rests (names_of limits) program limits.steps c y.good.0 y.closed t.none y.unspent y.kept;
          limit_is = y.limit_is;
          so_many = t.went.so_many ∙ s.so_many;
        };
        ended = ended_stays b c k given s.calm t.went.reaches s.ended;
      }

  pub forced_over : (a : Account) (k : ℕ) (b c : Account) (given : Given) → Evaluated program limits a k b given → IsOver program limits c (length b.forms) → IsOver program limits c (suc k)
  forced_over a k b c given s o = subst (IsOver program limits c) s.so_many o
