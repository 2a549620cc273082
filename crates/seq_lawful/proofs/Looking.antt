-- What a lawful book tells under each name: what a part gives that has ended, and the work of a claim on a part. All this holds in each mode.
use Rattle.std.proofs.Common.{◌≡◌, ◌⊎◌, inl, inr, ℕ, List, [], ◌∷◌, ◌++◌, Some, refl, ap, sym, subst, ◌∙◌}
use Rattle.seq_base.specs.declared.thrown.Thrown.{Thrown}
use Rattle.seq_values.specs.declared.words.Kind.{Kind}
use Rattle.seq_values.specs.declared.words.Kind.TheVariants.{Lazy, Future}
use Rattle.seq_values.specs.declared.value.Value.{Value as Coded}
use Rattle.seq_values.specs.Model.{Value, Term, Outcome, gave, threw}
use Rattle.seq_values.specs.Plain.{plain, plains, plain_term}
use Rattle.clj_script.specs.Trees.{Program}
use Rattle.seq_plan.specs.Plan.{Rules}
use Rattle.seq_plan.specs.Alike.{LikeList, LikeTerm, LikeOutcome, like_gave, like_threw}
use Rattle.cell_book.specs.declared.cell.State.{State}
use Rattle.cell_book.specs.declared.cell.State.TheVariants as S
use Rattle.cell_book.specs.declared.cell.ClaimEnd.TheVariants as E
use Rattle.cell_book.specs.declared.cell.Attempt.{Attempt}
use Rattle.cell_book.specs.declared.cell.Cell.{Cell}
use Rattle.cell_book.specs.Account.{Account, cell_at}
use Rattle.cell_book.specs.Glimpses.{glimpse}
use Rattle.seq_meaning.specs.Counts.{IsIn, here, there}
use Rattle.seq_meaning.specs.Gives.{Work, work, of_term, Of, of_part, of_retry, Part, part_of, Gives}
use Rattle.seq_meaning.specs.Names.{Name, retry}
use Rattle.seq_meaning.specs.Referred.{referred}
use Rattle.seq_lawful.specs.Sites.{Mode, any_name, own_name, at_cell, on_cell, Ended, ended_threw, ended_cell, StateOf, so_empty, so_forcing, so_done, so_failed}
use Rattle.seq_lawful.specs.Lawful.{Keeps, Needs, needs_it, CellName, ClaimName, form_name, future_name, failing_name, other_name, called, IsPartOf, is_part_of, Answered, by_value, by_future, by_attempt, GivesSo, gives_so, Lawful}
use Rattle.seq_lawful.specs.Runs.{AnswerIn, in_value, in_failed, in_attempt}
use Rattle.seq_lawful.proofs.Named.{keeps_value, any_cell, gives_of, same_claim, not_on_form, outcome_of}

pub last_is : {A : Type 0} (xs : List A) (x : A) → IsIn x (xs ++ x ∷ [])
last_is [] x = here
last_is (y ∷ xs) x = there (last_is xs x)

pub in_split : {A : Type 0} (xs : List A) (x y : A) → IsIn y (xs ++ x ∷ []) → IsIn y xs ⊎ (x ≡ y)
in_split [] x y here = inr refl
in_split [] x y (there h) = elim h [ ]
in_split (z ∷ xs) x _ here = inl here
in_split (z ∷ xs) x y (there h) = go (in_split xs x y h)
  where
    go : IsIn y xs ⊎ (x ≡ y) → IsIn y (z ∷ xs) ⊎ (x ≡ y)
    go (inl k) = inl (there k)
    go (inr p) = inr p

-- an attempt in the list ended by a value, or by the error
pub data GaveIn (attempts : List Attempt) : Type 0 where
  gave_in : (x : Attempt) → IsIn x attempts → x.end ≡ E.Value → GaveIn attempts

pub data ThrewIn (kind : Kind) (attempts : List Attempt) (why : Thrown) : Type 0 where
  threw_in : (x : Attempt) → kind ≡ Future → IsIn x attempts → x.end ≡ E.Error why → ThrewIn kind attempts why

pub done_by : {kind : Kind} {attempts : List Attempt} {s : State} {v : Coded} → StateOf kind attempts s → s ≡ S.Done v → GaveIn attempts
done_by (so_empty h) e = absurd cc
done_by (so_forcing past x p h q) e = absurd cc
done_by (so_done past x p h q) e = gave_in x (subst (λ l. IsIn x l) (sym p) (last_is past x)) q
done_by (so_failed past x p h k q) e = absurd cc

pub fail_by : {kind : Kind} {attempts : List Attempt} {s : State} {why : Thrown} → StateOf kind attempts s → s ≡ S.Failed why → ThrewIn kind attempts why
fail_by (so_empty h) e = absurd cc
fail_by (so_forcing past x p h q) e = absurd cc
fail_by (so_done past x p h q) e = absurd cc
fail_by {why = why} (so_failed {why = y} past x p h k q) e =
    let z : y ≡ why = cc in
    threw_in x k (subst (λ l. IsIn x l) (sym p) (last_is past x)) (q ∙ ap E.Error z)

module _ (rules : Rules Name) (program : Program) (limit : ℕ) (a : Account) where
  -- the work of a claim on a cell under one of its names
  pub data StartsSo (mode : Mode) (p : Cell) (e : Name) : Type 0 where
    starts_so : {defs : List (Value Name)} {t : Term Name} → Of rules program limit e (work defs (of_term t)) → LikeTerm (called rules program limit a mode) (plain_term p.term) t → LikeList (called rules program limit a mode) (referred program.tops (plains p.outcomes)) defs → StartsSo mode p e

  module _ (law : Lawful rules program limit a) where
    -- an ended attempt at a cell, in either mode
    pub given : (mode : Mode) {id : ℕ} {p : Cell} {x : Attempt} {o : Outcome ℕ} {n : Name} → cell_at a id ≡ Some p → IsIn x p.attempts → Ended a (at_cell id) x o → CellName rules program limit a mode id n → GivesSo rules program limit a mode n o
    given any_name p h q m = let r = outcome_of rules program limit a law p h q m in gives_so r.1 r.2
    given own_name {id = id} {p = p} {x = x} {o = o} {n = n} e h q m = let r = outcome_of rules program limit a law e h q (any_cell rules program limit a m) in go refl r.1 r.2
      where
        name : (k : Kind) → p.kind ≡ k → Keeps rules program limit own_name n → ClaimName rules program limit a own_name x.claim n
        name Lazy k g = other_name e h refl k m g
        name Future k g = future_name e h refl k m

        go : {u : Outcome Name} {o' : Outcome ℕ} → o' ≡ o → Gives rules program limit n u → LikeOutcome (called rules program limit a any_name) o' u → GivesSo rules program limit a own_name n o
        go z g (like_gave l) = let r = gives_of rules program limit a (law.ended own_name (at_cell id) x o n (on_cell e h) q (name p.kind refl (keeps_value rules program limit g))) in gives_so r.1 r.2
        go z g like_threw = subst (λ x. GivesSo rules program limit a own_name n x) z (gives_so g like_threw)

    -- what the book tells as an answer is what each name of the part gives
    pub tells : (mode : Mode) {claim c : ℕ} {o : Outcome ℕ} {n : Name} → AnswerIn (glimpse a) claim c o → CellName rules program limit a mode c n → GivesSo rules program limit a mode n o × Answered rules program limit a mode claim n
    tells mode {c = c} {n = n} (in_value {v = v} p at s) m = (go (done_by (law.states c p at) s), by_value at m s)
      where
        go : GaveIn p.attempts → GivesSo rules program limit a mode n (gave (plain v))
        go (gave_in x h q) = given mode at h (ended_cell p q at s) m
    tells mode {c = c} {n = n} (in_failed {why = why} p at s) m = (go (fail_by (law.states c p at) s), by_future at m s)
      where
        go : ThrewIn p.kind p.attempts why → GivesSo rules program limit a mode n (threw why)
        go (threw_in x k h q) = given mode at h (ended_threw q) m
    tells mode (in_attempt p x at k h r q) m = (given mode at h (ended_threw q) m, by_attempt at m k h r q)

    again : {e n : Name} {w : Work} {why : Thrown} → Needs rules program limit e n → Part rules program limit n Lazy w → Gives rules program limit n (threw why) → Of rules program limit (retry e) w
    again (needs_it of t r) p g = of_retry of t r p g

    of_any : {n : Name} {kind : Kind} {w : Work} → Part rules program limit n kind w → Of rules program limit n w
    of_any (part_of of t q) = of_part (part_of of t q)

    -- the work of a claim on a cell
    pub starts : (mode : Mode) (id : ℕ) (p : Cell) (x : Attempt) (e : Name) → cell_at a id ≡ Some p → IsIn x p.attempts → ClaimName rules program limit a mode x.claim e → StartsSo mode p e
    starts mode id p x e at h m = go refl m
      where
        by_part : {n : Name} → IsPartOf rules program limit a mode p n → StartsSo mode p n
        by_part (is_part_of q l r) = starts_so (of_any q) l r

        by_retry : {n m : Name} {why : Thrown} → p.kind ≡ Lazy → Needs rules program limit m n → Gives rules program limit n (threw why) → IsPartOf rules program limit a mode p n → StartsSo mode p (retry m)
        by_retry {n = n} k nd g (is_part_of {defs = ds} {t = t} q l r) = starts_so (again nd (subst (λ x. Part rules program limit n x (work ds (of_term t))) k q) g) l r

        go : {c : ℕ} {f : Name} → x.claim ≡ c → ClaimName rules program limit a mode c f → StartsSo mode p f
        go z (form_name q r) = absurd (not_on_form rules program limit a law _ _ at h z q r)
        go {f = f} z (future_name {id = j} {p = y} q h' r k m) =
            let s = same_claim rules program limit a law at h z q h' r in
            by_part (law.parts mode id p f at (subst (λ x. CellName rules program limit a mode x f) (sym s.place) m))
        go z (failing_name {id = j} {p = y} {n = n} q h' r k s' m g nd l) =
            let s = same_claim rules program limit a law at h z q h' r in
            by_retry (ap (λ (x : Cell). x.kind) s.of_cell ∙ k) nd g (law.parts mode id p n at (subst (λ x. CellName rules program limit a mode x n) (sym s.place) m))
        go {f = f} z (other_name {id = j} {p = y} q h' r k m g) =
            let s = same_claim rules program limit a law at h z q h' r in
            by_part (law.parts mode id p f at (subst (λ x. CellName rules program limit a mode x f) (sym s.place) m))
