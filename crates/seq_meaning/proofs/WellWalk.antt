-- Where the rules keep to well-formed values, so do the bodies of a program, and the walk of each plan.
use Rattle.std.proofs.Common.{◌≡◌, ℕ, true, zero, suc, pred, List, [], ◌∷◌, length, Option, Some, None, slice_get, refl}
use Rattle.seq_base.specs.declared.thrown.Thrown.{Thrown}
use Rattle.seq_base.specs.declared.thrown.Thrown.TheVariants.{BadType}
use Rattle.seq_values.specs.declared.words.Kind.{Kind}
use Rattle.seq_values.specs.declared.words.Op.TheVariants.{Body}
use Rattle.seq_values.specs.declared.words.Target.TheVariants.{User}
use Rattle.seq_values.specs.WellFormedTerms.{is_seq}
use Rattle.seq_values.specs.Model.{Value, vector, values, Term, Outcome, gave, threw}
use Rattle.clj_script.specs.Trees.{nil_literal, bool_literal, int_literal, keyword_literal, text_literal, empty_literal, Expr, literal, word, function_of, defined, local, vector_of, call_of, let_in, if_of, and_of, or_of, lazy_seq, Exprs, no_exprs, more_exprs, Top, def, defn, prn, ledger, Literal}
use Rattle.seq_plan.specs.Plan.{Loop, Plan, seq, then, Round}
use Rattle.seq_plan.specs.Nodes.{Found, with_value}
use Rattle.seq_plan.specs.WellFormed.{sight, Well, well_nil, well_bool, well_int, well_keyword, well_text, well_vector, well_function, well_cell, well_empty, well_none, WellList, well_end, well_item, WellTerm, well_term}
use Rattle.seq_plan.specs.Keeping.{Variables, Given, Keeps, keeps_visit, keeps_ask, keeps_seq, keeps_call, keeps_go, keeps_make, keeps_give, keeps_throw, KeepsRound, keeps_end, keeps_fail, keeps_visits, keeps_calls_for, KeepsRules}
use Rattle.seq_plan.proofs.WellNodes.{WellFound, well_now, well_asks_for, well_no_seq, well-found, well-value_at, well-append, well-values, well-list, keeps-if_true, keeps-with_value, keeps-with_members}
use Rattle.seq_plan.proofs.WellPlans.{keeps-then}
use Rattle.seq_meaning.specs.Evaluates.{value_of, eval, evals, while_true, until_true, Script, body_in, with_body, called, term_plan, form_plan}
use Rattle.seq_meaning.specs.Walk.{at_found, Made, made, Run, needs, ends, over, Due, enters, asks, also, finish, Rest, at_round, walk_by, meets_answer, spent, walk}

pub data WellOutcome {C : Type 0} : Outcome C → Type 0 where
  well_gave : {v : Value C} → Well v → WellOutcome (gave v)
  well_threw : {e : Thrown} → WellOutcome (threw e)

pub data WellAnswers {C : Type 0} : List (Outcome C) → Type 0 where
  well_no_answer : WellAnswers []
  well_answer : {o : Outcome C} {os : List (Outcome C)} → WellOutcome o → WellAnswers os → WellAnswers (o ∷ os)

pub data WellMakes {C : Type 0} : List (Made C) → Type 0 where
  well_no_make : WellMakes []
  well_make_then : {kind : Kind} {t : Term C} {ms : List (Made C)} → WellTerm t → WellMakes ms → WellMakes (made kind t ∷ ms)

pub data WellRun {C : Type 0} : Run C → Type 0 where
  well_needs : {c : C} {ms : List (Made C)} → WellMakes ms → WellRun (needs c ms)
  well_ends : {o : Outcome C} {ms : List (Made C)} → WellOutcome o → WellMakes ms → WellRun (ends o ms)
  well_over : WellRun over

data KeepsDue {C : Type 0} : Due C → Type 0 where
  keeps_enters : {p : Plan C} → Keeps Well p → KeepsDue (enters p)
  keeps_asks : {c : C} {k : Value C → Plan C} → ((v : Value C) → Well v → Keeps Well (k v)) → KeepsDue (asks c k)

module _ {C : Type 0} where
  well-value_of : (l : Literal) → Well {C = C} (value_of l)
  well-value_of nil_literal = well_nil
  well-value_of (bool_literal b) = well_bool
  well-value_of (int_literal n) = well_int
  well-value_of (keyword_literal name) = well_keyword
  well-value_of (text_literal bytes) = well_text
  well-value_of empty_literal = well_empty

  mutual
    keeps-eval : (e : Expr) {ds : List (Value C)} → WellList ds → {env : List (Value C)} → WellList env → {k : Value C → Plan C} → ((v : Value C) → Well v → Keeps Well (k v)) → Keeps Well (eval ds e env k)
    keeps-eval (literal l) d e f = f _ (well-value_of l)
    keeps-eval (word w) d e f = f _ (well_function refl refl well_none)
    keeps-eval (function_of i) d e f = f _ (well_function refl refl well_none)
    keeps-eval (defined form) d e f = f _ (well-value_at d (pred form))
    keeps-eval (local i) d e f = f _ (well-value_at e i)
    keeps-eval (vector_of es) d e {k = k} f = keeps-evals es d e well_end (λ xs w. keeps-with_members xs (λ ys. with_value (vector (values ys)) k) (keeps-with_value (vector (values xs)) k (λ s. f _ (well_vector s (well-values w)))))
    keeps-eval (call_of g es) d e f = keeps-eval g d e (λ v w. keeps-evals es d e well_end (λ xs u. keeps_call w u f))
    keeps-eval (let_in a b) d e f = keeps-eval a d e (λ v w. keeps-eval b d (well-append e (well_item w well_end)) f)
    keeps-eval (if_of t a b) d e f = keeps-eval t d e (λ v w. keeps-if_true v (keeps-eval a d e f) (keeps-eval b d e f))
    keeps-eval (and_of es) d e f = keeps-while_true es d e well_bool f
    keeps-eval (or_of es) d e f = keeps-until_true es d e well_nil f
    keeps-eval (lazy_seq b) d e f = keeps_make (well_term e refl) (λ c. f _ well_cell)

    keeps-evals : (es : Exprs) {ds : List (Value C)} → WellList ds → {env : List (Value C)} → WellList env → {xs : List (Value C)} → WellList xs → {k : List (Value C) → Plan C} → ((ys : List (Value C)) → WellList ys → Keeps Well (k ys)) → Keeps Well (evals ds es env xs k)
    keeps-evals no_exprs d e x f = f _ x
    keeps-evals (more_exprs g es) d e x f = keeps-eval g d e (λ v w. keeps-evals es d e (well-append x (well_item w well_end)) f)

    keeps-while_true : (es : Exprs) {ds : List (Value C)} → WellList ds → {env : List (Value C)} → WellList env → {v : Value C} → Well v → {k : Value C → Plan C} → ((v : Value C) → Well v → Keeps Well (k v)) → Keeps Well (while_true ds es env v k)
    keeps-while_true no_exprs d e x f = f _ x
    keeps-while_true (more_exprs g es) d e {v = v} x f = keeps-if_true v (keeps-eval g d e (λ u w. keeps-while_true es d e w f)) (f _ x)

    keeps-until_true : (es : Exprs) {ds : List (Value C)} → WellList ds → {env : List (Value C)} → WellList env → {v : Value C} → Well v → {k : Value C → Plan C} → ((v : Value C) → Well v → Keeps Well (k v)) → Keeps Well (until_true ds es env v k)
    keeps-until_true no_exprs d e x f = f _ x
    keeps-until_true (more_exprs g es) d e {v = v} x f = keeps-if_true v (f _ x) (keeps-eval g d e (λ u w. keeps-until_true es d e w f))

  keeps-also : (kind : Kind) {t : Term C} → WellTerm t → {r : Run C} → WellRun r → WellRun (also (made kind t) r)
  keeps-also kind h (well_needs ms) = well_needs (well_make_then h ms)
  keeps-also kind h (well_ends o ms) = well_ends o (well_make_then h ms)
  keeps-also kind h well_over = well_over

  keeps-finish : {o : Outcome C} → WellOutcome o → (os : List (Outcome C)) → WellRun (finish o os)
  keeps-finish h [] = well_ends h well_no_make
  keeps-finish h (a ∷ os) = well_over

  -- the rest of a walk, given well-formed answers
  abbrev WellRest : Rest C → Type 0
  WellRest r = (j : ℕ) (os : List (Outcome C)) → WellAnswers os → WellRun (r j os)

-- a script of which the rules keep to well-formed values, with well-formed values of the forms before
pub data KeepsScript {C : Type 0} (s : Script C) : Type 0 where
  keeps_script : KeepsRules s.rules → WellList s.defs → KeepsScript s

module _ {C : Type 0} {s : Script C} where
  keeps-with_body : KeepsScript s → (b : Option Expr) {xs : List (Value C)} → WellList xs → Keeps Well (with_body s b xs)
  keeps-with_body h None l = keeps_throw
  keeps-with_body (keeps_script r d) (Some e) l = keeps-eval e d l (λ v w. keeps_give w)

  pub keeps-called : KeepsScript s → {f : Value C} → Well f → {xs : List (Value C)} → WellList xs → Keeps Well (called s f xs)
  keeps-called h (well_function {t = User i} b e bs) {xs = xs} l = keeps-with_body h (body_in (slice_get s.functions i) (length xs)) l
  keeps-called (keeps_script r d) (well_function {t = t} b e bs) l = r.calls t _ _ (well-list bs) l
  keeps-called h _ l = keeps_throw

  pub keeps-term_plan : KeepsScript s → {t : Term C} → WellTerm t → Keeps Well (term_plan s t)
  keeps-term_plan h (well_term {op = Body b} l t) = keeps-with_body h (slice_get s.bodies b) l
  keeps-term_plan (keeps_script r d) (well_term {op = op} l t) = r.terms op _ l t

  pub keeps-form_plan : KeepsScript s → (t : Top) → Keeps Well (form_plan s t)
  keeps-form_plan (keeps_script r d) (def name e) = keeps-eval e d well_end (λ v w. keeps_give w)
  keeps-form_plan h defn = keeps_give well_nil
  keeps-form_plan (keeps_script r d) (prn e) = keeps-eval e d well_end (λ v w. r.prints v w)
  keeps-form_plan h ledger = keeps_give well_nil

module _ {C : Type 0} {s : Script C} (hs : KeepsScript s) (cell_of : ℕ → C) where
  keeps-loop : (l : Loop) (xs : List (Value C)) → Variables l xs → KeepsRound (Given l xs) (s.rules.on_loop l xs)
  keeps-loop l xs h = by hs
    where
      by : KeepsScript s → KeepsRound (Given l xs) (s.rules.on_loop l xs)
      by (keeps_script r d) = r.loops l xs h

  keeps-walk_by : (due : Due C → Rest C) → ((d : Due C) → KeepsDue d → WellRest (due d)) → {p : Plan C} → Keeps Well p → WellRest (walk_by s cell_of due p)
  keeps-walk_by due hd (keeps_visit p) j os h = hd _ (keeps_enters p) j os h
  keeps-walk_by due hd (keeps_ask p) j os h = hd _ (keeps_asks p) j os h
  keeps-walk_by due hd (keeps_seq {k = k} e p) j os h = on_found (λ v w i. keeps-walk_by due hd (p v w i) j os h) (well-found e)
    where
      on_found : ((v : Value C) → Well v → is_seq (sight v) ≡ true → WellRun (walk_by s cell_of due (k v) j os)) → {f : Found C} → WellFound f → WellRun (at_found (λ w. walk_by s cell_of due (k w) j os) (λ c. due (asks c (λ w. seq w k)) j os) (finish (threw BadType) os) f)
      on_found f (well_now w i) = f _ w i
      on_found f well_asks_for = hd _ (keeps_asks (λ v w. keeps_seq w p)) j os h
      on_found f well_no_seq = keeps-finish well_threw os
  keeps-walk_by due hd (keeps_call f l p) j os h = hd _ (keeps_enters (keeps-then (keeps-called hs f l) p)) j os h
  keeps-walk_by due hd (keeps_go {l = m} {xs = xs} {k = k} x p) j os h = on_round (λ v g. keeps-walk_by due hd (p v g) j os h) (keeps-loop m xs x)
    where
      on_round : ((v : Value C) → Given m xs v → WellRun (walk_by s cell_of due (k v) j os)) → {a : Round C} → KeepsRound (Given m xs) a → WellRun (at_round (λ v. walk_by s cell_of due (k v) j os) (λ e. finish (threw e) os) (λ p. due (enters (then p k)) j os) (λ f ys h. due (enters (then (called s f ys) (λ v. then (h v) k))) j os) a)
      on_round f (keeps_end g) = f _ g
      on_round f keeps_fail = keeps-finish well_threw os
      on_round f (keeps_visits q) = hd _ (keeps_enters (keeps-then q p)) j os h
      on_round e (keeps_calls_for f l q) = hd _ (keeps_enters (keeps-then (keeps-called hs f l) (λ v w. keeps-then (q v w) p))) j os h
  keeps-walk_by due hd (keeps_make {kind = kind} t p) j os h = keeps-also kind t (keeps-walk_by due hd (p _) (suc j) os h)
  keeps-walk_by due hd (keeps_give w) j os h = keeps-finish (well_gave w) os
  keeps-walk_by due hd keeps_throw j os h = keeps-finish well_threw os

  keeps-meets_answer : (on : Plan C → Rest C) → ((p : Plan C) → Keeps Well p → WellRest (on p)) → (d : Due C) → KeepsDue d → WellRest (meets_answer s cell_of on d)
  keeps-meets_answer on f _ (keeps_enters p) j os h = f _ p j os h
  keeps-meets_answer on f _ (keeps_asks p) j _ well_no_answer = well_needs well_no_make
  keeps-meets_answer on f _ (keeps_asks p) j _ (well_answer (well_gave w) h) = f _ (p _ w) j _ h
  keeps-meets_answer on f _ (keeps_asks p) j _ (well_answer {os = os} well_threw h) = keeps-finish well_threw os

  pub keeps-walk : (n : ℕ) {p : Plan C} → Keeps Well p → WellRest (walk s cell_of n p)
  unfolding walk
  keeps-walk zero e = keeps-walk_by (spent s cell_of) (λ d e j os h. keeps-finish well_threw os) e
  keeps-walk (suc n) e = keeps-walk_by (meets_answer s cell_of (walk s cell_of n)) (keeps-meets_answer (walk s cell_of n) (λ p e. keeps-walk n e)) e
