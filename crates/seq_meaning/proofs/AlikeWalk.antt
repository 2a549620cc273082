-- A plan looks at cells only to ask them: the runs of like works with like answers are alike.
use Rattle.std.proofs.Common.{ℕ, zero, suc, pred, List, length, Option, Some, None, slice_get, subst}
use Rattle.seq_base.specs.declared.thrown.Thrown.TheVariants.{BadType}
use Rattle.seq_values.specs.declared.words.Op.TheVariants.{Body}
use Rattle.seq_values.specs.declared.words.Target.TheVariants.{User}
use Rattle.seq_values.specs.Model.{Value, Term, Outcome, threw}
use Rattle.clj_script.specs.Trees.{nil_literal, bool_literal, int_literal, keyword_literal, text_literal, empty_literal, Expr, literal, word, function_of, defined, local, vector_of, call_of, let_in, if_of, and_of, or_of, lazy_seq, Exprs, no_exprs, more_exprs, Top, def, defn, prn, ledger, Literal}
use Rattle.seq_plan.specs.Plan.{Plan, seq, then, Round}
use Rattle.seq_plan.specs.Nodes.{Found}
use Rattle.seq_plan.specs.Alike.{Likeness, Like, like_nil, like_bool, like_int, like_keyword, like_text, like_vector, like_function, like_cell, like_empty, like_none, LikeList, like_end, like_item, LikeTerm, like_term, LikeOutcome, like_gave, like_threw, LikePlan, like_visit, like_ask, like_seq, like_call, like_go, like_make, like_give, like_throw, LikeRound, like_ends_with, like_fails, like_visits, like_calls_for}
use Rattle.seq_plan.proofs.AlikeNodes.{LikeFound, like_now, like_asks_for, like_no_seq, like-found, like-value_at, like-append, like-values, like-list, like-length, like-if_true, like-with_value, like-with_members}
use Rattle.seq_plan.proofs.AlikePlans.{like-then}
use Rattle.seq_meaning.specs.Evaluates.{value_of, eval, evals, while_true, until_true, Script, body_in, with_body, called, term_plan, form_plan}
use Rattle.seq_meaning.specs.Walk.{at_found, Made, Run, Due, enters, asks, also, finish, Rest, at_round, walk_by, meets_answer, spent, walk}
use Rattle.seq_meaning.specs.Alike.{LikeMade, like_made, like_no_make, like_make_then, LikeRun, like_needs, like_ends, like_over, LikeAnswers, like_no_answer, like_answer, LikeScript, like_script}

pub data LikeDue {C D : Type 0} (R : Likeness C D) : Due C → Due D → Type 0 where
  like_enters : {p : Plan C} {q : Plan D} → LikePlan R p q → LikeDue R (enters p) (enters q)
  like_asks : {c : C} {d : D} {k : Value C → Plan C} {h : Value D → Plan D} → R.same c d → ((v : Value C) (w : Value D) → Like R v w → LikePlan R (k v) (h w)) → LikeDue R (asks c k) (asks d h)

module _ {C D : Type 0} {R : Likeness C D} where
  like-value_of : (l : Literal) → Like R (value_of l) (value_of l)
  like-value_of nil_literal = like_nil
  like-value_of (bool_literal b) = like_bool
  like-value_of (int_literal n) = like_int
  like-value_of (keyword_literal name) = like_keyword
  like-value_of (text_literal bytes) = like_text
  like-value_of empty_literal = like_empty

  mutual
    pub like-eval : (e : Expr) {ds : List (Value C)} {ds' : List (Value D)} → LikeList R ds ds' → {env : List (Value C)} {env' : List (Value D)} → LikeList R env env' → {k : Value C → Plan C} {h : Value D → Plan D} → ((v : Value C) (w : Value D) → Like R v w → LikePlan R (k v) (h w)) → LikePlan R (eval ds e env k) (eval ds' e env' h)
    like-eval (literal l) d e f = f _ _ (like-value_of l)
    like-eval (word w) d e f = f _ _ (like_function like_none)
    like-eval (function_of i) d e f = f _ _ (like_function like_none)
    like-eval (defined form) d e f = f _ _ (like-value_at d (pred form))
    like-eval (local i) d e f = f _ _ (like-value_at e i)
    like-eval (vector_of es) d e f = like-evals es d e like_end (λ vs ws q. like-with_members q (λ vs ws p. like-with_value (like_vector (like-values p)) f))
    like-eval (call_of g es) d e f = like-eval g d e (λ v w p. like-evals es d e like_end (λ vs ws q. like_call p q f))
    like-eval (let_in a b) d e f = like-eval a d e (λ v w p. like-eval b d (like-append e (like_item p like_end)) f)
    like-eval (if_of t a b) d e f = like-eval t d e (λ v w p. like-if_true p (like-eval a d e f) (like-eval b d e f))
    like-eval (and_of es) d e f = like-while_true es d e like_bool f
    like-eval (or_of es) d e f = like-until_true es d e like_nil f
    like-eval (lazy_seq b) d e f = like_make (like_term e) (λ c c' r. f _ _ (like_cell r))

    pub like-evals : (es : Exprs) {ds : List (Value C)} {ds' : List (Value D)} → LikeList R ds ds' → {env : List (Value C)} {env' : List (Value D)} → LikeList R env env' → {xs : List (Value C)} {ys : List (Value D)} → LikeList R xs ys → {k : List (Value C) → Plan C} {h : List (Value D) → Plan D} → ((vs : List (Value C)) (ws : List (Value D)) → LikeList R vs ws → LikePlan R (k vs) (h ws)) → LikePlan R (evals ds es env xs k) (evals ds' es env' ys h)
    like-evals no_exprs d e x f = f _ _ x
    like-evals (more_exprs g es) d e x f = like-eval g d e (λ v w p. like-evals es d e (like-append x (like_item p like_end)) f)

    like-while_true : (es : Exprs) {ds : List (Value C)} {ds' : List (Value D)} → LikeList R ds ds' → {env : List (Value C)} {env' : List (Value D)} → LikeList R env env' → {v : Value C} {w : Value D} → Like R v w → {k : Value C → Plan C} {h : Value D → Plan D} → ((v : Value C) (w : Value D) → Like R v w → LikePlan R (k v) (h w)) → LikePlan R (while_true ds es env v k) (while_true ds' es env' w h)
    like-while_true no_exprs d e x f = f _ _ x
    like-while_true (more_exprs g es) d e x f = like-if_true x (like-eval g d e (λ v w p. like-while_true es d e p f)) (f _ _ x)

    like-until_true : (es : Exprs) {ds : List (Value C)} {ds' : List (Value D)} → LikeList R ds ds' → {env : List (Value C)} {env' : List (Value D)} → LikeList R env env' → {v : Value C} {w : Value D} → Like R v w → {k : Value C → Plan C} {h : Value D → Plan D} → ((v : Value C) (w : Value D) → Like R v w → LikePlan R (k v) (h w)) → LikePlan R (until_true ds es env v k) (until_true ds' es env' w h)
    like-until_true no_exprs d e x f = f _ _ x
    like-until_true (more_exprs g es) d e x f = like-if_true x (f _ _ x) (like-eval g d e (λ v w p. like-until_true es d e p f))

  like-with_body : {s : Script C} {s' : Script D} → LikeScript R s s' → (b : Option Expr) {xs : List (Value C)} {ys : List (Value D)} → LikeList R xs ys → LikePlan R (with_body s b xs) (with_body s' b ys)
  like-with_body h None l = like_throw
  like-with_body (like_script r d) (Some e) l = like-eval e d l (λ v w e. like_give e)

  pub like-called : {s : Script C} {s' : Script D} → LikeScript R s s' → {f : Value C} {g : Value D} → Like R f g → {xs : List (Value C)} {ys : List (Value D)} → LikeList R xs ys → LikePlan R (called s f xs) (called s' g ys)
  like-called (like_script {rules = rs} {others = os} {functions = fs} {bodies = es} {xs = ds} {ys = ds'} r d) (like_function {t = User i} bs) {xs = xs} {ys = ys} l =
      subst (λ n. LikePlan R (with_body (record { rules = rs; functions = fs; bodies = es; defs = ds }) (body_in (slice_get fs i) (length xs)) xs) (with_body (record { rules = os; functions = fs; bodies = es; defs = ds' }) (body_in (slice_get fs i) n) ys)) (like-length l)
      (like-with_body (like_script {functions = fs} {bodies = es} r d) (body_in (slice_get fs i) (length xs)) l)
  like-called (like_script r d) (like_function {t = t} bs) l = r.calls t _ _ _ _ (like-list bs) l
  like-called h _ l = like_throw

  pub like-term_plan : {s : Script C} {s' : Script D} → LikeScript R s s' → {a : Term C} {b : Term D} → LikeTerm R a b → LikePlan R (term_plan s a) (term_plan s' b)
  like-term_plan (like_script {functions = fs} {bodies = bs} r d) (like_term {op = Body b} l) = like-with_body (like_script {functions = fs} {bodies = bs} r d) (slice_get bs b) l
  like-term_plan (like_script r d) (like_term {op = op} l) = r.terms op _ _ l

  pub like-form_plan : {s : Script C} {s' : Script D} → LikeScript R s s' → (t : Top) → LikePlan R (form_plan s t) (form_plan s' t)
  like-form_plan (like_script r d) (def name e) = like-eval e d like_end (λ v w i. like_give i)
  like-form_plan h defn = like_give like_nil
  like-form_plan (like_script r d) (prn e) = like-eval e d like_end (λ v w i. r.prints v w i)
  like-form_plan h ledger = like_give like_nil

  like-loop : {s : Script C} {s' : Script D} → LikeScript R s s' → (l : _) {xs : List (Value C)} {ys : List (Value D)} → LikeList R xs ys → LikeRound R (s.rules.on_loop l xs) (s'.rules.on_loop l ys)
  like-loop (like_script r d) l h = r.loops l _ _ h

  like-also : {m : Made C} {n : Made D} → LikeMade R m n → {r : Run C} {s : Run D} → LikeRun R r s → LikeRun R (also m r) (also n s)
  like-also h (like_needs r ms) = like_needs r (like_make_then h ms)
  like-also h (like_ends o ms) = like_ends o (like_make_then h ms)
  like-also h like_over = like_over

  like-finish : {o : Outcome C} {p : Outcome D} → LikeOutcome R o p → {os : List (Outcome C)} {ps : List (Outcome D)} → LikeAnswers R os ps → LikeRun R (finish o os) (finish p ps)
  like-finish h like_no_answer = like_ends h like_no_make
  like-finish h (like_answer a as') = like_over

-- rests of walks that go on alike
abbrev pub LikeRest : {C D : Type 0} → Likeness C D → Rest C → Rest D → Type 0
LikeRest {C = C} {D = D} R r s = (j : ℕ) (os : List (Outcome C)) (ps : List (Outcome D)) → LikeAnswers R os ps → LikeRun R (r j os) (s j ps)

module _ {C D : Type 0} (R : Likeness C D) {s : Script C} {s' : Script D} (hs : LikeScript R s s') (cell_of : ℕ → C) (cell_of' : ℕ → D) (hc : (j : ℕ) → R.same (cell_of j) (cell_of' j)) where
  like-walk_by : (due : Due C → Rest C) (due' : Due D → Rest D) → ((d : Due C) (d' : Due D) → LikeDue R d d' → LikeRest R (due d) (due' d')) → {p : Plan C} {q : Plan D} → LikePlan R p q → LikeRest R (walk_by s cell_of due p) (walk_by s' cell_of' due' q)
  like-walk_by due due' hd (like_visit p) j os ps h = hd _ _ (like_enters p) j os ps h
  like-walk_by due due' hd (like_ask r p) j os ps h = hd _ _ (like_asks r p) j os ps h
  like-walk_by due due' hd (like_seq {x = x} {y = y} {k = k} {h = l} e p) j os ps h = on_found (λ v w i. like-walk_by due due' hd (p v w i) j os ps h) (like-found e)
    where
      on_found : ((v : Value C) (w : Value D) → Like R v w → LikeRun R (walk_by s cell_of due (k v) j os) (walk_by s' cell_of' due' (l w) j ps)) → {f : Found C} {g : Found D} → LikeFound R f g → LikeRun R (at_found (λ w. walk_by s cell_of due (k w) j os) (λ c. due (asks c (λ w. seq w k)) j os) (finish (threw BadType) os) f) (at_found (λ w. walk_by s' cell_of' due' (l w) j ps) (λ c. due' (asks c (λ w. seq w l)) j ps) (finish (threw BadType) ps) g)
      on_found f (like_now e) = f _ _ e
      on_found f (like_asks_for r) = hd _ _ (like_asks r (λ v w i. like_seq i p)) j os ps h
      on_found f like_no_seq = like-finish like_threw h
  like-walk_by due due' hd (like_call f l p) j os ps h = hd _ _ (like_enters (like-then (like-called hs f l) p)) j os ps h
  like-walk_by due due' hd (like_go {l = m} {k = k} {h = l} x p) j os ps h = on_round (λ v w i. like-walk_by due due' hd (p v w i) j os ps h) (like-loop hs m x)
    where
      on_round : ((v : Value C) (w : Value D) → Like R v w → LikeRun R (walk_by s cell_of due (k v) j os) (walk_by s' cell_of' due' (l w) j ps)) → {a : Round C} {b : Round D} → LikeRound R a b → LikeRun R (at_round (λ v. walk_by s cell_of due (k v) j os) (λ e. finish (threw e) os) (λ p. due (enters (then p k)) j os) (λ f ys h. due (enters (then (called s f ys) (λ v. then (h v) k))) j os) a) (at_round (λ v. walk_by s' cell_of' due' (l v) j ps) (λ e. finish (threw e) ps) (λ p. due' (enters (then p l)) j ps) (λ f ys h. due' (enters (then (called s' f ys) (λ v. then (h v) l))) j ps) b)
      on_round f (like_ends_with e) = f _ _ e
      on_round f like_fails = like-finish like_threw h
      on_round f (like_visits q) = hd _ _ (like_enters (like-then q p)) j os ps h
      on_round f (like_calls_for g l q) = hd _ _ (like_enters (like-then (like-called hs g l) (λ v w i. like-then (q v w i) p))) j os ps h
  like-walk_by due due' hd (like_make t p) j os ps h = like-also (like_made t) (like-walk_by due due' hd (p _ _ (hc j)) (suc j) os ps h)
  like-walk_by due due' hd (like_give e) j os ps h = like-finish (like_gave e) h
  like-walk_by due due' hd like_throw j os ps h = like-finish like_threw h

  like-meets_answer : (on : Plan C → Rest C) (on' : Plan D → Rest D) → ((p : Plan C) (q : Plan D) → LikePlan R p q → LikeRest R (on p) (on' q)) → (d : Due C) (d' : Due D) → LikeDue R d d' → LikeRest R (meets_answer s cell_of on d) (meets_answer s' cell_of' on' d')
  like-meets_answer on on' f _ _ (like_enters p) j os ps h = f _ _ p j os ps h
  like-meets_answer on on' f _ _ (like_asks r p) j _ _ like_no_answer = like_needs r like_no_make
  like-meets_answer on on' f _ _ (like_asks r p) j _ _ (like_answer (like_gave e) h) = f _ _ (p _ _ e) j _ _ h
  like-meets_answer on on' f _ _ (like_asks r p) j _ _ (like_answer like_threw h) = like-finish like_threw h

  pub like-walk : (n : ℕ) {p : Plan C} {q : Plan D} → LikePlan R p q → LikeRest R (walk s cell_of n p) (walk s' cell_of' n q)
  unfolding walk
  like-walk zero e = like-walk_by (spent s cell_of) (spent s' cell_of') (λ d d' e j os ps h. like-finish like_threw h) e
  like-walk (suc n) e = like-walk_by (meets_answer s cell_of (walk s cell_of n)) (meets_answer s' cell_of' (walk s' cell_of' n)) (like-meets_answer (walk s cell_of n) (walk s' cell_of' n) (λ p q e. like-walk n e)) e
