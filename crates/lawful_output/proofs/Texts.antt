-- What a `prn` form gives is a text.
use Rattle.std.proofs.Common.{◌≡◌, ℕ, zero, suc, Bool, true, false, cond, List, [], ◌∷◌, ◌++◌, length, Some, slice_get, sym, subst, ◌∙◌}
use Rattle.std.specs.Prelude.{nat_le, codes}
use Rattle.seq_base.specs.declared.thrown.Thrown.{Thrown}
use Rattle.seq_base.specs.declared.thrown.Thrown.TheVariants.{BadType}
use Rattle.seq_values.specs.declared.words.Kind.{Kind}
use Rattle.seq_values.specs.Model.{Value, nil, bool, int, keyword, text, vector, function, reduced, cell, empty, cons, chunk, range, vec_seq, values, list, Term, Outcome, gave, threw}
use Rattle.clj_script.specs.Trees.{Expr, literal, word, function_of, defined, local, vector_of, call_of, let_in, if_of, and_of, or_of, lazy_seq, Exprs, no_exprs, more_exprs, prn, Program}
use Rattle.seq_plan.specs.Plan.{Loop, nth_from, last_from, count_from, gather_from, doall_from, every_from, some_from, equal_from, reduce_from, enter_from, drop_from, drop_while_from, parts_from, pull_from, ahead_from, print_value, print_rest, Plan, visit, ask, seq, call, go, make, give, throw, then, Round, ends_with, fails, visits, calls_for}
use Rattle.seq_plan.specs.Nodes.{Found, now, asks_for, no_seq, found, deepest, longest, depth, is_truthy, is_nil, first_of}
use Rattle.seq_meaning.specs.Evaluates.{eval, evals, while_true, until_true, Script, called}
use Rattle.seq_meaning.specs.Walk.{at_found, Made, Run, needs, ends, over, Due, enters, asks, also, finish, Rest, at_round, walk_by, meets_answer, spent, walk}
use Rattle.seq_meaning.specs.Names.{Name, form, part}
use Rattle.seq_meaning.specs.Gives.{of_form, Work, work, in_order, script_of, run, Of, of_top, Gives, gives}
use Rattle.seq_meaning.specs.Prints.{spaced, prints_next, print_items, print_vector, print_on, value_round, rest_round, print_rule}
use Rattle.seq_table.specs.Table.{language}

pub data IsText {C : Type 0} : Value C → Type 0 where
  is_text : {bytes : List ℕ} → IsText (text bytes)

-- the loops of printing give texts
abbrev Given : {C : Type 0} → Loop → Value C → Type 0
Given print_value v = IsText v
Given print_rest v = IsText v
Given _ v = Unit {0}

-- a plan that gives what is asked of it
data Ends {C : Type 0} (Asked : Value C → Type 0) : Plan C → Type 0 where
  ends_visit : {p : Plan C} → Ends Asked p → Ends Asked (visit p)
  ends_ask : {c : C} {k : Value C → Plan C} → ((v : Value C) → Ends Asked (k v)) → Ends Asked (ask c k)
  ends_seq : {x : Value C} {k : Value C → Plan C} → ((v : Value C) → Ends Asked (k v)) → Ends Asked (seq x k)
  ends_call : {f : Value C} {xs : List (Value C)} {k : Value C → Plan C} → ((v : Value C) → Ends Asked (k v)) → Ends Asked (call f xs k)
  ends_go : {l : Loop} {xs : List (Value C)} {k : Value C → Plan C} → ((v : Value C) → Given l v → Ends Asked (k v)) → Ends Asked (go l xs k)
  ends_make : {kind : Kind} {t : Term C} {k : C → Plan C} → ((c : C) → Ends Asked (k c)) → Ends Asked (make kind t k)
  ends_give : {v : Value C} → Asked v → Ends Asked (give v)
  ends_throw : {e : Thrown} → Ends Asked (throw e)

data EndsRound {C : Type 0} (Asked : Value C → Type 0) : Round C → Type 0 where
  round_end : {v : Value C} → Asked v → EndsRound Asked (ends_with v)
  round_fail : {e : Thrown} → EndsRound Asked (fails e)
  round_visits : {p : Plan C} → Ends Asked p → EndsRound Asked (visits p)
  round_calls : {f : Value C} {xs : List (Value C)} {k : Value C → Plan C} → ((v : Value C) → Ends Asked (k v)) → EndsRound Asked (calls_for f xs k)

module _ {C : Type 0} where
  -- where all that may be given is as asked
  every : {Asked : Value C → Type 0} → ((v : Value C) → Asked v) → (p : Plan C) → Ends Asked p
  every all (visit p) = ends_visit (every all p)
  every all (ask c k) = ends_ask (λ v. every all (k v))
  every all (seq x k) = ends_seq (λ v. every all (k v))
  every all (call f xs k) = ends_call (λ v. every all (k v))
  every all (go l xs k) = ends_go (λ v g. every all (k v))
  every all (make kind t k) = ends_make (λ c. every all (k c))
  every all (give v) = ends_give (all v)
  every all (throw e) = ends_throw

  every_round : {Asked : Value C → Type 0} → ((v : Value C) → Asked v) → (a : Round C) → EndsRound Asked a
  every_round all (ends_with v) = round_end (all v)
  every_round all (fails e) = round_fail
  every_round all (visits p) = round_visits (every all p)
  every_round all (calls_for f xs k) = round_calls (λ v. every all (k v))

  abbrev Anything : Value C → Type 0
  Anything v = Unit {0}

  anything : (p : Plan C) → Ends Anything p
  anything p = every (λ v. tt) p

  ends-then : {Told Asked : Value C → Type 0} {p : Plan C} → Ends Told p → {k : Value C → Plan C} → ((v : Value C) → Told v → Ends Asked (k v)) → Ends Asked (then p k)
  ends-then (ends_visit p) f = ends_visit (ends-then p f)
  ends-then (ends_ask p) f = ends_ask (λ v. ends-then (p v) f)
  ends-then (ends_seq p) f = ends_seq (λ v. ends-then (p v) f)
  ends-then (ends_call p) f = ends_call (λ v. ends-then (p v) f)
  ends-then (ends_go p) f = ends_go (λ v g. ends-then (p v g) f)
  ends-then (ends_make p) f = ends_make (λ c. ends-then (p c) f)
  ends-then (ends_give g) f = f _ g
  ends-then ends_throw f = ends_throw

  module _ {Asked : Value C → Type 0} where
    either : (b : Bool) {p q : Plan C} → Ends Asked p → Ends Asked q → Ends Asked (cond b p q)
    either true h k = h
    either false h k = k

    either_round : (b : Bool) {p q : Round C} → EndsRound Asked p → EndsRound Asked q → EndsRound Asked (cond b p q)
    either_round true h k = h
    either_round false h k = k

    -- ## An expression goes on by its continuation

    mutual
      ends-eval : (e : Expr) (ds env : List (Value C)) {k : Value C → Plan C} → ((v : Value C) → Ends Asked (k v)) → Ends Asked (eval ds e env k)
      ends-eval (literal l) ds env f = f _
      ends-eval (word w) ds env f = f _
      ends-eval (function_of i) ds env f = f _
      ends-eval (defined n) ds env f = f _
      ends-eval (local i) ds env f = f _
      ends-eval (vector_of es) ds env f = ends-evals es ds env [] (λ xs. either (nat_le (length xs) longest) (either (nat_le (depth (vector (values xs))) deepest) (f _) ends_throw) ends_throw)
      ends-eval (call_of g es) ds env f = ends-eval g ds env (λ v. ends-evals es ds env [] (λ xs. ends_call f))
      ends-eval (let_in a b) ds env f = ends-eval a ds env (λ v. ends-eval b ds (env ++ v ∷ []) f)
      ends-eval (if_of t a b) ds env f = ends-eval t ds env (λ v. either (is_truthy v) (ends-eval a ds env f) (ends-eval b ds env f))
      ends-eval (and_of es) ds env f = ends-while_true es ds env (bool true) f
      ends-eval (or_of es) ds env f = ends-until_true es ds env nil f
      ends-eval (lazy_seq b) ds env f = ends_make (λ c. f _)

      ends-evals : (es : Exprs) (ds env xs : List (Value C)) {k : List (Value C) → Plan C} → ((ys : List (Value C)) → Ends Asked (k ys)) → Ends Asked (evals ds es env xs k)
      ends-evals no_exprs ds env xs f = f xs
      ends-evals (more_exprs e es) ds env xs f = ends-eval e ds env (λ v. ends-evals es ds env (xs ++ v ∷ []) f)

      ends-while_true : (es : Exprs) (ds env : List (Value C)) (v : Value C) {k : Value C → Plan C} → ((v : Value C) → Ends Asked (k v)) → Ends Asked (while_true ds es env v k)
      ends-while_true no_exprs ds env v f = f v
      ends-while_true (more_exprs e es) ds env v f = either (is_truthy v) (ends-eval e ds env (λ w. ends-while_true es ds env w f)) (f v)

      ends-until_true : (es : Exprs) (ds env : List (Value C)) (v : Value C) {k : Value C → Plan C} → ((v : Value C) → Ends Asked (k v)) → Ends Asked (until_true ds es env v k)
      ends-until_true no_exprs ds env v f = f v
      ends-until_true (more_exprs e es) ds env v f = either (is_truthy v) (f v) (ends-eval e ds env (λ w. ends-until_true es ds env w f))

  -- ## Printing

  prints-next : (so_far : List ℕ) (v : Value C) {k : Value C → Plan C} → ((t : Value C) → IsText t → Ends IsText (k t)) → Ends IsText (prints_next so_far v k)
  prints-next so_far v f = ends_go (λ t g. f t g)

  prints-items : (xs : List (Value C)) (v : Value C) → IsText v → Ends IsText (print_items xs v)
  prints-items [] v is_text = ends_give is_text
  prints-items (x ∷ xs) v is_text = prints-next _ x (λ t g. prints-items xs t g)

  prints-vector : (so_far : List ℕ) (xs : List (Value C)) → Ends IsText (print_vector so_far xs)
  prints-vector so_far [] = ends_give is_text
  prints-vector so_far (x ∷ xs) = prints-next _ x (λ t g. prints-items xs t g)

  prints-elements : (so_far : List ℕ) (v : Value C) → Ends IsText (seq v (λ s. go print_rest (text (so_far ++ codes "(") ∷ bool false ∷ s ∷ []) give))
  prints-elements so_far v = ends_seq (λ s. ends_go (λ t g. ends_give g))

  prints-on : (so_far : List ℕ) (v : Value C) → Ends IsText (print_on so_far v)
  prints-on so_far nil = ends_give is_text
  prints-on so_far (bool true) = ends_give is_text
  prints-on so_far (bool false) = ends_give is_text
  prints-on so_far (int n) = ends_give is_text
  prints-on so_far (keyword name) = ends_give is_text
  prints-on so_far (text bytes) = ends_give is_text
  prints-on so_far (vector xs) = prints-vector so_far (list xs)
  prints-on so_far (function t xs) = ends_give is_text
  prints-on so_far (reduced v) = prints-next _ v (λ t g. ends_give g)
  prints-on so_far (cell c) = prints-elements so_far (cell c)
  prints-on so_far empty = prints-elements so_far empty
  prints-on so_far (cons xs r) = prints-elements so_far (cons xs r)
  prints-on so_far (chunk xs r) = prints-elements so_far (chunk xs r)
  prints-on so_far (range from at end) = prints-elements so_far (range from at end)
  prints-on so_far (vec_seq xs at) = prints-elements so_far (vec_seq xs at)

  prints-value_round : (xs : List (Value C)) → EndsRound IsText (value_round xs)
  prints-value_round (text so_far ∷ v ∷ []) = round_visits (prints-on so_far v)
  prints-value_round _ = round_fail

  prints-rest_round : (xs : List (Value C)) → EndsRound IsText (rest_round xs)
  prints-rest_round (text so_far ∷ bool after ∷ s ∷ []) =
      either_round (is_nil s) (round_end is_text)
      (round_visits (ends-then (prints-on (spaced after so_far) (first_of s)) (λ t u. ends_seq (λ r. ends_go (λ v g. ends_give g)))))
  prints-rest_round _ = round_fail

  prints-rule : (v : Value C) → Ends IsText (print_rule v)
  prints-rule v = prints-next [] v (λ t g. ends_give g)

  -- ## Loops

  ends-loop : (processors : ℕ) (l : Loop) (xs : List (Value C)) → EndsRound (Given l) ((language processors).on_loop l xs)
  ends-loop processors nth_from xs = every_round (λ v. tt) _
  ends-loop processors last_from xs = every_round (λ v. tt) _
  ends-loop processors count_from xs = every_round (λ v. tt) _
  ends-loop processors gather_from xs = every_round (λ v. tt) _
  ends-loop processors doall_from xs = every_round (λ v. tt) _
  ends-loop processors every_from xs = every_round (λ v. tt) _
  ends-loop processors some_from xs = every_round (λ v. tt) _
  ends-loop processors equal_from xs = every_round (λ v. tt) _
  ends-loop processors reduce_from xs = every_round (λ v. tt) _
  ends-loop processors enter_from xs = every_round (λ v. tt) _
  ends-loop processors drop_from xs = every_round (λ v. tt) _
  ends-loop processors drop_while_from xs = every_round (λ v. tt) _
  ends-loop processors parts_from xs = every_round (λ v. tt) _
  ends-loop processors pull_from xs = every_round (λ v. tt) _
  ends-loop processors ahead_from xs = every_round (λ v. tt) _
  ends-loop processors print_value xs = prints-value_round xs
  ends-loop processors print_rest xs = prints-rest_round xs

-- ## The walk of a plan that gives a text

-- a run that ends by a text, if by a value
data TextRun {C : Type 0} : Run C → Type 0 where
  text_needs : {c : C} {ms : List (Made C)} → TextRun (needs c ms)
  text_gave : {v : Value C} {ms : List (Made C)} → IsText v → TextRun (ends (gave v) ms)
  text_threw : {e : Thrown} {ms : List (Made C)} → TextRun (ends (threw e) ms)
  text_over : TextRun over

data TextDue {C : Type 0} : Due C → Type 0 where
  text_enters : {p : Plan C} → Ends IsText p → TextDue (enters p)
  text_asks : {c : C} {k : Value C → Plan C} → ((v : Value C) → Ends IsText (k v)) → TextDue (asks c k)

module _ {C : Type 0} where
  abbrev TextRest : Rest C → Type 0
  TextRest r = (j : ℕ) (os : List (Outcome C)) → TextRun (r j os)

  text-also : (m : Made C) {r : Run C} → TextRun r → TextRun (also m r)
  text-also m text_needs = text_needs
  text-also m (text_gave h) = text_gave h
  text-also m text_threw = text_threw
  text-also m text_over = text_over

  text-gives : {v : Value C} → IsText v → (os : List (Outcome C)) → TextRun (finish (gave v) os)
  text-gives h [] = text_gave h
  text-gives h (o ∷ os) = text_over

  text-throws : (e : Thrown) (os : List (Outcome C)) → TextRun (finish (threw e) os)
  text-throws e [] = text_threw
  text-throws e (o ∷ os) = text_over

  module _ (s : Script C) (loops : (l : Loop) (xs : List (Value C)) → EndsRound (Given l) (s.rules.on_loop l xs)) (cell_of : ℕ → C) where
    text-walk_by : (due : Due C → Rest C) → ((d : Due C) → TextDue d → TextRest (due d)) → {p : Plan C} → Ends IsText p → TextRest (walk_by s cell_of due p)
    text-walk_by due hd (ends_visit p) j os = hd _ (text_enters p) j os
    text-walk_by due hd (ends_ask p) j os = hd _ (text_asks p) j os
    text-walk_by due hd (ends_seq {x = x} {k = k} p) j os = on_found (λ v. text-walk_by due hd (p v) j os) (found x)
      where
        on_found : ((v : Value C) → TextRun (walk_by s cell_of due (k v) j os)) → (f : Found C) → TextRun (at_found (λ w. walk_by s cell_of due (k w) j os) (λ c. due (asks c (λ w. seq w k)) j os) (finish (threw BadType) os) f)
        on_found f (now w) = f w
        on_found f (asks_for c) = hd _ (text_asks (λ v. ends_seq p)) j os
        on_found f no_seq = text-throws _ os
    text-walk_by due hd (ends_call {f = f} {xs = xs} p) j os = hd _ (text_enters (ends-then (anything (called s f xs)) (λ v u. p v))) j os
    text-walk_by due hd (ends_go {l = m} {xs = xs} {k = k} p) j os = on_round (λ v g. text-walk_by due hd (p v g) j os) (loops m xs)
      where
        on_round : ((v : Value C) → Given m v → TextRun (walk_by s cell_of due (k v) j os)) → {a : Round C} → EndsRound (Given m) a → TextRun (at_round (λ v. walk_by s cell_of due (k v) j os) (λ e. finish (threw e) os) (λ p. due (enters (then p k)) j os) (λ f ys h. due (enters (then (called s f ys) (λ v. then (h v) k))) j os) a)
        on_round f (round_end g) = f _ g
        on_round f round_fail = text-throws _ os
        on_round f (round_visits q) = hd _ (text_enters (ends-then q p)) j os
        on_round e (round_calls {f = f} {xs = ys} q) = hd _ (text_enters (ends-then (anything (called s f ys)) (λ v u. ends-then (q v) p))) j os
    text-walk_by due hd (ends_make p) j os = text-also _ (text-walk_by due hd (p _) (suc j) os)
    text-walk_by due hd (ends_give h) j os = text-gives h os
    text-walk_by due hd ends_throw j os = text-throws _ os

    text-meets_answer : (on : Plan C → Rest C) → ((p : Plan C) → Ends IsText p → TextRest (on p)) → (d : Due C) → TextDue d → TextRest (meets_answer s cell_of on d)
    text-meets_answer on f _ (text_enters p) j os = f _ p j os
    text-meets_answer on f _ (text_asks p) j [] = text_needs
    text-meets_answer on f _ (text_asks p) j (gave v ∷ os) = f _ (p v) j os
    text-meets_answer on f _ (text_asks p) j (threw e ∷ os) = text-throws _ os

    text-walk : (n : ℕ) {p : Plan C} → Ends IsText p → TextRest (walk s cell_of n p)
    unfolding walk
    text-walk zero e = text-walk_by (spent s cell_of) (λ d e j os. text-throws _ os) e
    text-walk (suc n) e = text-walk_by (meets_answer s cell_of (walk s cell_of n)) (text-meets_answer (walk s cell_of n) (λ p e. text-walk n e)) e

-- ## The form

text_at : {r : Run Name} → TextRun r → (v : Value Name) (ms : List (Made Name)) → r ≡ ends (gave v) ms → IsText v
text_at text_needs v ms e = absurd cc
text_at (text_gave {v = u} h) v ms e = let q : u ≡ v = cc in subst (λ x. IsText x) q h
text_at text_threw v ms e = absurd cc
text_at text_over v ms e = absurd cc

module _ (processors : ℕ) (program : Program) (limit : ℕ) where
  -- the run of a `prn` form ends by a text
  text_run : (n : Name) (defs : List (Value Name)) (e : Expr) (a : List (Outcome Name)) → TextRun (run (language processors) program limit n (work defs (of_form (prn e))) a)
  unfolding run
  text_run n defs e a = text-walk (script_of (language processors) program limit defs) (λ l xs. ends-loop processors l xs) (λ j. part n j) limit (ends-eval e defs [] (λ v. prints-rule v)) 1 (in_order a)

  text_of_run : {k : ℕ} {w : Work} (e : Expr) (v : Value Name) (a : List (Outcome Name)) (ms : List (Made Name)) → slice_get program.tops k ≡ Some (prn e) → Of (language processors) program limit (form (suc k)) w → run (language processors) program limit (form (suc k)) w a ≡ ends (gave v) ms → IsText v
  text_of_run {k = k} e v a ms top (of_top {defs = ds} {t = t} b q) r =
      let s : t ≡ prn e = (let z : Some t ≡ Some (prn e) = sym q ∙ top in cc) in
      text_at (subst (λ x. TextRun (run (language processors) program limit (form (suc k)) (work ds (of_form x)) a)) (sym s) (text_run (form (suc k)) ds e a)) v ms r

  -- a `prn` form that gives a value gives a text
  pub prn_text : (k : ℕ) (e : Expr) (v : Value Name) → slice_get program.tops k ≡ Some (prn e) → Gives (language processors) program limit (form (suc k)) (gave v) → IsText v
  prn_text k e v top (gives {a = a} {ms = ms} of t r) = text_of_run e v a ms top of r
