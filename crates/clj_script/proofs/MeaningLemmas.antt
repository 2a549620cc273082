-- What a task comes to is what it is taken apart into comes to.
use Rattle.std.proofs.Common.{◌≡◌, ℕ, ◌-◌, suc, zero, List, [], ◌∷◌, ◌++◌, length, take, drop, replicate, Option, Some, None, Result, Ok, Err, refl, sym, ◌∙◌, ap, subst, arith, append_assoc, append-nil, length-append}
use Rattle.std.proofs.Math.Seq.{take-append_seam, drop-append_seam}
use Rattle.clj_reader.specs.declared.place.Place.{Place}
use Rattle.clj_script.specs.declared.refusal.ScriptRefusal.{ScriptRefusal}
use Rattle.clj_script.specs.declared.task.Build.{Build}
use Rattle.clj_script.specs.declared.task.Build.TheVariants.{Vector, Call, Let, If, And, Or, LazySeq, Nil}
use Rattle.clj_script.specs.Trees.{Expr, exprs}
use Rattle.clj_script.specs.Trees as tree
use Rattle.clj_script.specs.Refusals.{refusal, earliest}
use Rattle.clj_script.specs.Sources.{Source, atom, symbol, round, square, listed}
use Rattle.clj_script.specs.Scopes.{Definitions, named, name_of, binding_refusals}
use Rattle.clj_script.specs.Readings.{Reading, reading, nothing, refused, stands_for, call, let_of, if_of, and_of, or_of, lazy_seq}
use Rattle.clj_script.specs.Judgements.{nil_expr, JudgedList, JudgedAll, JudgedLet, of_atom, of_name, of_no_name, of_vector, of_list, of_nothing, of_refused, of_threading, of_call, of_let, of_if, of_if_alone, of_and, of_or, of_lazy_seq, of_none, of_more, of_body, of_pair}
use Rattle.clj_script.specs.Machines.{Todo, look, bind, build, Now, taking, front, back, made, locals_behind, bodies_behind, built, bound, judged_so, Done, looks, lets, plan_of_reading, plan_of_name, asked_by, after_plan, asked, after}
use Rattle.clj_script.proofs.LocalLemmas.{last_taken}
use Rattle.clj_script.proofs.ThreadLemmas.{earliest-join}

pub front-join : {X : Type 0} (n : ℕ) (xs ys : List X) → n ≡ length ys → front n (xs ++ ys) ≡ xs
front-join n xs ys e =
    let h : length (xs ++ ys) - n ≡ length xs = omega (arith, length-append xs ys) in
    ap (λ (k : ℕ). take k (xs ++ ys)) h ∙ take-append_seam xs ys

pub back-join : {X : Type 0} (n : ℕ) (xs ys : List X) → n ≡ length ys → back n (xs ++ ys) ≡ ys
back-join n xs ys e =
    let h : length (xs ++ ys) - n ≡ length xs = omega (arith, length-append xs ys) in
    ap (λ (k : ℕ). drop k (xs ++ ys)) h ∙ drop-append_seam xs ys

three_joined : (least : Option ScriptRefusal) (rs ss ts : List ScriptRefusal) → earliest (earliest (earliest least rs) ss) ts ≡ earliest least (rs ++ ss ++ ts)
three_joined least rs ss ts = sym (earliest-join least (rs ++ ss) ts ∙ ap (λ (l : Option ScriptRefusal). earliest l ts) (earliest-join least rs ss))

abbrev now_with : List (List ℕ) → List Expr → List Expr → Option ScriptRefusal → Now
now_with ls b vs least = record { locals = ls; bodies = b; values = vs; least = least }

same_now : {ls ls' : List (List ℕ)} {b b' vs vs' : List Expr} {r r' : Option ScriptRefusal} → ls ≡ ls' → b ≡ b' → vs ≡ vs' → r ≡ r' → now_with ls b vs r ≡ now_with ls' b' vs' r'
same_now e f g h = (cc)

-- an expression is built of the values at the end, where they are as many as it takes
built_so : (k : Build) (ls : List (List ℕ)) (b vs es : List Expr) (r : Option ScriptRefusal) → taking k ≡ length es → built k (now_with ls b (vs ++ es) r) ≡ now_with (locals_behind k ls) (bodies_behind k es b) (vs ++ made k (length b) es ∷ []) r
built_so k ls b vs es r e =
    let f : front (taking k) (vs ++ es) ≡ vs = front-join (taking k) vs es e in
    let g : back (taking k) (vs ++ es) ≡ es = back-join (taking k) vs es e in
    same_now refl (ap (λ (us : List Expr). bodies_behind k us b) g) (ap (λ (us : List Expr). us ++ made k (length b) (back (taking k) (vs ++ es)) ∷ []) f ∙ ap (λ (us : List Expr). vs ++ made k (length b) us ∷ []) g) refl

-- the ends of bindings, of which the last may be told apart
pub ends_behind : (k : ℕ) (ts : List Todo) → replicate (suc k) (build Let) ++ ts ≡ replicate k (build Let) ++ build Let ∷ ts
ends_behind zero ts = refl
ends_behind (suc k) ts = ap (λ (us : List Todo). build Let ∷ us) (ends_behind k ts)

module _ (d : Definitions) where
  done_from : (m m' : Now) (ts : List Todo) (n : Now) → m ≡ m' → Done d m ts n → Done d m' ts n
  done_from m m' ts n e h = subst (λ (k : Now). Done d k ts n) e h

  done_of : (m : Now) (ts us : List Todo) (n : Now) → ts ≡ us → Done d m ts n → Done d m us n
  done_of m ts us n e h = subst (λ (ws : List Todo). Done d m ws n) e h

  -- forms were looked at, and what is behind them is to be done
  record HasLooked (m : Now) (ss : List Source) (ts : List Todo) (n : Now) : Type 0 where
    es : List Expr
    bodies : List Expr
    refusals : List ScriptRefusal
    judged : JudgedAll d m.locals m.bodies ss es bodies refusals
    as_many : length es ≡ length ss
    done : Done d (now_with m.locals bodies (m.values ++ es) (earliest m.least refusals)) ts n

  looked_all : (ss : List Source) (m : Now) (ts : List Todo) (n : Now) → Done d m (looks ss ++ ts) n → HasLooked m ss ts n
  looked_all [] m ts n h = record {
    es = [];
    bodies = m.bodies;
    refusals = [];
    judged = of_none;
    as_many = refl;
    done = done_from m (now_with m.locals m.bodies (m.values ++ []) m.least) ts n (same_now refl refl (sym (append-nil m.values)) refl) h;
  }
  looked_all (s ∷ ss) m ts n h =
      let k : HasLooked (judged_so h.0 h.1 h.2 m) ss ts n = looked_all ss (judged_so h.0 h.1 h.2 m) ts n h.4 in
      record {
        es = h.0 ∷ k.es;
        bodies = k.bodies;
        refusals = h.2 ++ k.refusals;
        judged = of_more h.3 k.judged;
        as_many = ap suc k.as_many;
        done = done_from _ (now_with m.locals k.bodies (m.values ++ h.0 ∷ k.es) (earliest m.least (h.2 ++ k.refusals))) ts n (same_now refl refl (append_assoc m.values (h.0 ∷ []) k.es) (sym (earliest-join m.least h.2 k.refusals))) k.done;
      }

  -- forms were looked at, and an expression was built of them
  record HasGathered (m : Now) (ss : List Source) (k : Build) (ts : List Todo) (n : Now) : Type 0 where
    es : List Expr
    bodies : List Expr
    refusals : List ScriptRefusal
    judged : JudgedAll d m.locals m.bodies ss es bodies refusals
    done : Done d (now_with (locals_behind k m.locals) (bodies_behind k es bodies) (m.values ++ made k (length bodies) es ∷ []) (earliest m.least refusals)) ts n

  gathered : (ss : List Source) (k : Build) (m : Now) (ts : List Todo) (n : Now) → taking k ≡ length ss → Done d m ((looks ss ++ build k ∷ []) ++ ts) n → HasGathered m ss k ts n
  gathered ss k m ts n e h =
      let h' : Done d m (looks ss ++ build k ∷ ts) n = done_of m ((looks ss ++ build k ∷ []) ++ ts) (looks ss ++ build k ∷ ts) n (append_assoc (looks ss) (build k ∷ []) ts) h in
      let l : HasLooked m ss (build k ∷ ts) n = looked_all ss m (build k ∷ ts) n h' in
      record {
        es = l.es;
        bodies = l.bodies;
        refusals = l.refusals;
        judged = l.judged;
        done = done_from _ _ ts n (built_so k m.locals l.bodies m.values l.es (earliest m.least l.refusals) (e ∙ sym l.as_many)) l.done;
      }

  -- a list means an expression, and what is behind it is to be done
  record HasMeant (m : Now) (p : Place) (r : Reading) (ts : List Todo) (n : Now) : Type 0 where
    e : Expr
    bodies : List Expr
    refusals : List ScriptRefusal
    judged : JudgedList d m.locals m.bodies p r e bodies refusals
    done : Done d (judged_so e bodies refusals m) ts n

  -- values were bound to names in turn for a body, and what is behind them is to be done
  record HasBoundAll (m : Now) (pairs : List (Source × Source)) (body : Source) (ts : List Todo) (n : Now) : Type 0 where
    e : Expr
    bodies : List Expr
    refusals : List ScriptRefusal
    judged : JudgedLet d m.locals m.bodies pairs body e bodies refusals
    done : Done d (judged_so e bodies refusals m) ts n

  -- a binding ends
  ended : (m : Now) (name : Source) (e e' : Expr) (b b' : List Expr) (rs rs' : List ScriptRefusal) → built Let (judged_so e' b' rs' (bound name (judged_so e b rs m))) ≡ judged_so (tree.let_in e e') b' (rs ++ binding_refusals name ++ rs') m
  ended m name e e' b b' rs rs' =
      let v : (m.values ++ e ∷ []) ++ e' ∷ [] ≡ m.values ++ e ∷ e' ∷ [] = append_assoc m.values (e ∷ []) (e' ∷ []) in
      let l : earliest (earliest (earliest m.least rs) (binding_refusals name)) rs' ≡ earliest m.least (rs ++ binding_refusals name ++ rs') = three_joined m.least rs (binding_refusals name) rs' in
      ap (built Let) (same_now {ls = m.locals ++ name_of name ∷ []} {b = b'} refl refl v l) ∙ built_so Let (m.locals ++ name_of name ∷ []) b' m.values (e ∷ e' ∷ []) (earliest m.least (rs ++ binding_refusals name ++ rs')) refl ∙ same_now (last_taken m.locals (name_of name)) refl refl refl

  bound_all : (pairs : List (Source × Source)) (body : Source) (m : Now) (ts : List Todo) (n : Now) → Done d m (lets pairs ++ look body ∷ (replicate (length pairs) (build Let) ++ ts)) n → HasBoundAll m pairs body ts n
  bound_all [] body m ts n h = record { e = h.0; bodies = h.1; refusals = h.2; judged = of_body h.3; done = h.4 }
  bound_all (p ∷ pairs) body m ts n h =
      let m' : Now = bound p.0 (judged_so h.0 h.1 h.2 m) in
      let behind : List Todo → List Todo = λ us. lets pairs ++ look body ∷ us in
      let h' : Done d m' (behind (replicate (length pairs) (build Let) ++ build Let ∷ ts)) n = done_of m' _ _ n (ap behind (ends_behind (length pairs) ts)) h.4 in
      let k : HasBoundAll m' pairs body (build Let ∷ ts) n = bound_all pairs body m' (build Let ∷ ts) n h' in
      record {
        e = tree.let_in h.0 k.e;
        bodies = k.bodies;
        refusals = h.2 ++ binding_refusals p.0 ++ k.refusals;
        judged = of_pair h.3 k.judged;
        done = done_from _ _ ts n (ended m p.0 h.0 k.e h.1 k.bodies h.2 k.refusals) k.done;
      }

  meant_call : (p : Place) (head : Source) (args : List Source) (m : Now) (ts : List Todo) (n : Now) → Done d m ((look head ∷ looks args ++ build (Call (length args)) ∷ []) ++ ts) n → HasMeant m p (call head args) ts n
  meant_call p head args m ts n h =
      let m' : Now = judged_so h.0 h.1 h.2 m in
      let h' : Done d m' (looks args ++ build (Call (length args)) ∷ ts) n = done_of m' ((looks args ++ build (Call (length args)) ∷ []) ++ ts) (looks args ++ build (Call (length args)) ∷ ts) n (append_assoc (looks args) (build (Call (length args)) ∷ []) ts) h.4 in
      let l : HasLooked m' args (build (Call (length args)) ∷ ts) n = looked_all args m' (build (Call (length args)) ∷ ts) n h' in
      let v : (m.values ++ h.0 ∷ []) ++ l.es ≡ m.values ++ h.0 ∷ l.es = append_assoc m.values (h.0 ∷ []) l.es in
      let r : earliest (earliest m.least h.2) l.refusals ≡ earliest m.least (h.2 ++ l.refusals) = sym (earliest-join m.least h.2 l.refusals) in
      record {
        e = tree.call_of h.0 (exprs l.es);
        bodies = l.bodies;
        refusals = h.2 ++ l.refusals;
        judged = of_call h.3 l.judged;
        done = done_from _ _ ts n (ap (built (Call (length args))) (same_now {ls = m.locals} {b = l.bodies} refl refl v r) ∙ built_so (Call (length args)) m.locals l.bodies m.values (h.0 ∷ l.es) (earliest m.least (h.2 ++ l.refusals)) (ap suc (sym l.as_many))) l.done;
      }

  meant_if : (p : Place) (test a z : Source) (m : Now) (ts : List Todo) (n : Now) → Done d m (look test ∷ look a ∷ look z ∷ build If ∷ ts) n → HasMeant m p (if_of test a (Some z)) ts n
  meant_if p test a z m ts n h =
      let g = h.4 in
      let f = g.4 in
      let v : ((m.values ++ h.0 ∷ []) ++ g.0 ∷ []) ++ f.0 ∷ [] ≡ m.values ++ h.0 ∷ g.0 ∷ f.0 ∷ [] = append_assoc (m.values ++ h.0 ∷ []) (g.0 ∷ []) (f.0 ∷ []) ∙ append_assoc m.values (h.0 ∷ []) (g.0 ∷ f.0 ∷ []) in
      let r : earliest (earliest (earliest m.least h.2) g.2) f.2 ≡ earliest m.least (h.2 ++ g.2 ++ f.2) = three_joined m.least h.2 g.2 f.2 in
      record {
        e = tree.if_of h.0 g.0 f.0;
        bodies = f.1;
        refusals = h.2 ++ g.2 ++ f.2;
        judged = of_if h.3 g.3 f.3;
        done = done_from _ _ ts n (ap (built If) (same_now {ls = m.locals} {b = f.1} refl refl v r) ∙ built_so If m.locals f.1 m.values (h.0 ∷ g.0 ∷ f.0 ∷ []) (earliest m.least (h.2 ++ g.2 ++ f.2)) refl) f.4;
      }

  meant_if_alone : (p : Place) (test a : Source) (m : Now) (ts : List Todo) (n : Now) → Done d m (look test ∷ look a ∷ build Nil ∷ build If ∷ ts) n → HasMeant m p (if_of test a None) ts n
  meant_if_alone p test a m ts n h =
      let g = h.4 in
      let two : List Expr = (m.values ++ h.0 ∷ []) ++ g.0 ∷ [] in
      let nil : built Nil (now_with m.locals g.1 two (earliest (earliest m.least h.2) g.2)) ≡ now_with m.locals g.1 (two ++ nil_expr ∷ []) (earliest (earliest m.least h.2) g.2) = ap (λ (us : List Expr). built Nil (now_with m.locals g.1 us (earliest (earliest m.least h.2) g.2))) (sym (append-nil two)) ∙ built_so Nil m.locals g.1 two [] (earliest (earliest m.least h.2) g.2) refl in
      let v : two ++ nil_expr ∷ [] ≡ m.values ++ h.0 ∷ g.0 ∷ nil_expr ∷ [] = append_assoc (m.values ++ h.0 ∷ []) (g.0 ∷ []) (nil_expr ∷ []) ∙ append_assoc m.values (h.0 ∷ []) (g.0 ∷ nil_expr ∷ []) in
      let r : earliest (earliest m.least h.2) g.2 ≡ earliest m.least (h.2 ++ g.2) = sym (earliest-join m.least h.2 g.2) in
      record {
        e = tree.if_of h.0 g.0 nil_expr;
        bodies = g.1;
        refusals = h.2 ++ g.2;
        judged = of_if_alone h.3 g.3;
        done = done_from _ _ ts n (ap (built If) (nil ∙ same_now {ls = m.locals} {b = g.1} refl refl v r) ∙ built_so If m.locals g.1 m.values (h.0 ∷ g.0 ∷ nil_expr ∷ []) (earliest m.least (h.2 ++ g.2)) refl) g.4;
      }

  meant_lazy_seq : (p : Place) (body : Source) (m : Now) (ts : List Todo) (n : Now) → Done d m (look body ∷ build LazySeq ∷ ts) n → HasMeant m p (lazy_seq body) ts n
  meant_lazy_seq p body m ts n h = record {
    e = tree.lazy_seq (length h.1);
    bodies = h.1 ++ h.0 ∷ [];
    refusals = h.2;
    judged = of_lazy_seq h.3;
    done = done_from _ _ ts n (built_so LazySeq m.locals h.1 m.values (h.0 ∷ []) (earliest m.least h.2) refl) h.4;
  }

  meant : (p : Place) (r : Reading) (m : Now) (ts : List Todo) (n : Now) → Done d (after_plan (plan_of_reading p r) m) (asked_by (plan_of_reading p r) ++ ts) n → HasMeant m p r ts n
  meant p nothing m ts n h = record { e = _; bodies = m.bodies; refusals = []; judged = of_nothing; done = h }
  meant p (refused k) m ts n h = record { e = nil_expr; bodies = m.bodies; refusals = _; judged = of_refused; done = h }
  meant p (stands_for s steps) m ts n h = record {
    e = h.0;
    bodies = h.1;
    refusals = steps ++ h.2;
    judged = of_threading h.3;
    done = done_from _ _ ts n (same_now {ls = m.locals} {b = h.1} {vs = m.values ++ h.0 ∷ []} refl refl refl (sym (earliest-join m.least steps h.2))) h.4;
  }
  meant p (call head args) m ts n h = meant_call p head args m ts n h
  meant p (let_of pairs body) m ts n h =
      let h' : Done d m (lets pairs ++ look body ∷ (replicate (length pairs) (build Let) ++ ts)) n = done_of m ((lets pairs ++ look body ∷ replicate (length pairs) (build Let)) ++ ts) (lets pairs ++ look body ∷ (replicate (length pairs) (build Let) ++ ts)) n (append_assoc (lets pairs) (look body ∷ replicate (length pairs) (build Let)) ts) h in
      let k : HasBoundAll m pairs body ts n = bound_all pairs body m ts n h' in
      record { e = k.e; bodies = k.bodies; refusals = k.refusals; judged = of_let k.judged; done = k.done }
  meant p (if_of test a (Some z)) m ts n h = meant_if p test a z m ts n h
  meant p (if_of test a None) m ts n h = meant_if_alone p test a m ts n h
  meant p (and_of args) m ts n h =
      let k : HasGathered m args (And (length args)) ts n = gathered args (And (length args)) m ts n refl h in
      record { e = tree.and_of (exprs k.es); bodies = k.bodies; refusals = k.refusals; judged = of_and k.judged; done = k.done }
  meant p (or_of args) m ts n h =
      let k : HasGathered m args (Or (length args)) ts n = gathered args (Or (length args)) m ts n refl h in
      record { e = tree.or_of (exprs k.es); bodies = k.bodies; refusals = k.refusals; judged = of_or k.judged; done = k.done }
  meant p (lazy_seq body) m ts n h = meant_lazy_seq p body m ts n h

  meant_name : (p : Place) (name : List ℕ) (r : Result Expr ℕ) (m : Now) (ts : List Todo) (n : Now) → named d m.locals name ≡ r → Done d (after_plan (plan_of_name p r) m) (asked_by (plan_of_name p r) ++ ts) n → Done d m (look (symbol p name) ∷ ts) n
  meant_name p name (Ok e) m ts n f h = (e, m.bodies, [], of_name f, h)
  meant_name p name (Err k) m ts n f h = (nil_expr, m.bodies, refusal k p ∷ [], of_no_name f, h)

  pub step_follows : (m : Now) (todo : Todo) (ts : List Todo) (n : Now) → Done d (after d m todo) (asked d m todo ++ ts) n → Done d m (todo ∷ ts) n
  step_follows m (bind s) ts n h = h
  step_follows m (build k) ts n h = h
  step_follows m (look (atom p l)) ts n h = (tree.literal l, m.bodies, [], of_atom, h)
  step_follows m (look (symbol p name)) ts n h = meant_name p name (named d m.locals name) m ts n refl h
  step_follows m (look (square p items)) ts n h =
      let k : HasGathered m (listed items) (Vector (length (listed items))) ts n = gathered (listed items) (Vector (length (listed items))) m ts n refl h in
      (tree.vector_of (exprs k.es), k.bodies, k.refusals, of_vector k.judged, k.done)
  step_follows m (look (round p items)) ts n h =
      let k : HasMeant m p (reading (listed items)) ts n = meant p (reading (listed items)) m ts n h in
      (k.e, k.bodies, k.refusals, of_list k.judged, k.done)
