-- Two evaluations of one work give like outcomes.
use Rattle.std.proofs.Common.{◌≡◌, ℕ, zero, suc, List, [], ◌∷◌, ◌++◌, Some, slice_get, false, refl, ap, sym, subst}
use Rattle.seq_base.specs.declared.thrown.Thrown.{Thrown}
use Rattle.seq_values.specs.declared.words.Kind.{Kind}
use Rattle.seq_values.specs.declared.words.Kind.TheVariants.{Lazy}
use Rattle.seq_values.specs.Model.{Value, nil, bool, int, keyword, text, vector, function, reduced, cell, empty, cons, chunk, range, vec_seq, Values, no_values, ◌&◌, Term, Outcome, threw}
use Rattle.clj_script.specs.Trees.{Program}
use Rattle.seq_plan.specs.Plan.{Rules}
use Rattle.seq_plan.specs.Alike.{Likeness, Like, like_nil, like_bool, like_int, like_keyword, like_text, like_vector, like_function, like_reduced, like_cell, like_empty, like_cons, like_chunk, like_range, like_vec_seq, LikeAll, like_none, like_more, LikeList, like_end, like_item, LikeTerm, like_term, LikeOutcome, like_threw, LikePlan, LikeRules}
use Rattle.seq_meaning.specs.Walk.{Made, made, Run, needs, ends, makes_of}
use Rattle.seq_meaning.specs.Alike.{like_made, LikeMakes, like_no_make, like_make_then, LikeRun, like_needs, like_ends, like_over, LikeAnswers, like_no_answer, like_answer, like_script}
use Rattle.seq_meaning.specs.Names.{Name, part, retry}
use Rattle.seq_meaning.specs.Gives.{in_order, Task, of_form, of_term, Work, work, task_plan, run, Of, of_part, of_retry, Part, part_of, True, no_answer, one_more, Gives, gives}
use Rattle.seq_meaning.specs.Twins.{TwinEval, eval_here, eval_cell, eval_retry, twin_cells, cell_same, cell_part, LikeTask, like_form, like_of_term, LikeWork, like_work, Renames}
use Rattle.seq_meaning.proofs.AlikeWalk.{like-term_plan, like-form_plan, like-walk}
use Rattle.seq_meaning.proofs.Once.{one_of}
use Rattle.seq_plan.proofs.FitLemmas.{unasked}

module _ {C : Type 0} (R : Likeness C C) (loose : R.sound ≡ false) (same : (c : C) → R.same c c) where
  mutual
    pub like_refl : (v : Value C) → Like R v v
    like_refl nil = like_nil
    like_refl (bool b) = like_bool
    like_refl (int n) = like_int
    like_refl (keyword name) = like_keyword
    like_refl (text bytes) = like_text
    like_refl (vector xs) = like_vector (like_all_refl xs)
    like_refl (function t xs) = like_function (like_all_refl xs)
    like_refl (reduced v) = like_reduced (like_refl v)
    like_refl (cell c) = like_cell (same c)
    like_refl empty = like_empty
    like_refl (cons xs r) = like_cons (unasked loose) (like_all_refl xs) (like_refl r)
    like_refl (chunk xs r) = like_chunk (unasked loose) (like_all_refl xs) (like_refl r)
    like_refl (range a b c) = like_range (unasked loose)
    like_refl (vec_seq xs at) = like_vec_seq (unasked loose) (like_all_refl xs)

    pub like_all_refl : (xs : Values C) → LikeAll R xs xs
    like_all_refl no_values = like_none
    like_all_refl (x & xs) = like_more (like_refl x) (like_all_refl xs)

  pub like_list_refl : (xs : List (Value C)) → LikeList R xs xs
  like_list_refl [] = like_end
  like_list_refl (x ∷ xs) = like_item (like_refl x) (like_list_refl xs)

module _ {R : Likeness Name Name} where
  like-after : {os os' ps ps' : List (Outcome Name)} → LikeAnswers R os ps → LikeAnswers R os' ps' → LikeAnswers R (os ++ os') (ps ++ ps')
  like-after like_no_answer h = h
  like-after (like_answer o p) h = like_answer o (like-after p h)

  like-in_order : {os ps : List (Outcome Name)} → LikeAnswers R os ps → LikeAnswers R (in_order os) (in_order ps)
  like-in_order like_no_answer = like_no_answer
  like-in_order (like_answer o p) = like-after (like-in_order p) (like_answer o like_no_answer)

module _ (rules : Rules Name) (program : Program) (limit : ℕ) where
  like-task : {R : Likeness Name Name} → LikeRules R rules rules → {ds es : List (Value Name)} {t u : Task} → LikeList R ds es → LikeTask R t u → LikePlan R (task_plan rules program limit ds t) (task_plan rules program limit es u)
  like-task r d (like_form {t = t}) = like-form_plan (like_script {functions = program.functions} {bodies = program.bodies} r d) t
  like-task r d (like_of_term h) = like-term_plan (like_script {functions = program.functions} {bodies = program.bodies} r d) h

  pub like-run : (R : Likeness Name Name) → LikeRules R rules rules → (e f : Name) → ((j : ℕ) → R.same (part e j) (part f j)) → {w v : Work} → LikeWork R w v → {a b : List (Outcome Name)} → LikeAnswers R a b → LikeRun R (run rules program limit e w a) (run rules program limit f v b)
  unfolding run
  like-run R r e f hc (like_work d t) h = like-walk R (like_script {functions = program.functions} {bodies = program.bodies} r d) (λ j. part e j) (λ j. part f j) hc limit (like-task r d t) 1 _ _ (like-in_order h)

  -- a make of a like run
  pub like_make_at : {R : Likeness Name Name} {ms ns : List (Made Name)} → LikeMakes R ms ns → (j : ℕ) (kind : Kind) (t : Term Name) → slice_get ms j ≡ Some (made kind t) → (u : Term Name) × (slice_get ns j ≡ Some (made kind u)) × LikeTerm R t u
  like_make_at like_no_make j kind t p = absurd cc
  like_make_at {R} (like_make_then (like_made {kind = k} {t = t'} {u = u} h) hs) zero kind t p =
      let q : k ≡ kind = cc in
      let r : t' ≡ t = cc in
      (u, ap (λ x. Some (made x u)) q, subst (λ x. LikeTerm R x u) r h)
  like_make_at (like_make_then h hs) (suc j) kind t p = like_make_at hs j kind t p

  pub like_makes_of : {R : Likeness Name Name} {r s : Run Name} → LikeRun R r s → LikeMakes R (makes_of r) (makes_of s)
  like_makes_of (like_needs c ms) = ms
  like_makes_of (like_ends o ms) = ms
  like_makes_of like_over = like_no_make

  pub like_need : {R : Likeness Name Name} {r s : Run Name} {n : Name} {ms : List (Made Name)} → LikeRun R r s → r ≡ needs n ms → (m : Name) × (ns : List (Made Name)) × (s ≡ needs m ns) × R.same n m
  like_need {R} {n = n} (like_needs {c = c} {d = d} {ns = ns} h hs) p = let q : c ≡ n = cc in (d, ns, refl, subst (λ x. R.same x d) q h)
  like_need (like_ends o ms) p = absurd cc
  like_need like_over p = absurd cc

  pub like_end_at : {R : Likeness Name Name} {r s : Run Name} {o : Outcome Name} {ms : List (Made Name)} → LikeRun R r s → r ≡ ends o ms → (u : Outcome Name) × (ns : List (Made Name)) × (s ≡ ends u ns) × LikeOutcome R o u
  like_end_at (like_needs c ms) p = absurd cc
  like_end_at {R} {o = o} (like_ends {o = o'} {p = u} {ns = ns} h hs) p = let q : o' ≡ o = cc in (u, ns, refl, subst (λ x. LikeOutcome R x u) q h)
  like_end_at like_over p = absurd cc

  pub like_error : {R : Likeness Name Name} {x : Thrown} {u : Outcome Name} → LikeOutcome R (threw x) u → u ≡ threw x
  like_error like_threw = refl

  module _ (renames : Renames rules) (p q : Name) (w0 : Work) (at_p : (w : Work) → Of rules program limit p w → w ≡ w0) (at_q : Of rules program limit q w0) where
    abbrev R : Likeness Name Name
    R = twin_cells p q

    abbrev TwinOf : Name → Work → Type 0
    TwinOf b w = (v : Work) × Of rules program limit b v × LikeWork R w v

    like_task_refl : (t : Task) → LikeTask R t t
    like_task_refl (of_form t) = like_form
    like_task_refl (of_term t) = like_of_term (like_term (like_list_refl R refl (λ c. cell_same) t.args))

    like_work_refl : (w : Work) → LikeWork R w w
    like_work_refl (work ds t) = like_work (like_list_refl R refl (λ c. cell_same) ds) (like_task_refl t)

    work_here : (w : Work) → w ≡ w0 → LikeWork R w w0
    work_here w e = subst (λ x. LikeWork R w x) e (like_work_refl w)

    runs : {a b : Name} → TwinEval p q a b → {w v : Work} → LikeWork R w v → {os ps : List (Outcome Name)} → LikeAnswers R os ps → LikeRun R (run rules program limit a w os) (run rules program limit b v ps)
    runs {a = a} {b = b} r = like-run R (renames p q) a b (λ j. cell_part r)

    part_like : {ds : List (Value Name)} {v : Work} {task : Task} {t u : Term Name} → LikeWork R (work ds task) v → LikeTerm R t u → (es : List (Value Name)) × (task' : Task) × (v ≡ work es task') × LikeWork R (work ds (of_term t)) (work es (of_term u))
    part_like (like_work {es = es} {u = u'} d k) h = (es, u', refl, like_work d (like_of_term h))

    mutual
      pub twin_of : {a : Name} {w : Work} → Of rules program limit a w → {b : Name} → TwinEval p q a b → TwinOf b w
      twin_of {w = w} d (eval_here e f) = (w0, subst (λ x. Of rules program limit x w0) (sym f) at_q, work_here w (at_p w (subst (λ x. Of rules program limit x w) e d)))
      twin_of {w = w} d (eval_cell cell_same) = (w, d, like_work_refl w)
      twin_of (of_part h) (eval_cell (cell_part r)) = let v = twin_part_of h (cell_part r) in (v.0, of_part v.1, v.2)
      twin_of (of_retry of t e h g) (eval_retry r) =
          let v = twin_of of r in
          let s = twin_true t r in
          let m = like_need (runs r v.2 s.2) e in
          let o = twin_gives g (eval_cell m.3) in
          let k = twin_part_of h m.3 in
          (k.0, of_retry v.1 s.1 m.2 k.1 (subst (λ x. Gives rules program limit m.0 x) (like_error o.2) o.1), k.2)

      pub twin_true : {a : Name} {os : List (Outcome Name)} → True rules program limit a os → {b : Name} → TwinEval p q a b → (ps : List (Outcome Name)) × True rules program limit b ps × LikeAnswers R os ps
      twin_true (no_answer of) r = let v = twin_of of r in ([], no_answer v.1, like_no_answer)
      twin_true (one_more of t e g) r =
          let v = twin_of of r in
          let s = twin_true t r in
          let m = like_need (runs r v.2 s.2) e in
          let o = twin_gives g (eval_cell m.3) in
          (o.0 ∷ s.0, one_more v.1 s.1 m.2 o.1, like_answer o.2 s.2)

      pub twin_gives : {a : Name} {o : Outcome Name} → Gives rules program limit a o → {b : Name} → TwinEval p q a b → (u : Outcome Name) × Gives rules program limit b u × LikeOutcome R o u
      twin_gives (gives of t e) r =
          let v = twin_of of r in
          let s = twin_true t r in
          let o = like_end_at (runs r v.2 s.2) e in
          (o.0, gives v.1 s.1 o.2, o.3)

      pub twin_part_of : {a : Name} {kind : Kind} {w : Work} → Part rules program limit a kind w → {b : Name} → R.same a b → (v : Work) × Part rules program limit b kind v × LikeWork R w v
      twin_part_of {w = w} d cell_same = (w, d, like_work_refl w)
      twin_part_of (part_of {j = j} {kind = kind} {t = t} of h e) (cell_part {b = b} r) =
          let v = twin_of of r in
          let s = twin_true h r in
          let m = like_make_at (like_makes_of (runs r v.2 s.2)) j kind t e in
          let k = part_like v.2 m.2 in
          (work k.0 (of_term m.0), part_of (subst (λ x. Of rules program limit b x) k.2 v.1) s.1 (subst (λ x. slice_get (makes_of (run rules program limit b x s.0)) j ≡ Some (made kind m.0)) k.2 m.1), k.3)

  -- a failing attempt throws what the part throws
  pub retry_throws : Renames rules → {e n : Name} {w v : Work} {a : List (Outcome Name)} {ms : List (Made Name)} {x : Thrown} → Of rules program limit e w → True rules program limit e a → run rules program limit e w a ≡ needs n ms → Part rules program limit n Lazy v → Gives rules program limit n (threw x) → Gives rules program limit (retry e) (threw x)
  retry_throws renames {e = e} {n = n} {v = v} {x = x} of t r p g =
      let o = twin_gives renames n (retry e) v (λ u d. one_of rules program limit d (of_itself p)) (of_retry of t r p g) g (eval_here refl refl) in
      subst (λ u. Gives rules program limit (retry e) u) (like_error o.2) o.1
    where
      of_itself : {m : Name} {kind : Kind} {u : Work} → Part rules program limit m kind u → Of rules program limit m u
      of_itself (part_of of t r) = of_part (part_of of t r)

  pub twins_run : Renames rules → (p q : Name) → {e f : Name} → TwinEval p q e f → {w v : Work} → LikeWork (twin_cells p q) w v → {a b : List (Outcome Name)} → LikeAnswers (twin_cells p q) a b → LikeRun (twin_cells p q) (run rules program limit e w a) (run rules program limit f v b)
  twins_run renames p q {e = e} {f = f} r = like-run (twin_cells p q) (renames p q) e f (λ j. cell_part r)
