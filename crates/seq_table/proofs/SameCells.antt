-- Parts that are the same but for names give like values.
use Rattle.std.proofs.Common.{◌≡◌, ℕ, zero, suc, ◌+◌, List, [], ◌∷◌, slice_get, Some, refl, subst, arith}
use Rattle.seq_values.specs.declared.words.Kind.{Kind}
use Rattle.seq_values.specs.Model.{Value, Values, Term, Outcome, gave}
use Rattle.clj_script.specs.Trees.{Program}
use Rattle.seq_plan.specs.Plan.{Rules}
use Rattle.seq_plan.specs.Alike.{Likeness, by, Like, like_nil, like_bool, like_int, like_keyword, like_text, like_vector, like_function, like_reduced, like_cell, like_empty, like_cons, like_chunk, like_range, like_vec_seq, LikeAll, like_none, like_more, LikeList, like_end, like_item, LikeTerm, like_term, LikeOutcome, like_gave, LikeRules}
use Rattle.seq_meaning.specs.Walk.{made, makes_of}
use Rattle.seq_meaning.specs.Alike.{LikeRun, LikeAnswers, like_no_answer, like_answer}
use Rattle.seq_meaning.specs.Names.{Name}
use Rattle.seq_meaning.specs.Gives.{Task, of_form, of_term, Work, work, run, Of, of_part, of_retry, Part, part_of, True, no_answer, one_more, Gives, gives}
use Rattle.seq_meaning.specs.Twins.{LikeTask, like_form, like_of_term, LikeWork, like_work}
use Rattle.seq_table.specs.Same.{EvalOver, eval_over, retry_over, CellOver, same_cell, base_cell, part_over, like_parts, Base, SameIn, Same}
use Rattle.seq_table.proofs.AlikeMore.{more-value, more-all, more-list, more-term}
use Rattle.seq_meaning.proofs.Once.{one_of, one_part, one_gives}
use Rattle.seq_meaning.proofs.Twinned.{like_list_refl, like-run, like_make_at, like_makes_of, like_need, like_end_at, like_error}
use Rattle.seq_table.proofs.Replay.{open_part}

module _ {B B' : Name → Name → Type 0} (more : (a b : Name) → B a b → B' a b) where
  mutual
    more-eval : {a b : Name} → EvalOver B a b → EvalOver B' a b
    more-eval (eval_over c) = eval_over (more-cell c)
    more-eval (retry_over e) = retry_over (more-eval e)

    pub more-cell : {a b : Name} → CellOver B a b → CellOver B' a b
    more-cell same_cell = same_cell
    more-cell (base_cell x) = base_cell (more _ _ x)
    more-cell (part_over e) = part_over (more-eval e)

module _ (rules : Rules Name) (program : Program) (limit : ℕ) (renames : (R : Likeness Name Name) → LikeRules R rules rules) where
  base_up : (k : ℕ) (a b : Name) → Base rules program limit k a b → Base rules program limit (suc k) a b
  base_up zero a b x = absurd x
  base_up (suc k) a b (like_parts p q l t) = like_parts p q (more-list (λ c d. more-cell (base_up k)) l) (more-term (λ c d. more-cell (base_up k)) t)

  base_more : (k m : ℕ) (a b : Name) → Base rules program limit k a b → Base rules program limit (m + k) a b
  base_more k zero a b x = let e : k ≡ 0 + k = omega arith in subst (λ n. Base rules program limit n a b) e x
  base_more k (suc m) a b x = let e : suc (m + k) ≡ suc m + k = omega arith in subst (λ n. Base rules program limit n a b) e (base_up (m + k) a b (base_more k m a b x))

  abbrev R : ℕ → Likeness Name Name
  R k = by (SameIn rules program limit k)

  up_r : (k m : ℕ) (a b : Name) → SameIn rules program limit m a b → SameIn rules program limit (k + m) a b
  up_r k m a b = more-cell (base_more m k)

  up_l : (k m : ℕ) (a b : Name) → SameIn rules program limit k a b → SameIn rules program limit (k + m) a b
  up_l k m a b x = let e : m + k ≡ k + m = omega arith in subst (λ n. SameIn rules program limit n a b) e (up_r m k a b x)

  -- finitely many cells are the same in one number of rounds
  mutual
    in_one-value : {v u : Value Name} → Like (Same rules program limit) v u → (k : ℕ) × Like (R k) v u
    in_one-value like_nil = (0, like_nil)
    in_one-value like_bool = (0, like_bool)
    in_one-value like_int = (0, like_int)
    in_one-value like_keyword = (0, like_keyword)
    in_one-value like_text = (0, like_text)
    in_one-value (like_reduced h) = let a = in_one-value h in (a.0, like_reduced a.1)
    in_one-value (like_vec_seq n h) = let a = in_one-all h in (a.0, like_vec_seq n a.1)
    in_one-value (like_vector h) = let a = in_one-all h in (a.0, like_vector a.1)
    in_one-value (like_function h) = let a = in_one-all h in (a.0, like_function a.1)
    in_one-value like_empty = (0, like_empty)
    in_one-value (like_cons n h k) = let a = in_one-all h in let b = in_one-value k in (a.0 + b.0, like_cons n (more-all (up_l a.0 b.0) a.1) (more-value (up_r a.0 b.0) b.1))
    in_one-value (like_chunk n h k) = let a = in_one-all h in let b = in_one-value k in (a.0 + b.0, like_chunk n (more-all (up_l a.0 b.0) a.1) (more-value (up_r a.0 b.0) b.1))
    in_one-value (like_range n) = (0, like_range n)
    in_one-value (like_cell r) = (r.0, like_cell r.1)

    in_one-all : {v u : Values Name} → LikeAll (Same rules program limit) v u → (k : ℕ) × LikeAll (R k) v u
    in_one-all like_none = (0, like_none)
    in_one-all (like_more h k) = let a = in_one-value h in let b = in_one-all k in (a.0 + b.0, like_more (more-value (up_l a.0 b.0) a.1) (more-all (up_r a.0 b.0) b.1))

  in_one-list : {v u : List (Value Name)} → LikeList (Same rules program limit) v u → (k : ℕ) × LikeList (R k) v u
  in_one-list like_end = (0, like_end)
  in_one-list (like_item h k) = let a = in_one-value h in let b = in_one-list k in (a.0 + b.0, like_item (more-value (up_l a.0 b.0) a.1) (more-list (up_r a.0 b.0) b.1))

  in_one-term : {t u : Term Name} → LikeTerm (Same rules program limit) t u → (k : ℕ) × LikeTerm (R k) t u
  in_one-term (like_term h) = let a = in_one-list h in (a.0, like_term a.1)

  -- parts of like terms are the same
  pub same_parts : {c d : Name} {kind : Kind} {ds es : List (Value Name)} {t u : Term Name} → Part rules program limit c kind (work ds (of_term t)) → Part rules program limit d kind (work es (of_term u)) → LikeList (Same rules program limit) ds es → LikeTerm (Same rules program limit) t u → (Same rules program limit).same c d
  same_parts p q l h =
      let a = in_one-list l in
      let b = in_one-term h in
      (suc (a.0 + b.0), base_cell (like_parts p q (more-list (up_l a.0 b.0) a.1) (more-term (up_r a.0 b.0) b.1)))

  abbrev AsWork : ℕ → Name → Work → Type 0
  AsWork k b w = (v : Work) × Of rules program limit b v × LikeWork (R k) w v

  abbrev AsPart : ℕ → Name → Kind → Work → Type 0
  AsPart k b kind w = (v : Work) × Part rules program limit b kind v × LikeWork (R k) w v

  base_part : (k : ℕ) {a b : Name} {kind : Kind} {w : Work} → Base rules program limit k a b → Part rules program limit a kind w → AsPart k b kind w
  base_part zero x d = absurd x
  base_part (suc k) {b = b} {kind = kind} {w = w} (like_parts {kind = kind'} {ds = ds} {es = es} {t = t} {u = u} p q l h) d =
      let e = one_part rules program limit p d in
      let m : LikeWork (R (suc k)) (work ds (of_term t)) (work es (of_term u)) = like_work (more-list (λ c d. more-cell (base_up k)) l) (like_of_term (more-term (λ c d. more-cell (base_up k)) h)) in
      (work es (of_term u), subst (λ x. Part rules program limit b x (work es (of_term u))) e.0 q, subst (λ x. LikeWork (R (suc k)) x (work es (of_term u))) e.1 m)

  base_of : (k : ℕ) {a b : Name} {w : Work} → Base rules program limit k a b → Of rules program limit a w → AsWork k b w
  base_of zero x d = absurd x
  base_of (suc k) {a = a} {b = b} {w = w} (like_parts {kind = kind} {ds = ds} {es = es} {t = t} {u = u} p q l h) d =
      let e = one_of rules program limit (open_part rules program limit p) d in
      let m : LikeWork (R (suc k)) (work ds (of_term t)) (work es (of_term u)) = like_work (more-list (λ c d. more-cell (base_up k)) l) (like_of_term (more-term (λ c d. more-cell (base_up k)) h)) in
      (work es (of_term u), open_part rules program limit q, subst (λ x. LikeWork (R (suc k)) x (work es (of_term u))) e m)

  module _ (k : ℕ) where
    task_refl : (t : Task) → LikeTask (R k) t t
    task_refl (of_form t) = like_form
    task_refl (of_term t) = like_of_term (like_term (like_list_refl (R k) refl (λ c. same_cell) t.args))

    work_refl : (w : Work) → LikeWork (R k) w w
    work_refl (work ds t) = like_work (like_list_refl (R k) refl (λ c. same_cell) ds) (task_refl t)

    runs : {a b : Name} → EvalOver (Base rules program limit k) a b → {w v : Work} → LikeWork (R k) w v → {os ps : List (Outcome Name)} → LikeAnswers (R k) os ps → LikeRun (R k) (run rules program limit a w os) (run rules program limit b v ps)
    runs {a = a} {b = b} r = like-run rules program limit (R k) (renames (R k)) a b (λ j. part_over r)

    part_like : {ds : List (Value Name)} {v : Work} {task : Task} {t u : Term Name} → LikeWork (R k) (work ds task) v → LikeTerm (R k) t u → (es : List (Value Name)) × (task' : Task) × (v ≡ work es task') × LikeWork (R k) (work ds (of_term t)) (work es (of_term u))
    part_like (like_work {es = es} {u = u'} d q) h = (es, u', refl, like_work d (like_of_term h))

    mutual
      same_of : {a : Name} {w : Work} → Of rules program limit a w → {b : Name} → EvalOver (Base rules program limit k) a b → AsWork k b w
      same_of {w = w} d (eval_over same_cell) = (w, d, work_refl w)
      same_of d (eval_over (base_cell x)) = base_of k x d
      same_of (of_part h) (eval_over (part_over r)) = let v = same_part h (part_over r) in (v.0, of_part v.1, v.2)
      same_of (of_retry of t e h g) (retry_over r) =
          let v = same_of of r in
          let s = same_true t r in
          let m = like_need rules program limit (runs r v.2 s.2) e in
          let o = same_gives g (eval_over m.3) in
          let q = same_part h m.3 in
          (q.0, of_retry v.1 s.1 m.2 q.1 (subst (λ x. Gives rules program limit m.0 x) (like_error rules program limit o.2) o.1), q.2)

      same_true : {a : Name} {os : List (Outcome Name)} → True rules program limit a os → {b : Name} → EvalOver (Base rules program limit k) a b → (ps : List (Outcome Name)) × True rules program limit b ps × LikeAnswers (R k) os ps
      same_true (no_answer of) r = let v = same_of of r in ([], no_answer v.1, like_no_answer)
      same_true (one_more of t e g) r =
          let v = same_of of r in
          let s = same_true t r in
          let m = like_need rules program limit (runs r v.2 s.2) e in
          let o = same_gives g (eval_over m.3) in
          (o.0 ∷ s.0, one_more v.1 s.1 m.2 o.1, like_answer o.2 s.2)

      same_gives : {a : Name} {o : Outcome Name} → Gives rules program limit a o → {b : Name} → EvalOver (Base rules program limit k) a b → (u : Outcome Name) × Gives rules program limit b u × LikeOutcome (R k) o u
      same_gives (gives of t e) r =
          let v = same_of of r in
          let s = same_true t r in
          let o = like_end_at rules program limit (runs r v.2 s.2) e in
          (o.0, gives v.1 s.1 o.2, o.3)

      same_part : {a : Name} {kind : Kind} {w : Work} → Part rules program limit a kind w → {b : Name} → SameIn rules program limit k a b → AsPart k b kind w
      same_part {w = w} d same_cell = (w, d, work_refl w)
      same_part d (base_cell x) = base_part k x d
      same_part (part_of {j = j} {kind = kind} {t = t} of h e) (part_over {b = b} r) =
          let v = same_of of r in
          let s = same_true h r in
          let m = like_make_at rules program limit (like_makes_of rules program limit (runs r v.2 s.2)) j kind t e in
          let q = part_like v.2 m.2 in
          (work q.0 (of_term m.0), part_of (subst (λ x. Of rules program limit b x) q.2 v.1) s.1 (subst (λ x. slice_get (makes_of (run rules program limit b x s.0)) j ≡ Some (made kind m.0)) q.2 m.1), q.3)

  -- the same cells show like values
  pub shows_alike : {c d : Name} {v u : Value Name} → (Same rules program limit).same c d → Gives rules program limit c (gave v) → Gives rules program limit d (gave u) → Like (Same rules program limit) v u
  shows_alike {d = d} {v = v} {u = u} r g h = by (same_gives r.0 g (eval_over r.1))
    where
      of_gave : (k : ℕ) {v u : Value Name} {o : Outcome Name} → LikeOutcome (R k) (gave v) o → o ≡ gave u → Like (R k) v u
      of_gave k {v = v} {u = u} (like_gave {w = u'} l) e = let q : u' ≡ u = cc in subst (λ x. Like (R k) v x) q l

      by : ((o : Outcome Name) × Gives rules program limit d o × LikeOutcome (R r.0) (gave v) o) → Like (Same rules program limit) v u
      by (o, g', l) = more-value (λ a b x. (r.0, x)) (of_gave r.0 l (one_gives rules program limit g' h))
