-- Forms mean at most one thing.
use Rattle.std.proofs.Common.{◌≡◌, ℕ, List, [], ◌∷◌, ◌++◌, length, refl, sym, ap, subst, Result, Ok, Err}
use Rattle.clj_reader.specs.declared.place.Place.{Place}
use Rattle.clj_script.specs.declared.refusal.ScriptRefusal.{ScriptRefusal}
use Rattle.clj_script.specs.Trees.{Expr, exprs, call_of, vector_of, and_of, or_of, if_of, let_in, lazy_seq, prn}
use Rattle.clj_script.specs.Refusals.{refusal}
use Rattle.clj_script.specs.Sources.{Source}
use Rattle.clj_script.specs.Scopes.{Definitions, name_of}
use Rattle.clj_script.specs.Readings.{Reading, Clause}
use Rattle.clj_script.specs.Judgements.{nil_expr, Judged, JudgedList, JudgedAll, JudgedLet, of_atom, of_name, of_no_name, of_vector, of_list, of_nothing, of_refused, of_threading, of_call, of_let, of_if, of_if_alone, of_and, of_or, of_lazy_seq, of_none, of_more, of_body, of_pair}
use Rattle.clj_script.specs.Scripts.{TopReading, SoFar, JudgedClauses, no_clause, one_more_clause, JudgedTop, of_top, JudgedAtTop, of_stray, of_stray_list, of_wrong, of_def, of_defn, of_prn, of_ledger, JudgedTops, no_form, one_more_form, with_bodies, with_top, after_def, after_defn, name_refusals, is_new, with_own, count_of, Means, program_of}
use Rattle.clj_script.specs.Scripts as top

-- two meanings are the same
pub record Same {X : Type 0} (x y : X) (b c : List Expr) (rs ss : List ScriptRefusal) : Type 0 where
  pub meant : x ≡ y
  pub bodies : b ≡ c
  pub refused : rs ≡ ss

same : {X : Type 0} {x y : X} {b c : List Expr} {rs ss : List ScriptRefusal} → x ≡ y → b ≡ c → rs ≡ ss → Same x y b c rs ss
same p q r = record { meant = p; bodies = q; refused = r }

mapped : {X Y : Type 0} {x y : X} {b c : List Expr} {rs ss : List ScriptRefusal} (f : X → Y) → Same x y b c rs ss → Same (f x) (f y) b c rs ss
mapped f s = record { meant = ap f s.meant; bodies = s.bodies; refused = s.refused }

behind : {X : Type 0} {x y : X} {b c : List Expr} {rs ss : List ScriptRefusal} (before : List ScriptRefusal) → Same x y b c rs ss → Same x y b c (before ++ rs) (before ++ ss)
behind before s = record { meant = s.meant; bodies = s.bodies; refused = ap (λ rs. before ++ rs) s.refused }

ahead : {X : Type 0} {x y : X} {b c : List Expr} {rs ss : List ScriptRefusal} (more : List ScriptRefusal) → Same x y b c rs ss → Same x y b c (rs ++ more) (ss ++ more)
ahead more s = record { meant = s.meant; bodies = s.bodies; refused = ap (λ rs. rs ++ more) s.refused }

joined : {X Y Z : Type 0} {x y : X} {u v : Y} {b c b' c' : List Expr} {rs ss qs ts : List ScriptRefusal} (f : X → Y → Z) → Same x y b c rs ss → Same u v b' c' qs ts → Same (f x u) (f y v) b' c' (rs ++ qs) (ss ++ ts)
joined {x = x} {y = y} {u = u} {v = v} {rs = rs} {ss = ss} {qs = qs} {ts = ts} f s t =
    let p : x ≡ y = s.meant in
    let q : u ≡ v = t.meant in
    let m : rs ≡ ss = s.refused in
    let n : qs ≡ ts = t.refused in
    record { meant = (cc); bodies = t.bodies; refused = (cc) }

one_name : {X Y : Type 0} {r : Result X Y} {x y : X} → r ≡ Ok x → r ≡ Ok y → x ≡ y
one_name e f = (cc)

one_number : {X Y : Type 0} {r : Result X Y} {x y : Y} → r ≡ Err x → r ≡ Err y → x ≡ y
one_number e f = (cc)

one_refusal : {m n : ℕ} {p : Place} → m ≡ n → refusal m p ∷ [] ≡ refusal n p ∷ []
one_refusal {p = p} e = ap (λ n. refusal n p ∷ []) e

no_both : {X Y : Type 0} {r : Result X Y} {x : X} {y : Y} → r ≡ Ok x → r ≡ Err y → ⊥
no_both e f = (cc)

module _ (d : Definitions) where
  from_all : {ls : List (List ℕ)} {b c c' : List Expr} {ss : List Source} {y : List Expr} {rs : List ScriptRefusal} → b ≡ c → JudgedAll d ls c ss y c' rs → JudgedAll d ls b ss y c' rs
  from_all {ls = ls} {c' = c'} {ss = ss} {y = y} {rs = rs} e j = subst (λ (b : List Expr). JudgedAll d ls b ss y c' rs) (sym e) j

  from_one : {ls : List (List ℕ)} {b c c' : List Expr} {s : Source} {y : Expr} {rs : List ScriptRefusal} → b ≡ c → Judged d ls c s y c' rs → Judged d ls b s y c' rs
  from_one {ls = ls} {c' = c'} {s = s} {y = y} {rs = rs} e j = subst (λ (b : List Expr). Judged d ls b s y c' rs) (sym e) j

  from_let : {ls : List (List ℕ)} {b c c' : List Expr} {pairs : List (Source × Source)} {s : Source} {y : Expr} {rs : List ScriptRefusal} → b ≡ c → JudgedLet d ls c pairs s y c' rs → JudgedLet d ls b pairs s y c' rs
  from_let {ls = ls} {c' = c'} {pairs = pairs} {s = s} {y = y} {rs = rs} e j = subst (λ (b : List Expr). JudgedLet d ls b pairs s y c' rs) (sym e) j

  from_clauses : {counts : List ℕ} {b c c' : List Expr} {cs : List Clause} {y : List (ℕ × Expr)} {rs : List ScriptRefusal} → b ≡ c → JudgedClauses d counts c cs y c' rs → JudgedClauses d counts b cs y c' rs
  from_clauses {counts = counts} {c' = c'} {cs = cs} {y = y} {rs = rs} e j = subst (λ (b : List Expr). JudgedClauses d counts b cs y c' rs) (sym e) j

  with_body : {x y : Expr} {b c : List Expr} {rs ss : List ScriptRefusal} → Same x y b c rs ss → Same (lazy_seq (length b)) (lazy_seq (length c)) (b ++ x ∷ []) (c ++ y ∷ []) rs ss
  with_body {x = x} {y = y} {b = b} {c = c} s =
      let p : x ≡ y = s.meant in
      let q : b ≡ c = s.bodies in
      record { meant = (cc); bodies = (cc); refused = s.refused }

  mutual
    pub one_judged : {ls : List (List ℕ)} {b b' c' : List Expr} {s : Source} {x y : Expr} {rs ss : List ScriptRefusal} → Judged d ls b s x b' rs → Judged d ls b s y c' ss → Same x y b' c' rs ss
    one_judged of_atom of_atom = same refl refl refl
    one_judged (of_name e) (of_name f) = same (one_name e f) refl refl
    one_judged (of_name e) (of_no_name f) = absurd (no_both e f)
    one_judged (of_no_name e) (of_name f) = absurd (no_both f e)
    one_judged (of_no_name e) (of_no_name f) = same refl refl (one_refusal (one_number e f))
    one_judged (of_vector e) (of_vector f) = mapped (λ es. vector_of (exprs es)) (one_judged_all e f)
    one_judged (of_list e) (of_list f) = one_judged_list e f

    pub one_judged_list : {ls : List (List ℕ)} {b b' c' : List Expr} {p : Place} {r : Reading} {x y : Expr} {rs ss : List ScriptRefusal} → JudgedList d ls b p r x b' rs → JudgedList d ls b p r y c' ss → Same x y b' c' rs ss
    one_judged_list of_nothing of_nothing = same refl refl refl
    one_judged_list of_refused of_refused = same refl refl refl
    one_judged_list (of_threading e) (of_threading f) = behind _ (one_judged e f)
    one_judged_list (of_call e es) (of_call f fs) =
        let s = one_judged e f in
        joined (λ e es. call_of e (exprs es)) s (one_judged_all es (from_all s.bodies fs))
    one_judged_list (of_let e) (of_let f) = one_judged_let e f
    one_judged_list (of_if e e' e'') (of_if f f' f'') =
        let s = one_judged e f in
        let t = one_judged e' (from_one s.bodies f') in
        joined (λ (p : Expr × Expr) (e : Expr). if_of p.0 p.1 e) (joined (λ (x y : Expr). (x, y)) s t) (one_judged e'' (from_one t.bodies f''))
    one_judged_list (of_if_alone e e') (of_if_alone f f') =
        let s = one_judged e f in
        joined (λ x y. if_of x y nil_expr) s (one_judged e' (from_one s.bodies f'))
    one_judged_list (of_and e) (of_and f) = mapped (λ es. and_of (exprs es)) (one_judged_all e f)
    one_judged_list (of_or e) (of_or f) = mapped (λ es. or_of (exprs es)) (one_judged_all e f)
    one_judged_list (of_lazy_seq e) (of_lazy_seq f) = with_body (one_judged e f)

    pub one_judged_all : {ls : List (List ℕ)} {b b' c' : List Expr} {ss : List Source} {x y : List Expr} {rs qs : List ScriptRefusal} → JudgedAll d ls b ss x b' rs → JudgedAll d ls b ss y c' qs → Same x y b' c' rs qs
    one_judged_all of_none of_none = same refl refl refl
    one_judged_all (of_more e es) (of_more f fs) =
        let s = one_judged e f in
        joined (λ x xs. x ∷ xs) s (one_judged_all es (from_all s.bodies fs))

    pub one_judged_let : {ls : List (List ℕ)} {b b' c' : List Expr} {pairs : List (Source × Source)} {s : Source} {x y : Expr} {rs ss : List ScriptRefusal} → JudgedLet d ls b pairs s x b' rs → JudgedLet d ls b pairs s y c' ss → Same x y b' c' rs ss
    one_judged_let (of_body e) (of_body f) = one_judged e f
    one_judged_let (of_pair e es) (of_pair f fs) =
        let s = one_judged e f in
        joined let_in (ahead _ s) (one_judged_let es (from_let s.bodies fs))

  pub one_judged_clauses : {counts : List ℕ} {b b' c' : List Expr} {cs : List Clause} {x y : List (ℕ × Expr)} {rs ss : List ScriptRefusal} → JudgedClauses d counts b cs x b' rs → JudgedClauses d counts b cs y c' ss → Same x y b' c' rs ss
  one_judged_clauses no_clause no_clause = same refl refl refl
  one_judged_clauses (one_more_clause {c = c} e es) (one_more_clause f fs) =
      let s = one_judged e f in
      joined (λ x xs. (count_of c, x) ∷ xs) (ahead _ (behind _ s)) (one_judged_clauses es (from_clauses s.bodies fs))

-- two ends are the same
pub record SameEnd (so so' : SoFar) (rs ss : List ScriptRefusal) : Type 0 where
  pub given : so ≡ so'
  pub refused : rs ≡ ss

same_end : {so so' : SoFar} {rs ss : List ScriptRefusal} → so ≡ so' → rs ≡ ss → SameEnd so so' rs ss
same_end p q = record { given = p; refused = q }

end_behind : {x y : SoFar} {rs ss : List ScriptRefusal} (before : List ScriptRefusal) → SameEnd x y rs ss → SameEnd x y (before ++ rs) (before ++ ss)
end_behind before s = same_end s.given (ap (λ rs. before ++ rs) s.refused)

ended : {X : Type 0} {x y : X} {b c : List Expr} {rs ss : List ScriptRefusal} (f : X → List Expr → SoFar) → Same x y b c rs ss → SameEnd (f x b) (f y c) rs ss
ended {x = x} {y = y} {b = b} {c = c} f s =
    let p : x ≡ y = s.meant in
    let q : b ≡ c = s.bodies in
    same_end (cc) s.refused

mutual
  pub one_judged_top : {so x y : SoFar} {s : Source} {rs ss : List ScriptRefusal} → JudgedTop so s x rs → JudgedTop so s y ss → SameEnd x y rs ss
  one_judged_top (of_top e) (of_top f) = one_judged_at_top e f

  pub one_judged_at_top : {so x y : SoFar} {s : Source} {r : TopReading} {rs ss : List ScriptRefusal} → JudgedAtTop so s r x rs → JudgedAtTop so s r y ss → SameEnd x y rs ss
  one_judged_at_top of_stray of_stray = same_end refl refl
  one_judged_at_top {so = so} (of_stray_list e) (of_stray_list f) = ended (λ x b. with_bodies b so) (behind (_ ∷ []) (one_judged _ e f))
  one_judged_at_top of_wrong of_wrong = same_end refl refl
  one_judged_at_top (top.of_threading e) (top.of_threading f) = let s = one_judged_top e f in end_behind _ s
  one_judged_at_top {so = so} (of_def {name = name} e) (of_def f) = ended (λ x b. after_def (name_of name) x (with_bodies b so)) (ahead _ (one_judged _ e f))
  one_judged_at_top {so = so} (of_defn {name = name} e) (of_defn f) = ended (λ x b. after_defn (is_new so.definitions (name_of name)) x (with_bodies b (with_own name so))) (behind _ (one_judged_clauses _ e f))
  one_judged_at_top {so = so} (of_prn e) (of_prn f) = ended (λ x b. with_top (prn x) (with_bodies b so)) (one_judged _ e f)
  one_judged_at_top of_ledger of_ledger = same_end refl refl

from_so_far : {so so' x : SoFar} {ss : List Source} {rs : List ScriptRefusal} → so ≡ so' → JudgedTops so' ss x rs → JudgedTops so ss x rs
from_so_far {x = x} {ss = ss} {rs = rs} e j = subst (λ (so : SoFar). JudgedTops so ss x rs) (sym e) j

more_end : {x y x' y' : SoFar} {rs ss qs ts : List ScriptRefusal} → SameEnd x y rs ss → SameEnd x' y' qs ts → SameEnd x' y' (rs ++ qs) (ss ++ ts)
more_end {rs = rs} {ss = ss} {qs = qs} {ts = ts} s t =
    let m : rs ≡ ss = s.refused in
    let n : qs ≡ ts = t.refused in
    same_end t.given (cc)

pub one_judged_tops : {so x y : SoFar} {ss : List Source} {rs qs : List ScriptRefusal} → JudgedTops so ss x rs → JudgedTops so ss y qs → SameEnd x y rs qs
one_judged_tops no_form no_form = same_end refl refl
one_judged_tops (one_more_form e es) (one_more_form f fs) =
    let s = one_judged_top e f in
    more_end s (one_judged_tops es (from_so_far s.given fs))
