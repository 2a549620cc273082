-- Every list of forms means something.
use Rattle.std.proofs.Common.{◌≡◌, ℕ, zero, suc, ◌<◌, ◌≤◌, Bool, true, false, List, [], ◌∷◌, ◌++◌, map, Option, Some, None, refl, sym, subst, ◌⊎◌, inl, inr, arith}
use Rattle.clj_reader.specs.declared.form.Form.{Form}
use Rattle.clj_reader.specs.declared.refusal.ReadRefusal.{ReadRefusal}
use Rattle.clj_reader.specs.Scripts.{IsScript, IsRefused}
use Rattle.clj_script.specs.declared.refusal.ScriptRefusal.{ScriptRefusal}
use Rattle.clj_script.specs.declared.thread.Way.{Way}
use Rattle.clj_script.specs.Trees.{Expr, Program}
use Rattle.clj_script.specs.Refusals.{IsLeast, earlier, earliest}
use Rattle.clj_script.specs.Sources.{Source, Sources, no_more, before, atom, symbol, round, square, listed, sources_of}
use Rattle.clj_script.specs.Scopes.{Definitions}
use Rattle.clj_script.specs.Readings.{Clause, heading}
use Rattle.clj_script.specs.Judgements.{Judged}
use Rattle.clj_script.specs.Machines.{Todo, look, Now, Done, asked, after, total, weight}
use Rattle.clj_script.specs.Scripts.{TopReading, stray, stray_list, wrong, stands_for, def_of, defn_of, prn_of, ledger_of, headed_at_top, top_reading, SoFar, nothing_yet, with_own, names_of, count_of, JudgedClauses, no_clause, one_more_clause, JudgedTop, of_top, JudgedAtTop, of_stray, of_stray_list, of_wrong, of_threading, of_def, of_defn, of_prn, of_ledger, JudgedTops, no_form, one_more_form, program_of, Means}
use Rattle.clj_script.specs.Reads.{is_threading}
use Rattle.clj_script.specs.Seen.{IsRefusal}
use Rattle.clj_script.specs.Tops.{way_of}
use Rattle.clj_script.proofs.MeaningLemmas.{step_follows}
use Rattle.clj_script.proofs.RefusalLemmas.{least_of_all}
use Rattle.clj_script.proofs.StandingLemmas.{plain_alone, plain_headed, headed_way, light_items}
use Rattle.clj_script.proofs.WeightLemmas.{step_lighter, total-join}

-- ## Expressions

module _ (d : Definitions) where
  -- what is to be done comes to something
  record Ends (m : Now) (ts : List Todo) : Type 0 where
    now : Now
    done : Done d m ts now

  ends : (fuel : ℕ) (m : Now) (ts : List Todo) → total ts ≤ fuel → Ends m ts
  ends fuel m [] h = record { now = m; done = refl }
  ends zero m (t ∷ ts) h = absurd (omega (arith, h, step_lighter d m t))
  ends (suc fuel) m (t ∷ ts) h =
      let e : Ends (after d m t) (asked d m t ++ ts) = ends fuel (after d m t) (asked d m t ++ ts) (omega (arith, h, total-join (asked d m t) ts, step_lighter d m t)) in
      record { now = e.now; done = step_follows d m t ts e.now e.done }

  -- a form means an expression
  record IsJudged (ls : List (List ℕ)) (b : List Expr) (s : Source) : Type 0 where
    e : Expr
    bodies : List Expr
    refusals : List ScriptRefusal
    judged : Judged d ls b s e bodies refusals

  is_judged : (ls : List (List ℕ)) (b : List Expr) (s : Source) → IsJudged ls b s
  is_judged ls b s =
      let m : Now = record { locals = ls; bodies = b; values = []; least = None } in
      let h = (ends (total (look s ∷ [])) m (look s ∷ []) (omega arith)).done in
      record { e = h.0; bodies = h.1; refusals = h.2; judged = h.3 }

  -- clauses mean bodies
  record AreJudged (counts : List ℕ) (b : List Expr) (cs : List Clause) : Type 0 where
    fs : List (ℕ × Expr)
    bodies : List Expr
    refusals : List ScriptRefusal
    judged : JudgedClauses d counts b cs fs bodies refusals

  are_judged : (counts : List ℕ) (b : List Expr) (cs : List Clause) → AreJudged counts b cs
  are_judged counts b [] = record { fs = []; bodies = b; refusals = []; judged = no_clause }
  are_judged counts b (c ∷ cs) =
      let j = is_judged (names_of c) b c.body in
      let k = are_judged (counts ++ count_of c ∷ []) j.bodies cs in
      record { fs = _; bodies = k.bodies; refusals = _; judged = one_more_clause j.judged k.judged }

-- ## Forms at the top

-- what a form stands for weighs less
Lighter : TopReading → ℕ → Type 0
Lighter (stands_for s steps) w = weight s < w
Lighter _ w = Unit {0}

plain_lighter : (r : TopReading) (w : ℕ) → is_threading r ≡ false → Lighter r w
unfolding Lighter
plain_lighter stray w e = tt
plain_lighter stray_list w e = tt
plain_lighter wrong w e = tt
plain_lighter (stands_for s steps) w e = absurd cc
plain_lighter (def_of name value) w e = tt
plain_lighter (defn_of name cs) w e = tt
plain_lighter (prn_of value) w e = tt
plain_lighter ledger_of w e = tt

headed_lighter : (items args : Sources) (head x : Source) → listed items ≡ head ∷ x ∷ listed args → (o : Option Way) → way_of (heading head) ≡ o → Lighter (headed_at_top (heading head) (x ∷ listed args)) (weight (round (record { line = 1; column = 1 }) items))
unfolding Lighter
headed_lighter items args head x e None w = plain_lighter _ _ (plain_headed (heading head) (x ∷ listed args) w)
headed_lighter items args head x e (Some way) w = subst (λ (r : TopReading). Lighter r (weight (round (record { line = 1; column = 1 }) items))) (sym (headed_way (heading head) way x (listed args) w)) (light_items items head x (listed args) way e w)

lighter : (s : Source) → Lighter (top_reading s) (weight s)
unfolding top_reading
lighter (atom p l) = plain_lighter stray _ refl
lighter (symbol p name) = plain_lighter stray _ refl
lighter (square p items) = plain_lighter stray _ refl
lighter (round p no_more) = plain_lighter stray_list _ refl
lighter (round p (before head no_more)) = plain_lighter _ _ (plain_alone (heading head))
lighter (round p (before head (before x args))) = headed_lighter (before head (before x args)) args head x refl (way_of (heading head)) refl

-- a form at the top gives something
record IsJudgedTop (so : SoFar) (s : Source) : Type 0 where
  given : SoFar
  refusals : List ScriptRefusal
  judged : JudgedTop so s given refusals

record IsJudgedAtTop (so : SoFar) (s : Source) (r : TopReading) : Type 0 where
  given : SoFar
  refusals : List ScriptRefusal
  judged : JudgedAtTop so s r given refusals

at_top : (so : SoFar) (s : Source) (r : TopReading) (w : ℕ) → Lighter r w → ((t : Source) → weight t < w → IsJudgedTop so t) → IsJudgedAtTop so s r
unfolding Lighter
at_top so s stray w l go = record { given = so; refusals = _; judged = of_stray }
at_top so s stray_list w l go = let j = is_judged so.definitions [] so.bodies s in record { given = _; refusals = _; judged = of_stray_list j.judged }
at_top so s wrong w l go = record { given = so; refusals = _; judged = of_wrong }
at_top so s (stands_for t steps) w l go = let j = go t l in record { given = j.given; refusals = _; judged = of_threading j.judged }
at_top so s (def_of name value) w l go = let j = is_judged so.definitions [] so.bodies value in record { given = _; refusals = _; judged = of_def j.judged }
at_top so s (defn_of name cs) w l go = let j = are_judged (with_own name so).definitions [] so.bodies cs in record { given = _; refusals = _; judged = of_defn j.judged }
at_top so s (prn_of value) w l go = let j = is_judged so.definitions [] so.bodies value in record { given = _; refusals = _; judged = of_prn j.judged }
at_top so s ledger_of w l go = record { given = _; refusals = []; judged = of_ledger }

is_judged_top : (fuel : ℕ) (so : SoFar) (s : Source) → weight s < fuel → IsJudgedTop so s
is_judged_top zero so s h = absurd (omega (arith, h))
is_judged_top (suc fuel) so s h =
    let j = at_top so s (top_reading s) (weight s) (lighter s) (λ t l. is_judged_top fuel so t (omega (arith, h, l))) in
    record { given = j.given; refusals = j.refusals; judged = of_top j.judged }

record AreJudgedTops (so : SoFar) (ss : List Source) : Type 0 where
  given : SoFar
  refusals : List ScriptRefusal
  judged : JudgedTops so ss given refusals

are_judged_tops : (so : SoFar) (ss : List Source) → AreJudgedTops so ss
are_judged_tops so [] = record { given = so; refusals = []; judged = no_form }
are_judged_tops so (s ∷ ss) =
    let j = is_judged_top (suc (weight s)) so s (omega arith) in
    let k = are_judged_tops j.given ss in
    record { given = k.given; refusals = _; judged = one_more_form j.judged k.judged }

-- ## Scripts

pub some_meaning : (forms : List Form) → (program : Program) × (refusals : List ScriptRefusal) × Means forms program refusals
some_meaning forms =
    let j = are_judged_tops nothing_yet (sources_of forms) in
    (program_of j.given, j.refusals, record { given = j.given; judged = j.judged; shown = refl })

by_refusals : (forms : List Form) (program : Program) (rs : List ScriptRefusal) → Means forms program rs → ((r : ScriptRefusal) × IsRefusal forms r) ⊎ ((p : Program) × Means forms p [])
by_refusals forms program [] m = inr (program, m)
by_refusals forms program (r ∷ rs) m =
    let l = least_of_all r rs in
    inl (l.0, record { program = program; refusals = r ∷ rs; means = m; least = l.1 })

refused_or_meant : (forms : List Form) → ((r : ScriptRefusal) × IsRefusal forms r) ⊎ ((p : Program) × Means forms p [])
refused_or_meant forms = let m = some_meaning forms in by_refusals forms m.0 m.1 m.2

pub text_refused_or_meant : (bytes : List ℕ) → ((forms : List Form) × IsScript bytes forms) ⊎ ((r : ReadRefusal) × IsRefused bytes r) → ((r : ReadRefusal) × IsRefused bytes r) ⊎ ((forms : List Form) × IsScript bytes forms × (((r : ScriptRefusal) × IsRefusal forms r) ⊎ ((p : Program) × Means forms p [])))
text_refused_or_meant bytes (inl s) = inr (s.0, s.1, refused_or_meant s.0)
text_refused_or_meant bytes (inr r) = inl r
