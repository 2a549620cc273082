-- One answer, where one program and one refusal are meant.
use Rattle.std.proofs.Common.{◌≡◌, ℕ, List, Option, length, refl, ap, subst, sym}
use Rattle.clj_script.specs.Trees.{Program}
use Rattle.seq_table.specs.Table.{language}
use Rattle.seq_table.specs.Outputs.{Ending, Ran}
use Rattle.seq_table.specs.Answers.{Options, Status, ended, Refusal, refusal_line, forms_line, summary, Answered, no_options, script_made, refused_to_check, refused_to_run, looked_at, was_run}
use Rattle.seq_table.specs.Generated.{generated}
use Rattle.seq_table.proofs.OneRun.{one_run}

module _ (Means : List ℕ → Program → Type 0) (Refuses : List ℕ → Refusal → Type 0)
    (one_program : (b : List ℕ) (p q : Program) → Means b p → Means b q → p ≡ q)
    (one_refusal : (b : List ℕ) (r s : Refusal) → Refuses b r → Refuses b s → r ≡ s)
    (never_both : (b : List ℕ) (p : Program) (r : Refusal) → Means b p → Refuses b r → ⊥) where
  abbrev Answers : (script : List ℕ) → Option Options → Status → List ℕ → Type 0
  Answers script o s t = Answered Means Refuses script o s t

  same_run : (o : Options) {p q : Program} {e f : Ending} {x y : List ℕ} → p ≡ q → Ran (language o.processors) p o.steps o.cells e x → Ran (language o.processors) q o.steps o.cells f y → (e ≡ f) × (x ≡ y)
  same_run o {p = p} {f = f} {y = y} h r r' = one_run (language o.processors) p o.steps o.cells r (subst (λ z. Ran (language o.processors) z o.steps o.cells f y) (sym h) r')

  made : (o : Options) {n m : ℕ} → n ≡ m → {p q : Program} {e f : Ending} {x y : List ℕ} → Means (generated n) p → Means (generated m) q → Ran (language o.processors) p o.steps o.cells e x → Ran (language o.processors) q o.steps o.cells f y → (ended e ≡ ended f) × (summary (length p.tops) x ≡ summary (length q.tops) y)
  made o {n = n} h {p = p} {q = q} m m' r r' =
      let g : p ≡ q = one_program (generated n) p q m (subst (λ z. Means (generated z) q) (sym h) m') in
      let k = same_run o g r r' in
      (ap ended k.0, rw (k.1, g))

  pub one_answered : {script : List ℕ} {o : Option Options} {s u : Status} {t v : List ℕ} → Answers script o s t → Answers script o u v → (s ≡ u) × (t ≡ v)
  one_answered no_options no_options = (refl, refl)
  one_answered (script_made {n = n} {options = o} q m r) (script_made {n = k} q' m' r') = let h : n ≡ k = cc in made o h m m' r r'
  one_answered (script_made q m r) (refused_to_check q' f) = absurd cc
  one_answered (script_made q m r) (refused_to_run q' f) = absurd cc
  one_answered (script_made q m r) (looked_at q' f) = absurd cc
  one_answered (script_made q m r) (was_run q' f r') = absurd cc
  one_answered (refused_to_check q f) (script_made q' m r) = absurd cc
  one_answered (refused_to_check {r = r} q f) (refused_to_check {r = r'} q' f') = (refl, ap refusal_line (one_refusal _ r r' f f'))
  one_answered (refused_to_check q f) (refused_to_run q' f') = absurd cc
  one_answered (refused_to_check q f) (looked_at q' m) = absurd (never_both _ _ _ m f)
  one_answered (refused_to_check q f) (was_run q' m r) = absurd cc
  one_answered (refused_to_run q f) (script_made q' m r) = absurd cc
  one_answered (refused_to_run q f) (refused_to_check q' f') = absurd cc
  one_answered (refused_to_run {r = r} q f) (refused_to_run {r = r'} q' f') = (refl, ap refusal_line (one_refusal _ r r' f f'))
  one_answered (refused_to_run q f) (looked_at q' m) = absurd cc
  one_answered (refused_to_run q f) (was_run q' m r) = absurd (never_both _ _ _ m f)
  one_answered (looked_at q m) (script_made q' m' r) = absurd cc
  one_answered (looked_at q m) (refused_to_check q' f) = absurd (never_both _ _ _ m f)
  one_answered (looked_at q m) (refused_to_run q' f) = absurd cc
  one_answered (looked_at {program = p} q m) (looked_at {program = p'} q' m') = (refl, ap (λ z. forms_line (length z.tops)) (one_program _ p p' m m'))
  one_answered (looked_at q m) (was_run q' m' r) = absurd cc
  one_answered (was_run q m r) (script_made q' m' r') = absurd cc
  one_answered (was_run q m r) (refused_to_check q' f) = absurd cc
  one_answered (was_run q m r) (refused_to_run q' f) = absurd (never_both _ _ _ m f)
  one_answered (was_run q m r) (looked_at q' m') = absurd cc
  one_answered (was_run {options = o} {program = p} q m r) (was_run {program = p'} q' m' r') = let k = same_run o (one_program _ p p' m m') r r' in (ap ended k.0, k.1)
