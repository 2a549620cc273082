-- Names whose parts are the same but for names.
use Rattle.std.specs.Prelude.{ℕ, zero, suc, List}
use Rattle.seq_values.specs.declared.words.Kind.{Kind}
use Rattle.seq_values.specs.Model.{Value, Term}
use Rattle.clj_script.specs.Trees.{Program}
use Rattle.seq_plan.specs.Plan.{Rules}
use Rattle.seq_plan.specs.Alike.{Likeness, by, LikeList, LikeTerm}
use Rattle.seq_meaning.specs.Names.{Name, part, retry}
use Rattle.seq_meaning.specs.Gives.{work, of_term, Part}

mutual
  -- evaluations that go alike, where the cells of B do
  pub data EvalOver (B : Name → Name → Type 0) : Name → Name → Type 0 where
    eval_over : {a b : Name} → CellOver B a b → EvalOver B a b
    retry_over : {a b : Name} → EvalOver B a b → EvalOver B (retry a) (retry b)

  -- one part, the parts of B, or those that such evaluations make with one number
  pub data CellOver (B : Name → Name → Type 0) : Name → Name → Type 0 where
    same_cell : {n : Name} → CellOver B n n
    base_cell : {a b : Name} → B a b → CellOver B a b
    part_over : {a b : Name} {j : ℕ} → EvalOver B a b → CellOver B (part a j) (part b j)

module _ (rules : Rules Name) (program : Program) (limit : ℕ) where
  -- parts of like terms
  pub data LikeParts (R : Name → Name → Type 0) (a b : Name) : Type 0 where
    like_parts : {kind : Kind} {ds es : List (Value Name)} {t u : Term Name} → Part rules program limit a kind (work ds (of_term t)) → Part rules program limit b kind (work es (of_term u)) → LikeList (by R) ds es → LikeTerm (by R) t u → LikeParts R a b

  -- in at most k rounds
  abbrev pub Base : ℕ → Name → Name → Type 0
  Base zero a b = ⊥
  Base (suc k) a b = LikeParts (CellOver (Base k)) a b

  abbrev pub SameIn : ℕ → Name → Name → Type 0
  SameIn k = CellOver (Base k)

  -- in any number of rounds
  abbrev pub Same : Likeness Name Name
  Same = by (λ a b. (k : ℕ) × SameIn k a b)
