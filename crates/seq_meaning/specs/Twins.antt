-- Two evaluations of one work, and the parts that they make, one for one.
use Rattle.std.specs.Prelude.{◌≡◌, ℕ, List}
use Rattle.seq_values.specs.Model.{Value, Term}
use Rattle.clj_script.specs.Trees.{Top}
use Rattle.seq_plan.specs.Plan.{Rules}
use Rattle.seq_plan.specs.Alike.{Likeness, by, LikeList, LikeTerm, LikeRules}
use Rattle.seq_meaning.specs.Names.{Name, part, retry}
use Rattle.seq_meaning.specs.Gives.{Task, of_form, of_term, Work, work}

mutual
  -- evaluations of one work
  pub data TwinEval (p q : Name) : Name → Name → Type 0 where
    eval_here : {a b : Name} → a ≡ p → b ≡ q → TwinEval p q a b
    eval_cell : {a b : Name} → TwinCell p q a b → TwinEval p q a b
    eval_retry : {a b : Name} → TwinEval p q a b → TwinEval p q (retry a) (retry b)

  -- one part, or the parts that twins make with one number
  pub data TwinCell (p q : Name) : Name → Name → Type 0 where
    cell_same : {n : Name} → TwinCell p q n n
    cell_part : {a b : Name} {j : ℕ} → TwinEval p q a b → TwinCell p q (part a j) (part b j)

abbrev pub twin_cells : Name → Name → Likeness Name Name
twin_cells p q = by (TwinCell p q)

pub data LikeTask (R : Likeness Name Name) : Task → Task → Type 0 where
  like_form : {t : Top} → LikeTask R (of_form t) (of_form t)
  like_of_term : {t u : Term Name} → LikeTerm R t u → LikeTask R (of_term t) (of_term u)

pub data LikeWork (R : Likeness Name Name) : Work → Work → Type 0 where
  like_work : {ds es : List (Value Name)} {t u : Task} → LikeList R ds es → LikeTask R t u → LikeWork R (work ds t) (work es u)

-- rules that look at names only to ask them: what they do is the same where evaluations are renamed to their twins
abbrev pub Renames : Rules Name → Type 0
Renames rules = (p q : Name) → LikeRules (twin_cells p q) rules rules
