-- Runs that differ only in what stands for their cells.
use Rattle.std.specs.Prelude.{ℕ, List, [], ◌∷◌}
use Rattle.seq_values.specs.declared.words.Kind.{Kind}
use Rattle.seq_values.specs.Model.{Value, Term, Outcome}
use Rattle.clj_script.specs.Trees.{Expr}
use Rattle.seq_plan.specs.Plan.{Rules}
use Rattle.seq_plan.specs.Alike.{Likeness, LikeList, LikeTerm, LikeOutcome, LikeRules}
use Rattle.seq_meaning.specs.Evaluates.{Script}
use Rattle.seq_meaning.specs.Walk.{Made, made, Run, needs, ends, over}

pub data LikeMade {C D : Type 0} (R : Likeness C D) : Made C → Made D → Type 0 where
  like_made : {kind : Kind} {t : Term C} {u : Term D} → LikeTerm R t u → LikeMade R (made kind t) (made kind u)

pub data LikeMakes {C D : Type 0} (R : Likeness C D) : List (Made C) → List (Made D) → Type 0 where
  like_no_make : LikeMakes R [] []
  like_make_then : {m : Made C} {n : Made D} {ms : List (Made C)} {ns : List (Made D)} → LikeMade R m n → LikeMakes R ms ns → LikeMakes R (m ∷ ms) (n ∷ ns)

pub data LikeRun {C D : Type 0} (R : Likeness C D) : Run C → Run D → Type 0 where
  like_needs : {c : C} {d : D} {ms : List (Made C)} {ns : List (Made D)} → R.same c d → LikeMakes R ms ns → LikeRun R (needs c ms) (needs d ns)
  like_ends : {o : Outcome C} {p : Outcome D} {ms : List (Made C)} {ns : List (Made D)} → LikeOutcome R o p → LikeMakes R ms ns → LikeRun R (ends o ms) (ends p ns)
  like_over : LikeRun R over over

pub data LikeAnswers {C D : Type 0} (R : Likeness C D) : List (Outcome C) → List (Outcome D) → Type 0 where
  like_no_answer : LikeAnswers R [] []
  like_answer : {o : Outcome C} {p : Outcome D} {os : List (Outcome C)} {ps : List (Outcome D)} → LikeOutcome R o p → LikeAnswers R os ps → LikeAnswers R (o ∷ os) (p ∷ ps)

-- two scripts of one program, with rules that are alike
pub data LikeScript {C D : Type 0} (R : Likeness C D) : Script C → Script D → Type 0 where
  like_script : {rules : Rules C} {others : Rules D} {functions : List (List (ℕ × Expr))} {bodies : List Expr} {xs : List (Value C)} {ys : List (Value D)} → LikeRules R rules others → LikeList R xs ys → LikeScript R (record { rules = rules; functions = functions; bodies = bodies; defs = xs }) (record { rules = others; functions = functions; bodies = bodies; defs = ys })
