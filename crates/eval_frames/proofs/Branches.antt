-- The branch that a test decides.
use Rattle.std.proofs.Common.{◌≡◌, ℕ, ◌+◌, ◌≤◌, List, Bool, true, false, cond, refl, sym, ap, subst, ◌∙◌, arith}
use Rattle.seq_values.specs.Model.{Value}
use Rattle.seq_plan.specs.Plan.{Plan}
use Rattle.eval_frames.specs.Parts.{tree}
use Rattle.eval_frames.specs.Frames.{evaluated}
use Rattle.eval_frames.specs.Weights.{weight}
use Rattle.eval_frames.specs.declared.state.Code.{Code}

module _ (code : Code) (yes no : ℕ) where
  cond_plan : (b : Bool) (env : List (Value ℕ)) (k : Value ℕ → Plan ℕ) → evaluated code (cond b yes no) env k ≡ cond b (evaluated code yes env k) (evaluated code no env k)
  cond_plan true env k = refl
  cond_plan false env k = refl

  cond_weight : (b : Bool) → weight (tree code (cond b yes no)) ≤ weight (tree code yes) + weight (tree code no)
  cond_weight true = omega arith
  cond_weight false = omega arith

  pub branch_plan : (b : Bool) (n : ℕ) → n ≡ cond b yes no → (env : List (Value ℕ)) (k : Value ℕ → Plan ℕ) → evaluated code n env k ≡ cond b (evaluated code yes env k) (evaluated code no env k)
  branch_plan b n e env k = ap (λ m. evaluated code m env k) e ∙ cond_plan b env k

  pub branch_weight : (b : Bool) (n : ℕ) → n ≡ cond b yes no → weight (tree code n) ≤ weight (tree code yes) + weight (tree code no)
  branch_weight b n e = subst (λ m. weight (tree code m) ≤ weight (tree code yes) + weight (tree code no)) (sym e) (cond_weight b)
