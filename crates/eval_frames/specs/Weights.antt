-- How often a work may go on before its end: a number that each silent turn and each own step makes smaller.
use Rattle.std.specs.Prelude.{ℕ, ◌+◌, ◌*◌, max, sum_by, List, [], ◌∷◌}
use Rattle.clj_script.specs.Seen.{seen}
use Rattle.clj_script.specs.declared.program.Top.{Top}
use Rattle.clj_script.specs.declared.program.Top.TheVariants as T
use Rattle.clj_script.specs.Trees.{Expr, literal, word, function_of, defined, local, vector_of, call_of, let_in, if_of, and_of, or_of, lazy_seq, Exprs, no_exprs, more_exprs, Program}
use Rattle.eval_frames.specs.Parts.{tree, to_come}
use Rattle.eval_frames.specs.declared.state.Code.{Code}
use Rattle.eval_frames.specs.declared.state.Frame.{Frame}
use Rattle.eval_frames.specs.declared.state.Frame.TheVariants as F
use Rattle.eval_frames.specs.declared.state.Rest.{Rest}
use Rattle.eval_frames.specs.declared.state.Now.{Now}
use Rattle.eval_frames.specs.declared.state.Now.TheVariants as N
use Rattle.eval_frames.specs.declared.state.Runner.{Runner}
use Rattle.eval_frames.specs.declared.state.Event.{Event}
use Rattle.eval_frames.specs.declared.state.Event.TheVariants as E
use Rattle.eval_frames.specs.declared.state.Advance.{Advance}
use Rattle.eval_frames.specs.declared.state.Advance.TheVariants as A

-- how much there is to evaluate
abbrev mutual
  pub weight : Expr → ℕ
  weight (literal l) = 1
  weight (word w) = 1
  weight (function_of f) = 1
  weight (defined form) = 1
  weight (local i) = 1
  weight (vector_of es) = weights es + 3
  weight (call_of h es) = weight h + weights es + 4
  weight (let_in e b) = weight e + weight b + 3
  weight (if_of t a b) = weight t + (weight a + weight b) + 3
  weight (and_of es) = weights es + 3
  weight (or_of es) = weights es + 3
  weight (lazy_seq b) = 1

  pub weights : Exprs → ℕ
  weights no_exprs = 0
  weights (more_exprs e es) = weight e + 1 + weights es

abbrev pub heaviest_of : List Expr → ℕ
heaviest_of [] = 0
heaviest_of (e ∷ es) = max (weight e) (heaviest_of es)

abbrev pub heaviest_body : List (ℕ × Expr) → ℕ
heaviest_body [] = 0
heaviest_body (b ∷ bs) = max (weight b.1) (heaviest_body bs)

abbrev pub heaviest_function : List (List (ℕ × Expr)) → ℕ
heaviest_function [] = 0
heaviest_function (f ∷ fs) = max (heaviest_body f) (heaviest_function fs)

-- no body of the program weighs more
abbrev pub heaviest : Program → ℕ
heaviest p = max (heaviest_function p.functions) (heaviest_of p.bodies)

-- An own step brings less than this.
abbrev pub step_weight : Code → ℕ
step_weight code = heaviest (seen code.program) + 4

-- what the work of a form weighs beside its own steps
abbrev pub form_weight : Code → Top → ℕ
form_weight code (T.Def name n) = weight (tree code n)
form_weight code T.Defn = 0
form_weight code (T.Prn n) = weight (tree code n) + 2
form_weight code T.Ledger = 0

module _ {S : Type 0} {b : _} (code : Code) where
  abbrev pub frame_weight : Frame S b → ℕ
  frame_weight (F.Rule c) = 2
  frame_weight (F.Head m) = weights (to_come code m) + 3
  frame_weight (F.Parts purpose values m) = weights (to_come code m) + 2
  frame_weight (F.Let body locals) = weight (tree code body) + 2
  frame_weight (F.If a z locals) = weight (tree code a) + weight (tree code z) + 2
  frame_weight (F.And m) = weights (to_come code m) + 2
  frame_weight (F.Or m) = weights (to_come code m) + 2
  frame_weight F.Print = 2

  abbrev pub rest_weight : Rest S b → ℕ
  rest_weight rest = rest.left * step_weight code + sum_by frame_weight rest.frames.items

  abbrev pub now_weight : Now S b → ℕ
  now_weight (N.Eval n locals) = weight (tree code n)
  now_weight (N.Tell v) = 0
  now_weight (N.Turn r) = 1

  abbrev pub runner_weight : Runner S b → ℕ
  runner_weight r = rest_weight r.rest + now_weight r.now

  -- An event weighs more than what goes on after it, but for a make, which the room that is left for parts pays.
  abbrev pub event_weight : Event S b → ℕ
  event_weight (E.Went r) = runner_weight r + 1
  event_weight (E.Asks a) = rest_weight a.rest + 3
  event_weight (E.Makes kind t maker rest) = rest_weight rest + 1
  event_weight (E.Gives v left) = 0
  event_weight (E.Throws e left) = 0

  abbrev pub advance_weight : Advance S b → ℕ
  advance_weight (A.On r) = runner_weight r + 1
  advance_weight (A.Comes e) = event_weight e
