-- The nodes of a plan that the turns of a rule are, and what a rule's answers tell it.
use Rattle.std.specs.Prelude.{ℕ}
use Rattle.seq_values.specs.Plain.{plain, plains, plain_term}
use Rattle.seq_values.specs.declared.term.Turn.{Turn}
use Rattle.seq_values.specs.declared.term.Turn.TheVariants as T
use Rattle.seq_values.specs.declared.term.Answer.{Answer}
use Rattle.seq_values.specs.declared.term.Answer.TheVariants as A
use Rattle.seq_plan.specs.Plan.{Plan, visit, ask, seq, call, make, give, throw, Told, begun, done, got, told_made, Waits}

abbrev pub told : Answer → Told ℕ
told A.Begin = begun
told A.Done = done
told (A.Got v) = got (plain v)
told (A.Made c) = told_made c

-- the node of a turn, where `left` is the plan after it
abbrev pub node : Turn → Waits ℕ → Plan ℕ
node (T.Need c) left = ask c (λ v. left (got v))
node (T.Seq v) left = seq (plain v) (λ w. left (got w))
node T.Visit left = visit (left done)
node (T.Apply f xs) left = call (plain f) (plains xs) (λ w. left (got w))
node (T.Make kind t) left = make kind (plain_term t) (λ c. left (told_made c))
node (T.Give v) left = give (plain v)
node (T.Throw e) left = throw e
