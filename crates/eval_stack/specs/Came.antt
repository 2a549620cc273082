-- What the evaluation of one work comes to.
use Rattle.std.specs.Prelude.{◌≡◌, true, Result, Ok, Err}
use Rattle.seq_plan.specs.Plan.{Rules}
use Rattle.seq_values.specs.declared.value.Value.{Value as Coded}
use Rattle.seq_meaning.specs.Names.{Name}
use Rattle.seq_lawful.specs.Renaming.{NamesRename}
use Rattle.cell_book.specs.Account.{Account, Duty}
use Rattle.cell_book.specs.Glimpses.{Glimpse}
use Rattle.lawful_works.specs.Basis.{Basis, IsGood}
use Rattle.lawful_works.specs.Calls.{HasValue}
use Rattle.lawful_works.specs.Evaluated.{HasError, Came}
use Rattle.lawful_works.specs.Alone.{Grows, Quiets}
use Rattle.lawful_works.specs.declared.stop.Stop.{Stop}
use Rattle.lawful_works.specs.declared.stop.Stop.TheVariants as S
use Rattle.eval_works.specs.declared.state.Halt.{Halt}
use Rattle.eval_works.specs.declared.state.Halt.TheVariants as H
use Rattle.eval_stack.specs.declared.state.Turned.{Turned}
use Rattle.eval_stack.specs.declared.state.Turned.TheVariants as T

-- how an evaluation stops that goes on no more
abbrev pub stop_of : Halt → Stop
stop_of H.Spent = S.Spent
stop_of H.GaveUp = S.GaveUp
stop_of H.Memory = S.Memory

module _ {R : Type 0} {b : _} where
  -- what a stack that takes no more turns answers
  abbrev pub Comes : Turned R b → Result Coded Stop → Type 0
  Comes (T.On k) r = r ≡ Err S.Memory
  Comes (T.Waits k cell claim) r = r ≡ Err S.Memory
  Comes (T.Over (Ok v)) r = r ≡ Ok v
  Comes (T.Over (Err why)) r = r ≡ Err (S.Thrown why)
  Comes (T.Halts below w why) r = r ≡ Err (stop_of why)

  -- what becomes of a book that nobody shares
  abbrev pub Concludes : Turned R b → Account → Account → Type 0
  Concludes (T.On k) a c = Grows a c
  Concludes (T.Waits k cell claim) a c = Grows a c
  Concludes (T.Over r) a c = Quiets a c
  Concludes (T.Halts below w why) a c = Grows a c

-- the book has the value or the error of the work
abbrev pub Answered : Glimpse → Duty → Result Coded Stop → Type 0
Answered g w (Ok v) = HasValue g w v
Answered g w (Err (S.Thrown why)) = HasError g w why
Answered g w (Err S.Spent) = Unit {0}
Answered g w (Err S.GaveUp) = Unit {0}
Answered g w (Err S.Memory) = Unit {0}

-- Nothing was lost and no form was begun. With a value or an error nothing was noted, and else the book has the cause, but for want of memory.
abbrev pub EvaluationNotes : Result Coded Stop → Account → Account → Type 0
EvaluationNotes (Ok v) a b = Quiets a b
EvaluationNotes (Err (S.Thrown why)) a b = Quiets a b
EvaluationNotes (Err S.Spent) a b = Grows a b × (b.spent ≡ true)
EvaluationNotes (Err S.GaveUp) a b = Grows a b × (a.gave_up ≡ true)
EvaluationNotes (Err S.Memory) a b = Grows a b

-- the book is good, by some rules in names
pub record IsSomeGood (y : Basis) (a : Account) : Type 0 where
  pub names : Rules Name
  pub alike : NamesRename y.rules names y.program y.limit
  pub good : IsGood names y a

-- It comes so by whatever rules in names the book was good.
abbrev pub CameFrom : Basis → Account → Account → Duty → Result Coded Stop → Type 0
CameFrom y a b w r = (names : Rules Name) → NamesRename y.rules names y.program y.limit → IsGood names y a → Came names y a b w r
