-- What a call of a work leaves of a book that nobody shares, where it goes on and where it halts.
use Rattle.std.specs.Prelude.{◌≡◌, true, Result, Ok, Err}
use Rattle.cell_book.specs.Account.{Account}
use Rattle.lawful_works.specs.Evaluated.{SameNotes}
use Rattle.lawful_works.specs.Alone.{Grows, Quiets}
use Rattle.eval_works.specs.declared.state.Halt.{Halt}
use Rattle.eval_works.specs.declared.state.Halt.TheVariants as H

-- what is noted where the call halts: the limit afterwards, a give-up already before
abbrev pub HaltNotes : Halt → Account → Account → Type 0
HaltNotes H.Spent a b = b.spent ≡ true
HaltNotes H.GaveUp a b = SameNotes a b × (a.gave_up ≡ true)
HaltNotes H.Memory a b = SameNotes a b

-- nothing was lost and no form was begun; nothing was noted either, or the call halts
abbrev pub Meanwhile : {X : Type 0} → Result X Halt → Account → Account → Type 0
Meanwhile (Ok x) a b = Quiets a b
Meanwhile (Err h) a b = Grows a b × HaltNotes h a b
