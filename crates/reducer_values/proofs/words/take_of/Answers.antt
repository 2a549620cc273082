use Rattle.std.proofs.Common.{sym}
use Rattle.reducer_values.proofs.Reducing.{take_binds, take_made}
use Rattle.reducer_values.proofs.words.take_of.Goals as goal

pub function_made-requires : goal.function_made-requires
function_made-requires c = take_binds c.args.args.items c.in-Some._number (rw c.len.ensures at c.if-len-ne2.false) (λ x xs e. rw c.in-Some.is at c.first_number-found.ensures.sight x xs e)

pub returns-in-Some : goal.returns-in-Some
returns-in-Some c = take_made c.args.args.items c.in-Some._number c.function_made.result (rw c.len.ensures at c.if-len-ne2.false) (sym (rw c.in-Some.is at c.first_number-found.ensures.same)) c.function_made.ensures
