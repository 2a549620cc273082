use Rattle.std.proofs.lemmas.Result.{err_from_is_err_and}
use Rattle.cljseq.proofs.Answering.{unread_text, no_program_text}
use Rattle.cljseq.proofs.check.read_program.Goals as goal

pub returns-in_err-forms-clause-refused : goal.returns-in_err-forms-clause-refused
returns-in_err-forms-clause-refused c = λ r e. (
    let p = err_from_is_err_and c.from_residual.result c.from_residual.ensures.1 in
    unread_text c.args.text.now c.read_forms.result c.in_err-forms.field-0.0 c.from_residual.result p.0 r c.in_err-forms.was c.read_forms.ensures.refused p.1 p.2 e)

pub returns-in_err-program-clause-refused : goal.returns-in_err-program-clause-refused
returns-in_err-program-clause-refused c = λ r e. (
    let p = err_from_is_err_and c.from_residual-in_err-program.result c.from_residual-in_err-program.ensures.1 in
    no_program_text c.args.text.now c.in_ok-forms.forms c.compile.result c.in_err-program.field-0.0 c.from_residual-in_err-program.result p.0 r
    c.in_ok-forms.ensures.found c.in_err-program.was c.compile.ensures.refused p.1 p.2 e)
