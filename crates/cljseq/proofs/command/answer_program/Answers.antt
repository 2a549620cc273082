use Rattle.clj_script.specs.Seen.{seen}
use Rattle.cljseq.proofs.Answering.{check_printed, check_part, runs_else, run_printed, run_part, run_book, no_run_book, write_fault, not_used}
use Rattle.cljseq.proofs.command.answer_program.Goals as goal

pub returns-in-Check-clause-answered : goal.returns-in-Check-clause-answered
returns-in-Check-clause-answered g c = λ text means either. check_printed c.args.options text (seen c.args.program.now) c.tops.result c.ended.result c.print_forms.result _ _ c.in-Check.is means c.tops.ensures c.ended.ensures.done c.ended.ensures.failed c.ended.ensures.memory c.print_forms.ensures.ok either

pub returns-in-Check-clause-part : goal.returns-in-Check-clause-part
returns-in-Check-clause-part g c = λ text means. check_part c.args.options text (seen c.args.program.now) c.tops.result _ _ c.in-Check.is means c.tops.ensures c.print_forms.ensures.part

pub returns-in_default : goal.returns-in_default
returns-in_default g c =
    let run = runs_else c.args.options.request c.requires c.in_default.not-Check in
    record {
      answered = λ text means either. run_printed c.args.options text (seen c.args.program.now) c.run_alone-run.result.end c.status_of.result _ _ run means c.status_of.ensures c.run_alone-run.ensures.ran either;
      part = λ text means. run_part c.args.options text (seen c.args.program.now) _ _ run means c.run_alone-run.ensures.part;
      book = λ text means. run_book c.args.options text (seen c.args.program.now) c.run_alone-run.result.end c.status_of.result c.run_alone-run.result.book run means c.status_of.ensures c.run_alone-run.ensures.book;
      bookless = λ other. no_run_book (seen c.args.program.now) c.args.options.limits c.run_alone-run.result.end c.status_of.result c.run_alone-run.result.book c.status_of.ensures c.run_alone-run.ensures.book other;
      write = λ e. c.run_alone-run.ensures.write (write_fault c.run_alone-run.result.end c.status_of.result c.status_of.ensures e);
      others = not_used c.run_alone-run.result.end c.status_of.result c.status_of.ensures;
    }
