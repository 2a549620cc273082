use Rattle.std.proofs.Common.{Some, length, ap, subst, ◌∙◌}
use Rattle.clj_script.specs.Seen.{seen}
use Rattle.lone_run.specs.Running.{Wrote}
use Rattle.seq_table.specs.Answers.{summary}
use Rattle.cljseq.proofs.Answering.{ran_made}
use Rattle.cljseq.proofs.made.run_made.Goals as goal

pub returns : goal.returns
returns g c =
    let program = seen c.args.program.now in
    ran_made program c.args.limits c.run_alone-run.result.end c.run_alone-run.new.out.written c.status_of.result c.in_ok-summary.summary.items
    (subst (λ z. Wrote program c.args.limits c.run_alone-run.result.end (Some z) (Some c.run_alone-run.new.out.written)) c.new-sink.ensures.written c.run_alone-run.ensures.ran)
    c.if-is_cut_off.ensures c.status_of.ensures
    (c.in_ok-summary.ensures.summed ∙ (ap (λ n. summary n c.bytes.result.now) c.tops.ensures ∙ ap (summary (length program.tops)) c.bytes.ensures))
