use Rattle.std.proofs.Common.{subst, sym, ◌∙◌}
use Rattle.seq_values.specs.Plain.{plain_term}
use Rattle.seq_meaning.specs.Evaluates.{term_plan}
use Rattle.eval_frames.specs.Frames.{ground, script_in}
use Rattle.eval_works.specs.Begins.{StandsAt, StartsForm}
use Rattle.eval_works.proofs.Starting.{part_starts, form_starts}
use Rattle.eval_works.proofs.beginning.begin_work.Goals.{in-Part+in_ok-event-in-Part, in-Form+in_ok-event-in-Form}
use Rattle.eval_works.proofs.beginning.begin_work.Goals as goal

pub returns-clause-starts : goal.returns-clause-starts
returns-clause-starts g c =
    let by = ground g.R.Rule.running g.R.Rules.table c.in_ok-code.code in
    let e = c.match-place.event in
    elim c.match-place.branch [
      | in-Part+in_ok-event-in-Part w ↦ part_starts by c.args.limit c.args.work.now e w.in-Part.cell w.in-Part.kind w.in-Part.term (sym c.place.ensures ∙ w.in-Part.is) (subst (λ x. StandsAt by c.args.limit (term_plan (script_in by) (plain_term w.in-Part.term)) x) (sym w.event-is) w.in_ok-event-in-Part.ensures)
      | in-Form+in_ok-event-in-Form w ↦ form_starts by c.args.limit c.args.work.now e w.in-Form.number w.in-Form.at (sym c.place.ensures ∙ w.in-Form.is) (subst (λ x. StartsForm by c.args.limit w.in-Form.at x) (sym w.event-is) w.in_ok-event-in-Form.ensures)
    ]
