use Rattle.lawful_client.specs.OneMap.{form_waits}
use Rattle.lawful_client.proofs.Steps.{owns_run}
use Rattle.lawful_client.proofs.one_map.end_both.Goals as goal

pub finish_form-requires-clause-run : goal.finish_form-requires-clause-run
finish_form-requires-clause-run g c = c.finish_whole.ensures.form c.args.form c.args.id c.requires.form c.requires.asked

pub quit_both-requires-clause-form : goal.quit_both-requires-clause-form
quit_both-requires-clause-form g c =
    let C = g.C.Cells in
    let s = c.args.cells.now in
    owns_run (C.held s) (C.seen s) c.args.form 5 (form_waits c.args.id) c.requires.form
