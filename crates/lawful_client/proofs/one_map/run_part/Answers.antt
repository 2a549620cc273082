use Rattle.lawful_client.specs.OneMap.{form_waits}
use Rattle.lawful_client.proofs.Steps.{owns_run}
use Rattle.lawful_client.proofs.one_map.run_part.Goals as goal

pub quit_both-requires-clause-form : goal.quit_both-requires-clause-form
quit_both-requires-clause-form g c =
    let C = g.C.Cells in
    let t = c.make_rest.new.cells in
    let runs = c.make_rest.ensures.form c.args.form c.args.id c.requires.form c.requires.asked in
    owns_run (C.held t) (C.seen t) c.args.form 5 (form_waits c.args.id) runs.0
