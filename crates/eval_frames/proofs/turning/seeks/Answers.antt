use Rattle.std.proofs.Common.{sym, ◌∙◌}
use Rattle.eval_frames.specs.Frames.{ground, script_in}
use Rattle.eval_frames.proofs.Moving.{sought_moves, missed_moves}
use Rattle.eval_frames.proofs.Going.{leads_throws, leads_from}
use Rattle.eval_frames.proofs.Turnings.{part_found, none_found}
use Rattle.eval_frames.proofs.turning.seeks.Goals as goal

pub returns-in-Some : goal.returns-in-Some
returns-in-Some g c =
    let by = ground g.R.Rule.running g.R.Rules.table c.args.code.now in
    leads_from by (sought_moves (script_in by) _ _ _ _ (part_found _ _ (sym c.part_of.ensures ∙ c.in-Some.is))) c.asks.ensures

pub returns-in-None : goal.returns-in-None
returns-in-None g c =
    let by = ground g.R.Rule.running g.R.Rules.table c.args.code.now in
    leads_throws by c.misses.ensures (missed_moves (script_in by) _ _ _ (none_found _ (sym c.part_of.ensures ∙ c.in-None.is) c.requires.asks))
