use Rattle.std.proofs.Common.{◌≡◌, SFits, w64, to_z, of_z, to_z-of_z, rules}
use Rattle.seq_values.specs.Plain.{plain}
use Rattle.xf_stages.proofs.RestoreTurns.{items_fewer}
use Rattle.xf_stages.proofs.restoring.with_items.Goals as goal

pub invariant_of-result : goal.invariant_of-result
invariant_of-result c =
    let f : SFits w64 c.args.size = search rules in
    record { well = c.items_of-depth.result.well; fewer = items_fewer c.args.size (to_z w64 (of_z w64 c.args.size)) c.items_of-depth.result.items (plain c.args.value.value) (to_z-of_z f) c.items_of-depth.ensures c.requires.fewer }
