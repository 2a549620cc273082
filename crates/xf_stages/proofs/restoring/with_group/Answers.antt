use Rattle.std.proofs.Common.{◌≡◌, SFits, w64, to_z, of_z, to_z-of_z, rules, ap, ◌∙◌}
use Rattle.seq_values.specs.Plain.{plain}
use Rattle.xf_stages.proofs.RestoreTurns.{group_fits, group_fewer, group_has}
use Rattle.xf_stages.proofs.restoring.with_group.Goals as goal

pub with_items-requires-clause-vector : goal.with_items-requires-clause-vector
with_items-requires-clause-vector c = group_fits c.args.group (plain c.args.value.value) c.requires

pub with_items-requires-clause-fewer : goal.with_items-requires-clause-fewer
with_items-requires-clause-fewer c =
    let f : SFits w64 c.args.group.size = search rules in
    group_fewer c.args.group (to_z w64 (of_z w64 c.args.group.size)) (plain c.args.value.value) (to_z-of_z f) c.requires

pub returns : goal.returns
returns c =
    let f : SFits w64 c.args.group.size = search rules in
    group_has c.args.group (to_z w64 (of_z w64 c.args.group.size)) (plain c.args.value.value) c.with_items.result (to_z-of_z f) c.with_items.ensures.stage c.with_items.ensures.state
