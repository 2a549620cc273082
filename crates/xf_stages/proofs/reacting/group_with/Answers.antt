use Rattle.std.proofs.Common.{◌≡◌, ap, ◌∙◌, pos, int_le, SFits, w64, to_z, of_z, to_z-of_z, rules, refl}
use Rattle.seq_values.specs.Plain.{plain}
use Rattle.xf_stages.proofs.GroupTurns.{full_passes, part_waits}
use Rattle.xf_stages.proofs.reacting.group_with.Goals as goal

pub returns-then-is_full : goal.returns-then-is_full
returns-then-is_full c =
    let f : SFits w64 c.args.size = search rules in
    full_passes c.args.size (to_z w64 (of_z w64 c.args.size)) c.items_of-depth.result.items (plain c.args.value.value) c.is_full.result c.passes_group.result (to_z-of_z f) c.items_of-depth.ensures (c.is_full.ensures ∙ ap (λ l. int_le (to_z w64 (of_z w64 c.args.size)) (pos l)) c.len.ensures.same) c.if-is_full.true c.passes_group.ensures.same c.passes_group.ensures.effect

pub returns : goal.returns
returns c =
    let f : SFits w64 c.args.size = search rules in
    part_waits c.args.size (to_z w64 (of_z w64 c.args.size)) c.items_of-depth.result.items (plain c.args.value.value) c.is_full.result _ (to_z-of_z f) c.items_of-depth.ensures (c.is_full.ensures ∙ ap (λ l. int_le (to_z w64 (of_z w64 c.args.size)) (pos l)) c.len.ensures.same) c.if-is_full.false (to_z-of_z f) refl
