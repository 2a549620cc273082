use Rattle.std.proofs.Common.{◌≡◌, ◌++◌, [], ◌∷◌, SFits, w64, to_z, of_z, to_z-of_z, rules}
use Rattle.seq_values.specs.Plain.{plain, plains}
use Rattle.xf_stages.proofs.GroupTurns.{made_vector, group_goes, group_ends}
use Rattle.xf_stages.proofs.reacting.group_input.Goals as goal

pub returns-in-Value : goal.returns-in-Value
returns-in-Value c =
    let f : SFits w64 c.args.group.size = search rules in
    group_goes c.args.group (plain c.args.item.value) c.in-Value.value (to_z w64 (of_z w64 c.args.group.size)) c.group_with.result (to_z-of_z f) (rw c.in-Value.is at c.in_ok-made.ensures) c.group_with.ensures

pub returns-in-Thrown : goal.returns-in-Thrown
returns-in-Thrown c =
    let f : SFits w64 c.args.group.size = search rules in
    group_ends c.args.group (plain c.args.item.value) c.in-Thrown.why (to_z w64 (of_z w64 c.args.group.size)) c.group_throws.result (to_z-of_z f) (rw c.in-Thrown.is at c.in_ok-made.ensures) c.group_throws.ensures.same c.group_throws.ensures.effect

pub group_with-requires-clause-vector : goal.group_with-requires-clause-vector
group_with-requires-clause-vector c = made_vector (plains c.args.group.items ++ plain c.args.item.value ∷ []) c.in-Value.value (rw c.in-Value.is at c.in_ok-made.ensures)
