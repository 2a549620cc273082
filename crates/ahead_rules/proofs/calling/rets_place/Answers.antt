use Rattle.std.proofs.Common.{Some}
use Rattle.seq_values.specs.Plain.{plain, plains}
use Rattle.seq_turns.proofs.Taking.{in_ok}
use Rattle.ahead_rules.specs.Left.{running}
use Rattle.ahead_rules.proofs.Moves.{rets_takes, rets_one_takes}
use Rattle.ahead_rules.proofs.calling.rets_place.Goals as goal

pub returns-in-Single : goal.returns-in-Single
returns-in-Single c =
    let q = rw c.in-Single.is at c.in_ok-chunks.ensures.same in
    let b = rw c.in-Single.is at c.in_ok-chunks.ensures.back in
    in_ok running c.rets_one.result (λ n h. rets_one_takes c.args.function c.args.chunk c.args.place c.in-Single.place n q b h) c.rets_one.ensures

pub returns-in-Whole : goal.returns-in-Whole
returns-in-Whole c =
    let q = rw c.in-Whole.is at c.in_ok-chunks.ensures.same in
    in_ok running c.rets_chunk.result (λ n h. rets_takes c.args.function c.args.chunk c.args.place (Some (plains c.in-Whole.items.items, plain c.in-Whole.rest.value)) n q h) c.rets_chunk.ensures
