use Rattle.std.proofs.Common.{Some, sym}
use Rattle.seq_values.specs.Plain.{plain, plains}
use Rattle.seq_turns.proofs.Taking.{in_ok}
use Rattle.ahead_rules.specs.Left.{running}
use Rattle.ahead_rules.proofs.Sequences.{chunk_rest}
use Rattle.ahead_rules.proofs.Moves.{derefs_takes, derefs_one_takes}
use Rattle.ahead_rules.proofs.asking.derefs_place.Goals as goal

pub returns-in-Single : goal.returns-in-Single
returns-in-Single c =
    let q = rw c.in-Single.is at c.in_ok-chunks.ensures.same in
    let b = rw c.in-Single.is at c.in_ok-chunks.ensures.back in
    in_ok running c.derefs_one.result (λ n h. derefs_one_takes c.args.chunk c.args.place c.in-Single.place n q b h) c.derefs_one.ensures

pub returns-in-Whole : goal.returns-in-Whole
returns-in-Whole c =
    let q = rw c.in-Whole.is at c.in_ok-chunks.ensures.same in
    in_ok running c.derefs_chunk.result (λ n h. derefs_takes c.args.chunk c.args.place (Some (plains c.in-Whole.items.items, plain c.in-Whole.rest.value)) n q h) c.derefs_chunk.ensures

pub derefs_chunk-requires : goal.derefs_chunk-requires
derefs_chunk-requires c =
    let q = rw c.in-Whole.is at c.in_ok-chunks.ensures.same in
    chunk_rest c.args.chunk.elements c.args.place (plains c.in-Whole.items.items) (plain c.in-Whole.rest.value) (sym q)
