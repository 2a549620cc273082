use Rattle.seq_values.specs.Plain.{plain, plains}
use Rattle.seq_plan.specs.Cursors.{stands}
use Rattle.lazy_rules.proofs.Taking.{in_ok}
use Rattle.lazy_rules.proofs.ApplyTurns.{sift_single, sift_whole}
use Rattle.lazy_rules.proofs.applying.sift_place.Goals as goal

pub returns-in-Single : goal.returns-in-Single
returns-in-Single c = in_ok c.call_first.result (λ n h. sift_single c.args.keeps c.args.chunk (plain c.args.function.value) (stands c.args.place) (stands c.in-Single.place) n (rw c.in-Single.is at c.in_ok-chunked.ensures.same) (rw c.in-Single.is at c.in_ok-chunked.ensures.back) h) c.call_first.ensures

pub returns-in-Whole : goal.returns-in-Whole
returns-in-Whole c = in_ok c.sift_chunk.result (λ n h. sift_whole c.args.keeps c.args.chunk (plain c.args.function.value) (stands c.args.place) (plains c.in-Whole.items.items) (plain c.in-Whole.rest.value) n (rw c.in-Whole.is at c.in_ok-chunked.ensures.same) h) (rw c.none.ensures at c.sift_chunk.ensures)
