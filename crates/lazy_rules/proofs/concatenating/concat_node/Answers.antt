use Rattle.std.proofs.Common.{drop}
use Rattle.seq_values.specs.Plain.{plain, plains}
use Rattle.seq_plan.specs.Cursors.{stands}
use Rattle.lazy_rules.proofs.Taking.{in_ok}
use Rattle.lazy_rules.proofs.ConcatTurns.{single_node, whole_node}
use Rattle.lazy_rules.proofs.concatenating.concat_node.Goals as goal

pub returns-in-Single : goal.returns-in-Single
returns-in-Single c = in_ok c.concat_single.result (λ n h. single_node c.args.chunk (stands c.args.place) (stands c.in-Single.place) (plains (drop c.args.at c.args.args.items)) n (rw c.in-Single.is at c.in_ok-chunked.ensures.same) (rw c.in-Single.is at c.in_ok-chunked.ensures.back) h) c.concat_single.ensures

pub returns-in_ok-term-in-Whole : goal.returns-in_ok-term-in-Whole
returns-in_ok-term-in-Whole c = whole_node c.args.chunk (stands c.args.place) (plains (drop c.args.at c.args.args.items)) (plains c.in-Whole.items.items) (plain c.in-Whole.rest.value) c.in_ok-term-in-Whole.term.term c.makes.result (rw c.in-Whole.is at c.in_ok-chunked.ensures.same) c.in_ok-term-in-Whole.ensures c.makes.ensures
