use Rattle.std.proofs.Common.{◌<◌, length, SFits, w64, to_z-of_z, ap, sym, ◌∙◌, rules}
use Rattle.core_fns.specs.Answering.{operate, next_of}
use Rattle.core_fns.proofs.Walking.{left_sum, goes_on, sum_step}
use Rattle.core_fns.proofs.arithmetic.from_left.Goals as goal

pub loop-other-preserved : goal.loop-other-preserved
loop-other-preserved c =
    let op = operate c.args.operation in
    let i = c.loop-other.other-index in
    let n = c.in-Some.number in
    let fits : SFits w64 n = search rules in
    let within : i < length c.args.others.now = search (rules, c.loop-other-test.true) in
    goes_on (left_sum op c.loop-other.so_far) (left_sum op c.next-so_far.result) c.args.others.now i c.other-item.result n within c.other-item.is (sym c.number_of.ensures ∙ c.in-Some.is) (sum_step op c.loop-other.so_far n c.next-so_far.result (c.next-so_far.ensures ∙ ap (next_of op c.loop-other.so_far) (to_z-of_z fits)))
    ∙ c.loop-other.invariant
