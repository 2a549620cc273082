use Rattle.std.proofs.Common.{arith}
use Rattle.seq_turns.proofs.Limits.{head_goes, head_deep, head_many}
use Rattle.seq_turns.proofs.making.before_cons.Goals as goal

pub returns-then-len-ge4294967295 : goal.returns-then-len-ge4294967295
returns-then-len-ge4294967295 c = head_many c.args.heads c.args.rest c.args.first.value c.too_many_heads.result (omega (arith, c.len.ensures.same, c.if-len-ge4294967295.true)) c.too_many_heads.ensures

pub returns-then-depth_of-gt255 : goal.returns-then-depth_of-gt255
returns-then-depth_of-gt255 c = head_deep c.args.heads c.args.rest c.args.first.value c.too_deep_head.result (omega (arith, c.len.ensures.same, c.if-len-ge4294967295.false)) c.too_deep_head.ensures (omega (arith, c.depth_of.ensures, c.if-depth_of-gt255.true))

pub returns : goal.returns
returns c = head_goes c.args.heads c.args.rest c.args.first.value _ _ (omega (arith, c.len.ensures.same, c.if-len-ge4294967295.false)) c.in_ok-value.ensures.same
