use Rattle.std.proofs.Common.{arith}
use Rattle.seq_turns.proofs.Limits.{more_goes, more_deep}
use Rattle.seq_turns.proofs.making.one_more.Goals as goal

pub returns-then-depth_of-gt255 : goal.returns-then-depth_of-gt255
returns-then-depth_of-gt255 c = more_deep c.args.items c.args.last.value c.too_deep_with.result (omega (arith, c.len.ensures.same, c.if-len-ge4294967295.false)) c.too_deep_with.ensures (omega (arith, c.depth_of.ensures, c.if-depth_of-gt255.true))

pub returns : goal.returns
returns c = more_goes c.args.items c.args.last.value _ _ (omega (arith, c.len.ensures.same, c.if-len-ge4294967295.false)) c.in_ok-value.ensures.same
