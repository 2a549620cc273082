use Rattle.std.proofs.Common.{arith, refl}
use Rattle.fold_rules.proofs.FoldTerms.{joined_all, joined_more, joined_short}
use Rattle.fold_rules.proofs.terms.and_all.Goals as goal

pub loop-at-init : goal.loop-at-init
loop-at-init c = record { found = record { same = refl } }

pub and-requires : goal.and-requires
and-requires c = joined_short c.args.before.items.items c.args.more.now.items c.loop-at.all.items.items c.in_ok-value.value.value c.loop-at.at c.in_ok-value.ensures c.requires c.loop-at.invariant.found

pub loop-at-preserved : goal.loop-at-preserved
loop-at-preserved c = record { found = joined_more c.args.before.items.items c.args.more.now.items c.loop-at.all.items.items c.in_ok-grown.grown.items.items c.in_ok-value.value.value c.loop-at.at c.in_ok-value.ensures c.in_ok-grown.ensures.same c.loop-at.invariant.found }

pub returns : goal.returns
returns c = joined_all c.args.before.items.items c.args.more.now.items c.loop-at.all.items.items c.loop-at.at (omega (arith, c.loop-at-test.false, c.len.ensures)) c.loop-at.invariant.found
