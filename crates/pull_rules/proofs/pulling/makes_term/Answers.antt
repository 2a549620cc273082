use Rattle.pull_rules.proofs.PullTurns.{term_fits, term_makes}
use Rattle.pull_rules.proofs.pulling.makes_term.Goals as goal

pub pull_term-requires : goal.pull_term-requires
pull_term-requires c = term_fits c.args.all.items.items c.in_ok-args.args.items c.in_ok-args.ensures c.requires

pub returns : goal.returns
returns c = term_makes c.args.all.items.items c.in_ok-args.args.items c.pull_term.result.term c.args.next c.makes.result c.in_ok-args.ensures c.pull_term.ensures c.makes.ensures
