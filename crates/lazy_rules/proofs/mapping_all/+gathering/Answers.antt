use Rattle.std.proofs.Common.{drop, ◌+◌, arith}
use Rattle.seq_values.specs.Plain.{plain, plains}
use Rattle.seq_turns.specs.Seen.{seen}
use Rattle.lazy_rules.proofs.Taking.{in_ok, ok_same}
use Rattle.lazy_rules.proofs.MapAllTurns.{seqs_end, seqs_found, seqs_asked, seqs_joined}
use Rattle.lazy_rules.proofs.Ends.{at_end}
use Rattle.lazy_rules.specs.Left.{seens}
use Rattle.lazy_rules.proofs.mapping_all.+gathering.Goals as goal

pub gather-returns-in-None : goal.gather-returns-in-None
gather-returns-in-None t c = in_ok c.all_there.result (λ n h. seqs_end (seens c.args.seqs.items) (plain c.args.function.value) (drop c.args.at c.args.args.items) n (rw c.in-None.is at c.in_ok-value.ensures) h) c.all_there.ensures

pub gather-returns-in-Now : goal.gather-returns-in-Now
gather-returns-in-Now t c = in_ok c.gathered.result (λ n h. seqs_found (seens c.args.seqs.items) (plain c.args.function.value) (drop c.args.at c.args.args.items) c.in-Some.value.value (drop (c.args.at + 1) c.args.args.items) (seen c.in-Now.what) n (rw c.in-Some.is at c.in_ok-value.ensures) (rw c.in-Now.is at c.seek.ensures) h) c.gathered.ensures

pub gather-returns-in-Ask : goal.gather-returns-in-Ask
gather-returns-in-Ask t c = seqs_asked (seens c.args.seqs.items) (plain c.args.function.value) (drop c.args.at c.args.args.items) c.in-Some.value.value c.in-Ask.value.value (drop (c.args.at + 1) c.args.args.items) c.seeks.result (rw c.in-Some.is at c.in_ok-value.ensures) (rw c.in-Ask.is at c.seek.ensures).0 c.seeks.ensures

pub gather-all_there-requires-clause-many : goal.gather-all_there-requires-clause-many
gather-all_there-requires-clause-many t c = omega (arith, c.requires.within.0, c.requires.within.1, at_end c.args.args.items c.args.at (rw c.in-None.is at c.in_ok-value.ensures))

pub gathered-returns : goal.gathered-returns
gathered-returns t c = ok_same c.gather.result (seqs_joined c.args.gathering.seqs.items c.in_ok-seqs.seqs.items c.args.what (plain c.args.gathering.function.value) (plains (drop c.args.gathering.at c.args.gathering.args.items)) c.in_ok-seqs.ensures) c.gather.ensures
