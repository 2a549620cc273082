use Rattle.std.proofs.Common.{drop, ◌+◌}
use Rattle.seq_values.specs.Plain.{plain, plains}
use Rattle.lazy_rules.proofs.SiftTurns.{item_calls}
use Rattle.lazy_rules.proofs.sifting.call_item.Goals as goal

pub returns : goal.returns
returns c = item_calls c.args.sieve.keeps c.args.sieve.function.value c.in_ok-called.called.value (plains c.args.kept.items.items) (drop c.args.at c.args.items.items) (plain c.args.sieve.rest.value) c.args.element.value (drop (c.args.at + 1) c.args.items.items) c.in_ok-args.args.items c.calls.result c.requires.element c.in_ok-called.ensures c.in_ok-args.ensures.stands c.calls.ensures
