use Rattle.stage_tests.proofs.Binding.{one_binds}
use Rattle.stage_tests.proofs.making.of_one.Goals as goal

pub function_made-requires : goal.function_made-requires
function_made-requires c = one_binds c.args.target c.in_ok-one.one.items c.in_ok-value.value.value c.requires c.in_ok-one.ensures.same
