use Rattle.stage_tests.proofs.Binding.{comp_binds}
use Rattle.stage_tests.proofs.making.composition.Goals as goal

pub function_made-requires : goal.function_made-requires
function_made-requires c = comp_binds c.args.functions.items c.requires
