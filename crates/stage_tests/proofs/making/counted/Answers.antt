use Rattle.std.proofs.Common.{w64}
use Rattle.std.proofs.lemmas.Int.{to_z-of_z}
use Rattle.stage_tests.proofs.Binding.{count_binds}
use Rattle.stage_tests.proofs.making.counted.Goals as goal

pub function_made-requires : goal.function_made-requires
function_made-requires c = count_binds c.args.kind c.in_ok-one.one.items c.of_int-number.result.value c.args.count _ (to_z-of_z w64 c.args.count c.ranges.count) c.requires c.of_int-number.ensures.sight c.in_ok-one.ensures.same
