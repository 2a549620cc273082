use Rattle.std.proofs.Common.{refl}
use Rattle.cell_client.proofs.Keeping.{sevens_new}
use Rattle.cell_shared.specs.Growing.{fresh}
use Rattle.shared_tests.proofs.new_book.Goals as goal

pub new-requires : goal.new-requires
new-requires c = record { law = sevens_new (fresh c.args.cells) refl }
