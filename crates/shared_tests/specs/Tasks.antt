-- What a task needs of its pass.
use Rattle.std.specs.Prelude.{◌≡◌, false, None}
use Rattle.atomic_table.specs.Seated.{TableId}
use Rattle.cell_book.specs.Glimpses.{glimpse, MayAsk}
use Rattle.cell_shared.specs.Growing.{counted}
use Rattle.shared_tests.specs.declared.Task.{Task}

-- It is of the table's book, may not begin forms, and has seen that the part is a future.
abbrev pub IsTask : TableId → Task → Type 0
IsTask table t = (t.pass.table ≡ table) × (t.pass.leads ≡ false) × MayAsk (counted t.pass.claims) (glimpse t.pass.seen) t.id None
