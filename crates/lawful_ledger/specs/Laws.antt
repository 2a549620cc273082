-- What a lawful book at rest says of its ledger, as statements.
use Rattle.std.specs.Prelude.{◌≡◌, ℕ, suc, ◌<◌, ◌≤◌, ◌^◌, List, length, Some, slice_get}
use Rattle.seq_values.specs.declared.value.Value.{Value as Coded}
use Rattle.seq_values.specs.Model.{Value}
use Rattle.seq_values.specs.Plain.{plains}
use Rattle.clj_script.specs.Trees.{ledger, Program}
use Rattle.seq_plan.specs.Nodes.{depth}
use Rattle.cell_book.specs.Account.{Account}
use Rattle.cell_book.specs.Counts.{totals_of}
use Rattle.cell_book.specs.Glimpses.{glimpse}
use Rattle.seq_table.specs.Table.{language}
use Rattle.seq_table.specs.Outputs.{Line}
use Rattle.seq_lawful.specs.Lawful.{Lawful}
use Rattle.seq_lawful.specs.Rest.{AtRest}
use Rattle.seq_lawful.specs.Runs.{IsBefore}
use Rattle.seq_ledger.specs.Walks.{ComesToEnd}
use Rattle.seq_ledger.specs.Ledgers.{of_defs, LedgerIn}

-- The walk of each value that is no deeper than a value may be comes to its end.
abbrev pub WalksEnd : Type 0
WalksEnd = (processors : ℕ) (program : Program) (limit : ℕ) (a : Account) → Lawful (language processors) program limit a → AtRest a → a.limit < 2 ^ 32 → (v : Value ℕ) → depth v ≤ 256 → ComesToEnd a v

-- The last form begun is a `ledger`. The book's ledger, with the values of the `def` forms before it and the book's totals, is the line of that form.
abbrev pub LedgerLine : Type 0
LedgerLine = (processors : ℕ) (program : Program) (limit : ℕ) (a : Account) → Lawful (language processors) program limit a → AtRest a → (outcomes : List Coded) → length a.forms ≡ suc (length outcomes) → ((i : ℕ) → i < length outcomes → IsBefore (glimpse a) outcomes i) → slice_get program.tops (length outcomes) ≡ Some ledger → (text : List ℕ) → LedgerIn a program (of_defs program.tops (plains outcomes)) (totals_of a.cells) text → Line (language processors) program limit (suc (length outcomes)) text
