-- What the law of books is over the table of the language, as statements.
use Rattle.std.specs.Prelude.{ℕ}
use Rattle.clj_script.specs.Trees.{Program}
use Rattle.seq_lawful.specs.Lawful.{Lawful}
use Rattle.seq_lawful.specs.Renaming.{NamesRename}
use Rattle.seq_lawful.specs.Runs.{Kept}
use Rattle.seq_table.specs.Table.{rules_of}

-- the rules look at cells only to ask them, whatever names the cells of a book have
abbrev pub TableNames : Type 0
TableNames = (processors size : ℕ) (program : Program) (limit : ℕ) → NamesRename (rules_of processors size) (rules_of processors size) program limit

-- each step of whoever runs works by the table keeps a book lawful
abbrev pub TableKeepsBooks : Type 0
TableKeepsBooks = (processors size : ℕ) (program : Program) (limit : ℕ) → Kept (rules_of processors size) program limit (Lawful (rules_of processors size) program limit)
