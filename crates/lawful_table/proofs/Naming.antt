-- The table of the language and the law of books.
use Rattle.std.proofs.Common.{ℕ}
use Rattle.clj_script.specs.Trees.{Program}
use Rattle.seq_lawful.specs.Lawful.{Lawful}
use Rattle.seq_lawful.specs.Renaming.{NamesRename}
use Rattle.seq_lawful.specs.Runs.{Kept}
use Rattle.seq_lawful.proofs.Keeps.{kept}
use Rattle.seq_table.specs.Table.{rules_of}
use Rattle.seq_table.proofs.AlikeWhole.{like-rules_of}

pub table_names : (processors size : ℕ) (program : Program) (limit : ℕ) → NamesRename (rules_of processors size) (rules_of processors size) program limit
table_names processors size program limit = λ a mode site. like-rules_of processors size

pub table_kept : (processors size : ℕ) (program : Program) (limit : ℕ) → Kept (rules_of processors size) program limit (Lawful (rules_of processors size) program limit)
table_kept processors size program limit = kept (rules_of processors size) (rules_of processors size) program limit (table_names processors size program limit)
