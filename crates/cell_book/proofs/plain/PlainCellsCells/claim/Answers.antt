use Rattle.std.specs.Prelude.{option_copied}
use Rattle.cell_book.specs.Steps.{asker_of}
use Rattle.cell_book.proofs.Stepping.{claims_opens, claims_new, claims_open_if}
use Rattle.cell_book.proofs.plain.PlainCellsCells.claim.Goals as goal

pub returns-clause-open : goal.returns-clause-open
returns-clause-open c = claims_open_if c.args.self.now.book.now c.claim.new.self c.args.id (asker_of (option_copied c.args.by)) c.claim.result c.claim.ensures

pub returns-clause-fresh : goal.returns-clause-fresh
returns-clause-fresh c = claims_new c.args.self.now.book.now c.claim.new.self c.args.id (asker_of (option_copied c.args.by)) c.claim.result c.claim.ensures

pub returns-clause-held : goal.returns-clause-held
returns-clause-held c = claims_opens c.args.self.now.book.now c.claim.new.self c.args.id (asker_of (option_copied c.args.by)) c.claim.result c.claim.ensures
