use Rattle.std.proofs.Common.{refl}
use Rattle.std.specs.Prelude.{option_copied}
use Rattle.cell_book.specs.Steps.{asker_of}
use Rattle.cell_book.specs.Glimpses.{glimpse}
use Rattle.book_tests.proofs.Lending.{fits_self, begins_sees, makes_sees}
use Rattle.cell_book.proofs.Stepping.{sees_whole, sees_place, claims_sound, claims_opens, claims_new, claims_open_if}
use Rattle.book_tests.proofs.lent.LentCells.claim.Goals as goal

pub returns-clause-step : goal.returns-clause-step
returns-clause-step g c = (c.args.self.now.book.now, c.claim.new.self, (fits_self (g.L.CellLaw.keeps c.args.self.now.law) c.args.self.now.book.now c.requires.ready), c.claim.ensures, (sees_whole _ _ (glimpse c.args.self.now.book.now) c.claim.new.self, λ _. refl), refl)

pub returns-clause-same : goal.returns-clause-same
returns-clause-same g c = (refl, refl, λ r. (c.requires.keeps c.args.self.now.book.now c.claim.new.self c.claim.result (fits_self (g.L.CellLaw.keeps c.args.self.now.law) c.args.self.now.book.now c.requires.ready) c.claim.ensures, claims_sound c.args.self.now.book.now c.claim.new.self c.args.id (asker_of (option_copied c.args.by)) c.claim.result r.1 c.claim.ensures))

pub returns-clause-held : goal.returns-clause-held
returns-clause-held g c = claims_opens c.args.self.now.book.now c.claim.new.self c.args.id (asker_of (option_copied c.args.by)) c.claim.result c.claim.ensures

pub returns-clause-open : goal.returns-clause-open
returns-clause-open g c = claims_open_if c.args.self.now.book.now c.claim.new.self c.args.id (asker_of (option_copied c.args.by)) c.claim.result c.claim.ensures

pub returns-clause-fresh : goal.returns-clause-fresh
returns-clause-fresh g c = claims_new c.args.self.now.book.now c.claim.new.self c.args.id (asker_of (option_copied c.args.by)) c.claim.result c.claim.ensures
