use Rattle.std.proofs.Common.{◌<◌, ℕ, List, sym, subst}
use Rattle.cell_book.specs.Glimpses.{glimpse}
use Rattle.cell_book.proofs.Onwards.{open_onward}
use Rattle.cell_shared.specs.Growing.{counted}
use Rattle.shared_tests.proofs.quiet_under.Goals as goal

pub returns-clause-own : goal.returns-clause-own
returns-clause-own g c =
    let o = c.requires.own in
    let w = c.args.by.now in
    (subst (λ (l : List ℕ). 0 < counted l w.claim) (sym c.quiet_view.ensures.held) o.0, open_onward w (glimpse c.args.pass.now.seen) (glimpse c.quiet_view.new.pass.seen) (c.quiet_view.ensures.step.own w.claim o.0).holds o.1)
