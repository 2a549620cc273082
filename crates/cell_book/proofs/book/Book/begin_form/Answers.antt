use Rattle.std.proofs.Common.{ap, ◌∙◌}
use Rattle.cell_book.specs.Steps.{values_in}
use Rattle.cell_book.proofs.Wholes.{begun_whole_as}
use Rattle.cell_book.proofs.book.Book.begin_form.Goals as goal

pub invariant_of-self-2 : goal.invariant_of-self-2
invariant_of-self-2 c =
    let s = c.self.inside in
    let ok = c.in_ok-begin_counted.ensures.ok in
    begun_whole_as _ s.cell_makes.items s.form_makes.items s.settled s.claims s.first_future s.realised s.failed c.args.form _ _ _ _ c.self.invariant ok.0 ok.1 (c.of.ensures ∙ (c.in_ok-kept.ensures ∙ (c.in_ok-outcomes.ensures ∙ ap values_in c.deref.ensures.value))) ok.2
