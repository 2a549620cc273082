use Rattle.std.proofs.Common.{ap}
use Rattle.seq_values.specs.declared.words.Op.TheVariants as O
use Rattle.fold_rules.proofs.FoldTerms.{second_well, term_with}
use Rattle.fold_rules.proofs.terms.future_term.Goals as goal

pub returns-clause-stands : goal.returns-clause-stands
returns-clause-stands c = term_with c.in_ok-args.ensures

pub returns-clause-well : goal.returns-clause-well
returns-clause-well c = second_well c.args.fold.now c.args.items.items c.in_ok-args.args.items c.in_ok-args.args.well c.in_ok-args.ensures
