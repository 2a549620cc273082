use Rattle.std.proofs.Common.{◌∙◌, ap, sym, arith}
use Rattle.seq_values.specs.Model as M
use Rattle.seq_values.specs.Plain.{plains}
use Rattle.seq_values.specs.WellFormedTerms.{takes}
use Rattle.seq_values.specs.declared.words.Op.TheVariants as O
use Rattle.seq_plan.specs.WellFormed.{sights}
use Rattle.fold_rows.specs.Table.{fold_term}
use Rattle.fold_rules.proofs.Taking.{takes_same}
use Rattle.fold_rules.proofs.FoldTerms.{args_with, four_there}
use Rattle.fold_rules.proofs.terms.fold_begins.Goals as goal

pub first_four-requires : goal.first_four-requires
first_four-requires c = four_there c.args.args.now.items c.requires

pub behind-requires : goal.behind-requires
behind-requires c = four_there c.args.args.now.items c.requires

pub fold_on-requires-clause-fits : goal.fold_on-requires-clause-fits
fold_on-requires-clause-fits c =
    let e = args_with c.args.args.now.items c.in_ok-first.first.first.value c.in_ok-first.first.second.value c.in_ok-first.first.third.value c.in_ok-first.first.fourth.value c.in_ok-stages.stages.items c.in_ok-first.ensures c.in_ok-stages.ensures.same in
    ap (λ l. takes O.Fold (sights (M.values (plains l)))) (sym e) ∙ c.requires

pub fold_on-requires-clause-few : goal.fold_on-requires-clause-few
fold_on-requires-clause-few c = omega (arith, c.in_ok-stages.ensures.few)

pub returns : goal.returns
returns c =
    let e = args_with c.args.args.now.items c.in_ok-first.first.first.value c.in_ok-first.first.second.value c.in_ok-first.first.third.value c.in_ok-first.first.fourth.value c.in_ok-stages.stages.items c.in_ok-first.ensures c.in_ok-stages.ensures.same in
    takes_same (ap (λ l. fold_term (plains l)) (sym e)) c.in_ok-next.ensures
