use Rattle.std.proofs.Common.{◌∙◌, ◌∷◌, ap, sym, rules, SFits, w64}
use Rattle.std.proofs.lemmas.Int.{to_z-of_z}
use Rattle.seq_values.specs.Model as M
use Rattle.seq_values.specs.Plain.{plain, plains}
use Rattle.seq_values.specs.WellFormedTerms.{takes}
use Rattle.seq_values.specs.declared.words.Op.TheVariants as O
use Rattle.seq_plan.specs.WellFormed.{sights}
use Rattle.fold_rows.specs.Table.{fold_items}
use Rattle.fold_rules.specs.Left.{after}
use Rattle.fold_rules.proofs.Taking.{takes_same}
use Rattle.fold_rules.proofs.FoldTerms.{size_there, stages_there, term_goes, vector_there}
use Rattle.fold_rules.proofs.terms.fold_on.Goals as goal

pub items_in-items-requires-clause-vector : goal.items_in-items-requires-clause-vector
items_in-items-requires-clause-vector c = vector_there (plain c.args.first.first.value) (plain c.args.first.second.value) (plain c.args.first.third.value) (plain c.args.first.fourth.value) (plains c.args.stages.items) c.requires.fits

pub size_in-size-requires : goal.size_in-size-requires
size_in-size-requires c = size_there (M.values (plains c.items_in-items.result.items)) (plain c.args.first.second.value) (plain c.args.first.third.value) (plain c.args.first.fourth.value) (plains c.args.stages.items) (ap (λ v. takes O.Fold (sights (M.values (v ∷ plain c.args.first.second.value ∷ plain c.args.first.third.value ∷ plain c.args.first.fourth.value ∷ plains c.args.stages.items)))) (sym c.items_in-items.ensures) ∙ c.requires.fits)

pub invariant_of-fold-clause-fit : goal.invariant_of-fold-clause-fit
invariant_of-fold-clause-fit c = stages_there (M.values (plains c.items_in-items.result.items)) c.size_in-size.result (plain c.args.first.third.value) (plain c.args.first.fourth.value) (plains c.args.stages.items) ((λ i. takes O.Fold (sights (M.values (sym c.items_in-items.ensures i ∷ sym c.size_in-size.ensures.same i ∷ plain c.args.first.third.value ∷ plain c.args.first.fourth.value ∷ plains c.args.stages.items)))) ∙ c.requires.fits)

pub returns : goal.returns
returns c =
    let f : SFits w64 c.size_in-size.result = search rules in
    term_goes (plain c.args.first.first.value) (plain c.args.first.second.value) (plain c.args.first.third.value) (plain c.args.first.fourth.value) (plains c.args.stages.items) c.size_in-size.result c.items_in-items.result.items c.none-none.result.halves.items c.in_ok-next.next c.items_in-items.ensures c.size_in-size.ensures.same c.none-none.ensures (takes_same (ap (λ n. fold_items n (plain c.args.first.third.value) (plain c.args.first.fourth.value) (plains c.args.stages.items) (plains c.items_in-items.result.items) (after c.none-none.result)) (to_z-of_z w64 c.size_in-size.result f)) c.in_ok-next.ensures)
