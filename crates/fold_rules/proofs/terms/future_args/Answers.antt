use Rattle.std.proofs.Common.{◌∙◌, ap, arith, length, rules, SFits, w64}
use Rattle.std.proofs.lemmas.Int.{to_z-of_z}
use Rattle.seq_values.specs.Model as M
use Rattle.fold_rules.proofs.FoldTerms.{second_args}
use Rattle.fold_rules.proofs.terms.future_args.Goals as goal

pub and_all-requires : goal.and_all-requires
and_all-requires c = omega (arith, ap length c.in_ok-first.ensures, c.args.fold.now.few)

pub returns : goal.returns
returns c =
    let f : SFits w64 c.args.fold.now.size = search rules in
    second_args c.in_ok-args.args.items c.in_ok-first.first.items.items c.vector.result.value c.of_int-size.result.value c.in_ok-combine.combine.value c.in_ok-function.function.value c.args.fold.now.combine.value c.args.fold.now.function.value c.args.fold.now.stages.items c.args.items.items c.args.fold.now.size (c.in_ok-args.ensures ∙ c.in_ok-all.ensures) c.in_ok-first.ensures c.vector.ensures.stands (c.of_int-size.ensures.stands ∙ ap M.int (to_z-of_z w64 c.args.fold.now.size f)) c.in_ok-combine.ensures c.in_ok-function.ensures
