use Rattle.std.proofs.Common.{drop, ap, ◌∙◌, ◌∷◌, []}
use Rattle.seq_values.specs.Plain.{plain, plains}
use Rattle.ahead_rules.proofs.Moves.{derefs_ends}
use Rattle.ahead_rules.proofs.asking.derefs_done.Goals as goal

pub returns : goal.returns
returns c = derefs_ends c.args.rest.value (plains c.args.answers.items.items) (drop c.args.at c.args.items.items) c.in_ok-args.args.items c.in_ok-next.next c.requires (c.in_ok-args.ensures.stands ∙ ap (λ v. plain v ∷ []) c.proper-source.ensures) c.in_ok-next.ensures
