use Rattle.std.proofs.Common.{ap, ◌∙◌, ◌∷◌, ◌++◌, ◌+◌, length, drop, []}
use Rattle.std.proofs.lemmas.List.{length_push}
use Rattle.seq_values.specs.Plain.{plain, plains}
use Rattle.core_rules.specs.Opening.{pending, pending_in}
use Rattle.core_rules.proofs.Openings.{steps_same, pending_push}
use Rattle.core_rules.proofs.opening.look_behind.Goals as goal

pub returns : goal.returns
returns c = steps_same _ (length c.args.search.frames.items + 1) _ c.args.search.found _ (plain c.args.value.value ∷ plains (drop c.args.frame.at c.args.frame.items.items) ++ pending_in c.args.search) c.in_ok-next.next (ap length c.in_ok-more.ensures.frames ∙ length_push c.args.search.frames.items c.args.frame) c.in_ok-more.ensures.found (ap (λ l. plain c.args.value.value ∷ l) (ap (λ l. pending l []) c.in_ok-more.ensures.frames ∙ pending_push c.args.search.frames.items c.args.frame [])) c.in_ok-next.ensures
