use Rattle.std.proofs.Common.{ap, sym, ◌∙◌, ◌∷◌, ◌++◌, ◌+◌, length, drop, []}
use Rattle.std.proofs.lemmas.List.{length_push}
use Rattle.seq_values.specs.Plain.{plain, plains}
use Rattle.xf_stages.specs.Parts.{pending, pending_in}
use Rattle.xf_stages.proofs.OpenTurns.{steps_same, pending_push}
use Rattle.xf_stages.proofs.opening.open_behind.Goals as goal

pub returns : goal.returns
returns c = steps_same _ (length c.args.work.frames.items + 1) c.in_ok-more.more c.args.work _ (plain c.args.value.value ∷ plains (drop c.args.frame.at c.args.frame.items.items) ++ pending_in c.args.work) c.in_ok-opened.opened (ap length c.in_ok-more.ensures.frames ∙ length_push c.args.work.frames.items c.args.frame) c.in_ok-more.ensures.stages (ap (λ l. plain c.args.value.value ∷ l) (ap (λ l. pending l []) c.in_ok-more.ensures.frames ∙ pending_push c.args.work.frames.items c.args.frame [])) c.in_ok-opened.ensures
