use Rattle.std.specs.Prelude.{unwrap_or}
use Rattle.std.proofs.Common.{ap, ◌∙◌}
use Rattle.command_line.specs.declared.setting.Setting.TheVariants.{Processors, Cells, Steps}
use Rattle.command_line.proofs.Fitting.{request_held, options_held}
use Rattle.command_line.proofs.given.Given.asked.Goals as goal

pub returns : goal.returns
returns c = λ all h. options_held _ _ _ _ all (request_held c.args.self all c.request-request.result h c.request-request.ensures.checked c.request-request.ensures.made c.request-request.ensures.run) (c.unwrap_or.ensures ∙ ap (λ o. unwrap_or o 65536) (h.numbers (Cells 0))) (c.unwrap_or-2.ensures ∙ ap (λ o. unwrap_or o 1000000) (h.numbers (Steps 0))) (c.unwrap_or-3.ensures ∙ ap (λ o. unwrap_or o 4) (h.numbers (Processors 0)))
