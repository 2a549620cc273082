use Rattle.std.proofs.Common.{rules, ap, ap₂, ◌∙◌, ◌≡◌, true}
use Rattle.std.proofs.lemmas.Result.{IfOk-weaker}
use Rattle.clap.specs.Words.{App, app_of, rule_of, with_rule}
use Rattle.clap.specs.Simple.{app_of_fields}
use Rattle.clap.specs.declared.builder.command.Command.TheOpen.{Command-F}
use Rattle.clap.specs.declared.builder.command.Command.{Command}
use Rattle.command_line.specs.Line.{check_rule, nameless}
use Rattle.command_line.proofs.line.command.Goals as goal

abbrev without_help : App → App
without_help a = record a { top = record a.top { disable_help_flag = true } }

pub returns : goal.returns
returns c =
    let check_is : rule_of c.action-check.result ≡ check_rule = search rules in
    let bare : app_of c.disable_help_flag.result ≡ nameless = ap (λ (f : Command-F Command). app_of_fields f) c.disable_help_flag.ensures ∙ ap without_help c.new-2.ensures.app in
    let one : app_of c.in_ok-arg.field-0 ≡ with_rule nameless check_rule = c.in_ok-arg.ensures.shape (search rules) ∙ ap₂ with_rule bare check_is in
    let two = c.in_ok-arg-2.ensures.shape c.number.ensures.local ∙ ap₂ with_rule one c.number.ensures.rule in
    let three = c.in_ok-arg-3.ensures.shape c.number-2.ensures.local ∙ ap₂ with_rule two c.number-2.ensures.rule in
    let four = c.in_ok-arg-4.ensures.shape c.number-3.ensures.local ∙ ap₂ with_rule three c.number-3.ensures.rule in
    let five = c.in_ok-arg-5.ensures.shape c.number-4.ensures.local ∙ ap₂ with_rule four c.number-4.ensures.rule in
    IfOk-weaker c.arg-6.result _ _ (λ m h. h.shape c.number-5.ensures.local ∙ ap₂ with_rule five c.number-5.ensures.rule) c.arg-6.ensures
