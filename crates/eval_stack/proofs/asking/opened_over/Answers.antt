use Rattle.eval_stack.specs.Stack.{all_claims, StandsOver}
use Rattle.eval_stack.specs.declared.state.Waiting.{Waiting}
use Rattle.std.proofs.Common.{List, ap, sym, subst, ◌∙◌}
use Rattle.eval_stack.proofs.asking.opened_over.Goals as goal

pub returns-clause-stands : goal.returns-clause-stands
returns-clause-stands g c = λ seen mine over begun. c.begun_over.ensures.stands seen mine (subst (λ (l : List (Waiting _ _)). StandsOver g.R.Rule.running g.R.Rules.table c.args.setting.now seen mine l c.args.opened) (sym c.push_reserved.ensures.items) over) begun

pub returns-clause-left : goal.returns-clause-left
returns-clause-left g c = λ d. c.begun_over.ensures.left d ∙ ap (λ (l : List (Waiting _ _)). all_claims l c.args.opened d) c.push_reserved.ensures.items
