use Rattle.std.proofs.Common.{◌≡◌, MatchOption, [], ap, refl, sym, subst, false, drop, ◌∙◌, Option}
use Rattle.std.proofs.lemmas.Result.{IfOk-weaker}
use Rattle.clap.specs.Words.{App, HasKind, app_of, found_of, is_simple, is_simple_and_free, fault_of, matches_of, rows_of}
use Rattle.command_line.specs.declared.given.Options.{Options}
use Rattle.command_line.specs.Asking.{Asks, IsFaulty}
use Rattle.command_line.specs.Line.{line}
use Rattle.command_line.specs.Settings.{texts}
use Rattle.command_line.proofs.Agreeing.{has_dashed}
use Rattle.command_line.proofs.Answering.{answer_right, dashed_faulty, dashed_texts, refused_faulty, simple}
use Rattle.command_line.proofs.asking.asked.Goals as goal

pub returns-then-has_dashes : goal.returns-then-has_dashes
returns-then-has_dashes c =
    dashed_faulty (texts c.args.words.now) (ap has_dashed (sym c.behind_name.ensures) ∙ (sym (dashed_texts c.behind_name.result.now) ∙ (sym c.has_dashes.ensures ∙ c.if-has_dashes.true)))

pub returns-in-Ok : goal.returns-in-Ok
returns-in-Ok c =
    let words = texts c.args.words.now in
    let clean : has_dashed (drop 1 (texts c.args.words.now)) ≡ false = ap has_dashed (sym c.behind_name.ensures) ∙ (sym (dashed_texts c.behind_name.result.now) ∙ (sym c.has_dashes.ensures ∙ c.if-has_dashes.false)) in
    let app : app_of c.in_ok-command.field-0 ≡ line = c.in_ok-command.ensures in
    let rows : rows_of (found_of c.in-Ok.matches) ≡ matches_of line (texts c.args.words.now) = (c.in-Ok.ensures.matches (ap is_simple app ∙ refl)).0 ∙ ap (λ (x : App). matches_of x (texts c.args.words.now)) app in
    let free : fault_of line (texts c.args.words.now) ≡ [] = ap (λ (x : App). fault_of x (texts c.args.words.now)) (sym app) ∙ c.in-Ok.ensures.kinds (ap is_simple_and_free app ∙ simple) in
    answer_right words (found_of c.in-Ok.matches) c.answer.result rows free clean c.answer.ensures

pub returns-in-Err : goal.returns-in-Err
returns-in-Err c =
    let app : app_of c.in_ok-command.field-0 ≡ line = c.in_ok-command.ensures in
    let kinds : HasKind (fault_of line (texts c.args.words.now)) c.in-Err.error = subst (λ (x : App). HasKind (fault_of x (texts c.args.words.now)) c.in-Err.error) app (c.in-Err.ensures.kinds (ap is_simple_and_free app ∙ simple)) in
    IfOk-weaker c.refused.result _ _ (λ o h. subst (λ (z : Option Options). MatchOption z (IsFaulty (texts c.args.words.now)) (λ a. Asks (texts c.args.words.now) a)) (sym h.0) (refused_faulty (texts c.args.words.now) c.in-Err.error h.1 kinds)) c.refused.ensures
