use Rattle.std.proofs.Common.{◌≡◌, List, [], ◌∷◌, ◌++◌, ap, subst, ◌∙◌}
use Rattle.std.specs.Option.{option_to_list}
use Rattle.std.specs.Vec.{vec_len}
use Rattle.eval_stack.specs.declared.state.Waiting.{Waiting}
use Rattle.eval_stack.specs.Stack.{StandsOver, lowest}
use Rattle.eval_stack.specs.Turned.{claims_left}
use Rattle.eval_stack.proofs.Claims.{lowest_popped, ends_last, popped_held, emptied_held, none_left, nothing_more, popped_none}
use Rattle.eval_stack.proofs.ending.throws.Goals as goal

pub error_told-requires-clause-over : goal.error_told-requires-clause-over
error_told-requires-clause-over g c =
    let C = g.C.Cells in
    let s = c.args.cells.now in
    let ys = c.pop.new.self.items in
    let x = c.in-Some.waiting in
    let e : c.args.below.items ≡ ys ++ x ∷ [] = c.pop.ensures.items ∙ ap (λ o. ys ++ option_to_list o) c.in-Some.is in
    subst (λ (l : List (Waiting _ _)). StandsOver g.R.Rule.running g.R.Rules.table c.args.setting.now (C.seen s) (C.held s) l c.args.work) e c.requires.over

pub returns-in-Some-clause-lowest : goal.returns-in-Some-clause-lowest
returns-in-Some-clause-lowest g c =
    let C = g.C.Cells in
    let s = c.args.cells.now in
    let ys = c.pop.new.self.items in
    let x = c.in-Some.waiting in
    let e : c.args.below.items ≡ ys ++ x ∷ [] = c.pop.ensures.items ∙ ap (λ o. ys ++ option_to_list o) c.in-Some.is in
    lowest_popped c.args.below.items ys x c.args.work c.error_told.result e c.error_told.ensures.lowest

pub returns-in-Some-clause-held : goal.returns-in-Some-clause-held
returns-in-Some-clause-held g c =
    let C = g.C.Cells in
    let s = c.args.cells.now in
    let ys = c.pop.new.self.items in
    let x = c.in-Some.waiting in
    let e : c.args.below.items ≡ ys ++ x ∷ [] = c.pop.ensures.items ∙ ap (λ o. ys ++ option_to_list o) c.in-Some.is in
    λ d. popped_held c.args.below.items ys x c.args.work d e (C.held c.error_told.new.cells d) (C.held s d) (claims_left c.error_told.result d) (c.error_told.ensures.held d)

pub last_error-requires-clause-none : goal.last_error-requires-clause-none
last_error-requires-clause-none g c =
    let C = g.C.Cells in
    let s = c.args.cells.now in
    let ys = c.pop.new.self.items in
    let none : ys ≡ [] = none_left (vec_len c.args.below) c.args.below.items ys (popped_none _ _ _ c.pop.result c.in-None.is c.pop.ensures.cases).0 c.pop.ensures.rest in
    let e : c.args.below.items ≡ ys = c.pop.ensures.items ∙ (ap (λ o. ys ++ option_to_list o) c.in-None.is ∙ nothing_more ys) in
    none

pub last_error-requires-clause-empty : goal.last_error-requires-clause-empty
last_error-requires-clause-empty g c = (popped_none _ _ _ c.pop.result c.in-None.is c.pop.ensures.cases).1

pub last_error-requires-clause-over : goal.last_error-requires-clause-over
last_error-requires-clause-over g c =
    let C = g.C.Cells in
    let s = c.args.cells.now in
    let ys = c.pop.new.self.items in
    let none : ys ≡ [] = none_left (vec_len c.args.below) c.args.below.items ys (popped_none _ _ _ c.pop.result c.in-None.is c.pop.ensures.cases).0 c.pop.ensures.rest in
    let e : c.args.below.items ≡ ys = c.pop.ensures.items ∙ (ap (λ o. ys ++ option_to_list o) c.in-None.is ∙ nothing_more ys) in
    subst (λ (l : List (Waiting _ _)). StandsOver g.R.Rule.running g.R.Rules.table c.args.setting.now (C.seen s) (C.held s) l c.args.work) e c.requires.over

pub returns-in-None-clause-ends : goal.returns-in-None-clause-ends
returns-in-None-clause-ends g c =
    let C = g.C.Cells in
    let s = c.args.cells.now in
    let ys = c.pop.new.self.items in
    let none : ys ≡ [] = none_left (vec_len c.args.below) c.args.below.items ys (popped_none _ _ _ c.pop.result c.in-None.is c.pop.ensures.cases).0 c.pop.ensures.rest in
    let e : c.args.below.items ≡ ys = c.pop.ensures.items ∙ (ap (λ o. ys ++ option_to_list o) c.in-None.is ∙ nothing_more ys) in
    ends_last (C.seen c.last_error.new.cells) c.args.below.items c.args.work c.last_error.result (e ∙ none) c.last_error.ensures.ends

pub returns-in-None-clause-held : goal.returns-in-None-clause-held
returns-in-None-clause-held g c =
    let C = g.C.Cells in
    let s = c.args.cells.now in
    let ys = c.pop.new.self.items in
    let none : ys ≡ [] = none_left (vec_len c.args.below) c.args.below.items ys (popped_none _ _ _ c.pop.result c.in-None.is c.pop.ensures.cases).0 c.pop.ensures.rest in
    let e : c.args.below.items ≡ ys = c.pop.ensures.items ∙ (ap (λ o. ys ++ option_to_list o) c.in-None.is ∙ nothing_more ys) in
    λ d. emptied_held c.args.below.items c.args.work d (e ∙ none) (C.held c.last_error.new.cells d) (C.held s d) (claims_left c.last_error.result d) (c.last_error.ensures.held d)

pub returns-in-Some-clause-ends : goal.returns-in-Some-clause-ends
returns-in-Some-clause-ends g c = c.error_told.ensures.ends (lowest c.args.below.items c.args.work)

pub returns-in-None-clause-lowest : goal.returns-in-None-clause-lowest
returns-in-None-clause-lowest g c = c.last_error.ensures.lowest (lowest c.args.below.items c.args.work)
