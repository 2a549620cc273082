use Rattle.std.proofs.Common.{refl}
use Rattle.clj_script.specs.Names.{defined}
use Rattle.clj_script.specs.Entries.{form_at}
use Rattle.clj_script.proofs.TaskLemmas.{on_ok}
use Rattle.clj_script.proofs.LookLemmas.{looked_as, looked_answered, looked_pushed, answered_literal, plan_literal, plan_vector, below_vector}
use Rattle.clj_script.proofs.machine.Machine.look.Goals as goal

pub returns-in_ok-value-in-Literal : goal.returns-in_ok-value-in-Literal
returns-in_ok-value-in-Literal c =
    let d = defined c.args.definitions.now.entries in
    let form = form_at c.args.sources.now.items c.args.form in
    let is = rw c.as_slice.ensures.value at c.entry_at-entry.ensures.reads in
    let plan = plan_literal d c.args.self.now.locals c.args.sources.now.items form c.entry_at-entry.result.now is _ c.in-Literal.is in
    on_ok c.give.result
    (λ g. looked_as plan (looked_answered c.requires.lower c.requires.within (answered_literal _ c.in_ok-value-in-Literal.ensures.0 g)))
    c.give.ensures

pub returns-in-Vector : goal.returns-in-Vector
returns-in-Vector c =
    let d = defined c.args.definitions.now.entries in
    let es = c.args.sources.now.items in
    let form = form_at es c.args.form in
    let items = c.as_slice-items.result.now in
    let is = rw c.as_slice.ensures.value at c.entry_at-entry.ensures.reads in
    let parts = rw c.as_slice.ensures.value at c.entry_at-entry.ensures.parts in
    let plan = plan_vector d c.args.self.now.locals es form c.entry_at-entry.result.now is _ items c.in-Vector.is c.as_slice-items.ensures.value in
    let below = below_vector es c.entry_at-entry.result.now _ items c.in-Vector.is c.as_slice-items.ensures.value parts in
    on_ok c.push_all.result
    (λ p. looked_as plan (looked_pushed c.requires.sound c.requires.lower c.requires.within below refl p))
    c.push_all.ensures
