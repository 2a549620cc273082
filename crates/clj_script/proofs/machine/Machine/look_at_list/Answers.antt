use Rattle.std.proofs.Common.{refl}
use Rattle.clj_script.specs.declared.task.Build.TheVariants.{And, Or}
use Rattle.clj_script.specs.Entries.{form_at}
use Rattle.clj_script.specs.Reads.{pair_at}
use Rattle.clj_script.proofs.TaskLemmas.{on_ok}
use Rattle.clj_script.proofs.LookLemmas.{answered_empty, looked_read, looked_answered, looked_pushed, call_wanted, all_wanted, let_wanted}
use Rattle.clj_script.proofs.machine.Machine.look_at_list.Goals as goal

pub returns-in-Nothing : goal.returns-in-Nothing
returns-in-Nothing c =
    let form = form_at c.args.sources.now.items c.args.form in
    let place = rw c.as_slice-forms.ensures.value at c.place_at-place.ensures in
    let read = rw c.as_slice-forms.ensures.value at c.in_ok-reading_at.ensures.read in
    on_ok c.give.result
    (λ g. looked_read form _ _ _ c.requires.list place read c.in-Nothing.is (looked_answered c.requires.lower c.requires.within (answered_empty g)))
    c.give.ensures

pub returns-in-Call : goal.returns-in-Call
returns-in-Call c =
    let form = form_at c.args.sources.now.items c.args.form in
    let place = rw c.as_slice-forms.ensures.value at c.place_at-place.ensures in
    let read = rw c.as_slice-forms.ensures.value at c.in_ok-reading_at.ensures.read in
    let below = rw c.in-Call.is at (rw c.as_slice-forms.ensures.value at c.in_ok-reading_at.ensures.below) in
    let wanted = call_wanted (form_at c.args.sources.now.items) c.in-Call.head c.in-Call.args.now in
    on_ok c.push_call.result
    (λ p. looked_read form _ _ _ c.requires.list place read c.in-Call.is (looked_pushed c.requires.sound c.requires.lower c.requires.within below wanted p))
    c.push_call.ensures

pub returns-in-Let : goal.returns-in-Let
returns-in-Let c =
    let form = form_at c.args.sources.now.items c.args.form in
    let place = rw c.as_slice-forms.ensures.value at c.place_at-place.ensures in
    let read = rw c.as_slice-forms.ensures.value at c.in_ok-reading_at.ensures.read in
    let below = rw c.in-Let.is at (rw c.as_slice-forms.ensures.value at c.in_ok-reading_at.ensures.below) in
    let wanted = let_wanted (pair_at c.args.sources.now.items) c.in-Let.pairs.items c.as_slice-in-Let.result.now (form_at c.args.sources.now.items c.in-Let.body) c.as_slice-in-Let.ensures.value in
    on_ok c.push_let.result
    (λ p. looked_read form _ _ _ c.requires.list place read c.in-Let.is (looked_pushed c.requires.sound c.requires.lower c.requires.within (rw c.as_slice-in-Let.ensures.value below) wanted p))
    c.push_let.ensures

pub returns-in-If : goal.returns-in-If
returns-in-If c =
    let form = form_at c.args.sources.now.items c.args.form in
    let place = rw c.as_slice-forms.ensures.value at c.place_at-place.ensures in
    let read = rw c.as_slice-forms.ensures.value at c.in_ok-reading_at.ensures.read in
    let below = rw c.in-If.is at (rw c.as_slice-forms.ensures.value at c.in_ok-reading_at.ensures.below) in
    on_ok c.push_if.result
    (λ p. looked_read form _ _ _ c.requires.list place read c.in-If.is (looked_pushed c.requires.sound c.requires.lower c.requires.within below refl p))
    c.push_if.ensures

pub returns-in-And : goal.returns-in-And
returns-in-And c =
    let form = form_at c.args.sources.now.items c.args.form in
    let place = rw c.as_slice-forms.ensures.value at c.place_at-place.ensures in
    let read = rw c.as_slice-forms.ensures.value at c.in_ok-reading_at.ensures.read in
    let below = rw c.in-And.is at (rw c.as_slice-forms.ensures.value at c.in_ok-reading_at.ensures.below) in
    let wanted = all_wanted And (form_at c.args.sources.now.items) c.in-And.args.now in
    on_ok c.push_all.result
    (λ p. looked_read form _ _ _ c.requires.list place read c.in-And.is (looked_pushed c.requires.sound c.requires.lower c.requires.within below wanted p))
    c.push_all.ensures

pub returns-in-Or : goal.returns-in-Or
returns-in-Or c =
    let form = form_at c.args.sources.now.items c.args.form in
    let place = rw c.as_slice-forms.ensures.value at c.place_at-place.ensures in
    let read = rw c.as_slice-forms.ensures.value at c.in_ok-reading_at.ensures.read in
    let below = rw c.in-Or.is at (rw c.as_slice-forms.ensures.value at c.in_ok-reading_at.ensures.below) in
    let wanted = all_wanted Or (form_at c.args.sources.now.items) c.in-Or.args.now in
    on_ok c.push_all-in-Or.result
    (λ p. looked_read form _ _ _ c.requires.list place read c.in-Or.is (looked_pushed c.requires.sound c.requires.lower c.requires.within below wanted p))
    c.push_all-in-Or.ensures

pub returns-in-LazySeq : goal.returns-in-LazySeq
returns-in-LazySeq c =
    let form = form_at c.args.sources.now.items c.args.form in
    let place = rw c.as_slice-forms.ensures.value at c.place_at-place.ensures in
    let read = rw c.as_slice-forms.ensures.value at c.in_ok-reading_at.ensures.read in
    let below = rw c.in-LazySeq.is at (rw c.as_slice-forms.ensures.value at c.in_ok-reading_at.ensures.below) in
    on_ok c.push_one.result
    (λ p. looked_read form _ _ _ c.requires.list place read c.in-LazySeq.is (looked_pushed c.requires.sound c.requires.lower c.requires.within below refl p))
    c.push_one.ensures
