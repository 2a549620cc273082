use Rattle.std.proofs.Common.{ℕ, ◌<◌, List, length, refl, sym, subst, arith, slice_index_or}
use Rattle.clj_script.specs.Arena.{AllBelow}
use Rattle.clj_script.proofs.EntryLemmas.{number_got}
use Rattle.clj_script.proofs.KeptLemmas.{more-length}
use Rattle.clj_script.proofs.ThreadLemmas.{below_at}
use Rattle.clj_script.proofs.ProgramLemmas.{HasAll, has_all, none_taken, one_taken, is_finished, compiled_found, compiled_closed, compiled_only, compiled_refused, compiled_refuses}
use Rattle.clj_script.proofs.compiler.compile.Goals as goal

pub loop-number-init : goal.loop-number-init
loop-number-init c = none_taken c.new-tops.result _ c.new-tops.ensures.whole c.new-tops.ensures.nothing c.new-tops.ensures.least refl refl refl refl c.in_ok-numbers.ensures.lower

pub take-requires-clause-below : goal.take-requires-clause-below
take-requires-clause-below c =
    let ns : List ℕ = c.deref-number-items.result.now in
    let b : AllBelow (length c.add_forms.new.sources.items) ns = subst (λ (ms : List ℕ). AllBelow (length c.add_forms.new.sources.items) ms) (sym c.deref-number-items.ensures.value) c.in_ok-numbers.ensures.below in
    let h : slice_index_or ns c.loop-number.number-index 0 < length c.add_forms.new.sources.items = below_at _ ns c.loop-number.number-index _ b (number_got ns c.loop-number.number-index c.loop-number-test.true) in
    omega (arith, h, more-length c.loop-number.invariant.forms)

pub loop-number-preserved : goal.loop-number-preserved
loop-number-preserved c =
    let ns : List ℕ = c.deref-number-items.result.now in
    let b : AllBelow (length c.add_forms.new.sources.items) ns = subst (λ (ms : List ℕ). AllBelow (length c.add_forms.new.sources.items) ms) (sym c.deref-number-items.ensures.value) c.in_ok-numbers.ensures.below in
    one_taken _ c.loop-number.tops _ ns c.loop-number.number-index _ c.loop-number.invariant b (number_got ns c.loop-number.number-index c.loop-number-test.true) c.in_ok-take.ensures

pub returns-clause-found : goal.returns-clause-found
returns-clause-found c =
    let a : HasAll c.add_forms.new.sources.items c.loop-number.tops _ c.args.forms.now = has_all _ _ _ _ _ c.loop-number.number-index c.args.forms.now c.in_ok-numbers.ensures c.deref-number-items.ensures.value c.loop-number.invariant c.loop-number-test.false in
    compiled_found _ c.loop-number.tops _ _ a.taken a.stand _ (is_finished c.loop-number.tops _ c.finished.ensures.program c.finished.ensures.refused)

pub returns-clause-closed : goal.returns-clause-closed
returns-clause-closed c =
    let a : HasAll c.add_forms.new.sources.items c.loop-number.tops _ c.args.forms.now = has_all _ _ _ _ _ c.loop-number.number-index c.args.forms.now c.in_ok-numbers.ensures c.deref-number-items.ensures.value c.loop-number.invariant c.loop-number-test.false in
    compiled_closed _ c.loop-number.tops _ _ a.taken a.stand _ (is_finished c.loop-number.tops _ c.finished.ensures.program c.finished.ensures.refused)

pub returns-clause-only : goal.returns-clause-only
returns-clause-only c =
    let a : HasAll c.add_forms.new.sources.items c.loop-number.tops _ c.args.forms.now = has_all _ _ _ _ _ c.loop-number.number-index c.args.forms.now c.in_ok-numbers.ensures c.deref-number-items.ensures.value c.loop-number.invariant c.loop-number-test.false in
    compiled_only _ c.loop-number.tops _ _ a.taken a.stand _ (is_finished c.loop-number.tops _ c.finished.ensures.program c.finished.ensures.refused)

pub returns-clause-refused : goal.returns-clause-refused
returns-clause-refused c =
    let a : HasAll c.add_forms.new.sources.items c.loop-number.tops _ c.args.forms.now = has_all _ _ _ _ _ c.loop-number.number-index c.args.forms.now c.in_ok-numbers.ensures c.deref-number-items.ensures.value c.loop-number.invariant c.loop-number-test.false in
    compiled_refused _ c.loop-number.tops _ _ a.taken a.stand _ (is_finished c.loop-number.tops _ c.finished.ensures.program c.finished.ensures.refused)

pub returns-clause-refuses : goal.returns-clause-refuses
returns-clause-refuses c =
    let a : HasAll c.add_forms.new.sources.items c.loop-number.tops _ c.args.forms.now = has_all _ _ _ _ _ c.loop-number.number-index c.args.forms.now c.in_ok-numbers.ensures c.deref-number-items.ensures.value c.loop-number.invariant c.loop-number-test.false in
    compiled_refuses _ c.loop-number.tops _ _ a.taken a.stand _ (is_finished c.loop-number.tops _ c.finished.ensures.program c.finished.ensures.refused)
