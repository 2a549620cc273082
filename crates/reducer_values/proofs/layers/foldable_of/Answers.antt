use Rattle.std.proofs.Common.{ap, sym, ◌∙◌}
use Rattle.seq_values.specs.Model as M
use Rattle.seq_values.specs.Plain.{plains}
use Rattle.reducer_values.proofs.Peeling.{is_foldable, goes_on}
use Rattle.reducer_values.proofs.layers.foldable_of.Goals as goal

pub returns-in-Items : goal.returns-in-Items
returns-in-Items c = is_foldable c.args.value.now.value c.loop-outer.here.value c.loop-outer.outer.items.items c.in_ok-all-in-Items.all c.loop-outer.invariant ((rw c.in-Items.is at c.in_ok-layer_of.ensures) ∙ ap (λ xs. M.vector (M.values (plains xs))) (sym c.in_ok-all-in-Items.ensures.items)) c.in_ok-all-in-Items.ensures.stages c.in_ok-all-in-Items.ensures.long

pub loop-outer-preserved : goal.loop-outer-preserved
loop-outer-preserved c = goes_on c.args.value.now.value c.loop-outer.here.value c.in-Stage.stage.value c.in-Stage.inner.value c.loop-outer.outer.items.items c.in_ok-outer-in-Stage.outer.items.items c.loop-outer.invariant (rw c.in-Stage.is at c.in_ok-layer_of.ensures) c.in_ok-outer-in-Stage.ensures.same
