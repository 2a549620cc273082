use Rattle.std.proofs.Common.{ap, sym, ◌∙◌, map}
use Rattle.seq_values.specs.Plain.{plain}
use Rattle.lazy_rules.proofs.Taking.{ok_same}
use Rattle.lazy_rules.proofs.MapAllTurns.{ends_with_nil, calls_with_all, firsts_are}
use Rattle.lazy_rules.specs.Left.{seens}
use Rattle.lazy_rules.specs.Arguments.{is_any_nil}
use Rattle.seq_plan.specs.Nodes.{first_of}
use Rattle.lazy_rules.proofs.mapping_all.calls_all.Goals as goal

pub returns-then-is_any_nil : goal.returns-then-is_any_nil
returns-then-is_any_nil c = ends_with_nil (plain c.args.function.value) (seens c.args.seqs.items) c.gives_nil.result (sym (ap (λ l. is_any_nil (seens l)) c.as_slice.ensures.value) ∙ sym c.is_any_nil.ensures ∙ c.if-is_any_nil.true) c.gives_nil.ensures

pub returns : goal.returns
returns c = ok_same c.call_all.result (calls_with_all (plain c.args.function.value) (seens c.args.seqs.items) _ (sym (ap (λ l. is_any_nil (seens l)) c.as_slice.ensures.value) ∙ sym c.is_any_nil.ensures ∙ c.if-is_any_nil.false) (firsts_are (plain c.args.function.value) _ _ _ (c.in_ok-firsts.ensures ∙ ap (λ l. map first_of (seens l)) c.as_slice-2.ensures.value))) c.call_all.ensures
