use Rattle.std.proofs.Common.{◌==◌, ◌∙◌, sym, rules, tests}
use Rattle.std.proofs.lemmas.Iterator.{YieldsList-from_slice}
use Rattle.std.proofs.lemmas.Iterator.Search.{any_from_yields_List}
use Rattle.clj_script.specs.declared.program.Body.{Body}
use Rattle.clj_script.proofs.TopLemmas.{any_mapped}
use Rattle.clj_script.proofs.top.is_among.Goals as goal

pub returns : goal.returns
returns c =
    any_from_yields_List (λ (b : Body). b.parameters == c.args.parameters) _ _ _ c.any.ensures.ran (YieldsList-from_slice c.args.bodies.now cc) (λ x b q k. search (rules, tests))
    ∙ sym (any_mapped (λ n. n == c.args.parameters) (λ (b : Body). b.parameters) c.args.bodies.now)
