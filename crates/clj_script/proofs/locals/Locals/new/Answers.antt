use Rattle.clj_script.proofs.LocalLemmas.{kept_none}
use Rattle.clj_script.proofs.locals.Locals.new.Goals as goal

pub invariant_of-result : goal.invariant_of-result
invariant_of-result c = kept_none _ _ c.new.ensures.items c.new-2.ensures.empty
