use Rattle.std.proofs.Common.{refl}
use Rattle.clj_script.proofs.TopLemmas.{taken_prn}
use Rattle.clj_script.proofs.top.Tops.prn.Goals as goal

pub returns : goal.returns
returns c = λ s. taken_prn _ c.expression.new.self _ s _ _ c.requires.whole c.in_ok-expr.ensures (record { machine = refl; forms = refl; definitions = refl; functions = refl; tops = c.in_ok-push.ensures.items })
