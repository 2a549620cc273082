use Rattle.std.proofs.Common.{refl}
use Rattle.clj_script.proofs.TopLemmas.{taken_ledger}
use Rattle.clj_script.proofs.top.Tops.ledger.Goals as goal

pub returns : goal.returns
returns c = λ s. taken_ledger _ _ s c.requires.whole (record { machine = refl; forms = refl; definitions = refl; functions = refl; tops = c.in_ok-push.ensures.items })
