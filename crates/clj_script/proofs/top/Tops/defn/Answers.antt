use Rattle.std.proofs.Common.{refl, ap, List, map, sym, arith}
use Rattle.clj_script.specs.declared.source.Entry.{Entry}
use Rattle.clj_script.specs.Reads.{clause_at}
use Rattle.clj_script.proofs.DefineLemmas.{taken_defn_new, taken_defn_old}
use Rattle.clj_script.proofs.top.Tops.defn.Goals as goal

pub returns-in_ok-push-2 : goal.returns-in_ok-push-2
returns-in_ok-push-2 c = λ s.
    taken_defn_new _ c.defined.new.self c.bodies.new.self _ s _ _ c.in_ok-known.known _ _ _ c.requires.whole (omega arith) c.in_ok-known.ensures (sym c.if-is_some.ensures) c.in_ok-bodies.ensures
    (ap (λ (es : List Entry). map (clause_at es) c.args.clauses.now) c.in_ok-known.ensures.trees.forms)
    (record { machine = refl; forms = refl; definitions = refl; functions = c.in_ok-push.ensures.items; tops = c.in_ok-push-2.ensures.items })

pub returns-else-is_some : goal.returns-else-is_some
returns-else-is_some c = λ s.
    taken_defn_old _ c.defined.new.self _ s _ _ c.in_ok-known.known _ _ _ c.requires.whole (omega arith) c.in_ok-known.ensures (sym c.if-is_some.ensures) c.in_ok-bodies.ensures
    (ap (λ (es : List Entry). map (clause_at es) c.args.clauses.now) c.in_ok-known.ensures.trees.forms)
