use Rattle.std.proofs.Common.{sym, ◌∙◌, subst, rules}
use Rattle.clj_script.specs.Locals.{IsKept}
use Rattle.clj_script.proofs.LocalLemmas.{kept_bound}
use Rattle.clj_script.proofs.locals.Locals.bind.Goals as goal

pub invariant_of-self-in-Ok : goal.invariant_of-self-in-Ok
invariant_of-self-in-Ok c =
    subst (λ ls. IsKept ls c.insert.new.self) (sym c.in_ok-push.ensures.items)
    (kept_bound _ _ _ _ _ _ c.self.invariant c.in-Ok.ensures.updates (search rules) (c.in_ok-key.ensures.items ∙ sym c.in_ok-name.ensures.items) (rw c.in_ok-name.ensures.items (search rules)))
