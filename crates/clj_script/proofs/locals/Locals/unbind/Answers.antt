use Rattle.std.proofs.Common.{◌∙◌, subst, rules}
use Rattle.clj_script.specs.Locals.{IsKept}
use Rattle.clj_script.proofs.LocalLemmas.{kept_freed, has_name, names_taken, not_none}
use Rattle.clj_script.proofs.locals.Locals.unbind.Goals as goal

pub invariant_of-self-in_default-shadowed : goal.invariant_of-self-in_default-shadowed
invariant_of-self-in_default-shadowed c =
    kept_freed _ c.in-Some.field-0 _ _ _ _ (subst (λ xs. IsKept xs c.self.inside.innermost) c.in-Some.ensures.items c.self.invariant) c.remove.ensures.updates (search rules) (search rules)

pub returns-in_default-shadowed : goal.returns-in_default-shadowed
returns-in_default-shadowed c = names_taken _ _ _ c.in-Some.ensures.items ∙ search rules

pub unreachable-requires : goal.unreachable-requires
unreachable-requires c =
    not_none (has_name _ c.in-Some.field-0 _ (subst (λ xs. IsKept xs c.self.inside.innermost) c.in-Some.ensures.items c.self.invariant)) c.in-Err.ensures.absent

pub invariant_of-self-2 : goal.invariant_of-self-2
invariant_of-self-2 c =
    kept_freed _ c.in-Some.field-0 _ _ _ _ (subst (λ xs. IsKept xs c.self.inside.innermost) c.in-Some.ensures.items c.self.invariant) c.in-Ok.ensures.updates (search rules) (search rules)

pub returns : goal.returns
returns c = names_taken _ _ _ c.in-Some.ensures.items ∙ search rules
