use Rattle.std.proofs.Common.{sym, subst}
use Rattle.seq_values.specs.Model as M
use Rattle.seq_values.specs.Plain.{plains}
use Rattle.core_rules.specs.Opening.{IsOpening}
use Rattle.core_rules.proofs.opening.opens_target.Goals as goal

pub returns-in-Builtin : goal.returns-in-Builtin
returns-in-Builtin c =
    let bound = M.values (plains c.args.items.items) in
    subst (IsOpening (M.function c.args.target bound)) (sym c.without-in-Builtin.ensures) (subst (λ t. IsOpening (M.function t bound) c.opens_word.result) (sym c.in-Builtin.is) (c.opens_word.ensures bound))
