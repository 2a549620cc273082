-- How many stages a transducer may have.
use Rattle.std.proofs.Common.{◌≡◌, ℕ, ◌≤◌, ◌<◌, nat_le, Bool, true, false, cond, length, ap, ◌∙◌, arith}
use Rattle.std.proofs.lemmas.Bool.Decides.{nat_tests}
use Rattle.seq_base.specs.declared.thrown.Thrown.TheVariants.{Overflow, BadType}
use Rattle.seq_plan.specs.Plan.{Plan, throw}
use Rattle.seq_plan.specs.Nodes.{longest, with_members}
use Rattle.seq_plan.specs.Stages.{stages_of}
use Rattle.stage_rows.specs.Laws.{StagesAreLimited}

within : (n : ℕ) → n ≤ longest → nat_le n longest ≡ true
within n h = grind (arith, nat_tests)

over : (n : ℕ) → longest < n → nat_le n longest ≡ false
over n h = grind (arith, nat_tests)

pub limited : StagesAreLimited
limited xf k =
    let of : Bool → Plan ℕ = λ b. cond b (with_members (stages_of xf) k) (throw BadType) in
    let counted : Bool → Plan ℕ = λ b. cond b (k (stages_of xf)) (throw Overflow) in
    (λ h. ap of h, λ h g. ap of h ∙ ap counted (over (length (stages_of xf)) g), λ h g. ap of h ∙ ap counted (within (length (stages_of xf)) g))
