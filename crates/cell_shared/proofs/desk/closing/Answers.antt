use Rattle.std.proofs.Common.{ℕ, ap, ◌∙◌}
use Rattle.cell_shared.specs.Growing.{counted}
use Rattle.cell_shared.specs.Known.{without}
use Rattle.cell_shared.proofs.Viewing.{without_one}
use Rattle.cell_shared.proofs.desk.closing.Goals as goal

pub returns : goal.returns
returns c = λ claims x h. ap (λ (n : ℕ). counted (without n claims) x) c.claim.ensures ∙ without_one c.args.work.now.claim claims x h
