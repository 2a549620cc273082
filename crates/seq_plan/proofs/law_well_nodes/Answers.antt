use Rattle.seq_plan.proofs.WellNodes.{well-first_of, well-rest_of, chunk_well, found_well}
use Rattle.seq_plan.proofs.law_well_nodes.Goals as goal

pub returns : goal.returns
returns c = λ v h. (well-first_of h, well-rest_of h, λ size xs r e. chunk_well size h e, λ s e. (found_well h e).0)
