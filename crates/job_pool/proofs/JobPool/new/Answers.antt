use Rattle.job_pool.proofs.Keeps.{starts}
use Rattle.job_pool.proofs.JobPool.new.Goals as goal

pub with_rule-requires : goal.with_rule-requires
with_rule-requires c = starts
