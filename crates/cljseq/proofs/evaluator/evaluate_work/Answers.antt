use Rattle.clj_script.specs.Seen.{seen}
use Rattle.seq_table.specs.Table.{chunk_size}
use Rattle.lawful_table.proofs.Naming.{table_names}
use Rattle.lone_run.specs.Running.{names_of}
use Rattle.cljseq.proofs.evaluator.evaluate_work.Goals as goal

pub force-requires-clause-good : goal.force-requires-clause-good
force-requires-clause-good c = record {
  names = names_of c.args.limits;
  alike = table_names c.args.limits.processors chunk_size (seen c.args.program.now) c.args.limits.steps;
  good = c.requires.good;
}

pub returns-clause-came : goal.returns-clause-came
returns-clause-came c = c.force.ensures.came (names_of c.args.limits) (table_names c.args.limits.processors chunk_size (seen c.args.program.now) c.args.limits.steps) c.requires.good
