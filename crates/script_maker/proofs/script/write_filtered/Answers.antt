use Rattle.std.proofs.Common.{◌∙◌}
use Rattle.std.specs.Prelude.{codes}
use Rattle.std.specs.String.{string_bytes}
use Rattle.seq_table.specs.Outputs.{decimal}
use Rattle.script_maker.proofs.Steps.{seven_pieces}
use Rattle.script_maker.proofs.script.write_filtered.Goals as goal

pub returns : goal.returns
returns c = c.in_ok-write.ensures.bytes ∙ seven_pieces (string_bytes c.args.text.now) (codes "(def s") (decimal c.args.number) (codes " (filter even? (map inc (range ") (decimal c.args.size) (codes "))))\n(prn (count s") (decimal c.args.number) (codes "))\n")
