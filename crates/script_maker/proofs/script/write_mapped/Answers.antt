use Rattle.std.proofs.Common.{◌/◌, ◌∙◌}
use Rattle.std.specs.Prelude.{codes}
use Rattle.std.specs.String.{string_bytes}
use Rattle.seq_table.specs.Outputs.{decimal}
use Rattle.script_maker.proofs.Steps.{nine_pieces}
use Rattle.script_maker.proofs.script.write_mapped.Goals as goal

pub returns : goal.returns
returns c = c.in_ok-write.ensures.bytes ∙ nine_pieces (string_bytes c.args.text.now) (codes "(def s") (decimal c.args.number) (codes " (map inc (range ") (decimal c.args.size) (codes ")))\n(prn (reduce + (take ") (decimal (c.args.size / 2)) (codes " s") (decimal c.args.number) (codes ")))\n")
