use Rattle.std.proofs.Common.{◌∙◌, ap, rules}
use Rattle.clj_script.specs.Names.{defined}
use Rattle.clj_script.proofs.NameLemmas.{defined_more}
use Rattle.clj_script.proofs.definitions.define.Goals as goal

pub returns : goal.returns
returns c = (
  c.in_ok-number.ensures ∙ search rules,
  ap defined c.in_ok-insert.ensures.entries ∙ rw (← c.in_ok-from_slice.ensures.items) (defined_more c.args.definitions.now.entries c.in_ok-from_slice.field-0 c.args.meaning (rw c.in_ok-from_slice.ensures.items c.requires)),
)
