use Rattle.std.proofs.Common.{◌∙◌}
use Rattle.clj_script.proofs.NameLemmas.{defined_lookup}
use Rattle.clj_script.proofs.definitions.definition.Goals as goal

pub returns : goal.returns
returns c = c.copied.ensures ∙ c.get.ensures.value ∙ defined_lookup c.args.definitions.now.entries c.args.name.now
