use Rattle.clj_script.proofs.EntryLemmas.{read_entry, read_parts, item_got}
use Rattle.clj_script.proofs.source.entry_at.Goals as goal

pub returns-clause-reads : goal.returns-clause-reads
returns-clause-reads c = read_entry _ _ _ c.requires.lower (item_got _ _ _ c.requires.below c.index-sources-number.is)

pub returns-clause-parts : goal.returns-clause-parts
returns-clause-parts c = read_parts _ c.args.number _ c.requires.lower (item_got _ _ _ c.requires.below c.index-sources-number.is)
