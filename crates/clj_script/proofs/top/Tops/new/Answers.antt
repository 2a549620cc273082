use Rattle.clj_script.proofs.TopLemmas.{whole_nothing}
use Rattle.clj_script.proofs.top.Tops.new.Goals as goal

pub returns-clause-whole : goal.returns-clause-whole
returns-clause-whole c = whole_nothing _ c.new-2.ensures.sound c.new-2.ensures.idle c.new-2.ensures.locals c.new.ensures.items c.new-4.ensures.items c.new-5.ensures.items
