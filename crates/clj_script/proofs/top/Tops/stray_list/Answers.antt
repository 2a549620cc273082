use Rattle.std.proofs.Common.{ap}
use Rattle.clj_script.specs.declared.top.Tops.{Tops}
use Rattle.clj_script.specs.Entries.{form_at}
use Rattle.clj_script.proofs.TopLemmas.{taken_stray_list}
use Rattle.clj_script.proofs.top.Tops.stray_list.Goals as goal

pub returns : goal.returns
returns c = taken_stray_list _ c.refuse.new.self _ _ _ _ c.requires.whole c.refuse.ensures c.in_ok-_unused.ensures (ap (λ (t : Tops). form_at t.sources.items c.args.form) c.refuse.ensures)
