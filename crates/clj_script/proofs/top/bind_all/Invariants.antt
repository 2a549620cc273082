use Rattle.std.proofs.Common.{map, take}
use Rattle.clj_script.specs.Entries.{form_at}
use Rattle.clj_script.specs.Tops.{HasNames}
use Rattle.clj_script.proofs.top.bind_all.Given as goal

abbrev pub invariant-loop-name : goal.invariant-loop-name
invariant-loop-name l = HasNames l.fn.machine l.machine (map (form_at l.sources) (take l.name-index l.names))
