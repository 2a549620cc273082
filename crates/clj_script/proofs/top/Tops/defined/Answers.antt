use Rattle.std.proofs.Common.{sym}
use Rattle.clj_script.proofs.TopLemmas.{not_taken}
use Rattle.clj_script.proofs.top.Tops.defined.Goals as goal

pub define-requires : goal.define-requires
define-requires c = not_taken _ c.in-Some.text.now (sym c.if-is_taken.ensures)
