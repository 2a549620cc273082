use Rattle.std.proofs.Common.{◌≡◌, ◌∙◌, Bool, true, false, ap}
use Rattle.std.specs.Prelude.{is_some, if◌then◌else◌}
use Rattle.std.specs.Str.{bytes_eq}
use Rattle.std.specs.List.{list_any}
use Rattle.clj_script.proofs.LookLemmas.{found_any}
use Rattle.clj_script.proofs.machine.Machine.is_no_parameter.Goals as goal

chosen : (b c d : Bool) → false ≡ b → c ≡ d → c ≡ (if b then true else d)
chosen true c d e f = absurd (cc)
chosen false c d e f = f

pub returns : goal.returns
returns c =
    chosen _ _ _ c.if-is_unbindable.ensures
    (c.is_some.ensures ∙ ap is_some c.find.ensures ∙ found_any c.args.self.now.locals c.bound_name.result.now ∙ ap (λ text. list_any (λ name. bytes_eq name text) c.args.self.now.locals) c.bound_name.ensures)
