use Rattle.std.proofs.Common.{◌∙◌, sym, ap}
use Rattle.clj_script.specs.Scripts.{program_of}
use Rattle.clj_script.proofs.UniqueLemmas.{one_judged_tops}
use Rattle.clj_script.proofs.laws.one_meaning.Goals as goal

pub returns : goal.returns
returns c forms p q rs ss m n =
    let s = one_judged_tops m.judged n.judged in
    (m.shown ∙ ap program_of s.given ∙ sym n.shown, s.refused)
