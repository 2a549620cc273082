use Rattle.std.proofs.Common.{ap}
use Rattle.clj_script.specs.declared.program.Parts.{Parts}
use Rattle.clj_script.proofs.ProgramLemmas.{seen_given, none_there}
use Rattle.clj_script.proofs.compiler.finished.Goals as goal

pub returns-in-Ok-of-clause-program : goal.returns-in-Ok-of-clause-program
returns-in-Ok-of-clause-program c =
    let h = c.in-Ok-of.ensures.ok in
    (seen_given c.args.tops c.in-Ok-of.parts (ap (λ (p : Parts). p.nodes) h) (ap (λ (p : Parts). p.functions) h) (ap (λ (p : Parts). p.bodies) h) (ap (λ (p : Parts). p.definitions) h) (ap (λ (p : Parts). p.tops) h), none_there _ c.in_default.not-Some)
