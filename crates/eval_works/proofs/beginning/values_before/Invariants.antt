use Rattle.std.proofs.Common.{◌≡◌, ◌++◌, length}
use Rattle.clj_script.specs.Seen.{seen}
use Rattle.seq_values.specs.Plain.{plains}
use Rattle.seq_meaning.specs.Referred.{referred}
use Rattle.eval_works.specs.Begins.{from_form}
use Rattle.eval_works.proofs.beginning.values_before.Given as goal

abbrev pub invariant-loop-at : goal.invariant-loop-at
invariant-loop-at l = record { few : length l.all.items.items ≡ l.at; joined : plains l.all.items.items ++ from_form l.program l.outcomes l.at ≡ referred (seen l.program).tops (plains l.outcomes) }
