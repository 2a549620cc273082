use Rattle.lawful_output.proofs.Ended.{values_stand}
use Rattle.lawful_output.proofs.law_values_stand.Goals as goal

pub returns : goal.returns
returns c = λ a b rest r i h. values_stand a b rest r i h
