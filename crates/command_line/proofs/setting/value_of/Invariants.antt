use Rattle.std.proofs.Common.{◌≡◌, ◌<◌, ◌^◌, drop}
use Rattle.command_line.specs.Settings.{value_from}
use Rattle.command_line.proofs.setting.value_of.Given as goal

abbrev pub invariant-loop-byte : goal.invariant-loop-byte
invariant-loop-byte l = record { so_far : value_from 0 l.text ≡ value_from l.value (drop l.byte-index l.text); small : l.value < 10 ^ l.byte-index }
