-- What the program answers where it is asked to make and run the script that is made from 1.
use Rattle.std.proofs.Common.{refl}
use Rattle.std.specs.Fmt.{digits}
use Rattle.seq_table.specs.Answers.{script_made}
use Rattle.seq_table.specs.Written.{MadeScriptAnswered}
use Rattle.seq_table.proofs.WrittenMadeScript.{made_script_is_written}

pub made_script_answered : MadeScriptAnswered
unfolding digits
made_script_answered reads refuses script limit cells h g q = script_made {n = 1} refl q (made_script_is_written limit cells h g)
