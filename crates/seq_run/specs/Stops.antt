-- Why there is nothing to run, by the answer of the reader or of the compiler.
use Rattle.clj_reader.specs.declared.refusal.ReadFormsStop.{ReadFormsStop}
use Rattle.clj_reader.specs.declared.refusal.ReadFormsStop.TheVariants as read
use Rattle.clj_script.specs.declared.refusal.CompileStop.{CompileStop}
use Rattle.clj_script.specs.declared.refusal.CompileStop.TheVariants as compiled
use Rattle.seq_run.specs.declared.script.ScriptStop.{ScriptStop}
use Rattle.seq_run.specs.declared.script.ScriptStop.TheVariants.{Refused, Memory}

abbrev pub of_reader : ReadFormsStop → ScriptStop
of_reader (read.Refused r) = Refused (record { number = r.number; place = r.place })
of_reader read.Memory = Memory

abbrev pub of_compiler : CompileStop → ScriptStop
of_compiler (compiled.Refused r) = Refused (record { number = r.number; place = r.place })
of_compiler compiled.Memory = Memory
