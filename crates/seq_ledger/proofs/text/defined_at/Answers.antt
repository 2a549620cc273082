use Rattle.std.proofs.Common.{◌≡◌, Some, ap, ◌∙◌}
use Rattle.clj_script.specs.Seen.{seen, trees}
use Rattle.clj_script.specs.declared.program.Top.TheVariants as T
use Rattle.seq_ledger.proofs.Defining.{defines_defn, defines_prn, defines_ledger}
use Rattle.seq_ledger.proofs.text.defined_at.Goals as goal

pub returns-in-Some-Defn : goal.returns-in-Some-Defn
returns-in-Some-Defn c =
    let e : c.top.result ≡ Some T.Defn = c.in-Some-Defn.is ∙ ap Some c.in-Some-Defn.field-0-is in
    defines_defn (trees c.args.program.now) (seen c.args.program.now).tops c.args.before c.top.result e c.top.ensures.form

pub returns-in-Some-Prn : goal.returns-in-Some-Prn
returns-in-Some-Prn c =
    let e : c.top.result ≡ Some (T.Prn c.in-Some-Prn.field-0-0) = c.in-Some-Prn.is ∙ ap Some c.in-Some-Prn.field-0-is in
    defines_prn (trees c.args.program.now) (seen c.args.program.now).tops c.args.before c.in-Some-Prn.field-0-0 c.top.result e c.top.ensures.form

pub returns-in-Some-Ledger : goal.returns-in-Some-Ledger
returns-in-Some-Ledger c =
    let e : c.top.result ≡ Some T.Ledger = c.in-Some-Ledger.is ∙ ap Some c.in-Some-Ledger.field-0-is in
    defines_ledger (trees c.args.program.now) (seen c.args.program.now).tops c.args.before c.top.result e c.top.ensures.form
