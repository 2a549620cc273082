use Rattle.std.proofs.Common.{suc, sym, subst}
use Rattle.clj_script.specs.Seen.{seen}
use Rattle.seq_table.specs.Outputs.{Line as IsLine}
use Rattle.lone_run.specs.Running.{names_of}
use Rattle.lone_run.proofs.Lines.{answers_line, def_has_line, defn_has_line, ledger_has_line, prn_has_line, prn_is_text, walks_end}
use Rattle.lone_run.proofs.line.line_of.Goals as goal

pub prn_line-requires : goal.prn_line-requires
prn_line-requires c =
    let r = c.requires.ready in
    prn_is_text (seen c.args.program.now) r.0 c.args.before c.args.book.now c.args.given.now c.args.defined.now r.1 _ c.in-Prn.ensures

pub ledger_line-requires : goal.ledger_line-requires
ledger_line-requires c =
    let r = c.requires.ready in
    record { ends = walks_end (seen c.args.program.now) r.0 c.args.before c.args.book.now c.args.given.now c.args.defined.now r.1 }

pub returns-in-Def-clause-line : goal.returns-in-Def-clause-line
returns-in-Def-clause-line c = λ limits h. answers_line (λ x. IsLine (names_of limits) (seen c.args.program.now) limits.steps (suc c.args.before) x) c.def_line.result _ c.def_line.ensures (def_has_line (seen c.args.program.now) limits c.args.before c.args.book.now c.args.given.now c.args.defined.now h _ _ c.in-Def.ensures)

pub returns-in-Defn-clause-line : goal.returns-in-Defn-clause-line
returns-in-Defn-clause-line c = λ limits h. defn_has_line (seen c.args.program.now) limits c.args.before c.args.book.now c.args.given.now c.args.defined.now h c.in-Defn.ensures

pub returns-in_ok-line-in-Prn-clause-line : goal.returns-in_ok-line-in-Prn-clause-line
returns-in_ok-line-in-Prn-clause-line c = λ limits h. subst (λ x. IsLine (names_of limits) (seen c.args.program.now) limits.steps (suc c.args.before) x) (sym c.in_ok-line-in-Prn.ensures) (prn_has_line (seen c.args.program.now) limits c.args.before c.args.book.now c.args.given.now c.args.defined.now h _ c.in-Prn.ensures)

pub returns-in_ok-line-in-Ledger-clause-line : goal.returns-in_ok-line-in-Ledger-clause-line
returns-in_ok-line-in-Ledger-clause-line c = λ limits h. ledger_has_line (seen c.args.program.now) limits c.args.before c.args.book.now c.args.given.now c.args.defined.now h c.in-Ledger.ensures c.in_ok-line-in-Ledger.line c.in_ok-line-in-Ledger.ensures.text
