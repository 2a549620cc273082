use Rattle.std.proofs.Common.{◌≡◌, ℕ, refl, sym, subst, true, arith, Option}
use Rattle.clj_script.specs.declared.definitions.Meaning.TheVariants.{Form}
use Rattle.clj_script.specs.Entries.{form_at}
use Rattle.clj_script.specs.Readings.{is_symbol}
use Rattle.clj_script.specs.Sources.{Source}
use Rattle.clj_script.specs.Tops.{HasDefined}
use Rattle.clj_script.proofs.KeptLemmas.{form_stays}
use Rattle.clj_script.proofs.DefineLemmas.{taken_def, taken_def_refused}
use Rattle.clj_script.proofs.top.Tops.def.Goals as goal

pub defined-requires-clause-symbol : goal.defined-requires-clause-symbol
defined-requires-clause-symbol c = subst (λ (s : Source). is_symbol s ≡ true) (sym (form_stays _ _ _ c.in_ok-expr.ensures.compiled.forms c.requires.name_below)) c.requires.symbol

pub returns-in_ok-push : goal.returns-in_ok-push
returns-in_ok-push c = λ s.
    taken_def _ c.expression.new.self c.defined.new.self _ s _ _ _ _ _ _ c.requires.whole c.in_ok-expr.ensures (omega arith)
    (subst (λ (o : Option ℕ). HasDefined c.expression.new.self c.defined.new.self (form_at c.expression.new.self.sources.items c.args.name) (Form c.in_ok-form.form) o) c.in-Some.is c.in_ok-name.ensures)
    (form_stays _ _ _ c.in_ok-expr.ensures.compiled.forms c.requires.name_below)
    (record { machine = refl; forms = refl; definitions = refl; functions = refl; tops = c.in_ok-push.ensures.items })

pub returns-in_default : goal.returns-in_default
returns-in_default c = λ s.
    taken_def_refused _ c.expression.new.self _ s _ _ _ _ _ c.requires.whole c.in_ok-expr.ensures
    (subst (λ (o : Option ℕ). HasDefined c.expression.new.self c.defined.new.self (form_at c.expression.new.self.sources.items c.args.name) (Form c.in_ok-form.form) o) c.in_default.is c.in_ok-name.ensures)
    (form_stays _ _ _ c.in_ok-expr.ensures.compiled.forms c.requires.name_below)
