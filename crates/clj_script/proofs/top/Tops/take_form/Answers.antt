use Rattle.std.proofs.Common.{◌≡◌, ℕ, ◌<◌, true, List, map, length, sym, subst}
use Rattle.std.specs.Prelude.{slice_index_or}
use Rattle.clj_script.specs.declared.reading.Clause.{Clause}
use Rattle.clj_script.specs.declared.source.Entry.{Entry}
use Rattle.clj_script.specs.declared.top_form.TopForm.TheVariants.{Stray, StrayList, Wrong, Def, Defn, Prn, Ledger}
use Rattle.clj_script.specs.Entries.{form_at}
use Rattle.clj_script.specs.Reads.{clause_at}
use Rattle.clj_script.specs.Readings.{is_vector}
use Rattle.clj_script.specs.Scripts.{top_reading, defn_of}
use Rattle.clj_script.proofs.ProperLemmas.{proper_read, each_vector, read_as}
use Rattle.clj_script.proofs.TaskLemmas.{on_ok}
use Rattle.clj_script.proofs.TopLemmas.{taken, taken_stray, taken_wrong}
use Rattle.clj_script.proofs.top.Tops.take_form.Goals as goal

pub def-requires-clause-symbol : goal.def-requires-clause-symbol
def-requires-clause-symbol c = proper_read _ _ (read_as _ c.args.self.now.sources.items _ (Def c.in-Def.name c.in-Def.value) c.args.form c.in_ok-top_form.ensures.read c.as_slice.ensures.value c.in-Def.is)

pub defn-requires-clause-symbol : goal.defn-requires-clause-symbol
defn-requires-clause-symbol c =
    let p = proper_read _ _ (read_as _ c.args.self.now.sources.items _ (Defn c.in-Defn.name c.in-Defn.clauses) c.args.form c.in_ok-top_form.ensures.read c.as_slice.ensures.value c.in-Defn.is) in
    p.0

pub defn-requires-clause-vectors : goal.defn-requires-clause-vectors
defn-requires-clause-vectors c =
    let p = proper_read _ _ (read_as _ c.args.self.now.sources.items _ (Defn c.in-Defn.name c.in-Defn.clauses) c.args.form c.in_ok-top_form.ensures.read c.as_slice.ensures.value c.in-Defn.is) in
    subst (λ (cs : List Clause). (k : ℕ) (d : Clause) → k < length cs → is_vector (form_at c.args.self.now.sources.items (slice_index_or cs k d).parameters) ≡ true) (sym c.as_slice-in-Defn.ensures.value) (each_vector c.args.self.now.sources.items c.in-Defn.clauses.items p.1)

pub returns-in-Stray : goal.returns-in-Stray
returns-in-Stray c = taken _ _ _ _ (taken_stray _ _ _ c.requires.whole c.refuse.ensures) (read_as _ c.args.self.now.sources.items _ Stray c.args.form c.in_ok-top_form.ensures.read c.as_slice.ensures.value c.in-Stray.is)

pub returns-in-StrayList : goal.returns-in-StrayList
returns-in-StrayList c = on_ok _ (λ t. taken _ _ _ _ t (read_as _ c.args.self.now.sources.items _ StrayList c.args.form c.in_ok-top_form.ensures.read c.as_slice.ensures.value c.in-StrayList.is)) c.stray_list.ensures

pub returns-in-Wrong : goal.returns-in-Wrong
returns-in-Wrong c = taken _ _ _ _ (taken_wrong _ _ _ c.requires.whole c.refuse-in-Wrong.ensures) (read_as _ c.args.self.now.sources.items _ Wrong c.args.form c.in_ok-top_form.ensures.read c.as_slice.ensures.value c.in-Wrong.is)

pub returns-in-Def : goal.returns-in-Def
returns-in-Def c = on_ok _ (λ t. taken _ _ _ _ (t _) (read_as _ c.args.self.now.sources.items _ (Def c.in-Def.name c.in-Def.value) c.args.form c.in_ok-top_form.ensures.read c.as_slice.ensures.value c.in-Def.is)) c.def.ensures

pub returns-in-Defn : goal.returns-in-Defn
returns-in-Defn c =
    let es : List Entry = c.args.self.now.sources.items in
    on_ok _ (λ t. taken _ _ _ _ (t _)
    (subst (λ (cs : List Clause). defn_of (form_at es c.in-Defn.name) (map (clause_at es) cs) ≡ top_reading (form_at es c.args.form)) (sym c.as_slice-in-Defn.ensures.value)
    (read_as _ es _ (Defn c.in-Defn.name c.in-Defn.clauses) c.args.form c.in_ok-top_form.ensures.read c.as_slice.ensures.value c.in-Defn.is))) c.defn.ensures

pub returns-in-Prn : goal.returns-in-Prn
returns-in-Prn c = on_ok _ (λ t. taken _ _ _ _ (t _) (read_as _ c.args.self.now.sources.items _ (Prn c.in-Prn.value) c.args.form c.in_ok-top_form.ensures.read c.as_slice.ensures.value c.in-Prn.is)) c.prn.ensures

pub returns-in-Ledger : goal.returns-in-Ledger
returns-in-Ledger c = on_ok _ (λ t. taken _ _ _ _ (t _) (read_as _ c.args.self.now.sources.items _ Ledger c.args.form c.in_ok-top_form.ensures.read c.as_slice.ensures.value c.in-Ledger.is)) c.ledger.ensures
