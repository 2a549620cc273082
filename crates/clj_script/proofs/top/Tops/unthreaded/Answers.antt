use Rattle.std.proofs.Common.{◌≡◌, ℕ, ◌∙◌, refl, sym, subst, List, map, false, drop}
use Rattle.std.specs.Prelude.{slice_index_or}
use Rattle.clj_script.specs.declared.source.Entry.{Entry}
use Rattle.clj_script.specs.Entries.{form_at}
use Rattle.clj_script.specs.Reads.{is_threading}
use Rattle.clj_script.specs.Scripts.{top_reading}
use Rattle.clj_script.proofs.StandingLemmas.{Threads, threads, has_written, plain_form, plain_short, plain_list, no_items, rest_taken}
use Rattle.clj_script.proofs.top.Tops.unthreaded.Goals as goal

pub returns-in_default : goal.returns-in_default
returns-in_default c = (refl, subst (λ (es : List Entry). is_threading (top_reading (form_at es c.args.form)) ≡ false) c.as_slice-sources.ensures.value (plain_form _ (no_items _ _ _ c.list.ensures c.in_default.is)))

pub returns-in_default-items : goal.returns-in_default-items
returns-in_default-items c = (refl, subst (λ (es : List Entry). is_threading (top_reading (form_at es c.args.form)) ≡ false) c.as_slice-sources.ensures.value (plain_short _ (form_at c.as_slice-sources.result.now) c.in-Some.items.now c.in-Some.ensures.0 c.in_default-items.len_below))

pub returns-in_default-threading : goal.returns-in_default-threading
returns-in_default-threading c = (refl, subst (λ (es : List Entry). is_threading (top_reading (form_at es c.args.form)) ≡ false) c.as_slice-sources.ensures.value (plain_list _ (form_at c.as_slice-sources.result.now) c.in-Some.items.now c.in-Some.ensures.0 c.in-len2-up.len_at_least (sym c.threading.ensures ∙ c.in_default-threading.is)))

pub returns : goal.returns
returns c =
    let es : List Entry = c.args.self.now.sources.items in
    let ns : List ℕ = c.in-Some.items.now in
    let t : Threads _ c.in-Some-threading.way _ _ = threads (form_at c.as_slice-sources.result.now c.args.form) (form_at c.as_slice-sources.result.now) ns c.in-Some-threading.way c.in-Some.ensures.0 c.in-len2-up.len_at_least (sym c.threading.ensures ∙ c.in-Some-threading.is) in
    let u : Threads (form_at es c.args.form) c.in-Some-threading.way (form_at es (slice_index_or ns 1 0)) (map (form_at es) (drop 2 ns)) =
    subst (λ (fs : List Entry). Threads (form_at fs c.args.form) c.in-Some-threading.way (form_at fs (slice_index_or ns 1 0)) (map (form_at fs) (drop 2 ns))) c.as_slice-sources.ensures.value t in
    let v : Threads (form_at es c.args.form) c.in-Some-threading.way (form_at es (slice_index_or ns 1 0)) (map (form_at es) c.as_slice.result.now) =
    subst (λ (ms : List ℕ). Threads (form_at es c.args.form) c.in-Some-threading.way (form_at es (slice_index_or ns 1 0)) (map (form_at es) ms)) (sym (c.as_slice.ensures.value ∙ c.in_ok-steps.ensures.items ∙ rest_taken ns)) u in
    has_written _ _ _ _ _ _ _ c.requires.whole v c.in_ok-written.ensures.added refl refl refl refl c.in_ok-written.ensures.refused
