use Rattle.std.proofs.Common.{◌≡◌, ℕ, ◌==◌, Bool, List, refl, ap, ◌∙◌}
use Rattle.std.specs.List.{list_any}
use Rattle.clj_reader.specs.declared.place.Place.{Place}
use Rattle.clj_script.specs.declared.source.Entry.{Entry}
use Rattle.clj_script.specs.Entries.{form_at}
use Rattle.clj_script.specs.Refusals.{earliest}
use Rattle.clj_script.specs.Sources.{Source, place_of}
use Rattle.clj_script.specs.Tops.{counts_of, refused_at}
use Rattle.clj_script.proofs.KeptLemmas.{form_stays, more_same, more_both}
use Rattle.clj_script.proofs.BodyLemmas.{has_body}
use Rattle.clj_script.proofs.top.Tops.body.Goals as goal

pub returns : goal.returns
returns c =
    let old = c.args.self.now in
    let p = c.bind_parameters.new.self in
    let m = c.expression.new.self in
    let counts : List ℕ = counts_of c.args.bodies.now in
    let whole : ℕ = c.args.clause.now.whole in
    let place : c.place_at-place.result ≡ place_of (form_at old.sources.items whole) =
    c.place_at-place.ensures ∙ ap (λ (es : List Entry). place_of (form_at es whole)) c.as_slice.ensures.value
    ∙ ap (λ (s : Source). place_of s) (form_stays old.sources.items m.sources.items whole (more_both (more_same c.in_ok-count.ensures.trees.forms) c.in_ok-expr.ensures.compiled.forms) c.requires.below.0) in
    let among : c.is_among.result ≡ list_any (λ (j : ℕ). j == c.in_ok-count.count) counts =
    c.is_among.ensures ∙ ap (λ (k : ℕ). list_any (λ (j : ℕ). j == k) counts) c.in_ok-parameters.ensures in
    has_body old p m _ counts _ _ _ _ _ c.requires.whole c.in_ok-count.ensures c.in_ok-expr.ensures
    (ap (λ (es : List Entry). form_at es c.args.clause.now.body) c.in_ok-count.ensures.trees.forms)
    c.in_ok-parameters.ensures
    refl
    (record { forms = refl; nodes = refl; bodies = refl; values = refl; tasks = refl })
    (record { definitions = refl; functions = refl; tops = refl })
    c.unbind.ensures
    (c.refuse_if.ensures ∙ ap (λ (b : Bool). earliest m.machine.least.found (refused_at b c.place_at-place.result)) among ∙ ap (λ (q : Place). earliest m.machine.least.found (refused_at (list_any (λ (j : ℕ). j == c.in_ok-count.count) counts) q)) place)
