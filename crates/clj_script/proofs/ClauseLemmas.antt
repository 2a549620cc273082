-- The clauses of a function, as a loop reads them.
use Rattle.std.proofs.Common.{◌≡◌, ℕ, ◌+◌, ◌<◌, ◌≤◌, List, [], ◌∷◌, ◌++◌, length, map, drop, slice_index_or, Option, Some, None, refl, sym, ◌∙◌, ap, append-nil, append_assoc, add-one, drop-cons}
use Rattle.std.proofs.lemmas.List.{drop_all}
use Rattle.clj_script.specs.declared.source.Entry.{Entry}
use Rattle.clj_script.specs.declared.reading.Clause.{Clause}
use Rattle.clj_script.specs.Arena.{AllBelow}
use Rattle.clj_script.specs.Entries.{form_at}
use Rattle.clj_script.specs.Readings.{clause_of_list, clauses_of_lists, and_all}
use Rattle.clj_script.specs.Readings as spec
use Rattle.clj_script.specs.Reads.{clause_at, numbers_of_clause, numbers_of_clauses}
use Rattle.clj_script.proofs.EntryLemmas.{map-one}
use Rattle.clj_script.proofs.PairLemmas.{behind, behind_none}

pub behind_clause : (cs : List spec.Clause) (c : spec.Clause) (o : Option (List spec.Clause)) → behind (cs ++ c ∷ []) o ≡ behind cs (and_all (Some c) o)
behind_clause cs c (Some ds) = ap (λ es. Some es) (append_assoc cs (c ∷ []) ds)
behind_clause cs c None = refl

drop_step : (ns : List ℕ) (i : ℕ) → i < length ns → drop i ns ≡ slice_index_or ns i 0 ∷ drop (i + 1) ns
drop_step ns i h = rw (add-one, drop-cons ns i 0 h) refl

-- so many of these forms were read as clauses
pub record AreClauses (es : List Entry) (forms : List ℕ) (i : ℕ) (clauses : List Clause) : Type 0 where
  pub stand : behind (map (clause_at es) clauses) (clauses_of_lists (map (form_at es) (drop i forms))) ≡ clauses_of_lists (map (form_at es) forms)
  pub below : AllBelow (length es) (numbers_of_clauses clauses)

pub no_clauses : (es : List Entry) (forms : List ℕ) (clauses : List Clause) → clauses ≡ [] → AreClauses es forms 0 clauses
no_clauses es forms clauses e = rw e (record { stand = behind_none (clauses_of_lists (map (form_at es) forms)); below = tt })

clauses_below : (bound : ℕ) (clauses : List Clause) (c : Clause) → AllBelow bound (numbers_of_clauses clauses) → AllBelow bound (numbers_of_clause c) → AllBelow bound (numbers_of_clauses (clauses ++ c ∷ []))
clauses_below bound [] c b d = d
clauses_below bound (x ∷ clauses) c b d = (b.0, (b.1.0, (b.1.1.0, clauses_below bound clauses c b.1.1.1 d)))

pub one_clause : (es : List Entry) (forms : List ℕ) (i : ℕ) (clauses new : List Clause) (c : Clause) → AreClauses es forms i clauses → i < length forms → Some (clause_at es c) ≡ clause_of_list (form_at es (slice_index_or forms i 0)) → AllBelow (length es) (numbers_of_clause c) → new ≡ clauses ++ c ∷ [] → AreClauses es forms (i + 1) new
one_clause es forms i clauses new c a h e b f = rw f (record {
  stand =
      let rest = clauses_of_lists (map (form_at es) (drop (i + 1) forms)) in
      let g : clauses_of_lists (map (form_at es) (drop i forms)) ≡ and_all (clause_of_list (form_at es (slice_index_or forms i 0))) rest = ap (λ ns. clauses_of_lists (map (form_at es) ns)) (drop_step forms i h) in
      ap (λ cs. behind cs rest) (map-one (clause_at es) clauses c) ∙ behind_clause (map (clause_at es) clauses) (clause_at es c) rest ∙ ap (λ o. behind (map (clause_at es) clauses) (and_all o rest)) e ∙ sym (ap (behind (map (clause_at es) clauses)) g) ∙ a.stand;
  below = clauses_below (length es) clauses c a.below b;
})

none_of : (o : Option spec.Clause) (rest : Option (List spec.Clause)) (cs : List spec.Clause) → None ≡ o → None ≡ behind cs (and_all o rest)
none_of o rest cs e = rw (← e) refl

pub wrong_clause : (es : List Entry) (forms : List ℕ) (i : ℕ) (clauses : List Clause) → AreClauses es forms i clauses → i < length forms → None ≡ clause_of_list (form_at es (slice_index_or forms i 0)) → None ≡ clauses_of_lists (map (form_at es) forms)
wrong_clause es forms i clauses a h e =
    let rest = clauses_of_lists (map (form_at es) (drop (i + 1) forms)) in
    let g : clauses_of_lists (map (form_at es) (drop i forms)) ≡ and_all (clause_of_list (form_at es (slice_index_or forms i 0))) rest = ap (λ ns. clauses_of_lists (map (form_at es) ns)) (drop_step forms i h) in
    none_of (clause_of_list (form_at es (slice_index_or forms i 0))) rest (map (clause_at es) clauses) e ∙ sym (ap (behind (map (clause_at es) clauses)) g) ∙ a.stand

pub all_clauses : (es : List Entry) (forms : List ℕ) (i : ℕ) (clauses : List Clause) → AreClauses es forms i clauses → length forms ≤ i → Some (map (clause_at es) clauses) ≡ clauses_of_lists (map (form_at es) forms)
all_clauses es forms i clauses a h =
    ap (λ cs. Some cs) (sym (append-nil (map (clause_at es) clauses))) ∙ sym (ap (λ ns. behind (map (clause_at es) clauses) (clauses_of_lists (map (form_at es) ns))) (drop_all i forms h)) ∙ a.stand
