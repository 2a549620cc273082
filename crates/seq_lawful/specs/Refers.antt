-- Which cells a cell refers to: those in its term, in the outcomes that it keeps and in its value, and those that claims on it made.
use Rattle.std.specs.Prelude.{◌≡◌, ℕ, List, ◌∷◌, Some}
use Rattle.seq_values.specs.Model.{Value, vector, function, reduced, cell, cons, chunk, vec_seq, Values, ◌&◌}
use Rattle.seq_values.specs.declared.words.Target.{Target}
use Rattle.seq_values.specs.declared.value.Value.{Value as Coded}
use Rattle.seq_values.specs.Plain.{plain, plains}
use Rattle.cell_book.specs.declared.cell.State.TheVariants as S
use Rattle.cell_book.specs.declared.cell.Attempt.{Attempt}
use Rattle.cell_book.specs.declared.cell.Cell.{Cell}
use Rattle.cell_book.specs.Account.{Account, cell_at}
use Rattle.seq_meaning.specs.Counts.{IsIn}
use Rattle.clj_script.specs.Trees.{Top}
use Rattle.seq_meaning.specs.Referred.{referred}

mutual
  pub data InValue (c : ℕ) : Value ℕ → Type 0 where
    in_vector : {xs : Values ℕ} → InAll c xs → InValue c (vector xs)
    in_function : {t : Target} {xs : Values ℕ} → InAll c xs → InValue c (function t xs)
    in_reduced : {v : Value ℕ} → InValue c v → InValue c (reduced v)
    in_cons : {xs : Values ℕ} {r : Value ℕ} → InAll c xs → InValue c (cons xs r)
    in_cons_rest : {xs : Values ℕ} {r : Value ℕ} → InValue c r → InValue c (cons xs r)
    in_chunk : {xs : Values ℕ} {r : Value ℕ} → InAll c xs → InValue c (chunk xs r)
    in_chunk_rest : {xs : Values ℕ} {r : Value ℕ} → InValue c r → InValue c (chunk xs r)
    in_vec_seq : {xs : Values ℕ} {at : ℕ} → InAll c xs → InValue c (vec_seq xs at)
    in_cell : InValue c (cell c)

  pub data InAll (c : ℕ) : Values ℕ → Type 0 where
    in_first : {x : Value ℕ} {xs : Values ℕ} → InValue c x → InAll c (x & xs)
    in_later : {x : Value ℕ} {xs : Values ℕ} → InAll c xs → InAll c (x & xs)

pub data InList (c : ℕ) : List (Value ℕ) → Type 0 where
  in_head : {x : Value ℕ} {xs : List (Value ℕ)} → InValue c x → InList c (x ∷ xs)
  in_tail : {x : Value ℕ} {xs : List (Value ℕ)} → InList c xs → InList c (x ∷ xs)

module _ (tops : List Top) (a : Account) where
  pub data Refers (i j : ℕ) : Type 0 where
    by_term : (p : Cell) → cell_at a i ≡ Some p → InList j (plains p.term.args) → Refers i j
    by_kept : (p : Cell) → cell_at a i ≡ Some p → InList j (referred tops (plains p.outcomes)) → Refers i j
    by_done : (p : Cell) (v : Coded) → cell_at a i ≡ Some p → p.state ≡ S.Done v → InValue j (plain v) → Refers i j
    by_make : (p q : Cell) (x : Attempt) → cell_at a i ≡ Some p → IsIn x p.attempts → cell_at a j ≡ Some q → q.maker ≡ x.claim → Refers i j

  pub data Reaches : ℕ → ℕ → Type 0 where
    reach_one : {i j : ℕ} → Refers i j → Reaches i j
    reach_more : {i l j : ℕ} → Refers i l → Reaches l j → Reaches i j
