-- What is looked at in a function.
use Rattle.std.proofs.Common.{◌≡◌, ◌≢◌, ℕ, suc, false, nat_eq, List, [], ◌∷◌, length, refl, ap, sym, ◌∙◌, arith, rules}
use Rattle.seq_values.specs.Model as M
use Rattle.seq_values.specs.Plain.{plain, plains}
use Rattle.seq_values.specs.declared.value.FnValue.{FnValue}
use Rattle.seq_values.specs.declared.value.Node.TheFolds.{the_lemmas}
use Rattle.seq_values.specs.declared.value.Value.{Value}
use Rattle.seq_values.specs.declared.value.Value.TheVariants as V
use Rattle.seq_values.specs.declared.words.FolderKind.{FolderKind}
use Rattle.seq_values.specs.declared.words.Target.{Target}
use Rattle.seq_values.specs.declared.words.Target.TheVariants as T
use Rattle.fold_rows.specs.Table.{is_reducer}

pub plain_function : (f : FnValue) → plain (V.Function f) ≡ M.function f.target (M.values (plains f.bound))
plain_function f = search (rules, the_lemmas)

more_than_two : (n : ℕ) → nat_eq (suc (suc (suc n))) 2 ≡ false
more_than_two n = search (rules, arith)

-- a function that binds two values, by its target
binds_two : (k : FolderKind) (xs : List Value) → nat_eq (length xs) 2 ≡ is_reducer (M.function (T.Folder k) (M.values (plains xs)))
binds_two k [] = refl
binds_two k (x ∷ []) = refl
binds_two k (x ∷ y ∷ []) = refl
binds_two k (x ∷ y ∷ z ∷ zs) = more_than_two (length zs)

pub folder_two : (f : FnValue) (k : FolderKind) (n : ℕ) → f.target ≡ T.Folder k → n ≡ length f.bound → nat_eq n 2 ≡ is_reducer (plain (V.Function f))
folder_two f k n t e = ap (λ m. nat_eq m 2) e ∙ binds_two k f.bound ∙ ap (λ t. is_reducer (M.function t (M.values (plains f.bound)))) (sym t) ∙ ap is_reducer (sym (plain_function f))

other_kind : (t : Target) (xs : M.Values ℕ) → ((k : FolderKind) → t ≢ T.Folder k) → false ≡ is_reducer (M.function t xs)
other_kind (T.Folder k) xs n = absurd (n k refl)
other_kind _ xs n = refl

pub other_target : (f : FnValue) → ((k : FolderKind) → f.target ≢ T.Folder k) → false ≡ is_reducer (plain (V.Function f))
other_target f n = other_kind f.target (M.values (plains f.bound)) n ∙ ap is_reducer (sym (plain_function f))
