-- What the words of reducer values make.
use Rattle.std.proofs.Common.{◌≡◌, ◌≢◌, ℕ, ℤ, true, List, [], ◌∷◌, map, length, slice_get, Some, None, refl, ap, ◌∙◌, arith}
use Rattle.std.specs.Prelude.{IsTrue}
use Rattle.seq_base.specs.declared.thrown.Thrown.TheVariants.{Arity, BadType}
use Rattle.seq_values.specs.Model as M
use Rattle.seq_values.specs.Plain.{plain, plains}
use Rattle.seq_values.specs.Sight.{Sight, an_int}
use Rattle.seq_values.specs.WellFormed.{binds, binds_folder, sight_of}
use Rattle.seq_values.specs.declared.value.Value.{Value}
use Rattle.seq_values.specs.declared.words.Builtin.TheVariants as B
use Rattle.seq_values.specs.declared.words.FolderKind.{FolderKind}
use Rattle.seq_values.specs.declared.words.FolderKind.TheVariants as F
use Rattle.seq_values.specs.declared.words.Target.TheVariants as T
use Rattle.seq_plan.specs.Plan.{give, throw}
use Rattle.seq_plan.specs.Nodes.{with_value, give_value}
use Rattle.seq_turns.specs.Making.{made, Makes}
use Rattle.seq_turns.specs.declared.made.Made.{Made}
use Rattle.seq_turns.specs.declared.made.Made.TheVariants as D
use Rattle.seq_turns.specs.Arguments.{integer_of}
use Rattle.fold_rows.specs.Table.{reducer, take_of, fold_call}
use Rattle.reducer_values.specs.Words.{called_with, first_integer}

-- ## A function and a collection

pub folder_made : (kind : FolderKind) (args : List Value) (m : Made) → length args ≡ 2 → Makes (with_value (M.function (T.Folder kind) (M.values (plains args)))) m → called_with kind (plains args) ≡ made m give
folder_made kind [] m e h = absurd cc
folder_made kind (x ∷ []) m e h = absurd (omega (arith, e))
folder_made kind (x ∷ y ∷ []) m e h = h.goes give
folder_made kind (x ∷ y ∷ z ∷ zs) m e h = absurd (omega (arith, e))

pub folder_arity : (kind : FolderKind) (args : List Value) (m : Made) → length args ≢ 2 → m ≡ D.Thrown Arity → called_with kind (plains args) ≡ made m give
folder_arity kind [] m n e = rw e refl
folder_arity kind (x ∷ []) m n e = rw e refl
folder_arity kind (x ∷ y ∷ []) m n e = absurd (n refl)
folder_arity kind (x ∷ y ∷ z ∷ zs) m n e = rw e refl

pub folder_binds : (kind : FolderKind) (args : List Value) → length args ≡ 2 → ((a b : Sight) → binds_folder kind (a ∷ b ∷ []) ≡ true) → IsTrue (binds (T.Folder kind) (map sight_of args))
folder_binds kind [] e h = absurd cc
folder_binds kind (x ∷ []) e h = absurd (omega (arith, e))
folder_binds kind (x ∷ y ∷ []) e h = h (sight_of x) (sight_of y)
folder_binds kind (x ∷ y ∷ z ∷ zs) e h = absurd (omega (arith, e))

-- ## A count and a collection

pub take_arity : (args : List Value) (m : Made) → length args ≢ 2 → m ≡ D.Thrown Arity → fold_call B.ReducerTake (plains args) ≡ made m give
take_arity [] m n e = rw e refl
take_arity (x ∷ []) m n e = rw e refl
take_arity (x ∷ y ∷ []) m n e = absurd (n refl)
take_arity (x ∷ y ∷ z ∷ zs) m n e = rw e refl

no_count : (v c : M.Value ℕ) → integer_of v ≡ None → take_of v c ≡ throw BadType
no_count (M.int n) c e = absurd (cc e)
no_count _ c e = refl

pub take_wrong : (args : List Value) (m : Made) → length args ≡ 2 → first_integer (plains args) ≡ None → m ≡ D.Thrown BadType → fold_call B.ReducerTake (plains args) ≡ made m give
take_wrong [] m l n e = absurd cc
take_wrong (x ∷ []) m l n e = absurd (omega (arith, l))
take_wrong (x ∷ y ∷ []) m l n e = rw e (no_count (plain x) (plain y) n)
take_wrong (x ∷ y ∷ z ∷ zs) m l n e = absurd (omega (arith, l))

some_count : (v c : M.Value ℕ) (n : ℤ) → integer_of v ≡ Some n → take_of v c ≡ give_value (reducer F.Take v c)
some_count (M.int n) c k e = refl
some_count _ c k e = absurd (cc e)

pub take_made : (args : List Value) (n : ℤ) (m : Made) → length args ≡ 2 → first_integer (plains args) ≡ Some n → Makes (with_value (M.function (T.Folder F.Take) (M.values (plains args)))) m → fold_call B.ReducerTake (plains args) ≡ made m give
take_made [] n m l e h = absurd cc
take_made (x ∷ []) n m l e h = absurd (omega (arith, l))
take_made (x ∷ y ∷ []) n m l e h = some_count (plain x) (plain y) n e ∙ h.goes give
take_made (x ∷ y ∷ z ∷ zs) n m l e h = absurd (omega (arith, l))

pub take_binds : (args : List Value) (n : ℤ) → length args ≡ 2 → ((x : Value) (xs : List Value) → args ≡ x ∷ xs → sight_of x ≡ an_int n) → IsTrue (binds (T.Folder F.Take) (map sight_of args))
take_binds [] n l h = absurd cc
take_binds (x ∷ []) n l h = absurd (omega (arith, l))
take_binds (x ∷ y ∷ []) n l h = ap (λ s. binds (T.Folder F.Take) (s ∷ sight_of y ∷ [])) (h x (y ∷ []) refl)
take_binds (x ∷ y ∷ z ∷ zs) n l h = absurd (omega (arith, l))

pub got_first : (xs : List Value) (v : Value) → slice_get xs 0 ≡ Some v → integer_of (plain v) ≡ first_integer (plains xs)
got_first [] v e = absurd cc
got_first (x ∷ xs) v e = let p : v ≡ x = cc in ap (λ y. integer_of (plain y)) p
