-- A value by how the words that walk look at it.
use Rattle.std.specs.Prelude.{◌≡◌, ◌≢◌, ℕ, true, false, pos, List, Some, None, ◌∷◌, [], length}
use Rattle.seq_values.specs.Model as M
use Rattle.seq_values.specs.Plain.{plain, plains}
use Rattle.seq_values.specs.declared.value.Value.{Value}
use Rattle.seq_plan.specs.Cursors.{stands}
use Rattle.walk_rules.specs.Words.{is_another, is_reduced, left_at_once}
use Rattle.walk_rules.specs.declared.listed.Shape.{Shape}
use Rattle.walk_rules.specs.declared.listed.Shape.TheVariants as S
use Rattle.walk_rules.specs.declared.listed.Unwrapped.{Unwrapped}
use Rattle.walk_rules.specs.declared.listed.Unwrapped.TheVariants as U
use Rattle.walk_rules.specs.declared.counted.Counted.{Counted}
use Rattle.walk_rules.specs.declared.counted.Counted.TheVariants as C
use Rattle.walk_rules.specs.declared.arguments.TwoOrThree.{TwoOrThree}
use Rattle.walk_rules.specs.declared.arguments.TwoOrThree.TheVariants as A

abbrev pub IsShape : Shape → M.Value ℕ → Type 0
IsShape S.Nil v = v ≡ M.nil
IsShape (S.Vector listed) v = v ≡ M.vector (M.values (plains listed.items))
IsShape (S.Another value) v = (plain value.value ≡ v) × (is_another v ≡ true)

abbrev pub IsUnwrapped : Unwrapped → M.Value ℕ → Type 0
IsUnwrapped (U.Reduced value) v = v ≡ M.reduced (plain value.value)
IsUnwrapped (U.Another value) v = (plain value.value ≡ v) × (is_reduced v ≡ false)

-- how many elements are left of a node, where that is known at once
abbrev pub IsCounted : Counted → M.Value ℕ → Type 0
IsCounted (C.Whole n) s = left_at_once s ≡ Some (pos n)
IsCounted (C.Walk c) s = (stands c ≡ s) × (left_at_once s ≡ None)

-- two or three arguments, or another number of them
abbrev pub AreArguments : TwoOrThree → List Value → Type 0
AreArguments (A.Two x y) xs = plains xs ≡ plain x.value ∷ plain y.value ∷ []
AreArguments (A.Three x y z) xs = plains xs ≡ plain x.value ∷ plain y.value ∷ plain z.value ∷ []
AreArguments A.Other xs = (length xs ≢ 2) × (length xs ≢ 3)
