-- Laws of the language: what evaluations give is what their plans come to, and a program has one output.
use Rattle.std.specs.Prelude.{◌≡◌, ℕ, ◌≤◌, pos, List, ◌++◌}
use Rattle.seq_values.specs.declared.words.Kind.{Kind}
use Rattle.seq_values.specs.Model.{Value, Term, gave}
use Rattle.clj_script.specs.Trees.{Program}
use Rattle.seq_plan.specs.Plan.{give}
use Rattle.fold_rows.specs.Table.{fold_items}
use Rattle.seq_meaning.specs.Names.{Name}
use Rattle.seq_meaning.specs.Gives.{Task, of_term, work, task_plan, Of, Part, Gives}
use Rattle.seq_plan.specs.Alike.{Like}
use Rattle.seq_plan.specs.Sound.{Sound, SoundList}
use Rattle.seq_plan.specs.WellFormed.{Well, WellList, WellTerm}
use Rattle.seq_table.specs.Plains.{AreAlike}
use Rattle.seq_table.specs.Agree.{Agree}
use Rattle.seq_table.specs.Same.{Same}
use Rattle.seq_table.specs.Table.{language}
use Rattle.seq_table.specs.World.{names_world, Read, Begins, Comes, CallTo}
use Rattle.seq_table.specs.Lists.{HasList, InList}
use Rattle.seq_table.specs.FoldTrees.{FoldTree}
use Rattle.seq_table.specs.Outputs.{Ending, Ran, RanPart}

-- An evaluation that gives a value gives what the plan of its work comes to.
abbrev pub GivesWhatComes : Type 0
GivesWhatComes = (processors : ℕ) (program : Program) (limit : ℕ) (e : Name) (defs : List (Value Name)) (t : Task) (v : Value Name) → Of (language processors) program limit e (work defs t) → Gives (language processors) program limit e (gave v) → Comes (names_world (language processors) program limit) defs (task_plan (language processors) program limit defs t) v

-- A run ends in one way, with one text.
abbrev pub OneRun : Type 0
OneRun = (processors : ℕ) (program : Program) (limit cells : ℕ) (a b : Ending) (xs ys : List ℕ) → Ran (language processors) program limit cells a xs → Ran (language processors) program limit cells b ys → (a ≡ b) × (xs ≡ ys)

-- What was written so far is a prefix of what any run writes, however it ends.
abbrev pub PartOfRun : Type 0
PartOfRun = (processors : ℕ) (program : Program) (limit cells : ℕ) (ending : Ending) (bytes text : List ℕ) → RanPart (language processors) program limit cells bytes → Ran (language processors) program limit cells ending text → (rest : List ℕ) × (text ≡ bytes ++ rest)

-- What a fold comes to is the tree of its items: a future that folds the second half gives that half's tree.
abbrev pub FoldIsTree : Type 0
FoldIsTree = (processors : ℕ) (program : Program) (limit : ℕ) (defs : List (Value Name)) (size : ℕ) (combine f : Value Name) (stages items : List (Value Name)) (y : Value Name) → 1 ≤ size → Comes (names_world (language processors) program limit) defs (fold_items (pos size) combine f stages items give) y → FoldTree (names_world (language processors) program limit) defs size combine f stages items y

-- What an evaluation of a term gives begins as the list that the term stands for, for the terms of `HasList`. Each part that is read on the way gives a value.
abbrev pub ListsOfTerms : Type 0
ListsOfTerms = (processors : ℕ) (program : Program) (limit : ℕ) (e : Name) (defs : List (Value Name)) (t : Term Name) (v : Value Name) (l : Read Name) → HasList t → Of (language processors) program limit e (work defs (of_term t)) → Gives (language processors) program limit e (gave v) → Begins (names_world (language processors) program limit) v l → InList (names_world (language processors) program limit) defs t l

-- Every evaluation of a program that gives a value gives a well-formed one, and every part is of a well-formed term, with well-formed values of the forms before.
abbrev pub RunsAreWell : Type 0
RunsAreWell = (processors : ℕ) (program : Program) (limit : ℕ) → ((e : Name) (v : Value Name) → Gives (language processors) program limit e (gave v) → Well v) × ((n : Name) (kind : Kind) (defs : List (Value Name)) (t : Term Name) → Part (language processors) program limit n kind (work defs (of_term t)) → WellList defs × WellTerm t)

-- What a call of sound values comes to is sound.
abbrev pub CallsAreSound : Type 0
CallsAreSound = (processors : ℕ) (program : Program) (limit : ℕ) (defs : List (Value Name)) (f : Value Name) (xs : List (Value Name)) (y : Value Name) → SoundList defs → Sound f → SoundList xs → CallTo (names_world (language processors) program limit) defs f xs y → Sound y

-- What a call of well-formed values comes to is well formed.
abbrev pub CallsAreWell : Type 0
CallsAreWell = (processors : ℕ) (program : Program) (limit : ℕ) (defs : List (Value Name)) (f : Value Name) (xs : List (Value Name)) (y : Value Name) → WellList defs → Well f → WellList xs → CallTo (names_world (language processors) program limit) defs f xs y → Well y

-- What a call comes to is one value but for names, wherever it is run.
abbrev pub OneCall : Type 0
OneCall = (processors : ℕ) (program : Program) (limit : ℕ) (defs : List (Value Name)) (f : Value Name) (xs : List (Value Name)) (y z : Value Name) → CallTo (names_world (language processors) program limit) defs f xs y → CallTo (names_world (language processors) program limit) defs f xs z → Like (Same (language processors) program limit) y z

-- Values that are the same but for names are alike.
abbrev pub LikeIsAlike : Type 0
LikeIsAlike = (processors : ℕ) (program : Program) (limit : ℕ) (y z : Value Name) → Like (Same (language processors) program limit) y z → AreAlike (names_world (language processors) program limit) y z

-- The list of such a term is determined, as far as it is read.
abbrev pub OneList : Type 0
OneList = (processors : ℕ) (program : Program) (limit : ℕ) (defs : List (Value Name)) (t : Term Name) (l m : Read Name) → HasList t → InList (names_world (language processors) program limit) defs t l → InList (names_world (language processors) program limit) defs t m → Agree (Same (language processors) program limit) l m
