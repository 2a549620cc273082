-- A vector in a vector, `()` and a function are printed, by computation.
use Rattle.std.proofs.Common.{◌≡◌, ℕ, zero, suc, ◌<◌, List, [], ◌∷◌, codes, refl, Some, slice_get, arith}
use Rattle.std.specs.Fmt.{digits}
use Rattle.seq_base.specs.declared.thrown.Thrown.TheVariants.{Steps}
use Rattle.seq_values.specs.declared.words.Kind.TheVariants.{Future}
use Rattle.seq_values.specs.Model.{text, Term, Outcome, gave, threw}
use Rattle.seq_meaning.specs.Walk.{made, ends, walk}
use Rattle.seq_meaning.specs.Names.{Name, form, part}
use Rattle.seq_meaning.specs.Gives.{Work, work, of_form, run, Of, of_top, True, no_answer, Gives, gives, Before, none_before}
use Rattle.seq_meaning.specs.Counts.{Demand, demands_form, IsIn, here}
use Rattle.seq_meaning.proofs.Closing.{none_leads}
use Rattle.seq_meaning.proofs.Worked.{past, from_past}
use Rattle.seq_table.specs.Table.{language}
use Rattle.seq_table.specs.Worked.{Prints, Totals, nested_value_1, nested_value, NestedValue}
use Rattle.seq_table.proofs.Rows.{Row, totals_of}

-- the parts, and the attempts at them
-- works, makes and answers
abbrev work_1 : Work
work_1 = work [] (of_form nested_value_1)

abbrev among_1 : List Name
among_1 = (form 1) ∷ []

abbrev work_1_below : Work
work_1_below = work [] (of_form nested_value_1)

-- With 7 steps or more:
module _ (n : ℕ) where
  abbrev limit : ℕ
  limit = past 7 n

  abbrev OfHere : Name → Work → Type 0
  OfHere e w = Of (language 4) nested_value limit e w

  abbrev GivesHere : Name → Outcome Name → Type 0
  GivesHere e o = Gives (language 4) nested_value limit e o

  abbrev TrueHere : Name → List (Outcome Name) → Type 0
  TrueHere e a = True (language 4) nested_value limit e a

  before_0 : Before (language 4) nested_value limit 0 ([])
  before_0 = none_before

  of_1 : OfHere (form 1) work_1
  of_1 = of_top before_0 refl

  end_1 : run (language 4) nested_value limit (form 1) work_1 [] ≡ ends (gave (text (codes "[:k [nil true] () #fn]"))) []
  unfolding run walk digits
  end_1 = by n
    where
      by : (n : ℕ) → run (language 4) nested_value (past 7 n) (form 1) work_1 [] ≡ ends (gave (text (codes "[:k [nil true] () #fn]"))) []
      by zero = refl
      by (suc n) = refl

  gives_1 : GivesHere (form 1) (gave (text (codes "[:k [nil true] () #fn]")))
  gives_1 = gives of_1 (no_answer of_1) end_1

  demand_1_at_1 : Demand (language 4) nested_value limit 1 (form 1)
  demand_1_at_1 = demands_form {i = 0} (omega arith)

  futures_1_at_1 : (j : ℕ) (t : Term Name) → slice_get [] j ≡ Some (made Future t) → IsIn (part (form 1) (suc j)) among_1
  futures_1_at_1 j t p = absurd cc

  abbrev row_1_at_1 : Row (language 4) nested_value limit 1 among_1
  row_1_at_1 = record { name = (form 1); followed = record { w = work_1; a = []; o = gave (text (codes "[:k [nil true] () #fn]")); ms = []; of = of_1; answers = (no_answer of_1); end = end_1; asks = none_leads; futures = futures_1_at_1 }; demand = demand_1_at_1 }

  abbrev rows_at_1 : List (Row (language 4) nested_value limit 1 among_1)
  rows_at_1 = row_1_at_1 ∷ []

  forms_at_1 : (i : ℕ) → i < 1 → IsIn (form (suc i)) among_1
  forms_at_1 zero h = here
  forms_at_1 (suc i) h = absurd (omega arith)

  totals_at_1 : Totals nested_value limit 1 0 0 0
  totals_at_1 = totals_of (language 4) nested_value limit 1 among_1 rows_at_1 forms_at_1 refl refl refl refl refl refl refl

-- With 6 steps:
abbrev limit_below : ℕ
limit_below = 6

abbrev OfHere_below : Name → Work → Type 0
OfHere_below e w = Of (language 4) nested_value limit_below e w

abbrev GivesHere_below : Name → Outcome Name → Type 0
GivesHere_below e o = Gives (language 4) nested_value limit_below e o

abbrev TrueHere_below : Name → List (Outcome Name) → Type 0
TrueHere_below e a = True (language 4) nested_value limit_below e a

before_0_below : Before (language 4) nested_value limit_below 0 ([])
before_0_below = none_before

of_1_below : OfHere_below (form 1) work_1_below
of_1_below = of_top before_0_below refl

end_1_below : run (language 4) nested_value limit_below (form 1) work_1_below [] ≡ ends (threw Steps) []
unfolding run walk digits
end_1_below = refl

gives_1_below : GivesHere_below (form 1) (threw Steps)
gives_1_below = gives of_1_below (no_answer of_1_below) end_1_below

pub nested_value_holds : NestedValue
nested_value_holds = (λ limit h. from_past (λ limit. Prints nested_value limit 1 (codes "[:k [nil true] () #fn]") × Totals nested_value limit 1 0 0 0) 7 limit h (λ n. (gives_1 n, totals_at_1 n)), gives_1_below)
