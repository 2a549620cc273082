-- Values with all cells read away, so many elements wide and so many levels deep, and values that are alike.
use Rattle.std.specs.Prelude.{◌≡◌, ℕ, zero, suc, ℤ, Bool, List}
use Rattle.seq_values.specs.declared.words.Target.{Target}
use Rattle.seq_values.specs.Model.{Value, nil, bool, int, keyword, text, vector, function, reduced, cell, empty, cons, chunk, range, vec_seq, Values, no_values, ◌&◌}
use Rattle.seq_table.specs.World.{World, Read, cut, done, ◌▸◌, Elements}

mutual
  pub data Plain : Type 0 where
    plain_nil : Plain
    plain_bool : Bool → Plain
    plain_int : ℤ → Plain
    plain_keyword plain_text : List ℕ → Plain
    plain_reduced : Plain → Plain
    -- a function: its target and what is bound to it
    plain_function : Target → Plains → Plain
    -- a vector or a node: its elements
    plain_list : Plains → Plain
    too_deep : Plain

  pub data Plains : Type 0 where
    -- no more is read, or the list ends
    not_wider end_of_list : Plains
    ◌then◌ : Plain → Plains → Plains

infixr 60 ◌then◌
-- vectors and nodes stand for lists
pub data StandsForList {C : Type 0} : Value C → Type 0 where
  a_vector : {xs : Values C} → StandsForList (vector xs)
  an_empty : StandsForList empty
  a_cons : {xs : Values C} {r : Value C} → StandsForList (cons xs r)
  a_chunk : {xs : Values C} {r : Value C} → StandsForList (chunk xs r)
  a_range : {from at end : ℤ} → StandsForList (range from at end)
  a_vec_seq : {xs : Values C} {at : ℕ} → StandsForList (vec_seq xs at)

module _ {C : Type 0} (w : World C) where
  mutual
    -- m elements wide, so many levels deep
    pub data PlainOf (m : ℕ) : ℕ → Value C → Plain → Type 0 where
      of_nil : {d : ℕ} → PlainOf m d nil plain_nil
      of_bool : {d : ℕ} {b : Bool} → PlainOf m d (bool b) (plain_bool b)
      of_int : {d : ℕ} {n : ℤ} → PlainOf m d (int n) (plain_int n)
      of_keyword : {d : ℕ} {name : List ℕ} → PlainOf m d (keyword name) (plain_keyword name)
      of_text : {d : ℕ} {bytes : List ℕ} → PlainOf m d (text bytes) (plain_text bytes)
      of_reduced : {d : ℕ} {v : Value C} {p : Plain} → PlainOf m d v p → PlainOf m d (reduced v) (plain_reduced p)
      of_function : {d : ℕ} {t : Target} {xs : Values C} {ps : Plains} → PlainAll m d xs ps → PlainOf m d (function t xs) (plain_function t ps)
      of_list : {d : ℕ} {v : Value C} {l : Read C} {ps : Plains} → StandsForList v → Elements w v m l → PlainRead m d l ps → PlainOf m (suc d) v (plain_list ps)
      of_deep : {v : Value C} → StandsForList v → PlainOf m zero v too_deep
      -- a cell is read as what it gives, and is no level of its own
      of_cell : {d : ℕ} {c : C} {v : Value C} {p : Plain} → w.Shows c v → PlainOf m d v p → PlainOf m d (cell c) p

    pub data PlainAll (m : ℕ) : ℕ → Values C → Plains → Type 0 where
      all_none : {d : ℕ} → PlainAll m d no_values end_of_list
      all_more : {d : ℕ} {x : Value C} {xs : Values C} {p : Plain} {ps : Plains} → PlainOf m d x p → PlainAll m d xs ps → PlainAll m d (x & xs) (p then ps)

    pub data PlainRead (m : ℕ) : ℕ → Read C → Plains → Type 0 where
      read_cut : {d : ℕ} → PlainRead m d cut not_wider
      read_done : {d : ℕ} → PlainRead m d done end_of_list
      read_more : {d : ℕ} {x : Value C} {l : Read C} {p : Plain} {ps : Plains} → PlainOf m d x p → PlainRead m d l ps → PlainRead m d (x ▸ l) (p then ps)

  -- Values that are the same wherever both can be read. A value that can't be read, as a cell that throws, is so to all values; so this is no equality, and two that are so to a third needn't be so to each other.
  abbrev pub AreAlike : Value C → Value C → Type 0
  AreAlike v u = (m : ℕ) (p q : Plain) → PlainOf m m v p → PlainOf m m u q → p ≡ q
