-- What one more answer does to a run, and that each list of answers has a run.
use Rattle.std.specs.Prelude.{◌≡◌, List, ◌∷◌, ◌++◌}
use Rattle.seq_base.specs.declared.thrown.Thrown.{Thrown}
use Rattle.seq_values.specs.Model.{Value, Outcome, gave, threw}
use Rattle.seq_meaning.specs.Walk.{Made, Run, needs, ends, over}

pub data OneMore {C : Type 0} : Outcome C → Run C → Run C → Type 0 where
  -- after a value the run goes on, and keeps its makes
  needs_next : {v : Value C} {c d : C} {ms ns : List (Made C)} (xs : List (Made C)) → ns ≡ ms ++ xs → OneMore (gave v) (needs c ms) (needs d ns)
  ends_next : {v : Value C} {c : C} {o : Outcome C} {ms ns : List (Made C)} (xs : List (Made C)) → ns ≡ ms ++ xs → OneMore (gave v) (needs c ms) (ends o ns)
  -- after an error the run ends by it, makes nothing more and needs nothing
  ends_at_once : {e : Thrown} {c : C} {ms : List (Made C)} → OneMore (threw e) (needs c ms) (ends (threw e) ms)
  -- an answer is left
  left_one : {a o : Outcome C} {ms : List (Made C)} → OneMore a (ends o ms) over
  left_more : {a : Outcome C} → OneMore a over over

-- a run of these answers, the last one first: it needs something, it ends, or it ended with fewer
pub data IsDefined {C : Type 0} (runs : List (Outcome C) → Run C) (a : List (Outcome C)) : Type 0 where
  still_needs : {c : C} {ms : List (Made C)} → runs a ≡ needs c ms → IsDefined runs a
  has_ended : {o : Outcome C} {ms : List (Made C)} → runs a ≡ ends o ms → IsDefined runs a
  had_ended : (b more : List (Outcome C)) (x : Outcome C) {o : Outcome C} {ms : List (Made C)} → a ≡ more ++ x ∷ b → runs b ≡ ends o ms → runs a ≡ over → IsDefined runs a
