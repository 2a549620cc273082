-- Threading written out, one list at a time: `(-> x (f a) g)` stands for `(g (f x a))`, and `(->> x (f a) g)` for `(g (f a x))`.
-- What stands so far is put into the next step as it is, unexpanded.
use Rattle.std.specs.Prelude.{List, [], ◌∷◌, ◌++◌}
use Rattle.clj_reader.specs.declared.place.Place.{Place}
use Rattle.clj_script.specs.declared.refusal.ScriptRefusal.{ScriptRefusal}
use Rattle.clj_script.specs.declared.thread.Way.{Way}
use Rattle.clj_script.specs.declared.thread.Way.TheVariants.{Second, Last}
use Rattle.clj_script.specs.Sources.{Source, atom, symbol, round, square, sources, listed, place_of}
use Rattle.clj_script.specs.Refusals.{refusal}

-- the items with one more, second or last
abbrev pub with_item : {X : Type 0} → Way → X → List X → List X
with_item Second item [] = item ∷ []
with_item Second item (x ∷ xs) = x ∷ item ∷ xs
with_item Last item xs = xs ++ item ∷ []

-- The forms of the list for which a step stands: a symbol s is the list `(s)`. A step that is neither a symbol nor a list that
-- isn't empty takes nothing, and has none.
abbrev pub step_items : Source → List Source
step_items (symbol p name) = symbol p name ∷ []
step_items (round p ss) = listed ss
step_items (atom p l) = []
step_items (square p ss) = []

abbrev pub put_among : Way → Source → Place → List Source → Source
put_among way x p [] = x
put_among way x p (s ∷ ss) = round p (sources (with_item way x (s ∷ ss)))

-- What stands so far, put into a step, which keeps its place. A step that takes nothing is passed over.
abbrev pub put : Way → Source → Source → Source
put way x step = put_among way x (place_of step) (step_items step)

abbrev pub refused_without : List Source → Place → List ScriptRefusal
refused_without [] p = refusal 10 p ∷ []
refused_without (s ∷ ss) p = []

-- what is refused of a step: one that takes nothing, as 10 at its place
abbrev pub step_refusals : Source → List ScriptRefusal
step_refusals step = refused_without (step_items step) (place_of step)

-- the form that a first form and its steps stand for
abbrev pub written_out : Way → Source → List Source → Source
written_out way x [] = x
written_out way x (step ∷ steps) = written_out way (put way x step) steps

abbrev pub refusals_of_steps : List Source → List ScriptRefusal
refusals_of_steps [] = []
refusals_of_steps (step ∷ steps) = step_refusals step ++ refusals_of_steps steps
