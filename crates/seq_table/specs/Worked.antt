-- Worked scripts over the table of the language, with four processors, as programs and as statements of what they mean: what is written where the step limit is as great as the longest evaluation needs, the parts made, realised and failed, and the error with one step less.
use Rattle.std.specs.Prelude.{ℕ, ◌≤◌, pos, true, List, [], ◌∷◌, codes}
use Rattle.seq_base.specs.declared.thrown.Thrown.{Thrown}
use Rattle.seq_base.specs.declared.thrown.Thrown.TheVariants.{Steps, Divide}
use Rattle.seq_values.specs.declared.words.Builtin.{Builtin}
use Rattle.seq_values.specs.declared.words.Builtin.TheVariants as B
use Rattle.seq_values.specs.Model.{text, gave, threw}
use Rattle.clj_script.specs.Trees.{nil_literal, bool_literal, int_literal, keyword_literal, empty_literal, Expr, literal, word, function_of, defined, local, vector_of, call_of, exprs, Top, def, defn, prn, ledger, Program}
use Rattle.seq_meaning.specs.Names.{form}
use Rattle.seq_meaning.specs.Gives.{Gives}
use Rattle.seq_meaning.specs.Counts.{MadeBy, Realised, Failed, HasSize}
use Rattle.seq_table.specs.Table.{language}

abbrev pub number : ℕ → Expr
number n = literal (int_literal (pos n))

-- a call of a built-in word
abbrev pub calls : Builtin → List Expr → Expr
calls b es = call_of (word b) (exprs es)

-- with these steps form k gives this text, or throws this error
abbrev pub Prints : Program → ℕ → ℕ → List ℕ → Type 0
Prints program limit k bytes = Gives (language 4) program limit (form k) (gave (text bytes))

abbrev pub Throws : Program → ℕ → ℕ → Thrown → Type 0
Throws program limit k why = Gives (language 4) program limit (form k) (threw why)

-- so many parts are made, realised and failed, as a ledger after form k says
abbrev pub Totals : Program → ℕ → ℕ → ℕ → ℕ → ℕ → Type 0
Totals program limit k makes realises fails =
    HasSize (MadeBy (language 4) program limit k) makes × HasSize (Realised (language 4) program limit k) realises × HasSize (Failed (language 4) program limit k) fails

abbrev pub first_of_map_1 : Top
first_of_map_1 = def 0 (calls B.Map (word B.Inc ∷ calls B.Range (number 3 ∷ []) ∷ []))

abbrev pub first_of_map_2 : Top
first_of_map_2 = prn (calls B.First (defined 1 ∷ []))

abbrev pub first_of_map_3 : Top
first_of_map_3 = ledger

-- (def xs (map inc (range 3))) (prn (first xs)) (ledger)
abbrev pub first_of_map : Program
first_of_map = record { functions = []; bodies = []; names = codes "xs" ∷ []; tops = first_of_map_1 ∷ first_of_map_2 ∷ first_of_map_3 ∷ [] }

-- A chunk of three is mapped where its first element is asked.
abbrev pub FirstOfMap : Type 0
FirstOfMap =
    ((limit : ℕ) → 3 ≤ limit → Prints first_of_map limit 2 (codes "1")
    × Totals first_of_map limit 3 2 1 0)
    × Throws first_of_map 2 2 Steps

abbrev pub first_of_iterate_1 : Top
first_of_iterate_1 = def 0 (calls B.Map (word B.Inc ∷ calls B.Iterate (word B.Inc ∷ number 0 ∷ []) ∷ []))

abbrev pub first_of_iterate_2 : Top
first_of_iterate_2 = prn (calls B.First (defined 1 ∷ []))

abbrev pub first_of_iterate_3 : Top
first_of_iterate_3 = ledger

-- (def ys (map inc (iterate inc 0))) (prn (first ys)) (ledger)
abbrev pub first_of_iterate : Program
first_of_iterate = record { functions = []; bodies = []; names = codes "ys" ∷ []; tops = first_of_iterate_1 ∷ first_of_iterate_2 ∷ first_of_iterate_3 ∷ [] }

-- Where the collection is not chunked, one element is mapped.
abbrev pub FirstOfIterate : Type 0
FirstOfIterate =
    ((limit : ℕ) → 3 ≤ limit → Prints first_of_iterate limit 2 (codes "1")
    × Totals first_of_iterate limit 3 3 1 0)
    × Throws first_of_iterate 2 2 Steps

abbrev pub failing_chunk_1 : Top
failing_chunk_1 = defn

abbrev pub failing_chunk_2 : Top
failing_chunk_2 = def 0 (calls B.Map (function_of 0 ∷ calls B.Range (number 10 ∷ []) ∷ []))

abbrev pub failing_chunk_3 : Top
failing_chunk_3 = prn (calls B.First (defined 2 ∷ []))

abbrev pub failing_chunk_4 : Top
failing_chunk_4 = prn (calls B.First (defined 2 ∷ []))

abbrev pub failing_chunk_5 : Top
failing_chunk_5 = ledger

-- (defn f [x] (quot 10 (- 5 x))) (def q (map f (range 10))) (prn (first q)) (prn (first q)) (ledger)
abbrev pub failing_chunk : Program
failing_chunk = record { functions = ((1, calls B.Quot (number 10 ∷ calls B.Minus (number 5 ∷ local 0 ∷ []) ∷ [])) ∷ []) ∷ []; bodies = []; names = codes "q" ∷ []; tops = failing_chunk_1 ∷ failing_chunk_2 ∷ failing_chunk_3 ∷ failing_chunk_4 ∷ failing_chunk_5 ∷ [] }

-- A chunk of which one call throws: each form that asks it fails by an attempt of its own.
abbrev pub FailingChunk : Type 0
FailingChunk =
    ((limit : ℕ) → 18 ≤ limit → Throws failing_chunk limit 3 Divide
    × Throws failing_chunk limit 4 Divide
    × Totals failing_chunk limit 5 1 0 2)
    × Throws failing_chunk 17 3 Steps

abbrev pub none_kept_1 : Top
none_kept_1 = def 0 (calls B.Filter (word B.IsNegative ∷ calls B.Range (number 64 ∷ []) ∷ []))

abbrev pub none_kept_2 : Top
none_kept_2 = prn (calls B.Seq (defined 1 ∷ []))

abbrev pub none_kept_3 : Top
none_kept_3 = ledger

-- (def e (filter neg? (range 64))) (prn (seq e)) (ledger)
abbrev pub none_kept : Program
none_kept = record { functions = []; bodies = []; names = codes "e" ∷ []; tops = none_kept_1 ∷ none_kept_2 ∷ none_kept_3 ∷ [] }

-- Chunks of which nothing is kept are empty, and give no node.
abbrev pub NoneKept : Type 0
NoneKept =
    ((limit : ℕ) → 32 ≤ limit → Prints none_kept limit 2 (codes "nil")
    × Totals none_kept limit 3 3 3 0)
    × Throws none_kept 31 2 Steps

abbrev pub seque_of_three_1 : Top
seque_of_three_1 = def 0 (calls B.Map (word B.Inc ∷ calls B.Iterate (word B.Inc ∷ number 0 ∷ []) ∷ []))

abbrev pub seque_of_three_2 : Top
seque_of_three_2 = def 1 (calls B.Seque (number 3 ∷ defined 1 ∷ []))

abbrev pub seque_of_three_3 : Top
seque_of_three_3 = ledger

abbrev pub seque_of_three_4 : Top
seque_of_three_4 = prn (calls B.First (defined 2 ∷ []))

abbrev pub seque_of_three_5 : Top
seque_of_three_5 = ledger

-- (def src (map inc (iterate inc 0))) (def s (seque 3 src)) (ledger) (prn (first s)) (ledger)
abbrev pub seque_of_three : Program
seque_of_three = record { functions = []; bodies = []; names = codes "src" ∷ codes "s" ∷ []; tops = seque_of_three_1 ∷ seque_of_three_2 ∷ seque_of_three_3 ∷ seque_of_three_4 ∷ seque_of_three_5 ∷ [] }

-- Work ahead takes three elements, and one more for each that is asked.
abbrev pub SequeOfThree : Type 0
SequeOfThree =
    ((limit : ℕ) → 6 ≤ limit → Prints seque_of_three limit 4 (codes "1")
    × Totals seque_of_three limit 3 9 6 0
    × Totals seque_of_three limit 5 13 10 0)
    × Prints seque_of_three 3 4 (codes "1")
    × Throws seque_of_three 2 4 Steps

abbrev pub fold_as_tree_1 : Top
fold_as_tree_1 = defn

abbrev pub fold_as_tree_2 : Top
fold_as_tree_2 = prn (calls B.Fold (number 1 ∷ calls B.Monoid (word B.Minus ∷ function_of 0 ∷ []) ∷ word B.Minus ∷ vector_of (exprs (number 1 ∷ number 2 ∷ number 3 ∷ number 4 ∷ [])) ∷ []))

abbrev pub fold_as_tree_3 : Top
fold_as_tree_3 = prn (calls B.Reduce (word B.Minus ∷ number 0 ∷ vector_of (exprs (number 1 ∷ number 2 ∷ number 3 ∷ number 4 ∷ [])) ∷ []))

-- (defn zero [] 0) (prn (r/fold 1 (r/monoid - zero) - [1 2 3 4])) (prn (reduce - 0 [1 2 3 4]))
abbrev pub fold_as_tree : Program
fold_as_tree = record { functions = ((0, number 0) ∷ []) ∷ []; bodies = []; names = []; tops = fold_as_tree_1 ∷ fold_as_tree_2 ∷ fold_as_tree_3 ∷ [] }

-- A fold combines halves, where a reduction goes from the left.
abbrev pub FoldAsTree : Type 0
FoldAsTree =
    ((limit : ℕ) → 13 ≤ limit → Prints fold_as_tree limit 2 (codes "0")
    × Prints fold_as_tree limit 3 (codes "-10")
    × Totals fold_as_tree limit 3 3 3 0)
    × Throws fold_as_tree 12 2 Steps

abbrev pub completed_groups_1 : Top
completed_groups_1 = prn (calls B.Into (vector_of (exprs ([])) ∷ calls B.Comp (calls B.Take (number 3 ∷ []) ∷ calls B.PartitionAll (number 2 ∷ []) ∷ []) ∷ calls B.Iterate (word B.Inc ∷ number 0 ∷ []) ∷ []))

-- (prn (into [] (comp (take 3) (partition-all 2)) (iterate inc 0)))
abbrev pub completed_groups : Program
completed_groups = record { functions = []; bodies = []; names = []; tops = completed_groups_1 ∷ [] }

-- After an early end the last group is completed.
abbrev pub CompletedGroups : Type 0
CompletedGroups =
    ((limit : ℕ) → 19 ≤ limit → Prints completed_groups limit 1 (codes "[[0 1] [2]]")
    × Totals completed_groups limit 1 3 2 0)
    × Throws completed_groups 18 1 Steps

abbrev pub take_of_none_1 : Top
take_of_none_1 = def 0 (calls B.Map (word B.Inc ∷ calls B.Iterate (word B.Inc ∷ number 0 ∷ []) ∷ []))

abbrev pub take_of_none_2 : Top
take_of_none_2 = prn (calls B.Into (vector_of (exprs ([])) ∷ calls B.Take (number 0 ∷ []) ∷ defined 1 ∷ []))

abbrev pub take_of_none_3 : Top
take_of_none_3 = ledger

-- (def src (map inc (iterate inc 0))) (prn (into [] (take 0) src)) (ledger)
abbrev pub take_of_none : Program
take_of_none = record { functions = []; bodies = []; names = codes "src" ∷ []; tops = take_of_none_1 ∷ take_of_none_2 ∷ take_of_none_3 ∷ [] }

-- One element enters before `take` says that all is done.
abbrev pub TakeOfNone : Type 0
TakeOfNone =
    ((limit : ℕ) → 6 ≤ limit → Prints take_of_none limit 2 (codes "[]")
    × Totals take_of_none limit 3 3 1 0)
    × Throws take_of_none 5 2 Steps

abbrev pub plain_call_1 : Top
plain_call_1 = prn (calls B.Inc (number 1 ∷ []))

-- (prn (inc 1))
abbrev pub plain_call : Program
plain_call = record { functions = []; bodies = []; names = []; tops = plain_call_1 ∷ [] }

-- A call and the visit by printing.
abbrev pub PlainCall : Type 0
PlainCall =
    ((limit : ℕ) → 2 ≤ limit → Prints plain_call limit 1 (codes "2")
    × Totals plain_call limit 1 0 0 0)
    × Throws plain_call 1 1 Steps

abbrev pub rest_and_next_1 : Top
rest_and_next_1 = def 0 (calls B.Map (word B.Inc ∷ calls B.Iterate (word B.Inc ∷ number 0 ∷ []) ∷ []))

abbrev pub rest_and_next_2 : Top
rest_and_next_2 = def 1 (calls B.Rest (defined 1 ∷ []))

abbrev pub rest_and_next_3 : Top
rest_and_next_3 = ledger

abbrev pub rest_and_next_4 : Top
rest_and_next_4 = def 2 (calls B.Next (defined 1 ∷ []))

abbrev pub rest_and_next_5 : Top
rest_and_next_5 = ledger

-- (def a (map inc (iterate inc 0))) (def r (rest a)) (ledger) (def n (next a)) (ledger)
abbrev pub rest_and_next : Program
rest_and_next = record { functions = []; bodies = []; names = codes "a" ∷ codes "r" ∷ codes "n" ∷ []; tops = rest_and_next_1 ∷ rest_and_next_2 ∷ rest_and_next_3 ∷ rest_and_next_4 ∷ rest_and_next_5 ∷ [] }

-- `next` asks whether there is a rest, and `rest` does not.
abbrev pub RestAndNext : Type 0
RestAndNext =
    ((limit : ℕ) → 3 ≤ limit → Totals rest_and_next limit 3 3 1 0
    × Totals rest_and_next limit 5 5 3 0)
    × Throws rest_and_next 2 4 Steps

abbrev pub never_asked_1 : Top
never_asked_1 = def 0 (calls B.Pmap (word B.Inc ∷ vector_of (exprs (literal (keyword_literal (codes "a")) ∷ [])) ∷ []))

abbrev pub never_asked_2 : Top
never_asked_2 = prn (number 1)

abbrev pub never_asked_3 : Top
never_asked_3 = ledger

-- (def p (pmap inc [:a])) (prn 1) (ledger)
abbrev pub never_asked : Program
never_asked = record { functions = []; bodies = []; names = codes "p" ∷ []; tops = never_asked_1 ∷ never_asked_2 ∷ never_asked_3 ∷ [] }

-- A future that fails and is never asked counts as failed, and nothing throws.
abbrev pub NeverAsked : Type 0
NeverAsked =
    ((limit : ℕ) → 3 ≤ limit → Prints never_asked limit 2 (codes "1")
    × Totals never_asked limit 3 5 2 1)
    × Throws never_asked 2 1 Steps

abbrev pub nested_mapcat_1 : Top
nested_mapcat_1 = prn (calls B.Mapcat (word B.List ∷ calls B.Mapcat (word B.List ∷ vector_of (exprs (number 1 ∷ number 2 ∷ [])) ∷ []) ∷ []))

-- (prn (mapcat list (mapcat list [1 2])))
abbrev pub nested_mapcat : Program
nested_mapcat = record { functions = []; bodies = []; names = []; tops = nested_mapcat_1 ∷ [] }

-- One `mapcat` over another.
abbrev pub NestedMapcat : Type 0
NestedMapcat =
    ((limit : ℕ) → 12 ≤ limit → Prints nested_mapcat limit 1 (codes "(1 2)")
    × Totals nested_mapcat limit 1 14 14 0)
    × Throws nested_mapcat 11 1 Steps

abbrev pub grouped_sequence_1 : Top
grouped_sequence_1 = prn (calls B.Sequence (calls B.PartitionAll (number 2 ∷ []) ∷ vector_of (exprs (number 1 ∷ number 2 ∷ number 3 ∷ [])) ∷ []))

-- (prn (sequence (partition-all 2) [1 2 3]))
abbrev pub grouped_sequence : Program
grouped_sequence = record { functions = []; bodies = []; names = []; tops = grouped_sequence_1 ∷ [] }

-- A sequence of groups, the last of which comes from the completion.
abbrev pub GroupedSequence : Type 0
GroupedSequence =
    ((limit : ℕ) → 9 ≤ limit → Prints grouped_sequence limit 1 (codes "([1 2] [3])")
    × Totals grouped_sequence limit 1 1 1 0)
    × Throws grouped_sequence 8 1 Steps

abbrev pub lazy_and_vector_1 : Top
lazy_and_vector_1 = prn (calls B.Equal (calls B.Map (word B.Inc ∷ vector_of (exprs (number 0 ∷ number 1 ∷ [])) ∷ []) ∷ vector_of (exprs (number 1 ∷ number 2 ∷ [])) ∷ []))

-- (prn (= (map inc [0 1]) [1 2]))
abbrev pub lazy_and_vector : Program
lazy_and_vector = record { functions = []; bodies = []; names = []; tops = lazy_and_vector_1 ∷ [] }

-- A lazy part and a vector are equal where their elements are.
abbrev pub LazyAndVector : Type 0
LazyAndVector =
    ((limit : ℕ) → 8 ≤ limit → Prints lazy_and_vector limit 1 (codes "true")
    × Totals lazy_and_vector limit 1 2 2 0)
    × Throws lazy_and_vector 7 1 Steps

abbrev pub nested_value_1 : Top
nested_value_1 = prn (vector_of (exprs (literal (keyword_literal (codes "k")) ∷ vector_of (exprs (literal nil_literal ∷ literal (bool_literal true) ∷ [])) ∷ literal empty_literal ∷ word B.Inc ∷ [])))

-- (prn [:k [nil true] () inc])
abbrev pub nested_value : Program
nested_value = record { functions = []; bodies = []; names = []; tops = nested_value_1 ∷ [] }

-- A vector in a vector, `()` and a function are printed.
abbrev pub NestedValue : Type 0
NestedValue =
    ((limit : ℕ) → 7 ≤ limit → Prints nested_value limit 1 (codes "[:k [nil true] () #fn]")
    × Totals nested_value limit 1 0 0 0)
    × Throws nested_value 6 1 Steps

abbrev pub pulled_ahead_1 : Top
pulled_ahead_1 = def 0 (calls B.Sequence (calls B.Map (word B.Inc ∷ []) ∷ calls B.Range (number 100 ∷ []) ∷ []))

abbrev pub pulled_ahead_2 : Top
pulled_ahead_2 = prn (calls B.First (defined 1 ∷ []))

abbrev pub pulled_ahead_3 : Top
pulled_ahead_3 = ledger

-- (def z (sequence (map inc) (range 100))) (prn (first z)) (ledger)
abbrev pub pulled_ahead : Program
pulled_ahead = record { functions = []; bodies = []; names = codes "z" ∷ []; tops = pulled_ahead_1 ∷ pulled_ahead_2 ∷ pulled_ahead_3 ∷ [] }

-- A sequence over a transducer pulls outputs until it has a chunk of them.
abbrev pub PulledAhead : Type 0
PulledAhead =
    ((limit : ℕ) → 64 ≤ limit → Prints pulled_ahead limit 2 (codes "1")
    × Totals pulled_ahead limit 3 2 1 0)
    × Throws pulled_ahead 63 2 Steps

abbrev pub dropped_1 : Top
dropped_1 = prn (calls B.First (calls B.Drop (number 7 ∷ calls B.Range (number 9 ∷ []) ∷ []) ∷ []))

-- (prn (first (drop 7 (range 9))))
abbrev pub dropped : Program
dropped = record { functions = []; bodies = []; names = []; tops = dropped_1 ∷ [] }

-- Each element that is dropped is visited.
abbrev pub Dropped : Type 0
Dropped =
    ((limit : ℕ) → 7 ≤ limit → Prints dropped limit 1 (codes "7")
    × Totals dropped limit 1 1 1 0)
    × Throws dropped 6 1 Steps

abbrev pub joined_once_1 : Top
joined_once_1 = defn

abbrev pub joined_once_2 : Top
joined_once_2 = prn (calls B.First (calls B.Mapcat (function_of 0 ∷ calls B.Map (word B.Inc ∷ vector_of (exprs (number 1 ∷ [])) ∷ []) ∷ []) ∷ []))

-- (defn f [x] [(inc (inc (inc (inc x))))]) (prn (first (mapcat f (map inc [1]))))
abbrev pub joined_once : Program
joined_once = record { functions = ((1, vector_of (exprs (calls B.Inc (calls B.Inc (calls B.Inc (calls B.Inc (local 0 ∷ []) ∷ []) ∷ []) ∷ []) ∷ []))) ∷ []) ∷ []; bodies = []; names = []; tops = joined_once_1 ∷ joined_once_2 ∷ [] }

-- `mapcat` asks its collection once for each element.
abbrev pub JoinedOnce : Type 0
JoinedOnce =
    ((limit : ℕ) → 6 ≤ limit → Prints joined_once limit 2 (codes "6")
    × Totals joined_once limit 2 6 3 0)
    × Throws joined_once 5 2 Steps

abbrev pub in_place_1 : Top
in_place_1 = prn (calls B.Nth (calls B.Range (number 9 ∷ []) ∷ number 4 ∷ []))

-- (prn (nth (range 9) 4))
abbrev pub in_place : Program
in_place = record { functions = []; bodies = []; names = []; tops = in_place_1 ∷ [] }

-- `nth` visits the elements before its place.
abbrev pub InPlace : Type 0
InPlace =
    ((limit : ℕ) → 7 ≤ limit → Prints in_place limit 1 (codes "4")
    × Totals in_place limit 1 0 0 0)
    × Throws in_place 6 1 Steps

abbrev pub made_script_1 : Top
made_script_1 = def 0 (calls B.Pmap (word B.Inc ∷ calls B.Range (number 10 ∷ []) ∷ []))

abbrev pub made_script_2 : Top
made_script_2 = prn (calls B.First (defined 1 ∷ []))

abbrev pub made_script_3 : Top
made_script_3 = ledger

-- (def s1 (pmap inc (range 10))) (prn (first s1)) (ledger)
abbrev pub made_script : Program
made_script = record { functions = []; bodies = []; names = codes "s1" ∷ []; tops = made_script_1 ∷ made_script_2 ∷ made_script_3 ∷ [] }

-- The script that is made from 1: ten calls run ahead, of which one is asked.
abbrev pub MadeScript : Type 0
MadeScript =
    ((limit : ℕ) → 7 ≤ limit → Prints made_script limit 2 (codes "1")
    × Totals made_script limit 3 15 13 0)
    × Throws made_script 6 2 Steps

abbrev pub failing_def_1 : Top
failing_def_1 = def 0 (calls B.Inc (literal (keyword_literal (codes "a")) ∷ []))

abbrev pub failing_def_2 : Top
failing_def_2 = prn (defined 1)

-- (def q (inc :a)) (prn q)
abbrev pub failing_def : Program
failing_def = record { functions = []; bodies = []; names = codes "q" ∷ []; tops = failing_def_1 ∷ failing_def_2 ∷ [] }
