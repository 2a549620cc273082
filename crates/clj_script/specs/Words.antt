-- The words of the language by their spelling.
use Rattle.std.specs.Prelude.{ℕ, List, [], ◌∷◌, Option, Some, None, codes, if◌then◌else◌}
use Rattle.std.specs.Str.{bytes_eq}
use Rattle.seq_values.specs.declared.words.Builtin.{Builtin}
use Rattle.seq_values.specs.declared.words.Builtin.TheVariants as word
use Rattle.clj_script.specs.declared.words.Special.TheVariants as special
use Rattle.clj_script.specs.declared.words.Reserved.{Reserved}
use Rattle.clj_script.specs.declared.words.Reserved.TheVariants as reserved

-- what a table has for a spelling: the first line with it
abbrev pub spelled : {T : Type 0} → List (List ℕ × T) → List ℕ → Option T
spelled [] name = None
spelled (line ∷ lines) name = if bytes_eq line.0 name then Some line.1 else spelled lines name

-- The words of special forms, and those words of Clojure that the language leaves out. No name may be one of them.
abbrev pub reserved_words : List (List ℕ × Reserved)
reserved_words =
    (codes "def", reserved.Special special.Def) ∷
    (codes "defn", reserved.Special special.Defn) ∷
    (codes "prn", reserved.Special special.Prn) ∷
    (codes "ledger", reserved.Special special.Ledger) ∷
    (codes "let", reserved.Special special.Let) ∷
    (codes "if", reserved.Special special.If) ∷
    (codes "when", reserved.Special special.When) ∷
    (codes "and", reserved.Special special.And) ∷
    (codes "or", reserved.Special special.Or) ∷
    (codes "lazy-seq", reserved.Special special.LazySeq) ∷
    (codes "->", reserved.Special special.ThreadSecond) ∷
    (codes "->>", reserved.Special special.ThreadLast) ∷
    (codes "fn", reserved.Outside) ∷
    (codes "loop", reserved.Outside) ∷
    (codes "recur", reserved.Outside) ∷
    (codes "try", reserved.Outside) ∷
    (codes "throw", reserved.Outside) ∷
    (codes "catch", reserved.Outside) ∷
    (codes "quote", reserved.Outside) ∷
    (codes "var", reserved.Outside) ∷
    (codes "do", reserved.Outside) ∷
    (codes "doseq", reserved.Outside) ∷
    (codes "for", reserved.Outside) ∷
    (codes "dotimes", reserved.Outside) ∷
    (codes "when-let", reserved.Outside) ∷
    (codes "if-let", reserved.Outside) ∷
    (codes "when-not", reserved.Outside) ∷
    (codes "cond", reserved.Outside) ∷
    (codes "case", reserved.Outside) ∷
    (codes "letfn", reserved.Outside) ∷
    (codes "defmacro", reserved.Outside) ∷
    (codes "ns", reserved.Outside) ∷ []

-- the words that are built in
abbrev pub built_in_words : List (List ℕ × Builtin)
built_in_words =
    (codes "+", word.Plus) ∷
    (codes "*", word.Times) ∷
    (codes "-", word.Minus) ∷
    (codes "inc", word.Inc) ∷
    (codes "dec", word.Dec) ∷
    (codes "quot", word.Quot) ∷
    (codes "rem", word.Rem) ∷
    (codes "mod", word.Mod) ∷
    (codes "min", word.Min) ∷
    (codes "max", word.Max) ∷
    (codes "<", word.Less) ∷
    (codes "<=", word.LessOrEqual) ∷
    (codes ">", word.Greater) ∷
    (codes ">=", word.GreaterOrEqual) ∷
    (codes "zero?", word.IsZero) ∷
    (codes "pos?", word.IsPositive) ∷
    (codes "neg?", word.IsNegative) ∷
    (codes "even?", word.IsEven) ∷
    (codes "odd?", word.IsOdd) ∷
    (codes "nil?", word.IsNil) ∷
    (codes "some?", word.IsSome) ∷
    (codes "true?", word.IsTrue) ∷
    (codes "false?", word.IsFalse) ∷
    (codes "not", word.Not) ∷
    (codes "number?", word.IsNumber) ∷
    (codes "keyword?", word.IsKeyword) ∷
    (codes "string?", word.IsString) ∷
    (codes "vector?", word.IsVector) ∷
    (codes "fn?", word.IsFunction) ∷
    (codes "identity", word.Identity) ∷
    (codes "constantly", word.Constantly) ∷
    (codes "complement", word.Complement) ∷
    (codes "partial", word.Partial) ∷
    (codes "comp", word.Comp) ∷
    (codes "completing", word.Completing) ∷
    (codes "r/monoid", word.Monoid) ∷
    (codes "vector", word.Vector) ∷
    (codes "list", word.List) ∷
    (codes "reduced", word.Reduced) ∷
    (codes "reduced?", word.IsReduced) ∷
    (codes "unreduced", word.Unreduced) ∷
    (codes "seq", word.Seq) ∷
    (codes "first", word.First) ∷
    (codes "second", word.Second) ∷
    (codes "rest", word.Rest) ∷
    (codes "next", word.Next) ∷
    (codes "nth", word.Nth) ∷
    (codes "last", word.Last) ∷
    (codes "count", word.Count) ∷
    (codes "empty?", word.IsEmpty) ∷
    (codes "cons", word.Cons) ∷
    (codes "conj", word.Conj) ∷
    (codes "vec", word.Vec) ∷
    (codes "reverse", word.Reverse) ∷
    (codes "doall", word.Doall) ∷
    (codes "every?", word.IsEvery) ∷
    (codes "some", word.Some) ∷
    (codes "apply", word.Apply) ∷
    (codes "=", word.Equal) ∷
    (codes "not=", word.NotEqual) ∷
    (codes "reduce", word.Reduce) ∷
    (codes "into", word.Into) ∷
    (codes "transduce", word.Transduce) ∷
    (codes "map", word.Map) ∷
    (codes "filter", word.Filter) ∷
    (codes "keep", word.Keep) ∷
    (codes "remove", word.Remove) ∷
    (codes "take", word.Take) ∷
    (codes "drop", word.Drop) ∷
    (codes "take-while", word.TakeWhile) ∷
    (codes "drop-while", word.DropWhile) ∷
    (codes "concat", word.Concat) ∷
    (codes "mapcat", word.Mapcat) ∷
    (codes "iterate", word.Iterate) ∷
    (codes "range", word.Range) ∷
    (codes "repeat", word.Repeat) ∷
    (codes "cycle", word.Cycle) ∷
    (codes "partition-all", word.PartitionAll) ∷
    (codes "sequence", word.Sequence) ∷
    (codes "pmap", word.Pmap) ∷
    (codes "seque", word.Seque) ∷
    (codes "cat", word.Cat) ∷
    (codes "r/map", word.ReducerMap) ∷
    (codes "r/filter", word.ReducerFilter) ∷
    (codes "r/remove", word.ReducerRemove) ∷
    (codes "r/mapcat", word.ReducerMapcat) ∷
    (codes "r/take", word.ReducerTake) ∷
    (codes "r/take-while", word.ReducerTakeWhile) ∷
    (codes "r/fold", word.Fold) ∷ []

unfoldable pub reserved_of : List ℕ → Option Reserved
reserved_of name = spelled reserved_words name

unfoldable pub built_in_of : List ℕ → Option Builtin
built_in_of name = spelled built_in_words name
