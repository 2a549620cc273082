-- What the compiler reads of a list, as the forms that its numbers stand for.
use Rattle.std.specs.Prelude.{ℕ, Bool, true, false, List, [], ◌∷◌, map, Option, Some, None}
use Rattle.std.specs.Option.{option_map}
use Rattle.clj_script.specs.declared.source.Entry.{Entry}
use Rattle.clj_script.specs.declared.reading.Reading.{Reading}
use Rattle.clj_script.specs.declared.reading.Reading.TheVariants as read
use Rattle.clj_script.specs.declared.reading.Clause.{Clause}
use Rattle.clj_script.specs.Sources.{Source}
use Rattle.clj_script.specs.Threading.{written_out, refusals_of_steps}
use Rattle.clj_script.specs.Readings as spec
use Rattle.clj_script.specs.declared.top_form.TopForm.{TopForm}
use Rattle.clj_script.specs.declared.top_form.TopForm.TheVariants as top
use Rattle.clj_script.specs.Scripts.{TopReading, stray, stray_list, wrong, stands_for, def_of, defn_of, prn_of, ledger_of}
use Rattle.clj_script.specs.Entries.{form_at}

abbrev pub pair_at : List Entry → ℕ × ℕ → Source × Source
pair_at entries p = (form_at entries p.0, form_at entries p.1)

abbrev pub clause_at : List Entry → Clause → spec.Clause
clause_at entries c = record { whole = form_at entries c.whole; parameters = form_at entries c.parameters; body = form_at entries c.body }

abbrev pub as_read : List Entry → Reading → spec.Reading
as_read entries read.Nothing = spec.nothing
as_read entries (read.Refused n) = spec.refused n
as_read entries (read.Threaded way first steps) = spec.stands_for (written_out way (form_at entries first) (map (form_at entries) steps.now)) (refusals_of_steps (map (form_at entries) steps.now))
as_read entries (read.Call head args) = spec.call (form_at entries head) (map (form_at entries) args.now)
as_read entries (read.Let pairs body) = spec.let_of (map (pair_at entries) pairs.items) (form_at entries body)
as_read entries (read.If test a z) = spec.if_of (form_at entries test) (form_at entries a) (option_map (form_at entries) z)
as_read entries (read.And args) = spec.and_of (map (form_at entries) args.now)
as_read entries (read.Or args) = spec.or_of (map (form_at entries) args.now)
as_read entries (read.LazySeq body) = spec.lazy_seq (form_at entries body)

abbrev pub numbers_of_pairs : List (ℕ × ℕ) → List ℕ
numbers_of_pairs [] = []
numbers_of_pairs (p ∷ ps) = p.0 ∷ p.1 ∷ numbers_of_pairs ps

abbrev pub numbers_of_clause : Clause → List ℕ
numbers_of_clause c = c.whole ∷ c.parameters ∷ c.body ∷ []

abbrev pub numbers_of_clauses : List Clause → List ℕ
numbers_of_clauses [] = []
numbers_of_clauses (c ∷ cs) = c.whole ∷ c.parameters ∷ c.body ∷ numbers_of_clauses cs

abbrev pub the_third : Option ℕ → List ℕ
the_third None = []
the_third (Some n) = n ∷ []

-- the numbers of forms in a reading
abbrev pub numbers_in : Reading → List ℕ
numbers_in read.Nothing = []
numbers_in (read.Refused n) = []
numbers_in (read.Threaded way first steps) = first ∷ steps.now
numbers_in (read.Call head args) = head ∷ args.now
numbers_in (read.Let pairs body) = body ∷ numbers_of_pairs pairs.items
numbers_in (read.If test a z) = test ∷ a ∷ the_third z
numbers_in (read.And args) = args.now
numbers_in (read.Or args) = args.now
numbers_in (read.LazySeq body) = body ∷ []

-- what the compiler reads of a form at the top
abbrev pub as_top : List Entry → TopForm → TopReading
as_top entries top.Stray = stray
as_top entries top.StrayList = stray_list
as_top entries top.Wrong = wrong
as_top entries (top.Def name value) = def_of (form_at entries name) (form_at entries value)
as_top entries (top.Defn name clauses) = defn_of (form_at entries name) (map (clause_at entries) clauses.items)
as_top entries (top.Prn value) = prn_of (form_at entries value)
as_top entries top.Ledger = ledger_of

abbrev pub numbers_in_top : TopForm → List ℕ
numbers_in_top top.Stray = []
numbers_in_top top.StrayList = []
numbers_in_top top.Wrong = []
numbers_in_top (top.Def name value) = name ∷ value ∷ []
numbers_in_top (top.Defn name clauses) = name ∷ numbers_of_clauses clauses.items
numbers_in_top (top.Prn value) = value ∷ []
numbers_in_top top.Ledger = []

abbrev pub is_threading : TopReading → Bool
is_threading (stands_for s rs) = true
is_threading stray = false
is_threading stray_list = false
is_threading wrong = false
is_threading (def_of name value) = false
is_threading (defn_of name clauses) = false
is_threading (prn_of value) = false
is_threading ledger_of = false
