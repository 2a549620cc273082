-- The script of one `map`: its program, and how far its two works have come between the calls.
use Rattle.std.specs.Prelude.{◌≡◌, ◌≢◌, ℕ, suc, ◌<◌, pos, Bool, false, codes, List, [], ◌∷◌, Some}
use Rattle.seq_values.specs.declared.words.Builtin.TheVariants as B
use Rattle.seq_values.specs.declared.words.Kind.{Kind}
use Rattle.seq_values.specs.declared.words.Kind.TheVariants.{Lazy}
use Rattle.seq_values.specs.declared.words.Op.TheVariants as O
use Rattle.seq_values.specs.declared.words.Target.TheVariants.{Builtin}
use Rattle.seq_values.specs.declared.term.Term.{Term as CodedTerm}
use Rattle.seq_values.specs.Model.{Value, nil, int, text, function, cell, empty, chunk, range, no_values, ◌&◌, Term}
use Rattle.seq_values.specs.Plain.{plain_term}
use Rattle.clj_script.specs.Trees.{int_literal, literal, word, call_of, exprs, Top, prn, Program}
use Rattle.seq_plan.specs.Plan.{Plan, ask, seq, call, make, give, then, Rules}
use Rattle.seq_plan.specs.Nodes.{first_of, if_nil}
use Rattle.seq_meaning.specs.Prints.{print_rule}
use Rattle.cell_book.specs.declared.cell.Cell.{Cell}
use Rattle.cell_book.specs.declared.work.Place.TheVariants as P
use Rattle.cell_book.specs.Account.{Account, Duty}
use Rattle.cell_book.specs.Glimpses.{Glimpse, IsForced, LawIs}
use Rattle.seq_table.specs.Table.{language}
use Rattle.seq_lawful.specs.Lawful.{Lawful}
use Rattle.seq_lawful.specs.Runs.{OnRun}

-- (prn (first (map inc (range 1))))
abbrev pub the_form : Top
the_form = prn (call_of (word B.First) (exprs (call_of (word B.Map) (exprs (word B.Inc ∷ call_of (word B.Range) (exprs (literal (int_literal (pos 1)) ∷ [])) ∷ [])) ∷ [])))

abbrev pub one_map : Program
one_map = record { functions = []; bodies = []; names = []; tops = the_form ∷ [] }

-- own steps of each evaluation
abbrev pub steps : ℕ
steps = 8

abbrev pub table : Rules ℕ
table = language 4

-- the law of its book
abbrev pub IsGood : Account → Type 0
IsGood = Lawful (language 4) one_map steps

abbrev pub KeepsGood : Bool → (Account → Type 0) → (Account → Type 0) → Type 0
KeepsGood alone law noted = LawIs alone law noted IsGood

-- the part that the form makes, and the one for its rest
abbrev pub map_of : Value ℕ → Term ℕ
map_of c = record { op = O.Map; args = function (Builtin B.Inc) no_values ∷ c ∷ [] }

abbrev pub whole_map : Term ℕ
whole_map = map_of (range (pos 0) (pos 0) (pos 1))

abbrev pub rest_map : Term ℕ
rest_map = map_of empty

-- the form's plans: it makes the part, asks it, and gives the text of the first element
abbrev pub prints_first : Value ℕ → Plan ℕ
prints_first s = then (if_nil s (give nil) (give (first_of s))) print_rule

abbrev pub form_calls : ℕ → Plan ℕ
form_calls c = call (function (Builtin B.First) no_values) (cell c ∷ []) print_rule

abbrev pub form_makes : Plan ℕ
form_makes = make Lazy whole_map form_calls

abbrev pub form_waits : ℕ → Plan ℕ
form_waits c = ask c (λ v. seq v prints_first)

-- the part's plans: it makes the part for the rest, and gives a chunk before it
abbrev pub one_before : ℕ → Value ℕ
one_before c = chunk (int (pos 1) & no_values) (cell c)

abbrev pub part_gives : ℕ → Plan ℕ
part_gives c = give (one_before c)

abbrev pub part_makes : Plan ℕ
part_makes = make Lazy rest_map part_gives

abbrev pub form_gives : Plan ℕ
form_gives = give (text (codes "1"))

-- the work is open, and its run came to this plan
abbrev pub RunsTo : (ℕ → ℕ) → Glimpse → Duty → ℕ → Plan ℕ → Type 0
RunsTo held g w left plan = (0 < held w.claim) × OnRun table one_map steps g w left plan

-- the cell has this term
pub record HasTerm (g : Glimpse) (c : ℕ) (t : Term ℕ) : Type 0 where
  pub part : Cell
  pub at : g.cells c ≡ Some part
  pub term : plain_term part.term ≡ t

-- the work is on the part, which the form asked for
pub record AskedBy (g : Glimpse) (form w : Duty) (c : ℕ) : Type 0 where
  pub kind : Kind
  pub term : CodedTerm
  pub place : w.place ≡ P.Part c kind term
  pub apart : form.claim ≢ w.claim
  pub forced : IsForced g c w.claim (Some form.claim)

-- a book in which nothing was begun, known whole
pub record IsNew (noted : Account → Type 0) (g : Glimpse) : Type 0 where
  pub book : Account
  pub known : noted book
  pub no_forms : book.forms ≡ []
  pub unspent : book.spent ≡ false
  pub none_seen : g.begun ≡ []
