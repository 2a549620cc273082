-- The forms that the compiler keeps in a row.
use Rattle.std.specs.Prelude.{◌≡◌, ℕ, ◌<◌, List, [], ◌++◌, length, map, Option, Some, None}
use Rattle.std.specs.Borrow.{Bor}
use Rattle.clj_script.specs.declared.source.Entry.{Entry}
use Rattle.clj_script.specs.declared.source.Content.{Content}
use Rattle.clj_script.specs.declared.source.Content.TheVariants as content
use Rattle.clj_reader.specs.declared.place.Place.{Place}
use Rattle.clj_script.specs.Trees.{nil_literal}
use Rattle.clj_script.specs.Arena.{at, AllBelow, trees_behind, LowerFrom}
use Rattle.clj_script.specs.Sources.{Source, atom, symbol, round, square, sources}
use Rattle.clj_script.specs.Literals.{literal_of_atom}

-- what a number stands for that no form has
abbrev pub no_form : Source
no_form = atom (record { line = 1; column = 1 }) nil_literal

-- a form at a place over the forms before it
abbrev pub form_with : List Source → Place → Content → Source
form_with forms place (content.Literal literal) = atom place (literal_of_atom literal)
form_with forms place (content.Symbol name) = symbol place name.items
form_with forms place (content.List items) = round place (sources (map (at no_form forms) items.items))
form_with forms place (content.Vector items) = square place (sources (map (at no_form forms) items.items))

abbrev pub form_over : List Source → Entry → Source
form_over forms e = form_with forms e.place e.content

-- the forms of which content is made
abbrev pub parts_of_content : Content → List ℕ
parts_of_content (content.Literal literal) = []
parts_of_content (content.Symbol name) = []
parts_of_content (content.List items) = items.items
parts_of_content (content.Vector items) = items.items

abbrev pub parts_of : Entry → List ℕ
parts_of e = parts_of_content e.content

unfoldable pub forms_of : List Entry → List Source
forms_of entries = trees_behind form_over [] entries

-- the form with a number
abbrev pub form_at : List Entry → ℕ → Source
form_at entries n = at no_form (forms_of entries) n

-- each form is made of some before it
unfoldable pub IsLower : List Entry → Type 0
IsLower entries = LowerFrom parts_of 0 entries

-- behind the old entries there may be more, and these numbers stand for these forms
pub record AreAdded (old new : List Entry) (ns : List ℕ) (forms : List Source) : Type 0 where
  pub more : List Entry
  pub grown : new ≡ old ++ more
  pub lower : IsLower new
  pub below : AllBelow (length new) ns
  pub stand : map (form_at new) ns ≡ forms

-- the same of one number
pub record IsAdded (old new : List Entry) (n : ℕ) (form : Source) : Type 0 where
  pub more : List Entry
  pub grown : new ≡ old ++ more
  pub lower : IsLower new
  pub below : n < length new
  pub stands : form_at new n ≡ form

-- the same of content, which is this form at each place
pub record IsContent (old new : List Entry) (c : Content) (form : Place → Source) : Type 0 where
  pub more : List Entry
  pub grown : new ≡ old ++ more
  pub lower : IsLower new
  pub below : AllBelow (length new) (parts_of_content c)
  pub stands : (p : Place) → form_with (forms_of new) p c ≡ form p

-- numbers of forms, or none where there are to be none
abbrev pub AreItems : List Entry → Option (Bor (List ℕ)) → Option (List Source) → Type 0
AreItems entries None wanted = wanted ≡ None
AreItems entries (Some ns) wanted = (wanted ≡ Some (map (form_at entries) ns.now)) × AllBelow (length entries) ns.now
