-- The rows that settings leave with `clap`, and what is found in them.
use Rattle.std.proofs.Common.{◌≡◌, ℕ, Bool, true, false, ◌||◌, List, [], ◌∷◌, ◌++◌, Option, Some, None, refl, ap, ap₂, sym, subst, ◌∙◌, append_assoc}
use Rattle.std.specs.Prelude.{codes, find, fold, if◌then◌else◌, not, ◌&&◌}
use Rattle.std.specs.Str.{bytes_eq}
use Rattle.std.proofs.lemmas.List.{append-nil}
use Rattle.clap.specs.Walk.{Row, at_row, has_row, more_values, used, with_default, with_values, without}
use Rattle.clap.specs.declared.builder.value_parser.Reading.TheVariants as reading
use Rattle.clap.specs.declared.parser.matches.ValueSource.TheVariants.{CommandLine, DefaultValue}
use Rattle.command_line.specs.declared.setting.Setting.{Setting}
use Rattle.command_line.specs.declared.setting.Setting.TheVariants.{Check, Generate, Workers, Processors, Cells, Steps}
use Rattle.command_line.specs.Settings.{Text}
use Rattle.command_line.specs.Asking.{is_among, none_twice, number_in, number_of, same_kind}
use Rattle.command_line.specs.Reading.{Kind, generate, workers, processors, cells, steps, name_of, read_by, setting_by}
use Rattle.command_line.proofs.Names.{clash, equal_text, flag, number, ours, same_text}

abbrev pub row : Text → Text → Row
row name v = record { id = name; values = v ∷ []; count = None; source = Some CommandLine; reading = reading.AsWritten }

abbrev pub row_name : Setting → Text
row_name Check = codes "check"
row_name (Generate n) = codes "generate"
row_name (Workers n) = codes "workers"
row_name (Processors n) = codes "processors"
row_name (Cells n) = codes "cells"
row_name (Steps n) = codes "steps"

-- the value spells the setting
abbrev pub Reads : Setting → Text → Type 0
Reads Check v = v ≡ codes "true"
Reads (Generate n) v = read_by generate v ≡ Some n
Reads (Workers n) v = read_by workers v ≡ Some n
Reads (Processors n) v = read_by processors v ≡ Some n
Reads (Cells n) v = read_by cells v ≡ Some n
Reads (Steps n) v = read_by steps v ≡ Some n

-- behind these rows each setting left one more
pub data Added : List Row → List Setting → List Row → Type 0 where
  added_none : {rows : List Row} → Added rows [] rows
  added : {rows out : List Row} {ss : List Setting} (t : Setting) (v : Text) → has_row (row_name t) rows ≡ false → Reads t v → Added (rows ++ row (row_name t) v ∷ []) ss out → Added rows (t ∷ ss) out

pub kinds : (s t : Setting) → same_kind s t ≡ bytes_eq (row_name t) (row_name s)
kinds Check Check = refl
kinds Check (Generate n) = refl
kinds Check (Workers n) = refl
kinds Check (Processors n) = refl
kinds Check (Cells n) = refl
kinds Check (Steps n) = refl
kinds (Generate m) Check = refl
kinds (Generate m) (Generate n) = refl
kinds (Generate m) (Workers n) = refl
kinds (Generate m) (Processors n) = refl
kinds (Generate m) (Cells n) = refl
kinds (Generate m) (Steps n) = refl
kinds (Workers m) Check = refl
kinds (Workers m) (Generate n) = refl
kinds (Workers m) (Workers n) = refl
kinds (Workers m) (Processors n) = refl
kinds (Workers m) (Cells n) = refl
kinds (Workers m) (Steps n) = refl
kinds (Processors m) Check = refl
kinds (Processors m) (Generate n) = refl
kinds (Processors m) (Workers n) = refl
kinds (Processors m) (Processors n) = refl
kinds (Processors m) (Cells n) = refl
kinds (Processors m) (Steps n) = refl
kinds (Cells m) Check = refl
kinds (Cells m) (Generate n) = refl
kinds (Cells m) (Workers n) = refl
kinds (Cells m) (Processors n) = refl
kinds (Cells m) (Cells n) = refl
kinds (Cells m) (Steps n) = refl
kinds (Steps m) Check = refl
kinds (Steps m) (Generate n) = refl
kinds (Steps m) (Workers n) = refl
kinds (Steps m) (Processors n) = refl
kinds (Steps m) (Cells n) = refl
kinds (Steps m) (Steps n) = refl

pub kind_row : (k : Kind) (n : ℕ) → row_name (setting_by k n) ≡ name_of k
kind_row generate n = refl
kind_row workers n = refl
kind_row processors n = refl
kind_row cells n = refl
kind_row steps n = refl

pub kind_reads : (k : Kind) (n : ℕ) (v : Text) → read_by k v ≡ Some n → Reads (setting_by k n) v
kind_reads generate n v h = h
kind_reads workers n v h = h
kind_reads processors n v h = h
kind_reads cells n v h = h
kind_reads steps n v h = h

pub reads_kind : (k : Kind) (t : Setting) (v : Text) → same_kind (setting_by k 0) t ≡ true → Reads t v → read_by k v ≡ Some (number_of t)
reads_kind generate Check v p h = absurd cc
reads_kind generate (Generate n) v p h = h
reads_kind generate (Workers n) v p h = absurd cc
reads_kind generate (Processors n) v p h = absurd cc
reads_kind generate (Cells n) v p h = absurd cc
reads_kind generate (Steps n) v p h = absurd cc
reads_kind workers Check v p h = absurd cc
reads_kind workers (Generate n) v p h = absurd cc
reads_kind workers (Workers n) v p h = h
reads_kind workers (Processors n) v p h = absurd cc
reads_kind workers (Cells n) v p h = absurd cc
reads_kind workers (Steps n) v p h = absurd cc
reads_kind processors Check v p h = absurd cc
reads_kind processors (Generate n) v p h = absurd cc
reads_kind processors (Workers n) v p h = absurd cc
reads_kind processors (Processors n) v p h = h
reads_kind processors (Cells n) v p h = absurd cc
reads_kind processors (Steps n) v p h = absurd cc
reads_kind cells Check v p h = absurd cc
reads_kind cells (Generate n) v p h = absurd cc
reads_kind cells (Workers n) v p h = absurd cc
reads_kind cells (Processors n) v p h = absurd cc
reads_kind cells (Cells n) v p h = h
reads_kind cells (Steps n) v p h = absurd cc
reads_kind steps Check v p h = absurd cc
reads_kind steps (Generate n) v p h = absurd cc
reads_kind steps (Workers n) v p h = absurd cc
reads_kind steps (Processors n) v p h = absurd cc
reads_kind steps (Cells n) v p h = absurd cc
reads_kind steps (Steps n) v p h = h

-- ## Rows behind rows

abbrev pub found : Text → List Row → Option Row
found id rows = find (λ r. bytes_eq r.id id) rows

appended : (id : Text) (change : Row → List Row) (missing rows : List Row) → has_row id rows ≡ false → at_row id change missing rows ≡ rows ++ missing
appended id change missing [] e = refl
appended id change missing (r ∷ rs) e = here (bytes_eq r.id id) (appended id change missing rs) e
  where
    here : (b : Bool) → (has_row id rs ≡ false → at_row id change missing rs ≡ rs ++ missing) → (b || has_row id rs) ≡ false → (if b then change r ++ rs else r ∷ at_row id change missing rs) ≡ r ∷ (rs ++ missing)
    here true h e = absurd cc
    here false h e = ap (λ t. r ∷ t) (h e)

kept : (id : Text) (rows : List Row) → has_row id rows ≡ false → without id rows ≡ rows
kept id rows e = appended id (λ _. []) [] rows e ∙ append-nil rows

-- an option's row
pub number_used : (name v : Text) (rows : List Row) → has_row name rows ≡ false → used (number name) (v ∷ []) rows ≡ rows ++ row name v ∷ []
number_used name v rows e = ap (λ r. with_values name reading.AsWritten CommandLine (v ∷ []) r) (kept name rows e) ∙ appended name (more_values CommandLine (v ∷ [])) (row name v ∷ []) rows e

-- the flag's row
pub flag_used : (rows : List Row) → has_row (codes "check") rows ≡ false → used flag [] rows ≡ rows ++ row (codes "check") (codes "true") ∷ []
flag_used rows e = ap (λ r. with_values (codes "check") reading.AsWritten CommandLine (codes "true" ∷ []) r) (kept (codes "check") rows e) ∙ appended (codes "check") (more_values CommandLine (codes "true" ∷ [])) (row (codes "check") (codes "true") ∷ []) rows e

pub has_more : (id : Text) (xs ys : List Row) → has_row id (xs ++ ys) ≡ (has_row id xs || has_row id ys)
has_more id [] ys = refl
has_more id (x ∷ xs) ys = here (bytes_eq x.id id) (has_more id xs ys)
  where
    here : (b : Bool) → has_row id (xs ++ ys) ≡ (has_row id xs || has_row id ys) → (b || has_row id (xs ++ ys)) ≡ ((b || has_row id xs) || has_row id ys)
    here true h = refl
    here false h = h

pub found_behind : (id : Text) (xs ys : List Row) → has_row id xs ≡ false → found id (xs ++ ys) ≡ found id ys
found_behind id [] ys e = refl
found_behind id (x ∷ xs) ys e = here (bytes_eq x.id id) (found_behind id xs ys) e
  where
    here : (b : Bool) → (has_row id xs ≡ false → found id (xs ++ ys) ≡ found id ys) → (b || has_row id xs) ≡ false → (if b then Some x else found id (xs ++ ys)) ≡ found id ys
    here true h e = absurd cc
    here false h e = h e

pub found_none : (id : Text) (xs : List Row) → has_row id xs ≡ false → found id xs ≡ None
found_none id xs e = ap (found id) (sym (append-nil xs)) ∙ found_behind id xs [] e

pub has_found : (id : Text) (xs : List Row) (r : Row) → found id xs ≡ Some r → has_row id xs ≡ true
has_found id [] r e = absurd cc
has_found id (x ∷ xs) r e = here (has_found id xs r) (bytes_eq x.id id) e
  where
    here : (found id xs ≡ Some r → has_row id xs ≡ true) → (b : Bool) → (if b then Some x else found id xs) ≡ Some r → (b || has_row id xs) ≡ true
    here h true e = refl
    here h false e = h e

-- the row that was just added is found
pub found_here : (id v : Text) (xs more : List Row) → has_row id xs ≡ false → found id ((xs ++ row id v ∷ []) ++ more) ≡ Some (row id v)
found_here id v xs more e =
    ap (found id) (append_assoc xs (row id v ∷ []) more) ∙ (found_behind id xs (row id v ∷ more) e ∙ ap (λ b. if b then Some (row id v) else found id more) (equal_text id id refl))

pub extended : (rows out : List Row) (ss : List Setting) → Added rows ss out → (more : List Row) × (out ≡ rows ++ more)
extended rows out ss added_none = ([], sym (append-nil rows))
extended rows out ss (added t v f r a) =
    let x = extended _ _ _ a in
    (row (row_name t) v ∷ x.0, x.1 ∙ append_assoc rows (row (row_name t) v ∷ []) x.0)

-- ## What is found

pub data At (s : Setting) (ss : List Setting) (out : List Row) : Type 0 where
  at_none : number_in s ss ≡ None → has_row (row_name s) out ≡ false → At s ss out
  at_some : (t : Setting) (v : Text) → same_kind s t ≡ true → number_in s ss ≡ Some (number_of t) → found (row_name s) out ≡ Some (row (row_name t) v) → Reads t v → At s ss out

at_later : (s t : Setting) (ss : List Setting) (out : List Row) → same_kind s t ≡ false → At s ss out → At s (t ∷ ss) out
at_later s t ss out e (at_none n f) = at_none (ap (λ b. if b then Some (number_of t) else number_in s ss) e ∙ n) f
at_later s t ss out e (at_some u v k n f r) = at_some u v k (ap (λ b. if b then Some (number_of t) else number_in s ss) e ∙ n) f r

still_none : (s t : Setting) (v : Text) (rows : List Row) → same_kind s t ≡ false → has_row (row_name s) rows ≡ false → has_row (row_name s) (rows ++ row (row_name t) v ∷ []) ≡ false
still_none s t v rows k e = has_more (row_name s) rows (row (row_name t) v ∷ []) ∙ ap₂ (λ a b. a || (b || false)) e (sym (kinds s t) ∙ k)

pub looked_up : (s : Setting) (rows out : List Row) (ss : List Setting) → Added rows ss out → has_row (row_name s) rows ≡ false → At s ss out
looked_up s rows out ss added_none e = at_none refl e
looked_up s rows out ss (added {ss = more} t v f r a) e = here (looked_up s _ out more a) (same_kind s t) refl
  where
    here : (has_row (row_name s) (rows ++ row (row_name t) v ∷ []) ≡ false → At s more out) → (b : Bool) → same_kind s t ≡ b → At s (t ∷ more) out
    here h false k = at_later s t more out k (h (still_none s t v rows k e))
    here h true k =
        let name : row_name t ≡ row_name s = same_text (row_name t) (row_name s) (sym (kinds s t) ∙ k) in
        let x = extended _ _ _ a in
        at_some t v k (ap (λ b. if b then Some (number_of t) else number_in s more) k)
        (subst (λ n. found n out ≡ Some (row (row_name t) v)) name (ap (found (row_name t)) x.1 ∙ found_here (row_name t) v rows x.0 f)) r

-- a setting whose row is there isn't added again
none_again : (s : Setting) (rows out : List Row) (ss : List Setting) → Added rows ss out → has_row (row_name s) rows ≡ true → is_among s ss ≡ false
none_again s rows out ss added_none e = refl
none_again s rows out ss (added {ss = more} t v f r a) e = here (none_again s _ out more a (has_more (row_name s) rows (row (row_name t) v ∷ []) ∙ ap (λ b. b || has_row (row_name s) (row (row_name t) v ∷ [])) e)) (same_kind s t) refl
  where
    here : is_among s more ≡ false → (b : Bool) → same_kind s t ≡ b → (if same_kind s t then true else is_among s more) ≡ false
    here h false k = ap (λ b. if b then true else is_among s more) k ∙ h
    here h true k =
        let name : row_name t ≡ row_name s = same_text (row_name t) (row_name s) (sym (kinds s t) ∙ k) in
        absurd (clash (has_row (row_name s) rows) e (subst (λ n. has_row n rows ≡ false) name f))

pub added_once : (rows out : List Row) (ss : List Setting) → Added rows ss out → none_twice ss ≡ true
added_once rows out ss added_none = refl
added_once rows out ss (added {ss = more} t v f r a) =
    let there : has_row (row_name t) (rows ++ row (row_name t) v ∷ []) ≡ true = has_more (row_name t) rows (row (row_name t) v ∷ []) ∙ ap₂ (λ a b. a || (b || false)) f (equal_text (row_name t) (row_name t) refl) in
    ap₂ (λ a b. not a && b) (none_again t _ out more a there) (added_once _ out more a)

-- ## The flag's default

abbrev pub off : Row
off = record { id = codes "check"; values = codes "false" ∷ []; count = None; source = Some DefaultValue; reading = reading.AsWritten }

abbrev pub finish : List Row → List Row
finish rows = fold with_default rows ours.rules

numbers_stay : (name : Text) (rows : List Row) → with_default rows (number name) ≡ rows
numbers_stay name rows = here (has_row name rows)
  where
    here : (b : Bool) → (if b then rows else rows) ≡ rows
    here true = refl
    here false = refl

finish_is : (rows : List Row) → finish rows ≡ with_default rows flag
finish_is rows =
    let a = with_default rows flag in
    ap (λ r. with_default (with_default (with_default (with_default r (number (codes "workers"))) (number (codes "processors"))) (number (codes "cells"))) (number (codes "steps"))) (numbers_stay (codes "generate") a)
    ∙ (ap (λ r. with_default (with_default (with_default r (number (codes "processors"))) (number (codes "cells"))) (number (codes "steps"))) (numbers_stay (codes "workers") a)
    ∙ (ap (λ r. with_default (with_default r (number (codes "cells"))) (number (codes "steps"))) (numbers_stay (codes "processors") a)
    ∙ (ap (λ r. with_default r (number (codes "steps"))) (numbers_stay (codes "cells") a)
    ∙ numbers_stay (codes "steps") a)))

pub finish_on : (rows : List Row) → has_row (codes "check") rows ≡ true → finish rows ≡ rows
finish_on rows e = finish_is rows ∙ ap (λ b. if b then rows else with_values (codes "check") reading.AsWritten DefaultValue (codes "false" ∷ []) rows) e

pub finish_off : (rows : List Row) → has_row (codes "check") rows ≡ false → finish rows ≡ rows ++ off ∷ []
finish_off rows e = finish_is rows ∙ (ap (λ b. if b then rows else with_values (codes "check") reading.AsWritten DefaultValue (codes "false" ∷ []) rows) e ∙ appended (codes "check") (more_values DefaultValue (codes "false" ∷ [])) (off ∷ []) rows e)

not_flag : (k : Kind) → bytes_eq (codes "check") (name_of k) ≡ false
not_flag generate = refl
not_flag workers = refl
not_flag processors = refl
not_flag cells = refl
not_flag steps = refl

found_off : (id : Text) (rows : List Row) → bytes_eq (codes "check") id ≡ false → found id (rows ++ off ∷ []) ≡ found id rows
found_off id [] e = ap (λ b. if b then Some off else None) e
found_off id (x ∷ xs) e = ap (λ o. if bytes_eq x.id id then Some x else o) (found_off id xs e)

-- the default changes nothing of an option
pub found_finish : (k : Kind) (rows : List Row) → found (name_of k) (finish rows) ≡ found (name_of k) rows
found_finish k rows = here (has_row (codes "check") rows) refl
  where
    here : (b : Bool) → has_row (codes "check") rows ≡ b → found (name_of k) (finish rows) ≡ found (name_of k) rows
    here true e = ap (found (name_of k)) (finish_on rows e)
    here false e = ap (found (name_of k)) (finish_off rows e) ∙ found_off (name_of k) rows (not_flag k)
