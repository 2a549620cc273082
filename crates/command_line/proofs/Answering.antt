-- What `clap` found answers what the words ask for.
use Rattle.std.proofs.Common.{◌≡◌, inl, inr, ℕ, ◌≤◌, Bool, true, false, ◌||◌, ◌&&◌, not, List, [], ◌∷◌, drop, length, MatchOption, Option, Some, None, refl, ap, ap₂, sym, subst, ◌∙◌, arith}
use Rattle.std.specs.Prelude.{codes, is_some, nat_eq, option_and_then, option_map, slice_get, string_bytes, String, unwrap_or, if◌then◌else◌}
use Rattle.std.specs.List.{list_any}
use Rattle.std.specs.Str.{bytes_eq}
use Rattle.clap.specs.Matches.{first_value, one_text}
use Rattle.clap.specs.Walk.{Row, Rule, has_row, row_text, rows_of, walk, walk_from, with_default}
use Rattle.clap.specs.Simple.{built, entered, matches_of}
use Rattle.clap.specs.Kinds.{HasKind, IsAmong, Kinds, or_else}
use Rattle.clap.specs.Values.{kind_of}
use Rattle.clap.specs.declared.error.Error.{Error}
use Rattle.clap.specs.declared.error.kind.ErrorKind.TheVariants as kind
use Rattle.clap.specs.Faults.{check_fault, default_fault, defaults_fault, entered_fault, fault_of, is_simple_and_free, settle_fault, walk_fault}
use Rattle.clap.specs.declared.parser.matches.Found.{Found}
use Rattle.clap.proofs.OnLiterals.{clap_on_literals}
use Rattle.clap.proofs.WalkLemmas.{first_value-rows, one_text-rows}
use Rattle.command_line.specs.declared.setting.Setting.{Setting}
use Rattle.command_line.specs.declared.setting.Setting.TheVariants.{Check, Generate, Workers, Processors, Cells, Steps}
use Rattle.command_line.specs.declared.given.Given.{Given}
use Rattle.command_line.specs.declared.given.Options.{Options}
use Rattle.command_line.specs.Line.{line}
use Rattle.command_line.specs.Settings.{Text, texts}
use Rattle.command_line.specs.Asking.{Asks, IsFaulty, all_built, given_number, is_among, is_fit, is_one_request, none_twice, number_in, number_of, same_kind}
use Rattle.command_line.specs.Reading.{Answered, IsFound, Kind, Unanswered, cells, fits, generate, least_of, most_of, name_of, number_given, optional, processors, read_by, setting_by, steps, value_of, workers}
use Rattle.command_line.proofs.Fitting.{among_same, left_of, none_among, number_same, right_of, some_among}
use Rattle.command_line.proofs.Names.{clash, flag, number, ours}
use Rattle.command_line.proofs.Walking.{both_none, held, left_none, right_none}
use Rattle.command_line.proofs.Rows.{Added, At, Reads, added_once, at_none, at_some, finish, finish_off, finish_on, found, found_behind, found_finish, found_none, has_found, kind_row, looked_up, off, reads_kind, row, row_name}
use Rattle.command_line.proofs.Agreeing.{Free, Good, has_dashed, outcome, run}
use Rattle.command_line.proofs.Passing.{passes, Passes}

-- ## The command

pub simple : is_simple_and_free line ≡ true
unfolding clap_on_literals
simple = refl

-- the rows behind the words, before the default of the flag
abbrev pub rows_behind : List Text → List Row
rows_behind words = outcome (walk_from (held [] None)) (drop 1 words)

pub matches_are : (words : List Text) → matches_of line words ≡ finish (rows_behind words)
matches_are words = refl

no_level : (stop : Option (Text × List Text)) → entered_fault (built line) stop ≡ []
no_level None = refl
no_level (Some p) = refl

not_entered : (stop : Option (Text × List Text)) → is_some (entered (built line) stop) ≡ false
not_entered None = refl
not_entered (Some p) = refl

flag_default : (rows : List Row) → default_fault rows flag ≡ []
flag_default rows = here (has_row (codes "check") rows)
  where
    here : (b : Bool) → ◌≡◌ {A = Kinds} (if b || false then [] else []) []
    here true = refl
    here false = refl

number_default : (name : Text) (rows : List Row) → default_fault rows (number name) ≡ []
number_default name rows = here (has_row name rows)
  where
    here : (b : Bool) → ◌≡◌ {A = Kinds} (if b || true then [] else []) []
    here true = refl
    here false = refl

defaults_step : (rows : List Row) (a : Rule) (rest : List Rule) → default_fault rows a ≡ [] → defaults_fault (with_default rows a) rest ≡ [] → defaults_fault rows (a ∷ rest) ≡ []
unfolding defaults_fault
defaults_step rows a rest e f = both_none (default_fault rows a) (defaults_fault (with_default rows a) rest) e f

defaults_end : (rows : List Row) → defaults_fault rows [] ≡ []
unfolding defaults_fault
defaults_end rows = refl

defaults_none : (rows : List Row) → defaults_fault rows ours.rules ≡ []
defaults_none rows =
    let a = with_default rows flag in
    let b = with_default a (number (codes "generate")) in
    let c = with_default b (number (codes "workers")) in
    let d = with_default c (number (codes "processors")) in
    let e = with_default d (number (codes "cells")) in
    let f = with_default e (number (codes "steps")) in
    let last = defaults_step e (number (codes "steps")) [] (number_default (codes "steps") e) (defaults_end f) in
    let fourth = defaults_step d (number (codes "cells")) (number (codes "steps") ∷ []) (number_default (codes "cells") d) last in
    let third = defaults_step c (number (codes "processors")) (number (codes "cells") ∷ number (codes "steps") ∷ []) (number_default (codes "processors") c) fourth in
    let second = defaults_step b (number (codes "workers")) (number (codes "processors") ∷ number (codes "cells") ∷ number (codes "steps") ∷ []) (number_default (codes "workers") b) third in
    let first = defaults_step a (number (codes "generate")) (number (codes "workers") ∷ number (codes "processors") ∷ number (codes "cells") ∷ number (codes "steps") ∷ []) (number_default (codes "generate") a) second in
    defaults_step rows flag (number (codes "generate") ∷ number (codes "workers") ∷ number (codes "processors") ∷ number (codes "cells") ∷ number (codes "steps") ∷ []) (flag_default rows) first

module _ (words : List Text) where
  abbrev first_part : Kinds
  first_part = walk_fault ours [] (walk_from (held [] None)) (drop 1 words)

  abbrev stop : Option (Text × List Text)
  stop = (walk ours.rules [] (held [] None) (drop 1 words)).stopped

  abbrev last_part : Kinds
  last_part = settle_fault ours.rules false (walk ours.rules [] (held [] None) (drop 1 words)).held

  abbrev after_part : Kinds
  after_part = or_else (defaults_fault (rows_behind words) ours.rules) (check_fault ours (finish (rows_behind words)) (is_some (entered (built line) stop)))

  pub free_words : fault_of line words ≡ [] → Free (walk_from (held [] None)) (drop 1 words)
  free_words e =
      let f : or_else first_part (or_else (entered_fault (built line) stop) (or_else last_part after_part)) ≡ [] = e in
      (left_none first_part _ f, left_none last_part after_part (right_none (entered_fault (built line) stop) _ (right_none first_part _ f)))

  pub words_free : Free (walk_from (held [] None)) (drop 1 words) → fault_of line words ≡ []
  words_free f =
      let after : after_part ≡ [] = both_none (defaults_fault (rows_behind words) ours.rules) _ (defaults_none (rows_behind words)) (ap (λ b. check_fault ours (finish (rows_behind words)) b) (not_entered stop)) in
      both_none first_part _ f.0 (both_none (entered_fault (built line) stop) _ (no_level stop) (both_none last_part after_part f.1 after))

-- ## What was found

abbrev first_text : Option Row → Option Text
first_text o = option_and_then (λ (r : Row). slice_get r.values 0) o

found_value : (f : Found) (out : List Row) (k : Kind) → rows_of f ≡ finish out → first_value f (name_of k) ≡ first_text (found (name_of k) out)
found_value f out k e = first_value-rows f (name_of k) ∙ (ap (λ rs. first_text (found (name_of k) rs)) e ∙ ap first_text (found_finish k out))

abbrev optional_of : Kind → Option Text → Option (Option ℕ)
optional_of k None = Some None
optional_of k (Some t) = option_map Some (read_by k t)

value_is : (f : Found) (k : Kind) (o : Option Text) → first_value f (name_of k) ≡ o → value_of k f ≡ optional_of k o
value_is f k None e = ap (optional (least_of k) (most_of k)) e
value_is f k (Some t) e = ap (optional (least_of k) (most_of k)) e

module _ (f : Found) (out : List Row) (ss : List Setting) (e : rows_of f ≡ finish out) (a : Added [] ss out) where
  -- each option was found with the number of its setting
  pub value_there : (k : Kind) → value_of k f ≡ Some (number_in (setting_by k 0) ss)
  value_there k = here (looked_up (setting_by k 0) [] out ss a refl)
    where
      here : At (setting_by k 0) ss out → value_of k f ≡ Some (number_in (setting_by k 0) ss)
      here (at_none n h) =
          let none : found (name_of k) out ≡ None = found_none (name_of k) out (subst (λ x. has_row x out ≡ false) (kind_row k 0) h) in
          value_is f k None (found_value f out k e ∙ ap first_text none) ∙ ap Some (sym n)
      here (at_some t v same n h r) =
          let some : found (name_of k) out ≡ Some (row (row_name t) v) = subst (λ x. found x out ≡ Some (row (row_name t) v)) (kind_row k 0) h in
          value_is f k (Some v) (found_value f out k e ∙ ap first_text some) ∙ (ap (λ o. option_map Some o) (reads_kind k t v same r) ∙ ap Some (sym n))

  check_text : (r : Row) → found (codes "check") (finish out) ≡ Some r → one_text f (codes "check") ≡ row_text r
  check_text r h = one_text-rows f (codes "check") ∙ (ap (λ rs. option_and_then row_text (found (codes "check") rs)) e ∙ ap (option_and_then row_text) h)

  some_same : {X : Type 0} (x y : X) → ◌≡◌ {A = Option X} (Some x) (Some y) → x ≡ y
  some_same x y p = cc

  module _ (g : Given) (h : IsFound f g) where
    number_found : (k : Kind) → number_given g k ≡ number_in (setting_by k 0) ss
    number_found k = some_same _ _ (sym (h.numbers k) ∙ value_there k)

    is_check : (t : Setting) (v : Text) → same_kind Check t ≡ true → Reads t v → (v ≡ codes "true") × (number_of t ≡ 0)
    is_check Check v s r = (r, refl)
    is_check (Generate n) v s r = absurd cc
    is_check (Workers n) v s r = absurd cc
    is_check (Processors n) v s r = absurd cc
    is_check (Cells n) v s r = absurd cc
    is_check (Steps n) v s r = absurd cc

    check_found : (if g.check then Some 0 else None) ≡ number_in Check ss
    check_found = here (looked_up Check [] out ss a refl)
      where
        here : At Check ss out → (if g.check then Some 0 else None) ≡ number_in Check ss
        here (at_none n r) =
            let at : found (codes "check") (finish out) ≡ Some off = ap (found (codes "check")) (finish_off out r) ∙ found_behind (codes "check") out (off ∷ []) r in
            ap (λ b. if b then Some 0 else None) (h.unset (check_text off at)) ∙ sym n
        here (at_some t v same n r reads) =
            let x = is_check t v same reads in
            let at : found (codes "check") (finish out) ≡ Some (row (row_name t) v) = ap (found (codes "check")) (finish_on out (has_found (codes "check") out (row (row_name t) v) r)) ∙ r in
            ap (λ b. if b then Some 0 else None) (h.set (check_text (row (row_name t) v) at ∙ ap Some x.0)) ∙ (ap Some (sym x.1) ∙ sym n)

    pub given_found : (s : Setting) → given_number g s ≡ number_in s ss
    given_found Check = check_found
    given_found (Generate n) = number_found generate ∙ number_same (Generate 0) (Generate n) ss refl
    given_found (Workers n) = number_found workers ∙ number_same (Workers 0) (Workers n) ss refl
    given_found (Processors n) = number_found processors ∙ number_same (Processors 0) (Processors n) ss refl
    given_found (Cells n) = number_found cells ∙ number_same (Cells 0) (Cells n) ss refl
    given_found (Steps n) = number_found steps ∙ number_same (Steps 0) (Steps n) ss refl

-- ## What fits

number_there : (s : Setting) (ss : List Setting) → is_some (number_in s ss) ≡ is_among s ss
number_there s ss = here (number_in s ss) refl
  where
    here : (o : Option ℕ) → number_in s ss ≡ o → is_some (number_in s ss) ≡ is_among s ss
    here None e = ap is_some e ∙ sym (none_among s ss e)
    here (Some n) e = ap is_some e ∙ sym (some_among s ss n e)

no_workers : (ss : List Setting) → is_among (Workers 0) ss ≡ false → all_built ss ≡ true
no_workers [] e = refl
no_workers (Check ∷ ss) e = no_workers ss e
no_workers (Generate n ∷ ss) e = no_workers ss e
no_workers (Workers n ∷ ss) e = absurd cc
no_workers (Processors n ∷ ss) e = no_workers ss e
no_workers (Cells n ∷ ss) e = no_workers ss e
no_workers (Steps n ∷ ss) e = no_workers ss e

not_so : (b : Bool) → not b ≡ true → b ≡ false
not_so true e = absurd cc
not_so false e = refl

and_true : (b c : Bool) → c ≡ true → (b && c) ≡ b
and_true true c e = e
and_true false c e = refl

once : (s : Setting) (ss : List Setting) → none_twice (s ∷ ss) ≡ true → none_twice ss ≡ true
once s ss e = right_of (not (is_among s ss)) (none_twice ss) e

built_by : (ss : List Setting) → none_twice ss ≡ true → all_built ss ≡ nat_eq (unwrap_or (number_in (Workers 0) ss) 0) 0
built_by [] e = refl
built_by (Check ∷ ss) e = built_by ss (once Check ss e)
built_by (Generate n ∷ ss) e = built_by ss (once (Generate n) ss e)
built_by (Workers n ∷ ss) e = and_true (nat_eq n 0) (all_built ss) (no_workers ss (among_same (Workers 0) (Workers n) ss refl ∙ not_so (is_among (Workers n) ss) (left_of (not (is_among (Workers n) ss)) (none_twice ss) e)))
built_by (Processors n ∷ ss) e = built_by ss (once (Processors n) ss e)
built_by (Cells n ∷ ss) e = built_by ss (once (Cells n) ss e)
built_by (Steps n ∷ ss) e = built_by ss (once (Steps n) ss e)

abbrev check_number : Bool → Option ℕ
check_number b = if b then Some 0 else None

check_of : (b : Bool) → is_some (check_number b) ≡ b
check_of true = refl
check_of false = refl

fit_is : (g : Given) (ss : List Setting) → ((s : Setting) → given_number g s ≡ number_in s ss) → none_twice ss ≡ true → fits g ≡ is_fit ss
fit_is g ss h n =
    let checked : g.check ≡ is_among Check ss = sym (check_of g.check) ∙ (ap is_some (h Check) ∙ number_there Check ss) in
    let made : is_some g.generate ≡ is_among (Generate 0) ss = ap is_some (h (Generate 0)) ∙ number_there (Generate 0) ss in
    let worked : nat_eq (unwrap_or g.workers 0) 0 ≡ all_built ss = ap (λ (o : Option ℕ). nat_eq (unwrap_or o 0) 0) (h (Workers 0)) ∙ sym (built_by ss n) in
    ap₂ (λ x y. x && y) worked (ap₂ (λ x y. not (x && y)) checked made) ∙ ap (λ b. b && (all_built ss && is_one_request ss)) (sym n)

-- ## The answer

le_itself : (ws : List Text) → length ws ≤ length ws
le_itself ws = omega arith

asks_pass : (words : List Text) (options : Options) → (a : Asks words options) → Passes [] None (drop 1 words) a.settings
asks_pass words options a = passes (length (drop 1 words)) (drop 1 words) a.settings [] None (le_itself (drop 1 words)) a.spelled refl (left_of (none_twice a.settings) (all_built a.settings && is_one_request a.settings) a.fit) (λ t e. refl)

pub dashed_faulty : (words : List Text) → has_dashed (drop 1 words) ≡ true → IsFaulty words
dashed_faulty words e options a = clash (has_dashed (drop 1 words)) e (asks_pass words options a).0

pub asks_free : (words : List Text) (options : Options) → Asks words options → fault_of line words ≡ []
asks_free words options a = words_free words (asks_pass words options a).1

good_values : (f : Found) (out : List Row) (g : Given) → rows_of f ≡ finish out → IsFound f g → Good out
good_values f out g e h k v at = here (read_by k v) refl
  where
    here : (o : Option ℕ) → read_by k v ≡ o → (m : ℕ) × (read_by k v ≡ Some m)
    here (Some m) p = (m, p)
    here None p =
        let none : value_of k f ≡ None = value_is f k (Some v) (found_value f out k e ∙ ap first_text at) ∙ ap (λ o. option_map Some o) p in
        absurd (clash true refl (ap is_some (sym (h.numbers k) ∙ none)))

pub answer_right : (words : List Text) (f : Found) (o : Option Options) → rows_of f ≡ matches_of line words → fault_of line words ≡ [] → has_dashed (drop 1 words) ≡ false → MatchOption o (Unanswered f) (λ a. Answered f a) → MatchOption o (IsFaulty words) (λ a. Asks words a)
answer_right words f (Some options) e free clean (g, h, fit, are) =
    let r = run (length (drop 1 words)) (drop 1 words) [] None (le_itself (drop 1 words)) clean (free_words words free) in
    let x = r.spells (good_values f (rows_behind words) g e h) in
    let n = given_found f (rows_behind words) x.0 e x.2 g h in
    let fine : is_fit x.0 ≡ true = sym (fit_is g x.0 n (added_once [] (rows_behind words) x.0 x.2)) ∙ fit in
    record { settings = x.0; spelled = x.1; fit = fine; are = are x.0 (record { numbers = n; fit = fine }) }
answer_right words f None e free clean (inl bad) = λ options a.
    let p = asks_pass words options a in
    clash true refl (ap is_some (sym (value_there f (rows_behind words) a.settings e p.2 bad.0) ∙ bad.1))
answer_right words f None e free clean (inr (g, h, unfit)) = λ options a.
    let p = asks_pass words options a in
    let n = given_found f (rows_behind words) a.settings e p.2 g h in
    clash (fits g) (fit_is g a.settings n (added_once [] (rows_behind words) a.settings p.2) ∙ a.fit) unfit

pub dashed_texts : {A : Type 0} (ws : List (String A)) → list_any (λ w. bytes_eq (string_bytes w) (codes "--")) ws ≡ has_dashed (texts ws)
dashed_texts [] = refl
dashed_texts (w ∷ ws) = ap (λ b. bytes_eq (string_bytes w) (codes "--") || b) (dashed_texts ws)

pub refused_faulty : (words : List Text) (e : Error) → (kind_of e ≡ kind.OutOfMemory → ⊥) → HasKind (fault_of line words) e → IsFaulty words
refused_faulty words e other (inl memory) options a = other memory
refused_faulty words e other (inr among) options a = subst (λ k. IsAmong (kind_of e) k) (asks_free words options a) among
