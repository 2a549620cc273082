-- The names that `clap` knows, and how the code's own definitions name them.
use Rattle.std.proofs.Common.{◌≡◌, ℕ, Bool, true, false, ◌∷◌, Option, Some, None, refl, sym}
use Rattle.std.specs.Prelude.{codes, option_map, option_and_then}
use Rattle.std.specs.Str.{bytes_eq}
use Rattle.std.proofs.lemmas.Slice.Eq.{bytes_eq-Decides}
use Rattle.clap.specs.Walk.{Rule, arg_by_id, arg_by_long}
use Rattle.clap.specs.Simple.{Shape, built, filled}
use Rattle.command_line.specs.Line.{check_rule, line, number_rule}
use Rattle.command_line.specs.Settings.{Text, in_range, named_by, named_number, number_by}
use Rattle.command_line.specs.Reading.{Kind, generate, workers, processors, cells, steps, name_of, least_of, most_of, read_by, setting_by}

-- the command as it is built, and its rules
abbrev pub ours : Shape
ours = (built line).top

abbrev pub flag : Rule
flag = filled check_rule

abbrev pub number : Text → Rule
number name = filled (number_rule name)

abbrev pub dashed : Text → Text
dashed name = 45 ∷ 45 ∷ name

pub clash : (b : Bool) → b ≡ true → b ≡ false → ⊥
clash b p q = cc

pub same_text : (a b : Text) → bytes_eq a b ≡ true → a ≡ b
same_text a b e = (bytes_eq-Decides a b).0 e

pub equal_text : (a b : Text) → a ≡ b → bytes_eq a b ≡ true
equal_text a b e = (bytes_eq-Decides a b).1 e

pub flipped : (a b : Text) → bytes_eq a b ≡ false → bytes_eq b a ≡ false
flipped a b e = other (bytes_eq b a) refl
  where
    other : (x : Bool) → bytes_eq b a ≡ x → bytes_eq b a ≡ false
    other true p = absurd (clash (bytes_eq a b) (equal_text a b (sym (same_text b a p))) e)
    other false p = p

-- a name is the flag's, an option's or none
pub data Named (n : Text) : Type 0 where
  is_flag : n ≡ codes "check" → Named n
  is_number : (k : Kind) → n ≡ name_of k → Named n
  is_none : arg_by_long ours.rules n ≡ None → ((m : ℕ) → named_by (dashed n) m ≡ None) → Named n

none_long : (n : Text) → bytes_eq (codes "check") n ≡ false → bytes_eq (codes "generate") n ≡ false → bytes_eq (codes "workers") n ≡ false → bytes_eq (codes "processors") n ≡ false → bytes_eq (codes "cells") n ≡ false → bytes_eq (codes "steps") n ≡ false → arg_by_long ours.rules n ≡ None
none_long n a b c d e f = rw (a, b, c, d, e, f) refl

none_by : (n : Text) (m : ℕ) → bytes_eq n (codes "generate") ≡ false → bytes_eq n (codes "workers") ≡ false → bytes_eq n (codes "processors") ≡ false → bytes_eq n (codes "cells") ≡ false → bytes_eq n (codes "steps") ≡ false → named_by (dashed n) m ≡ None
none_by n m b c d e f = rw (b, c, d, e, f) refl

pub named : (n : Text) → Named n
named n = go _ _ _ _ _ _ refl refl refl refl refl refl
  where
    go : (a b c d e f : Bool) → bytes_eq (codes "check") n ≡ a → bytes_eq (codes "generate") n ≡ b → bytes_eq (codes "workers") n ≡ c → bytes_eq (codes "processors") n ≡ d → bytes_eq (codes "cells") n ≡ e → bytes_eq (codes "steps") n ≡ f → Named n
    go true b c d e f p q r s t u = is_flag (sym (same_text (codes "check") n p))
    go false true c d e f p q r s t u = is_number generate (sym (same_text (codes "generate") n q))
    go false false true d e f p q r s t u = is_number workers (sym (same_text (codes "workers") n r))
    go false false false true e f p q r s t u = is_number processors (sym (same_text (codes "processors") n s))
    go false false false false true f p q r s t u = is_number cells (sym (same_text (codes "cells") n t))
    go false false false false false true p q r s t u = is_number steps (sym (same_text (codes "steps") n u))
    go false false false false false false p q r s t u = is_none (none_long n p q r s t u) (λ m. none_by n m (flipped (codes "generate") n q) (flipped (codes "workers") n r) (flipped (codes "processors") n s) (flipped (codes "cells") n t) (flipped (codes "steps") n u))

-- an option with a value is the setting of the number that the value spells
pub named_kind : (k : Kind) (m : ℕ) → named_by (dashed (name_of k)) m ≡ option_map (setting_by k) (in_range (least_of k) (most_of k) m)
named_kind generate m = refl
named_kind workers m = refl
named_kind processors m = refl
named_kind cells m = refl
named_kind steps m = refl

pub numbered : (k : Kind) (v : Text) → named_number (dashed (name_of k)) v ≡ option_map (setting_by k) (read_by k v)
numbered k v = here (number_by v)
  where
    here : (o : Option ℕ) → option_and_then (named_by (dashed (name_of k))) o ≡ option_map (setting_by k) (option_and_then (in_range (least_of k) (most_of k)) o)
    here None = refl
    here (Some m) = named_kind k m

pub unnamed : (n v : Text) → ((m : ℕ) → named_by n m ≡ None) → named_number n v ≡ None
unnamed n v h = here (number_by v)
  where
    here : (o : Option ℕ) → option_and_then (named_by n) o ≡ None
    here None = refl
    here (Some m) = h m

pub known_id : (k : Kind) → arg_by_id ours.rules (name_of k) ≡ Some (number (name_of k))
known_id generate = refl
known_id workers = refl
known_id processors = refl
known_id cells = refl
known_id steps = refl
