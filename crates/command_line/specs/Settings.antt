-- The settings that words spell: `--check`, or a name with a number, as `--name number` or `--name=number`.
use Rattle.std.specs.Prelude.{ℕ, ◌+◌, ◌*◌, ◌-◌, ◌==◌, Bool, ◌&&◌, nat_le, if◌then◌else◌, List, [], ◌∷◌, map, length, take, drop, Option, Some, None, option_and_then, option_map, codes, string_bytes, String}
use Rattle.std.specs.List.{position}
use Rattle.std.specs.Str.{bytes_eq}
use Rattle.command_line.specs.declared.setting.Setting.{Setting}
use Rattle.command_line.specs.declared.setting.Setting.TheVariants.{Check, Generate, Workers, Processors, Cells, Steps}

abbrev pub Text : Type 0
Text = List ℕ

abbrev pub texts : {A : Type 0} → List (String A) → List Text
texts words = map (λ w. string_bytes w) words

-- a setting, if there is one, with the words behind it
abbrev pub before : List Text → Option Setting → Option (Setting × List Text)
before rest None = None
before rest (Some s) = Some (s, rest)

abbrev pub is_digit : ℕ → Bool
is_digit b = nat_le 48 b && nat_le b 57

-- the number that digits spell behind a number so far
abbrev pub value_from : ℕ → Text → Option ℕ
value_from n [] = Some n
value_from n (b ∷ bs) = if is_digit b then value_from (10 * n + (b - 48)) bs else None

-- 1 to 10 digits, without a sign
abbrev pub number_by : Text → Option ℕ
number_by t = if nat_le 1 (length t) && nat_le (length t) 10 then value_from 0 t else None

-- the number, where it is from the least to the most
abbrev pub in_range : ℕ → ℕ → ℕ → Option ℕ
in_range least most n = if nat_le least n && nat_le n most then Some n else None

-- the setting of this name, with a number in its range
abbrev pub named_by : Text → ℕ → Option Setting
named_by name n =
    if bytes_eq name (codes "--generate") then option_map Generate (in_range 1 1000 n)
    else (if bytes_eq name (codes "--workers") then option_map Workers (in_range 0 64 n)
    else (if bytes_eq name (codes "--processors") then option_map Processors (in_range 1 64 n)
    else (if bytes_eq name (codes "--cells") then option_map Cells (in_range 1 1048576 n)
    else (if bytes_eq name (codes "--steps") then option_map Steps (in_range 1 16777216 n)
    else None))))

abbrev pub named_number : Text → Text → Option Setting
named_number name value = option_and_then (named_by name) (number_by value)

-- the name is a word of its own, and the next word is its number
abbrev pub apart_of : Text → List Text → Option (Setting × List Text)
apart_of name [] = None
apart_of name (value ∷ rest) = before rest (named_number name value)

-- the name stands before the first `=`, and its number behind that
abbrev pub valued_of : Option ℕ → Text → List Text → Option (Setting × List Text)
valued_of (Some i) word rest = before rest (named_number (take i word) (drop (i + 1) word))
valued_of None word rest = apart_of word rest

-- the setting that the first words spell, and the words behind it
abbrev pub first_of : List Text → Option (Setting × List Text)
first_of [] = None
first_of (word ∷ rest) = if bytes_eq word (codes "--check") then Some (Check, rest) else valued_of (position (λ b. b == 61) word) word rest
