-- What the words of a command line ask for: to run the script, to check it alone, or to run a script that is made, within which bounds.
use Rattle.std.specs.Prelude.{◌≡◌, ℕ, nat_eq, ◌≤◌, Bool, true, false, not, ◌&&◌, if◌then◌else◌, List, [], ◌∷◌, ◌++◌, drop, length, Option, Some, None, unwrap_or}
use Rattle.seq_base.specs.declared.limits.Limits.{Limits}
use Rattle.command_line.specs.declared.setting.Setting.{Setting}
use Rattle.command_line.specs.declared.setting.Setting.TheVariants.{Check, Generate, Workers, Processors, Cells, Steps}
use Rattle.command_line.specs.declared.given.Request.{Request}
use Rattle.command_line.specs.declared.given.Request.TheVariants as R
use Rattle.command_line.specs.declared.given.Options.{Options}
use Rattle.command_line.specs.declared.given.Given.{Given}
use Rattle.command_line.specs.Settings.{Text, first_of}

-- the words spell these settings, one after the other
pub data Spells : List Text → List Setting → Type 0 where
  spells_none : Spells [] []
  spells_more : {words rest : List Text} {s : Setting} {more : List Setting} → first_of words ≡ Some (s, rest) → Spells rest more → Spells words (s ∷ more)

-- settings of one kind are at one place
abbrev pub place_of : Setting → ℕ
place_of Check = 0
place_of (Generate n) = 1
place_of (Workers n) = 2
place_of (Processors n) = 3
place_of (Cells n) = 4
place_of (Steps n) = 5

-- both set the same
abbrev pub same_kind : Setting → Setting → Bool
same_kind s t = nat_eq (place_of s) (place_of t)

-- the number that is set; `--check` sets none
abbrev pub number_of : Setting → ℕ
number_of Check = 0
number_of (Generate n) = n
number_of (Workers n) = n
number_of (Processors n) = n
number_of (Cells n) = n
number_of (Steps n) = n

-- the number of the first setting of this kind
abbrev pub number_in : Setting → List Setting → Option ℕ
number_in s [] = None
number_in s (t ∷ ts) = if same_kind s t then Some (number_of t) else number_in s ts

abbrev pub is_among : Setting → List Setting → Bool
is_among s [] = false
is_among s (t ∷ ts) = if same_kind s t then true else is_among s ts

abbrev pub none_twice : List Setting → Bool
none_twice [] = true
none_twice (s ∷ ss) = not (is_among s ss) && none_twice ss

-- the program does what the setting asks for: it has no workers
abbrev pub is_built : Setting → Bool
is_built (Workers n) = nat_eq n 0
is_built _ = true

abbrev pub all_built : List Setting → Bool
all_built [] = true
all_built (s ∷ ss) = is_built s && all_built ss

-- no script is both looked at and made
abbrev pub is_one_request : List Setting → Bool
is_one_request ss = not (is_among Check ss && is_among (Generate 0) ss)

abbrev pub is_fit : List Setting → Bool
is_fit ss = none_twice ss && (all_built ss && is_one_request ss)

abbrev pub made_or_run : Option ℕ → Request
made_or_run (Some n) = R.Generate n
made_or_run None = R.Run

abbrev pub request_of : List Setting → Request
request_of ss = if is_among Check ss then R.Check else made_or_run (number_in (Generate 0) ss)

-- a bound that isn't given is 65,536 parts, a million own steps and 4 processors
abbrev pub limits_of : List Setting → Limits
limits_of ss = record { cells = unwrap_or (number_in (Cells 0) ss) 65536; steps = unwrap_or (number_in (Steps 0) ss) 1000000; processors = unwrap_or (number_in (Processors 0) ss) 4 }

abbrev pub options_of : List Setting → Options
options_of ss = record { request = request_of ss; limits = limits_of ss }

-- The words behind the program's name spell settings: none of them twice, all of them built, and for one thing to be done.
pub record Asks (words : List Text) (options : Options) : Type 0 where
  pub settings : List Setting
  pub spelled : Spells (drop 1 words) settings
  pub fit : is_fit settings ≡ true
  pub are : options ≡ options_of settings

abbrev pub IsFaulty : List Text → Type 0
IsFaulty words = (options : Options) → ¬ (Asks words options)

abbrev pub OneRequest : Type 0
OneRequest = (words : List Text) (a b : Options) → Asks words a → Asks words b → a ≡ b

-- the words ask for something
pub record IsAsked (words : List Text) : Type 0 where
  pub options : Options
  pub asks : Asks words options

-- the program's name alone runs the script within the usual bounds
abbrev pub BareNameRuns : Type 0
BareNameRuns = (words : List Text) → length words ≤ 1 → Asks words (options_of [])

-- the number that was given for this kind of setting
abbrev pub given_number : Given → Setting → Option ℕ
given_number g Check = if g.check then Some 0 else None
given_number g (Generate n) = g.generate
given_number g (Workers n) = g.workers
given_number g (Processors n) = g.processors
given_number g (Cells n) = g.cells
given_number g (Steps n) = g.steps

-- the numbers of these settings were given, and the settings are fit
pub record Holds (given : Given) (all : List Setting) : Type 0 where
  pub numbers : (s : Setting) → given_number given s ≡ number_in s all
  pub fit : is_fit all ≡ true

-- whatever follows them, they aren't fit
abbrev pub IsUnfit : List Setting → Type 0
IsUnfit all = (more : List Setting) → is_fit (all ++ more) ≡ false
