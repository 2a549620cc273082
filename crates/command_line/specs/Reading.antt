-- What the values that `clap` found ask for.
use Rattle.std.specs.Prelude.{◌≡◌, ◌⊎◌, ℕ, nat_eq, Bool, true, false, not, ◌&&◌, List, Option, Some, None, codes, is_some, unwrap_or, option_map, option_and_then}
use Rattle.clap.specs.Words.{first_value, one_text}
use Rattle.clap.specs.declared.parser.matches.Found.{Found}
use Rattle.command_line.specs.declared.given.Given.{Given}
use Rattle.command_line.specs.declared.given.Options.{Options}
use Rattle.command_line.specs.Settings.{Text, in_range, number_by}
use Rattle.command_line.specs.Asking.{Holds, options_of}
use Rattle.command_line.specs.declared.setting.Setting.{Setting}
use Rattle.command_line.specs.declared.setting.Setting.TheVariants as S

-- the settings with a number
pub data Kind : Type 0 where
  generate : Kind
  workers : Kind
  processors : Kind
  cells : Kind
  steps : Kind

-- the name of the option, behind its two dashes
abbrev pub name_of : Kind → Text
name_of generate = codes "generate"
name_of workers = codes "workers"
name_of processors = codes "processors"
name_of cells = codes "cells"
name_of steps = codes "steps"

abbrev pub least_of : Kind → ℕ
least_of workers = 0
least_of _ = 1

abbrev pub most_of : Kind → ℕ
most_of generate = 1000
most_of workers = 64
most_of processors = 64
most_of cells = 1048576
most_of steps = 16777216

abbrev pub setting_by : Kind → ℕ → Setting
setting_by generate n = S.Generate n
setting_by workers n = S.Workers n
setting_by processors n = S.Processors n
setting_by cells n = S.Cells n
setting_by steps n = S.Steps n

-- the number of the option, where the text spells one in its range
abbrev pub read_by : Kind → Text → Option ℕ
read_by k t = option_and_then (in_range (least_of k) (most_of k)) (number_by t)

-- an option that is left out has no number; `None` where its value spells none
abbrev pub optional : ℕ → ℕ → Option Text → Option (Option ℕ)
optional least most None = Some None
optional least most (Some t) = option_map Some (option_and_then (in_range least most) (number_by t))

abbrev pub value_of : Kind → Found → Option (Option ℕ)
value_of k f = optional (least_of k) (most_of k) (first_value f (name_of k))

-- the number that was given
abbrev pub number_given : Given → Kind → Option ℕ
number_given g generate = g.generate
number_given g workers = g.workers
number_given g processors = g.processors
number_given g cells = g.cells
number_given g steps = g.steps

-- the value of an option is none of it
abbrev pub HasBad : Found → Type 0
HasBad f = (k : Kind) × (value_of k f ≡ None)

-- these are the numbers of the values, and the flag
pub record IsFound (f : Found) (g : Given) : Type 0 where
  pub numbers : (k : Kind) → value_of k f ≡ Some (number_given g k)
  pub set : one_text f (codes "check") ≡ Some (codes "true") → g.check ≡ true
  pub unset : one_text f (codes "check") ≡ Some (codes "false") → g.check ≡ false

-- they ask for one thing to be done, and for no workers
abbrev pub fits : Given → Bool
fits g = nat_eq (unwrap_or g.workers 0) 0 && not (g.check && is_some g.generate)

-- what is answered, by the numbers that were found
abbrev pub Answered : Found → Options → Type 0
Answered f o = (g : Given) × IsFound f g × (fits g ≡ true) × ((all : List Setting) → Holds g all → o ≡ options_of all)

abbrev pub Unanswered : Found → Type 0
Unanswered f = HasBad f ⊎ ((g : Given) × IsFound f g × (fits g ≡ false))
