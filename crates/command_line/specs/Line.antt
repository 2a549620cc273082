-- The command line, as `clap` is told of it: a flag, and five options with a value each.
use Rattle.std.specs.Prelude.{true, codes, Some}
use Rattle.clap.specs.Words.{App, Rule, Text, new_app, new_rule, with_rule}
use Rattle.clap.specs.declared.builder.action.ArgAction.TheVariants.{Set, SetTrue}

-- an option with one value, which is a text for `clap`
abbrev pub number_rule : Text → Rule
number_rule name = record (new_rule name) { long = Some name; action = Some Set }

abbrev pub check_rule : Rule
check_rule = record (new_rule (codes "check")) { long = Some (codes "check"); action = Some SetTrue }

abbrev pub nameless : App
nameless = record (new_app (codes "cljseq")) { top = record (new_app (codes "cljseq")).top { disable_help_flag = true } }

-- the whole command, with no help and no version
abbrev pub line : App
line = with_rule (with_rule (with_rule (with_rule (with_rule (with_rule nameless check_rule) (number_rule (codes "generate"))) (number_rule (codes "workers"))) (number_rule (codes "processors"))) (number_rule (codes "cells"))) (number_rule (codes "steps"))
