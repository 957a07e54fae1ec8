-- The words of a command line that may stand by themselves, and the values of options.
use Rattle.std.specs.Prelude.{ℕ, Bool, true, not, ◌&&◌, ◌||◌, ◌==◌, nat_le, List, [], ◌∷◌, length, codes}
use Rattle.std.specs.Prelude.{Option, Some, None, if◌then◌else◌}
use Rattle.std.specs.List.{list_all}
use Rattle.std.specs.Option.{is_some}
use Rattle.std.specs.Str.{bytes_eq}
use Rattle.std.specs.Str.Parse.{digits_value}
use Rattle.script_names.specs.Ascii.{hyphen}
use Rattle.script_names.specs.ShellNames.{is_digit}
use Rattle.dpkg_scenarios.specs.declared.scenario.Scenario.{Scenario}
use Rattle.dpkg_scenarios.specs.Names.{scenario_named, pair_named}
use Rattle.command_words.specs.declared.field.Command.{Command}
use Rattle.command_words.specs.declared.field.Command.TheVariants as command
use Rattle.command_words.specs.declared.field.Field.{Field}
use Rattle.command_words.specs.declared.field.Field.TheVariants as field
use Rattle.command_words.specs.declared.limits.TheConstants.{MOST_LOAD, MOST_TURNS, MOST_LIMIT}

-- a word that does not begin with a dash, or is a dash alone
abbrev pub is_name : List ℕ → Bool
is_name [] = true
is_name (b ∷ []) = true
is_name (b ∷ c ∷ bs) = not (b == hyphen)

-- from the one number to the other
abbrev pub is_within : ℕ → ℕ → ℕ → Bool
is_within least most n = nat_le least n && nat_le n most

-- 1 to 6 decimal digits that spell a number from 1 to `most`
abbrev pub is_number : ℕ → List ℕ → Bool
is_number most text = list_all is_digit text && (is_within 1 6 (length text) && is_within 1 most (digits_value 10 text))

-- that number
abbrev pub number_in : ℕ → List ℕ → Option ℕ
number_in most text = if is_number most text then Some (digits_value 10 text) else None

-- a word that says how a report is written
abbrev pub is_report_flag : List ℕ → Bool
is_report_flag word = bytes_eq word (codes "--json") || bytes_eq word (codes "--brief")

-- a word that says how an explanation is written
abbrev pub is_view_flag : List ℕ → Bool
is_view_flag word = bytes_eq word (codes "--places") || bytes_eq word (codes "--html")

-- a word that says how a report or an explanation is written
abbrev pub is_flag : List ℕ → Bool
is_flag word = is_report_flag word || is_view_flag word

-- what says in a line of the command how its text is written
abbrev pub may_lay_out : Command → List ℕ → Bool
may_lay_out command.Check text = is_report_flag text
may_lay_out command.Run text = is_report_flag text
may_lay_out command.Translate text = is_report_flag text
may_lay_out command.Load text = is_report_flag text
may_lay_out command.Predict text = is_report_flag text
may_lay_out command.Pair text = is_report_flag text
may_lay_out command.Twice text = is_report_flag text
may_lay_out command.Explain text = is_view_flag text

-- what a line of the command may name: a folder or a file by any text, or the number of a package that is made
abbrev pub may_name : Command → List ℕ → Bool
may_name command.Check text = true
may_name command.Run text = true
may_name command.Translate text = true
may_name command.Load text = is_some (number_in MOST_LOAD text)
may_name command.Predict text = true
may_name command.Explain text = true
may_name command.Pair text = true
may_name command.Twice text = true

-- the scenario that a name means in a line of the command
abbrev pub scenario_in : Command → List ℕ → Option Scenario
scenario_in command.Check name = scenario_named name
scenario_in command.Run name = scenario_named name
scenario_in command.Translate name = scenario_named name
scenario_in command.Load name = scenario_named name
scenario_in command.Predict name = scenario_named name
scenario_in command.Explain name = scenario_named name
scenario_in command.Pair name = pair_named name
scenario_in command.Twice name = scenario_named name

-- what may stand for a field in a line of the command
abbrev pub is_value : Command → Field → List ℕ → Bool
is_value command field.Named text = may_name command text
is_value command field.Old text = true
is_value command field.Base text = true
is_value command field.Scenario text = is_some (scenario_in command text)
is_value command field.Tree text = true
is_value command field.Turns text = is_some (number_in MOST_TURNS text)
is_value command field.Limit text = is_some (number_in MOST_LIMIT text)
is_value command field.Layout text = may_lay_out command text
is_value command field.With text = true
is_value command field.Outcome text = is_some (number_in MOST_LIMIT text)
