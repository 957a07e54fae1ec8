-- The request that the settings of a line make.
use Rattle.std.specs.Prelude.{ℕ, List, codes, Option, Some, None, if◌then◌else◌}
use Rattle.std.specs.Option.{option_and_then, unwrap_or}
use Rattle.std.specs.Str.{bytes_eq}
use Rattle.dpkg_scenarios.specs.declared.scenario.Scenario.{Scenario}
use Rattle.command_words.specs.declared.field.Command.{Command}
use Rattle.command_words.specs.declared.field.Command.TheVariants as command
use Rattle.command_words.specs.declared.field.Field.TheVariants as field
use Rattle.command_words.specs.declared.setting.Setting.{Setting}
use Rattle.command_words.specs.declared.request.Folders.{Folders}
use Rattle.command_words.specs.declared.request.Layout.{Layout}
use Rattle.command_words.specs.declared.request.Layout.TheVariants.{Plain, Brief, Json}
use Rattle.command_words.specs.declared.request.View.{View}
use Rattle.command_words.specs.declared.request.View.TheVariants.{Text, Places, Html, Outcome}
use Rattle.command_words.specs.declared.request.Request.{Request}
use Rattle.command_words.specs.declared.request.Request.TheVariants.{Check, Run, Translate, Load, Predict, Explain, Pair, Twice}
use Rattle.command_words.specs.declared.limits.TheConstants.{MOST_LOAD, MOST_TURNS, MOST_LIMIT}
use Rattle.command_words.specs.declared.limits.TheConstants.{USUAL_TURNS, USUAL_LIMIT}
use Rattle.command_words.specs.Fields.{given, second}
use Rattle.dpkg_scenarios.specs.Names.{scenario_named, pair_named}
use Rattle.command_words.specs.Values.{number_in}

-- the number that a text spells, or the usual one
abbrev pub number_or : ℕ → ℕ → Option (List ℕ) → ℕ
number_or most usual None = usual
number_or most usual (Some text) = unwrap_or (number_in most text) usual

-- the scenario that was said
abbrev pub scenario_said : List Setting → Option Scenario
scenario_said said = option_and_then scenario_named (given field.Scenario said)

-- how the report is to be written
abbrev pub layout_by : Option (List ℕ) → Layout
layout_by None = Plain
layout_by (Some word) = if bytes_eq word (codes "--json") then Json else Brief

-- how the report is to be written, of what was said
abbrev pub layout_said : List Setting → Layout
layout_said said = layout_by (given field.Layout said)

-- the folders
abbrev pub folders_said : List ℕ → List Setting → Folders
folders_said dir said = record { dir = dir; old = given field.Old said; base = given field.Base said }

-- a check of the package in a folder
abbrev pub check_of : List ℕ → List Setting → Request
check_of dir said =
    Check (folders_said dir said) (scenario_said said) (number_or MOST_TURNS USUAL_TURNS (given field.Turns said))
    (number_or MOST_LIMIT USUAL_LIMIT (given field.Limit said)) (layout_said said)

-- a run of it, in a scenario, from a tree
abbrev pub run_from : List ℕ → List Setting → Option Scenario → Option (List ℕ) → Option Request
run_from dir said None tree = None
run_from dir said (Some scenario) None = None
run_from dir said (Some scenario) (Some tree) =
    Some (Run (folders_said dir said) tree scenario (number_or MOST_TURNS USUAL_TURNS (given field.Turns said)))

-- a run of the package in a folder; None where no scenario or no tree was said
abbrev pub run_of : List ℕ → List Setting → Option Request
run_of dir said = run_from dir said (scenario_said said) (given field.Tree said)

-- a load of a number; None where there is none
abbrev pub load_by : List Setting → Option ℕ → Option Request
load_by said None = None
load_by said (Some number) = Some (Load number (number_or MOST_LIMIT USUAL_LIMIT (given field.Limit said)))

-- a load of the number that is named
abbrev pub load_of : List ℕ → List Setting → Option Request
load_of name said = load_by said (number_in MOST_LOAD name)

-- a prediction by a report, for the trees in a file; None where no file of trees is named
abbrev pub predict_by : List ℕ → Option (List ℕ) → Option Request
predict_by report None = None
predict_by report (Some trees) = Some (Predict report trees)

-- a prediction by the report that is named first
abbrev pub predict_of : List ℕ → List Setting → Option Request
predict_of report said = predict_by report (second field.Named said)

-- how an explanation is to be written, by the word for it
abbrev pub view_named : List ℕ → View
view_named word = if bytes_eq word (codes "--html") then Html else Places

-- the same, by the word for a layout and the number of an outcome
abbrev pub view_by : Option (List ℕ) → Option (List ℕ) → View
view_by (Some word) number = view_named word
view_by None None = Text
view_by None (Some number) = Outcome (number_or MOST_LIMIT 1 (Some number))

-- how an explanation is to be written, of what was said
abbrev pub view_said : List Setting → View
view_said said = view_by (given field.Layout said) (given field.Outcome said)

-- an explanation of the package in a folder
abbrev pub explain_of : List ℕ → List Setting → Request
explain_of dir said =
    Explain (folders_said dir said) (scenario_said said) (number_or MOST_TURNS USUAL_TURNS (given field.Turns said))
    (number_or MOST_LIMIT USUAL_LIMIT (given field.Limit said)) (view_said said)

-- the scenario of a pair that was said
abbrev pub pair_said : List Setting → Option Scenario
pair_said said = option_and_then pair_named (given field.Scenario said)

-- a check of the package in a folder against the installed one in another, in a scenario
abbrev pub pair_from : List ℕ → List Setting → Option Scenario → Option (List ℕ) → Option Request
pair_from dir said None other = None
pair_from dir said (Some scenario) None = None
pair_from dir said (Some scenario) (Some other) =
    Some
    (Pair dir other (given field.Base said) scenario (number_or MOST_TURNS USUAL_TURNS (given field.Turns said))
    (number_or MOST_LIMIT USUAL_LIMIT (given field.Limit said)))

-- a check of the package in a folder against another; None where no scenario or no other folder was said
abbrev pub pair_of : List ℕ → List Setting → Option Request
pair_of dir said = pair_from dir said (pair_said said) (given field.With said)

-- a check that the package in a folder can be configured twice
abbrev pub twice_of : List ℕ → List Setting → Request
twice_of dir said =
    Twice dir (given field.Base said) (number_or MOST_TURNS USUAL_TURNS (given field.Turns said))
    (number_or MOST_LIMIT USUAL_LIMIT (given field.Limit said))

-- the request, by its command and by the folder, file or number that is named first
abbrev pub request_by : Command → List Setting → Option (List ℕ) → Option Request
request_by command said None = None
request_by command.Check said (Some name) = Some (check_of name said)
request_by command.Run said (Some name) = run_of name said
request_by command.Translate said (Some name) = Some (Translate name)
request_by command.Load said (Some name) = load_of name said
request_by command.Predict said (Some name) = predict_of name said
request_by command.Explain said (Some name) = Some (explain_of name said)
request_by command.Pair said (Some name) = pair_of name said
request_by command.Twice said (Some name) = Some (twice_of name said)

-- the request that they make; None where something is missing
abbrev pub request_of : Command → List Setting → Option Request
request_of command said = request_by command said (given field.Named said)
