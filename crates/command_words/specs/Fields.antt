-- What the parts of a command line are about, and what has been said of each.
use Rattle.std.specs.Prelude.{ℕ, Bool, false, not, ◌&&◌, ◌==◌, nat_lt, List, [], ◌∷◌, length, codes}
use Rattle.std.specs.Prelude.{Option, Some, None, if◌then◌else◌}
use Rattle.std.specs.List.{list_any}
use Rattle.std.specs.Option.{is_some}
use Rattle.std.specs.Str.{bytes_eq}
use Rattle.command_words.specs.declared.field.Command.{Command}
use Rattle.command_words.specs.declared.field.Command.TheVariants as command
use Rattle.command_words.specs.declared.field.Field.{Field}
use Rattle.command_words.specs.declared.field.Field.TheVariants as field
use Rattle.command_words.specs.declared.setting.Setting.{Setting}

-- the name of a command
abbrev pub command_name : Command → List ℕ
command_name command.Check = codes "check"
command_name command.Run = codes "run"
command_name command.Translate = codes "translate"
command_name command.Load = codes "load"
command_name command.Predict = codes "predict"
command_name command.Explain = codes "explain"
command_name command.Pair = codes "pair"
command_name command.Twice = codes "twice"

-- the command of a name
abbrev pub command_named : List ℕ → Option Command
command_named name =
    if bytes_eq name (codes "check") then Some command.Check
    else (if bytes_eq name (codes "run") then Some command.Run
    else (if bytes_eq name (codes "translate") then Some command.Translate
    else (if bytes_eq name (codes "load") then Some command.Load
    else (if bytes_eq name (codes "predict") then Some command.Predict
    else (if bytes_eq name (codes "explain") then Some command.Explain
    else (if bytes_eq name (codes "pair") then Some command.Pair
    else (if bytes_eq name (codes "twice") then Some command.Twice else None)))))))

-- the name of an option that has a value; the two other fields are no such options
abbrev pub option_name : Field → List ℕ
option_name field.Named = []
option_name field.Old = codes "--old"
option_name field.Base = codes "--base"
option_name field.Scenario = codes "--scenario"
option_name field.Tree = codes "--tree"
option_name field.Turns = codes "--turns"
option_name field.Limit = codes "--limit"
option_name field.Layout = []
option_name field.With = codes "--with"
option_name field.Outcome = codes "--outcome"

-- the option, with a value, of a name
abbrev pub option_named : List ℕ → Option Field
option_named name =
    if bytes_eq name (codes "--old") then Some field.Old
    else (if bytes_eq name (codes "--base") then Some field.Base
    else (if bytes_eq name (codes "--scenario") then Some field.Scenario
    else (if bytes_eq name (codes "--tree") then Some field.Tree
    else (if bytes_eq name (codes "--turns") then Some field.Turns
    else (if bytes_eq name (codes "--limit") then Some field.Limit
    else (if bytes_eq name (codes "--with") then Some field.With
    else (if bytes_eq name (codes "--outcome") then Some field.Outcome else None)))))))

-- a field's place among the fields
abbrev pub rank : Field → ℕ
rank field.Named = 0
rank field.Old = 1
rank field.Base = 2
rank field.Scenario = 3
rank field.Tree = 4
rank field.Turns = 5
rank field.Limit = 6
rank field.Layout = 7
rank field.With = 8
rank field.Outcome = 9

-- two fields are the same
abbrev pub is_field : Field → Field → Bool
is_field one other = rank one == rank other

-- the fields of which a line of the command may say something
abbrev pub fields_of : Command → List Field
fields_of command.Check =
    field.Named ∷ field.Old ∷ field.Base ∷ field.Scenario ∷ field.Turns ∷ field.Limit ∷ field.Layout ∷ []
fields_of command.Run = field.Named ∷ field.Old ∷ field.Base ∷ field.Scenario ∷ field.Tree ∷ field.Turns ∷ []
fields_of command.Translate = field.Named ∷ []
fields_of command.Load = field.Named ∷ field.Limit ∷ []
fields_of command.Predict = field.Named ∷ []
fields_of command.Explain =
    field.Named ∷ field.Old ∷ field.Base ∷ field.Scenario ∷ field.Turns ∷ field.Limit ∷ field.Layout ∷ field.Outcome ∷ []
fields_of command.Pair = field.Named ∷ field.With ∷ field.Base ∷ field.Scenario ∷ field.Turns ∷ field.Limit ∷ []
fields_of command.Twice = field.Named ∷ field.Base ∷ field.Turns ∷ field.Limit ∷ []

-- the options that a line of the command has to have
abbrev pub needs_of : Command → List Field
needs_of command.Run = field.Scenario ∷ field.Tree ∷ []
needs_of command.Pair = field.With ∷ field.Scenario ∷ []
needs_of command = []

-- whether the field is one of these
abbrev pub is_among : List Field → Field → Bool
is_among fields f = list_any (λ g. is_field g f) fields

-- whether a line of the command may say something of the field
abbrev pub takes : Command → Field → Bool
takes command f = is_among (fields_of command) f

-- how many files, folders or numbers a line of the command names at most
abbrev pub names_of : Command → ℕ
names_of command.Predict = 2
names_of command = 1

-- how many texts for the field a line of the command may have at most
abbrev pub most : Command → Field → ℕ
most command field.Named = names_of command
most command f = 1

-- the texts for a field, in order
abbrev pub texts : Field → List Setting → List (List ℕ)
texts f [] = []
texts f (s ∷ said) = if is_field f s.field then s.text ∷ texts f said else texts f said

-- the first of these
abbrev pub first : List (List ℕ) → Option (List ℕ)
first [] = None
first (text ∷ more) = Some text

-- the text for a field
abbrev pub given : Field → List Setting → Option (List ℕ)
given f said = first (texts f said)

-- all but the first of texts
abbrev pub behind : List (List ℕ) → List (List ℕ)
behind [] = []
behind (text ∷ more) = more

-- the second text for a field
abbrev pub second : Field → List Setting → Option (List ℕ)
second f said = first (behind (texts f said))

-- something was said of the field
abbrev pub is_given : Field → List Setting → Bool
is_given f said = is_some (given f said)

-- something was said that the field excludes: a line lays its text out by one word or by the number of an outcome
abbrev pub is_excluded : List Setting → Field → Bool
is_excluded said field.Layout = is_given field.Outcome said
is_excluded said field.Outcome = is_given field.Layout said
is_excluded said f = false

-- the line may still say something of the field: its command takes it, it was not said as often as it may be, and
-- nothing was said that excludes it
abbrev pub may : Command → List Setting → Field → Bool
may command said f =
    (takes command f && nat_lt (length (texts f said)) (most command f)) && not (is_excluded said f)
