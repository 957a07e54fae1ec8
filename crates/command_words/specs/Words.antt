-- The form of the command line, word by word.
use Rattle.std.specs.Prelude.{◌≡◌, ℕ, ◌+◌, Bool, List, [], ◌∷◌, ◌++◌, length, codes}
use Rattle.std.specs.Prelude.{Option, Some, None, Result, Ok, Err, if◌then◌else◌}
use Rattle.std.specs.List.{list_all}
use Rattle.std.specs.Option.{ok_or}
use Rattle.std.specs.Str.{bytes_eq}
use Rattle.command_words.specs.declared.field.Command.{Command}
use Rattle.command_words.specs.declared.field.Field.TheVariants as field
use Rattle.command_words.specs.declared.setting.Setting.{Setting}
use Rattle.command_words.specs.declared.look.Look.{Look}
use Rattle.command_words.specs.declared.look.Look.TheVariants.{Says, Awaits, Ends, Unknown}
use Rattle.command_words.specs.declared.read.Begun.{Begun}
use Rattle.command_words.specs.declared.read.Place.{Place}
use Rattle.command_words.specs.declared.read.Place.TheVariants.{Options, Value, Ended}
use Rattle.command_words.specs.declared.read.WordsFault.{WordsFault}
use Rattle.command_words.specs.declared.read.WordsFault.TheVariants.{Usage, Memory}
use Rattle.command_words.specs.declared.request.Request.{Request}
use Rattle.command_words.specs.Fields.{command_named, needs_of, is_given, may}
use Rattle.command_words.specs.Values.{is_name, is_value}
use Rattle.command_words.specs.Looks.{look}
use Rattle.command_words.specs.Requests.{request_of}

-- the options that the command needs have been said
abbrev pub is_ready : Command → List Setting → Bool
is_ready command said = list_all (λ f. is_given f said) (needs_of command)

-- a line that says these things and stands at a place
abbrev pub at : List Setting → Place → Option Begun
at said place = Some (record { said = said; place = place })

-- a line that says one thing more, where it may say that
abbrev pub say : Command → List Setting → Setting → Place → Option Begun
say command said s place =
    if may command said s.field
    then (if is_value command s.field s.text then at (said ++ s ∷ []) place else None)
    else None

-- a word comes while options may
abbrev pub open_step : Command → List Setting → Look → Option Begun
open_step command said (Says s) = say command said s Options
open_step command said (Awaits f) = if may command said f then at said (Value f) else None
open_step command said Ends = if is_ready command said then at said Ended else None
open_step command said Unknown = None

-- a word comes, by the place where the line stands
abbrev pub step_at : Command → List Setting → Place → List ℕ → Option Begun
step_at command said Options word = open_step command said (look word)
step_at command said (Value f) word =
    if is_name word then say command said (record { field = f; text = word }) Options else None
step_at command said Ended word =
    if bytes_eq word (codes "--") then None
    else say command said (record { field = field.Named; text = word }) Ended

-- the line with one more word; None where no valid line begins so
abbrev pub step : Command → Begun → List ℕ → Option Begun
step command begun word = step_at command begun.said begun.place word

-- the line behind a command's name
abbrev pub start : Begun
start = record { said = []; place = Options }

-- the line with more words, of which the first has this number; or the number of the word with which it stops to be one
abbrev pub after : Command → Begun → List (List ℕ) → ℕ → Result Begun ℕ
after command begun [] n = Ok begun
after command begun (word ∷ words) n =
    elim (step command begun word) [ None ↦ Err n | Some next ↦ after command next words (n + 1) ]

-- the request that a line makes where no word follows
abbrev pub finished_at : Command → List Setting → Place → Option Request
finished_at command said Options = request_of command said
finished_at command said (Value f) = None
finished_at command said Ended = request_of command said

-- the request of a line behind which no word follows; None where it is none
abbrev pub finished : Command → Begun → Option Request
finished command begun = finished_at command begun.said begun.place

-- the request of the line that is reached, or the number behind its last word
abbrev pub ended_form : Command → ℕ → Result Begun ℕ → Result Request ℕ
ended_form command n (Ok begun) = ok_or (finished command begun) n
ended_form command n (Err word) = Err word

-- the request that the words behind a command's name spell
abbrev pub line_form : Command → List (List ℕ) → Result Request ℕ
line_form command words = ended_form command (length words + 2) (after command start words 2)

-- by the command that the first word names
abbrev pub command_form : Option Command → List (List ℕ) → Result Request ℕ
command_form None words = Err 1
command_form (Some command) words = line_form command words

-- the request that the words spell, or the least number of words with which no valid line begins; where all words begin
-- one, it is their count and one
abbrev pub form : List (List ℕ) → Result Request ℕ
form [] = Err 1
form (name ∷ words) = command_form (command_named name) words

-- what the code answers for words, of which this is wanted
abbrev pub FormGives : {A : Type 0} → Result A ℕ → Result A WordsFault → Type 0
FormGives wanted (Ok value) = wanted ≡ Ok value
FormGives wanted (Err (Usage word)) = wanted ≡ Err word
FormGives wanted (Err Memory) = Unit {0}
