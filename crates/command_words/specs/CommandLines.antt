-- What a valid command line is: a command, and behind it options and the folder, file or number that is named, in any
-- order; a prediction names two files.
use Rattle.std.specs.Prelude.{◌≡◌, ◌≢◌, ℕ, false, List, [], ◌∷◌, ◌++◌, map, codes, Option, Some, None, IsTrue}
use Rattle.std.specs.Option.{is_some}
use Rattle.dpkg_scenarios.specs.declared.scenario.Scenario.{Scenario}
use Rattle.command_words.specs.declared.field.Field.{Field}
use Rattle.command_words.specs.declared.field.Field.TheVariants as field
use Rattle.command_words.specs.declared.setting.Setting.{Setting}
use Rattle.command_words.specs.declared.request.Folders.{Folders}
use Rattle.command_words.specs.declared.request.Layout.{Layout}
use Rattle.command_words.specs.declared.request.Layout.TheVariants.{Plain, Brief, Json}
use Rattle.command_words.specs.declared.request.View.{View}
use Rattle.command_words.specs.declared.request.View.TheVariants.{Text, Places, Html, Outcome}
use Rattle.command_words.specs.declared.request.Request.{Request}
use Rattle.command_words.specs.declared.request.Request.TheVariants.{Check, Run, Translate, Load, Predict, Explain, Pair, Twice}
use Rattle.command_words.specs.declared.limits.TheConstants.{MOST_LOAD, MOST_TURNS, MOST_LIMIT}
use Rattle.command_words.specs.declared.limits.TheConstants.{USUAL_TURNS, USUAL_LIMIT}
use Rattle.command_words.specs.Fields.{option_name, is_among, texts}
use Rattle.dpkg_scenarios.specs.Names.{scenario_named, pair_named}
use Rattle.command_words.specs.Values.{is_name, number_in}

-- words of a line, or what is said of a field, in order
abbrev pub Texts : Type 0
Texts = List (List ℕ)

-- ---- how a line is spelled

-- an option and its value, as two words or as one; an option without a value; or a word that stands by itself
pub data Item : Type 0 where
  apart : Field → List ℕ → Item
  joined : Field → List ℕ → Item
  json : Item
  brief : Item
  places : Item
  html : Item
  name : List ℕ → Item

-- its words
abbrev pub item_words : Item → Texts
item_words (apart f text) = option_name f ∷ text ∷ []
item_words (joined f text) = (option_name f ++ (codes "=" ++ text)) ∷ []
item_words json = codes "--json" ∷ []
item_words brief = codes "--brief" ∷ []
item_words places = codes "--places" ∷ []
item_words html = codes "--html" ∷ []
item_words (name word) = word ∷ []

-- what it says, of what
abbrev pub item_setting : Item → Setting
item_setting (apart f text) = record { field = f; text = text }
item_setting (joined f text) = record { field = f; text = text }
item_setting json = record { field = field.Layout; text = codes "--json" }
item_setting brief = record { field = field.Layout; text = codes "--brief" }
item_setting places = record { field = field.Layout; text = codes "--places" }
item_setting html = record { field = field.Layout; text = codes "--html" }
item_setting (name word) = record { field = field.Named; text = word }

-- the field is an option that has a value
abbrev pub HasValue : Field → Type 0
HasValue f = option_name f ≢ []

-- A value that is a word of its own, and a word that stands by itself, do not begin with a dash, unless they are a dash
-- alone.
abbrev pub IsItem : Item → Type 0
IsItem (apart f text) = HasValue f × IsTrue (is_name text)
IsItem (joined f text) = HasValue f
IsItem json = Unit {0}
IsItem brief = Unit {0}
IsItem places = Unit {0}
IsItem html = Unit {0}
IsItem (name word) = IsTrue (is_name word)

-- items, of which each is one
abbrev pub AreItems : List Item → Type 0
AreItems [] = Unit {0}
AreItems (item ∷ items) = IsItem item × AreItems items

-- the words of items
abbrev pub items_words : List Item → Texts
items_words [] = []
items_words (item ∷ items) = item_words item ++ items_words items

-- what may stand behind `--`: words of any look, none of which is `--` again
abbrev pub AreNames : Texts → Type 0
AreNames [] = Unit {0}
AreNames (word ∷ words) = (word ≢ codes "--") × AreNames words

-- items, and perhaps `--` with words behind it
pub record Line : Type 0 where
  pub items : List Item
  pub ended : Option Texts

-- the words from `--` on, where it is there
abbrev pub ended_words : Option Texts → Texts
ended_words None = []
ended_words (Some words) = codes "--" ∷ words

-- the words behind `--`
abbrev pub ended_names : Option Texts → Texts
ended_names None = []
ended_names (Some words) = words

-- the words of a line
abbrev pub line_words : Line → Texts
line_words line = items_words line.items ++ ended_words line.ended

-- what a word behind `--` says
abbrev pub name_setting : List ℕ → Setting
name_setting word = record { field = field.Named; text = word }

-- what a line says, in order
abbrev pub line_settings : Line → List Setting
line_settings line = map item_setting line.items ++ map name_setting (ended_names line.ended)

-- ---- what a line asks for

-- no text, or one
abbrev pub listed : Option (List ℕ) → Texts
listed None = []
listed (Some text) = text ∷ []

-- no text, and the usual number; or the text of a number of 1 to 6 decimal digits, from 1 to `most`
abbrev pub IsNumberOr : ℕ → ℕ → Texts → ℕ → Type 0
IsNumberOr most usual [] n = n ≡ usual
IsNumberOr most usual (text ∷ []) n = number_in most text ≡ Some n
IsNumberOr most usual (text ∷ other ∷ more) n = ⊥

-- the text of such a number, and no other text
abbrev pub IsNumber : ℕ → Texts → ℕ → Type 0
IsNumber most [] n = ⊥
IsNumber most (text ∷ []) n = number_in most text ≡ Some n
IsNumber most (text ∷ other ∷ more) n = ⊥

-- no text, and no scenario; or the name of a scenario, of those that are named so
abbrev pub IsScenarioOr : (List ℕ → Option Scenario) → Texts → Option Scenario → Type 0
IsScenarioOr named [] chosen = chosen ≡ None
IsScenarioOr named (text ∷ []) chosen = (named text ≡ chosen) × IsTrue (is_some chosen)
IsScenarioOr named (text ∷ other ∷ more) chosen = ⊥

-- the name of a scenario, of those that are named so, and no other text
abbrev pub IsScenario : (List ℕ → Option Scenario) → Texts → Scenario → Type 0
IsScenario named [] chosen = ⊥
IsScenario named (text ∷ []) chosen = named text ≡ Some chosen
IsScenario named (text ∷ other ∷ more) chosen = ⊥

-- the words for a layout
abbrev pub layout_words : Layout → Texts
layout_words Plain = []
layout_words Brief = codes "--brief" ∷ []
layout_words Json = codes "--json" ∷ []

-- the words for a view that has no number
abbrev pub view_words : View → Texts
view_words Text = []
view_words Places = codes "--places" ∷ []
view_words Html = codes "--html" ∷ []
view_words (Outcome number) = []

-- the texts for the number of the outcome that a view shows
abbrev pub IsOutcomeOf : View → Texts → Type 0
IsOutcomeOf Text ts = ts ≡ []
IsOutcomeOf Places ts = ts ≡ []
IsOutcomeOf Html ts = ts ≡ []
IsOutcomeOf (Outcome number) ts = IsNumber MOST_LIMIT ts number

-- nothing is said but of these fields
abbrev pub NoOthers : List Field → (Field → Texts) → Type 0
NoOthers fields said = (f : Field) → is_among fields f ≡ false → said f ≡ []

-- the texts for each field name these folders
pub record NamesFolders (said : Field → Texts) (folders : Folders) : Type 0 where
  pub dir : said field.Named ≡ folders.dir ∷ []
  pub old : said field.Old ≡ listed folders.old
  pub base : said field.Base ≡ listed folders.base

-- the texts for each field ask for a check of these folders
pub record AsksCheck (said : Field → Texts) (folders : Folders) (chosen : Option Scenario) (turns limit : ℕ)
    (layout : Layout) : Type 0 where
  pub of_folders : NamesFolders said folders
  pub of_scenario : IsScenarioOr scenario_named (said field.Scenario) chosen
  pub of_turns : IsNumberOr MOST_TURNS USUAL_TURNS (said field.Turns) turns
  pub of_limit : IsNumberOr MOST_LIMIT USUAL_LIMIT (said field.Limit) limit
  pub of_layout : said field.Layout ≡ layout_words layout
  pub of_others : NoOthers
      (field.Named ∷ field.Old ∷ field.Base ∷ field.Scenario ∷ field.Turns ∷ field.Limit ∷ field.Layout ∷ []) said

-- the texts for each field ask for a run
pub record AsksRun (said : Field → Texts) (folders : Folders) (tree : List ℕ) (chosen : Scenario) (turns : ℕ)
    : Type 0 where
  pub of_folders : NamesFolders said folders
  pub of_tree : said field.Tree ≡ tree ∷ []
  pub of_scenario : IsScenario scenario_named (said field.Scenario) chosen
  pub of_turns : IsNumberOr MOST_TURNS USUAL_TURNS (said field.Turns) turns
  pub of_others : NoOthers (field.Named ∷ field.Old ∷ field.Base ∷ field.Scenario ∷ field.Tree ∷ field.Turns ∷ []) said

-- the texts for each field ask for a translation
pub record AsksTranslate (said : Field → Texts) (file : List ℕ) : Type 0 where
  pub of_file : said field.Named ≡ file ∷ []
  pub of_others : NoOthers (field.Named ∷ []) said

-- the texts for each field ask for a load
pub record AsksLoad (said : Field → Texts) (number limit : ℕ) : Type 0 where
  pub of_number : IsNumber MOST_LOAD (said field.Named) number
  pub of_limit : IsNumberOr MOST_LIMIT USUAL_LIMIT (said field.Limit) limit
  pub of_others : NoOthers (field.Named ∷ field.Limit ∷ []) said

-- the texts for each field ask for a prediction: the report is named first, the trees behind it
pub record AsksPredict (said : Field → Texts) (report trees : List ℕ) : Type 0 where
  pub of_files : said field.Named ≡ report ∷ trees ∷ []
  pub of_others : NoOthers (field.Named ∷ []) said

-- the texts for each field ask for an explanation of these folders
pub record AsksExplain (said : Field → Texts) (folders : Folders) (chosen : Option Scenario) (turns limit : ℕ)
    (view : View) : Type 0 where
  pub of_folders : NamesFolders said folders
  pub of_scenario : IsScenarioOr scenario_named (said field.Scenario) chosen
  pub of_turns : IsNumberOr MOST_TURNS USUAL_TURNS (said field.Turns) turns
  pub of_limit : IsNumberOr MOST_LIMIT USUAL_LIMIT (said field.Limit) limit
  pub of_layout : said field.Layout ≡ view_words view
  pub of_outcome : IsOutcomeOf view (said field.Outcome)
  pub of_others : NoOthers
      (field.Named ∷ field.Old ∷ field.Base ∷ field.Scenario ∷ field.Turns ∷ field.Limit ∷ field.Layout ∷ field.Outcome ∷ []) said

-- the texts for each field ask for a check of a package against another
pub record AsksPair (said : Field → Texts) (dir other : List ℕ) (base : Option (List ℕ)) (chosen : Scenario)
    (turns limit : ℕ) : Type 0 where
  pub of_dir : said field.Named ≡ dir ∷ []
  pub of_other : said field.With ≡ other ∷ []
  pub of_base : said field.Base ≡ listed base
  pub of_scenario : IsScenario pair_named (said field.Scenario) chosen
  pub of_turns : IsNumberOr MOST_TURNS USUAL_TURNS (said field.Turns) turns
  pub of_limit : IsNumberOr MOST_LIMIT USUAL_LIMIT (said field.Limit) limit
  pub of_others : NoOthers (field.Named ∷ field.With ∷ field.Base ∷ field.Scenario ∷ field.Turns ∷ field.Limit ∷ []) said

-- the texts for each field ask for a check that a package can be configured twice
pub record AsksTwice (said : Field → Texts) (dir : List ℕ) (base : Option (List ℕ)) (turns limit : ℕ) : Type 0 where
  pub of_dir : said field.Named ≡ dir ∷ []
  pub of_base : said field.Base ≡ listed base
  pub of_turns : IsNumberOr MOST_TURNS USUAL_TURNS (said field.Turns) turns
  pub of_limit : IsNumberOr MOST_LIMIT USUAL_LIMIT (said field.Limit) limit
  pub of_others : NoOthers (field.Named ∷ field.Base ∷ field.Turns ∷ field.Limit ∷ []) said

-- the texts for each field ask for this request
abbrev pub Asks : (Field → Texts) → Request → Type 0
Asks said (Check folders scenario turns limit layout) = AsksCheck said folders scenario turns limit layout
Asks said (Run folders tree scenario turns) = AsksRun said folders tree scenario turns
Asks said (Translate file) = AsksTranslate said file
Asks said (Load number limit) = AsksLoad said number limit
Asks said (Predict report trees) = AsksPredict said report trees
Asks said (Explain folders scenario turns limit view) = AsksExplain said folders scenario turns limit view
Asks said (Pair dir other base scenario turns limit) = AsksPair said dir other base scenario turns limit
Asks said (Twice dir base turns limit) = AsksTwice said dir base turns limit

-- the command of a request
abbrev pub command_of : Request → List ℕ
command_of (Check folders scenario turns limit layout) = codes "check"
command_of (Run folders tree scenario turns) = codes "run"
command_of (Translate file) = codes "translate"
command_of (Load number limit) = codes "load"
command_of (Predict report trees) = codes "predict"
command_of (Explain folders scenario turns limit view) = codes "explain"
command_of (Pair dir other base scenario turns limit) = codes "pair"
command_of (Twice dir base turns limit) = codes "twice"

-- The words are a valid line for a request: its command and a line that asks for it. So each option stands there once
-- at most, `--json` and `--brief` exclude each other, and so do `--places`, `--html` and `--outcome`.
pub record IsLine (words : Texts) (request : Request) : Type 0 where
  pub line : Line
  pub is : words ≡ command_of request ∷ line_words line
  pub items : AreItems line.items
  pub names : AreNames (ended_names line.ended)
  pub asks : Asks (λ f. texts f (line_settings line)) request
