-- The request that settings make, and the one that their texts ask for.
use Rattle.std.proofs.Common.{◌≡◌, ℕ, zero, suc, Bool, true, false, List, [], ◌∷◌, Option, Some, None, refl, sym, ap, subst, ◌∙◌, codes}
use Rattle.std.specs.Prelude.{if◌then◌else◌, ◌&&◌, ◌||◌}
use Rattle.std.specs.Option.{is_some, option_and_then, unwrap_or}
use Rattle.std.specs.Str.{bytes_eq}
use Rattle.std.proofs.lemmas.Slice.Eq.{bytes_eq-Decides}
use Rattle.dpkg_scenarios.specs.declared.scenario.Scenario.{Scenario}
use Rattle.command_words.specs.declared.field.Command.{Command}
use Rattle.command_words.specs.declared.field.Command.TheVariants as command
use Rattle.command_words.specs.declared.field.Field.{Field}
use Rattle.command_words.specs.declared.field.Field.TheVariants as field
use Rattle.command_words.specs.declared.setting.Setting.{Setting}
use Rattle.command_words.specs.declared.request.Folders.{Folders}
use Rattle.command_words.specs.declared.request.Layout.{Layout}
use Rattle.command_words.specs.declared.request.Layout.TheVariants.{Plain, Brief, Json}
use Rattle.command_words.specs.declared.request.View.{View}
use Rattle.command_words.specs.declared.request.View.TheVariants.{Text, Places, Html, Outcome}
use Rattle.command_words.specs.declared.request.Request.{Request}
use Rattle.command_words.specs.declared.request.Request.TheVariants.{Check, Run, Translate, Load, Predict, Explain, Pair, Twice}
use Rattle.command_words.specs.declared.limits.TheConstants.{MOST_LOAD, MOST_TURNS, MOST_LIMIT}
use Rattle.command_words.specs.declared.limits.TheConstants.{USUAL_TURNS, USUAL_LIMIT}
use Rattle.command_words.specs.Fields.{takes, fields_of, names_of, most, texts, first, behind, given, is_given, command_name}
use Rattle.dpkg_scenarios.specs.Names.{scenario_named, pair_named}
use Rattle.command_words.specs.Values.{number_in, is_value}
use Rattle.command_words.specs.Requests.{number_or, scenario_said, layout_by, view_by, folders_said, check_of, explain_of, run_from, load_by, predict_by}
use Rattle.command_words.specs.Requests.{pair_said, pair_from, twice_of, request_by, request_of}
use Rattle.command_words.specs.CommandLines.{Texts, listed, IsNumberOr, IsNumber, IsScenarioOr, IsScenario, layout_words, view_words, IsOutcomeOf, NoOthers, NamesFolders}
use Rattle.command_words.specs.CommandLines.{AsksCheck, AsksRun, AsksTranslate, AsksLoad, AsksPredict, AsksExplain, AsksPair, AsksTwice, Asks, command_of}
use Rattle.command_words.proofs.Fitting.{OneOf, FewOf, Suits, EachFits, AllFit, lays_out_twice, fit_once, ones_fit, Each, of_all}
use Rattle.command_words.proofs.Results.{differ, is_no, in_some}

abbrev pub command_at : Request → Command
command_at (Check folders chosen turns limit layout) = command.Check
command_at (Run folders tree chosen turns) = command.Run
command_at (Translate file) = command.Translate
command_at (Load number limit) = command.Load
command_at (Predict report trees) = command.Predict
command_at (Explain folders chosen turns limit view) = command.Explain
command_at (Pair dir other base chosen turns limit) = command.Pair
command_at (Twice dir base turns limit) = command.Twice

pub commands : (request : Request) → command_of request ≡ command_name (command_at request)
commands (Check folders chosen turns limit layout) = refl
commands (Run folders tree chosen turns) = refl
commands (Translate file) = refl
commands (Load number limit) = refl
commands (Predict report trees) = refl
commands (Explain folders chosen turns limit view) = refl
commands (Pair dir other base chosen turns limit) = refl
commands (Twice dir base turns limit) = refl

-- ---- a text, or none

module _ (P : List ℕ → Type 0) where
  listed_first : (ts : Texts) → OneOf P ts → ts ≡ listed (first ts)
  listed_first [] h = refl
  listed_first (t ∷ []) h = refl
  listed_first (t ∷ u ∷ more) h = absurd h

first_listed : (o : Option (List ℕ)) → first (listed o) ≡ o
first_listed None = refl
first_listed (Some t) = refl

few_none : (n : ℕ) (P : List ℕ → Type 0) (ts : Texts) → ((t : List ℕ) → P t → ⊥) → FewOf n P ts → ts ≡ []
few_none n P [] never h = refl
few_none zero P (t ∷ ts) never h = absurd h
few_none (suc n) P (t ∷ ts) never h = absurd (never t h.0)

not_taken : (command : Command) (said : List Setting) (f : Field) → takes command f ≡ false → AllFit command said → texts f said ≡ []
not_taken command said f never fit =
    few_none (most command f) (Suits command f) (texts f said) (λ t h. differ (sym h.0 ∙ never)) (fit.few f)

-- ---- scenarios, numbers, layouts

module _ (named : List ℕ → Option Scenario) where
  scenario_listed : (X : List ℕ → Type 0) (ts : Texts) → OneOf (λ t. X t × (is_some (named t) ≡ true)) ts
      → IsScenarioOr named ts (option_and_then named (first ts))
  scenario_listed X [] h = refl
  scenario_listed X (t ∷ []) h = (refl, h.1)
  scenario_listed X (t ∷ u ∷ more) h = absurd h

  one_chosen : (ts : Texts) (s : Scenario) → IsScenarioOr named ts (Some s) → IsScenario named ts s
  one_chosen [] s h = absurd (is_no (sym h))
  one_chosen (t ∷ []) s h = h.0
  one_chosen (t ∷ u ∷ more) s h = absurd h

  scenario_first : (ts : Texts) (o : Option Scenario) → IsScenarioOr named ts o → option_and_then named (first ts) ≡ o
  scenario_first [] o h = sym h
  scenario_first (t ∷ []) o h = h.0
  scenario_first (t ∷ u ∷ more) o h = absurd h

  chosen_first : (ts : Texts) (s : Scenario) → IsScenario named ts s → option_and_then named (first ts) ≡ Some s
  chosen_first [] s h = absurd h
  chosen_first (t ∷ []) s h = h
  chosen_first (t ∷ u ∷ more) s h = absurd h

  pub chosen_text : (ts : Texts) (s : Scenario) → IsScenario named ts s → (t : List ℕ) × (ts ≡ t ∷ [])
  chosen_text [] s h = absurd h
  chosen_text (t ∷ []) s h = (t, refl)
  chosen_text (t ∷ u ∷ more) s h = absurd h

number_by : (o : Option ℕ) (usual : ℕ) → is_some o ≡ true → o ≡ Some (unwrap_or o usual)
number_by None usual h = absurd (differ (sym h))
number_by (Some n) usual h = refl

number_listed : (X : List ℕ → Type 0) (most usual : ℕ) (ts : Texts) → OneOf (λ t. X t × (is_some (number_in most t) ≡ true)) ts
    → IsNumberOr most usual ts (number_or most usual (first ts))
number_listed X most usual [] h = refl
number_listed X most usual (t ∷ []) h = number_by (number_in most t) usual h.1
number_listed X most usual (t ∷ u ∷ more) h = absurd h

number_first : (most usual : ℕ) (ts : Texts) (n : ℕ) → IsNumberOr most usual ts n → number_or most usual (first ts) ≡ n
number_first most usual [] n h = sym h
number_first most usual (t ∷ []) n h = ap (λ o. unwrap_or o usual) h
number_first most usual (t ∷ u ∷ more) n h = absurd h

-- the number that is named
number_named : (said : List Setting) (ts : Texts) (n : ℕ) → IsNumber MOST_LOAD ts n → request_by command.Load said (first ts) ≡ load_by said (Some n)
number_named said [] n h = absurd h
number_named said (t ∷ []) n h = ap (load_by said) h
number_named said (t ∷ u ∷ more) n h = absurd h

layout_of_flag : (t : List ℕ) (b c : Bool) → bytes_eq t (codes "--json") ≡ b → bytes_eq t (codes "--brief") ≡ c → (b || c) ≡ true
    → t ∷ [] ≡ layout_words (if b then Json else Brief)
layout_of_flag t true c same other h = ap (λ x. x ∷ []) ((bytes_eq-Decides t (codes "--json")).0 same)
layout_of_flag t false true same other h = ap (λ x. x ∷ []) ((bytes_eq-Decides t (codes "--brief")).0 other)
layout_of_flag t false false same other h = absurd (differ (sym h))

layout_listed : (ts : Texts) → OneOf (Suits command.Check field.Layout) ts → ts ≡ layout_words (layout_by (first ts))
layout_listed [] h = refl
layout_listed (t ∷ []) h =
    layout_of_flag t (bytes_eq t (codes "--json")) (bytes_eq t (codes "--brief")) refl refl h.1
layout_listed (t ∷ u ∷ more) h = absurd h

layout_first : (layout : Layout) → layout_by (first (layout_words layout)) ≡ layout
layout_first Plain = refl
layout_first Brief = refl
layout_first Json = refl

-- the texts for a word and for a number are those of a view
pub record AreOfView (ts us : Texts) (view : View) : Type 0 where
  pub of_layout : ts ≡ view_words view
  pub of_outcome : IsOutcomeOf view us

view_of_flag : (t : List ℕ) (b c : Bool) → bytes_eq t (codes "--places") ≡ b → bytes_eq t (codes "--html") ≡ c → (b || c) ≡ true
    → AreOfView (t ∷ []) [] (if c then Html else Places)
view_of_flag t b true other same h =
    record { of_layout = ap (λ w. w ∷ []) ((bytes_eq-Decides t (codes "--html")).0 same); of_outcome = refl }
view_of_flag t true false same other h =
    record { of_layout = ap (λ w. w ∷ []) ((bytes_eq-Decides t (codes "--places")).0 same); of_outcome = refl }
view_of_flag t false false same other h = absurd (differ (sym h))

view_listed : (ts us : Texts) → OneOf (Suits command.Explain field.Layout) ts → OneOf (Suits command.Explain field.Outcome) us
    → (is_some (first ts) && is_some (first us)) ≡ false → AreOfView ts us (view_by (first ts) (first us))
view_listed [] [] h k once = record { of_layout = refl; of_outcome = refl }
view_listed [] (u ∷ []) h k once =
    record { of_layout = refl; of_outcome = number_by (number_in MOST_LIMIT u) 1 k.1 }
view_listed [] (u ∷ v ∷ more) h k once = absurd k
view_listed (t ∷ []) [] h k once =
    view_of_flag t (bytes_eq t (codes "--places")) (bytes_eq t (codes "--html")) refl refl h.1
view_listed (t ∷ []) (u ∷ us) h k once = absurd (differ once)
view_listed (t ∷ w ∷ more) us h k once = absurd h

-- the text of a number
named_first : (most usual : ℕ) (ts : Texts) (n : ℕ) → IsNumber most ts n → view_by None (first ts) ≡ Outcome (number_or MOST_LIMIT 1 (first ts))
named_first most usual [] n h = absurd h
named_first most usual (t ∷ []) n h = refl
named_first most usual (t ∷ u ∷ more) n h = absurd h

number_of_text : (most usual : ℕ) (ts : Texts) (n : ℕ) → IsNumber most ts n → number_or most usual (first ts) ≡ n
number_of_text most usual [] n h = absurd h
number_of_text most usual (t ∷ []) n h = ap (λ o. unwrap_or o usual) h
number_of_text most usual (t ∷ u ∷ more) n h = absurd h

view_first : (view : View) (us : Texts) → IsOutcomeOf view us → view_by (first (view_words view)) (first us) ≡ view
view_first Text us h = ap (λ ts. view_by None (first ts)) h
view_first Places us h = refl
view_first Html us h = refl
view_first (Outcome number) us h =
    named_first MOST_LIMIT 1 us number h ∙ ap Outcome (number_of_text MOST_LIMIT 1 us number h)

-- a view has a word or a number
view_once : (view : View) (ts us : Texts) → ts ≡ view_words view → IsOutcomeOf view us → (is_some (first ts) && is_some (first us)) ≡ false
view_once Text ts us e h = ap (λ l. is_some (first l) && is_some (first us)) e
view_once Places ts us e h = (λ i. is_some (first (e i)) && is_some (first (h i)))
view_once Html ts us e h = (λ i. is_some (first (e i)) && is_some (first (h i)))
view_once (Outcome number) ts us e h = ap (λ l. is_some (first l) && is_some (first us)) e

-- ---- what settings that fit ask for

names_folders : (command : Command) (dir : List ℕ) (said : List Setting) → AllFit command said → texts field.Named said ≡ dir ∷ []
    → NamesFolders (λ f. texts f said) (folders_said dir said)
names_folders command dir said fit named =
    record {
      dir = named;
      old = listed_first (Suits command field.Old) (texts field.Old said) (fit_once command said field.Old refl fit);
      base = listed_first (Suits command field.Base) (texts field.Base said) (fit_once command said field.Base refl fit);
    }

asks_check : (dir : List ℕ) (said : List Setting) → AllFit command.Check said → texts field.Named said ≡ dir ∷ []
    → Asks (λ f. texts f said) (check_of dir said)
asks_check dir said fit named =
    record {
      of_folders = names_folders command.Check dir said fit named;
      of_scenario = scenario_listed scenario_named (λ t. takes command.Check field.Scenario ≡ true) (texts field.Scenario said) (fit_once command.Check said field.Scenario refl fit);
      of_turns = number_listed (λ t. takes command.Check field.Turns ≡ true) MOST_TURNS USUAL_TURNS (texts field.Turns said) (fit_once command.Check said field.Turns refl fit);
      of_limit = number_listed (λ t. takes command.Check field.Limit ≡ true) MOST_LIMIT USUAL_LIMIT (texts field.Limit said) (fit_once command.Check said field.Limit refl fit);
      of_layout = layout_listed (texts field.Layout said) (fit_once command.Check said field.Layout refl fit);
      of_others = λ f never. not_taken command.Check said f never fit;
    }

asks_explain : (dir : List ℕ) (said : List Setting) → AllFit command.Explain said → texts field.Named said ≡ dir ∷ []
    → Asks (λ f. texts f said) (explain_of dir said)
asks_explain dir said fit named =
    let views = view_listed (texts field.Layout said) (texts field.Outcome said) (fit_once command.Explain said field.Layout refl fit)
    (fit_once command.Explain said field.Outcome refl fit) fit.once in
    record {
      of_folders = names_folders command.Explain dir said fit named;
      of_scenario = scenario_listed scenario_named (λ t. takes command.Explain field.Scenario ≡ true) (texts field.Scenario said) (fit_once command.Explain said field.Scenario refl fit);
      of_turns = number_listed (λ t. takes command.Explain field.Turns ≡ true) MOST_TURNS USUAL_TURNS (texts field.Turns said) (fit_once command.Explain said field.Turns refl fit);
      of_limit = number_listed (λ t. takes command.Explain field.Limit ≡ true) MOST_LIMIT USUAL_LIMIT (texts field.Limit said) (fit_once command.Explain said field.Limit refl fit);
      of_layout = views.of_layout;
      of_outcome = views.of_outcome;
      of_others = λ f never. not_taken command.Explain said f never fit;
    }

asks_translate : (file : List ℕ) (said : List Setting) → AllFit command.Translate said → texts field.Named said ≡ file ∷ []
    → Asks (λ f. texts f said) (Translate file)
asks_translate file said fit named =
    record {
      of_file = named;
      of_others = λ f never. not_taken command.Translate said f never fit;
    }

asks_load : (name : List ℕ) (number : ℕ) (said : List Setting) → AllFit command.Load said → texts field.Named said ≡ name ∷ []
    → number_in MOST_LOAD name ≡ Some number
    → AsksLoad (λ f. texts f said) number (number_or MOST_LIMIT USUAL_LIMIT (given field.Limit said))
asks_load name number said fit named is =
    record {
      of_number = subst (λ ts. IsNumber MOST_LOAD ts number) (sym named) is;
      of_limit = number_listed (λ t. takes command.Load field.Limit ≡ true) MOST_LIMIT USUAL_LIMIT (texts field.Limit said) (fit_once command.Load said field.Limit refl fit);
      of_others = λ f never. not_taken command.Load said f never fit;
    }

-- what a request has to be for these settings
pub record IsAsked (c : Command) (said : List Setting) (request : Request) : Type 0 where
  pub is : command_at request ≡ c
  pub asks : Asks (λ f. texts f said) request

asked_run : (dir : List ℕ) (said : List Setting) (request : Request) (chosen : Option Scenario) (tree : Option (List ℕ))
    → AllFit command.Run said → texts field.Named said ≡ dir ∷ [] → IsScenarioOr scenario_named (texts field.Scenario said) chosen
    → texts field.Tree said ≡ listed tree → run_from dir said chosen tree ≡ Some request → IsAsked command.Run said request
asked_run dir said request None tree fit named scenarios trees e = absurd (is_no e)
asked_run dir said request (Some s) None fit named scenarios trees e = absurd (is_no e)
asked_run dir said request (Some s) (Some tree) fit named scenarios trees e =
    subst (IsAsked command.Run said) (in_some e)
    (record {
      is = refl;
      asks = record {
        of_folders = names_folders command.Run dir said fit named;
        of_tree = trees;
        of_scenario = one_chosen scenario_named (texts field.Scenario said) s scenarios;
        of_turns = number_listed (λ t. takes command.Run field.Turns ≡ true) MOST_TURNS USUAL_TURNS (texts field.Turns said) (fit_once command.Run said field.Turns refl fit);
        of_others = λ f never. not_taken command.Run said f never fit;
      };
    })

asked_pair : (dir : List ℕ) (said : List Setting) (request : Request) (chosen : Option Scenario) (other : Option (List ℕ))
    → AllFit command.Pair said → texts field.Named said ≡ dir ∷ [] → IsScenarioOr pair_named (texts field.Scenario said) chosen
    → texts field.With said ≡ listed other → pair_from dir said chosen other ≡ Some request → IsAsked command.Pair said request
asked_pair dir said request None other fit named scenarios others e = absurd (is_no e)
asked_pair dir said request (Some s) None fit named scenarios others e = absurd (is_no e)
asked_pair dir said request (Some s) (Some other) fit named scenarios others e =
    subst (IsAsked command.Pair said) (in_some e)
    (record {
      is = refl;
      asks = record {
        of_dir = named;
        of_other = others;
        of_base = listed_first (Suits command.Pair field.Base) (texts field.Base said) (fit_once command.Pair said field.Base refl fit);
        of_scenario = one_chosen pair_named (texts field.Scenario said) s scenarios;
        of_turns = number_listed (λ t. takes command.Pair field.Turns ≡ true) MOST_TURNS USUAL_TURNS (texts field.Turns said) (fit_once command.Pair said field.Turns refl fit);
        of_limit = number_listed (λ t. takes command.Pair field.Limit ≡ true) MOST_LIMIT USUAL_LIMIT (texts field.Limit said) (fit_once command.Pair said field.Limit refl fit);
        of_others = λ f never. not_taken command.Pair said f never fit;
      };
    })

asks_twice : (dir : List ℕ) (said : List Setting) → AllFit command.Twice said → texts field.Named said ≡ dir ∷ []
    → Asks (λ f. texts f said) (twice_of dir said)
asks_twice dir said fit named =
    record {
      of_dir = named;
      of_base = listed_first (Suits command.Twice field.Base) (texts field.Base said) (fit_once command.Twice said field.Base refl fit);
      of_turns = number_listed (λ t. takes command.Twice field.Turns ≡ true) MOST_TURNS USUAL_TURNS (texts field.Turns said) (fit_once command.Twice said field.Turns refl fit);
      of_limit = number_listed (λ t. takes command.Twice field.Limit ≡ true) MOST_LIMIT USUAL_LIMIT (texts field.Limit said) (fit_once command.Twice said field.Limit refl fit);
      of_others = λ f never. not_taken command.Twice said f never fit;
    }

asked_load : (name : List ℕ) (said : List Setting) (request : Request) (o : Option ℕ) → AllFit command.Load said
    → texts field.Named said ≡ name ∷ [] → number_in MOST_LOAD name ≡ o → load_by said o ≡ Some request
    → IsAsked command.Load said request
asked_load name said request None fit named is e = absurd (is_no e)
asked_load name said request (Some number) fit named is e =
    subst (IsAsked command.Load said) (in_some e) (record { is = refl; asks = asks_load name number said fit named is })

-- a command that names one thing
named_once : (c : Command) (said : List Setting) (t : List ℕ) → names_of c ≡ 1 → AllFit c said → given field.Named said ≡ Some t
    → texts field.Named said ≡ t ∷ []
named_once c said t once fit e =
    listed_first (Suits c field.Named) (texts field.Named said) (fit_once c said field.Named once fit) ∙ ap listed e

-- a command that names two: the second text is there, and no third one
pub record NamesTwo (ts : Texts) (report : List ℕ) (request : Request) : Type 0 where
  pub trees : List ℕ
  pub texts_are : ts ≡ report ∷ trees ∷ []
  pub makes : Predict report trees ≡ request

names_two : (P : List ℕ → Type 0) (ts : Texts) (report : List ℕ) (request : Request) → FewOf 2 P ts → first ts ≡ Some report
    → predict_by report (first (behind ts)) ≡ Some request → NamesTwo ts report request
names_two P [] report request few is e = absurd (is_no is)
names_two P (t ∷ []) report request few is e = absurd (is_no e)
names_two P (t ∷ u ∷ []) report request few is e =
    record { trees = u; texts_are = ap (λ x. x ∷ u ∷ []) (in_some is); makes = in_some e }
names_two P (t ∷ u ∷ v ∷ more) report request few is e = absurd few.1.1

asks_predict : (report : List ℕ) (said : List Setting) (request : Request) → AllFit command.Predict said
    → NamesTwo (texts field.Named said) report request → IsAsked command.Predict said request
asks_predict report said request fit two =
    subst (IsAsked command.Predict said) two.makes
    (record {
      is = refl;
      asks = record {
        of_files = two.texts_are;
        of_others = λ f never. not_taken command.Predict said f never fit;
      };
    })

asked_by : (c : Command) (said : List Setting) (request : Request) (o : Option (List ℕ)) → AllFit c said
    → given field.Named said ≡ o → request_by c said o ≡ Some request → IsAsked c said request
asked_by c said request None fit named e = absurd (is_no e)
asked_by command.Check said request (Some dir) fit named e =
    subst (IsAsked command.Check said) (in_some e)
    (record { is = refl; asks = asks_check dir said fit (named_once command.Check said dir refl fit named) })
asked_by command.Run said request (Some dir) fit named e =
    asked_run dir said request (scenario_said said) (given field.Tree said) fit (named_once command.Run said dir refl fit named)
    (scenario_listed scenario_named (λ t. takes command.Run field.Scenario ≡ true) (texts field.Scenario said) (fit_once command.Run said field.Scenario refl fit))
    (listed_first (Suits command.Run field.Tree) (texts field.Tree said) (fit_once command.Run said field.Tree refl fit)) e
asked_by command.Translate said request (Some file) fit named e =
    subst (IsAsked command.Translate said) (in_some e)
    (record { is = refl; asks = asks_translate file said fit (named_once command.Translate said file refl fit named) })
asked_by command.Load said request (Some name) fit named e =
    asked_load name said request (number_in MOST_LOAD name) fit (named_once command.Load said name refl fit named) refl e
asked_by command.Predict said request (Some report) fit named e =
    asks_predict report said request fit
    (names_two (Suits command.Predict field.Named) (texts field.Named said) report request (fit.few field.Named) named e)
asked_by command.Explain said request (Some dir) fit named e =
    subst (IsAsked command.Explain said) (in_some e)
    (record { is = refl; asks = asks_explain dir said fit (named_once command.Explain said dir refl fit named) })
asked_by command.Pair said request (Some dir) fit named e =
    asked_pair dir said request (pair_said said) (given field.With said) fit (named_once command.Pair said dir refl fit named)
    (scenario_listed pair_named (λ t. takes command.Pair field.Scenario ≡ true) (texts field.Scenario said) (fit_once command.Pair said field.Scenario refl fit))
    (listed_first (Suits command.Pair field.With) (texts field.With said) (fit_once command.Pair said field.With refl fit)) e
asked_by command.Twice said request (Some dir) fit named e =
    subst (IsAsked command.Twice said) (in_some e)
    (record { is = refl; asks = asks_twice dir said fit (named_once command.Twice said dir refl fit named) })

pub asked : (c : Command) (said : List Setting) (request : Request) → AllFit c said → request_of c said ≡ Some request
    → IsAsked c said request
asked c said request fit e = asked_by c said request (given field.Named said) fit refl e

-- ---- and the request of what they ask for

module _ (said : List Setting) where
  first_of : (f : Field) (o : Option (List ℕ)) → texts f said ≡ listed o → first (texts f said) ≡ o
  first_of f o e = ap first e ∙ first_listed o

  folders_made : (folders : Folders) → NamesFolders (λ f. texts f said) folders → folders_said folders.dir said ≡ folders
  folders_made folders names =
      let old = first_of field.Old folders.old names.old in
      let base = first_of field.Base folders.base names.base in
      λ i. record { dir = folders.dir; old = old i; base = base i }

  made_check : (folders : Folders) (chosen : Option Scenario) (turns limit : ℕ) (layout : Layout)
      → AsksCheck (λ f. texts f said) folders chosen turns limit layout
      → request_of command.Check said ≡ Some (Check folders chosen turns limit layout)
  made_check folders chosen turns limit layout asks =
      let named = ap first asks.of_folders.dir in
      let dirs = folders_made folders asks.of_folders in
      let scenarios = scenario_first scenario_named (texts field.Scenario said) chosen asks.of_scenario in
      let turn = number_first MOST_TURNS USUAL_TURNS (texts field.Turns said) turns asks.of_turns in
      let most = number_first MOST_LIMIT USUAL_LIMIT (texts field.Limit said) limit asks.of_limit in
      let layouts = ap (λ ts. layout_by (first ts)) asks.of_layout ∙ layout_first layout in
      ap (request_by command.Check said) named
      ∙ (λ i. Some (Check (dirs i) (scenarios i) (turn i) (most i) (layouts i)))

  made_run : (folders : Folders) (tree : List ℕ) (chosen : Scenario) (turns : ℕ)
      → AsksRun (λ f. texts f said) folders tree chosen turns
      → request_of command.Run said ≡ Some (Run folders tree chosen turns)
  made_run folders tree chosen turns asks =
      let named = ap first asks.of_folders.dir in
      let dirs = folders_made folders asks.of_folders in
      let scenarios = chosen_first scenario_named (texts field.Scenario said) chosen asks.of_scenario in
      let trees = ap first asks.of_tree in
      let turn = number_first MOST_TURNS USUAL_TURNS (texts field.Turns said) turns asks.of_turns in
      ap (request_by command.Run said) named
      ∙ ap (λ s. run_from folders.dir said s (given field.Tree said)) scenarios
      ∙ ap (λ t. run_from folders.dir said (Some chosen) t) trees
      ∙ (λ i. Some (Run (dirs i) tree chosen (turn i)))

  made_load : (number limit : ℕ) → AsksLoad (λ f. texts f said) number limit
      → request_of command.Load said ≡ Some (Load number limit)
  made_load number limit asks =
      let most = number_first MOST_LIMIT USUAL_LIMIT (texts field.Limit said) limit asks.of_limit in
      number_named said (texts field.Named said) number asks.of_number ∙ (λ i. Some (Load number (most i)))

  made_explain : (folders : Folders) (chosen : Option Scenario) (turns limit : ℕ) (view : View)
      → AsksExplain (λ f. texts f said) folders chosen turns limit view
      → request_of command.Explain said ≡ Some (Explain folders chosen turns limit view)
  made_explain folders chosen turns limit view asks =
      let named = ap first asks.of_folders.dir in
      let dirs = folders_made folders asks.of_folders in
      let scenarios = scenario_first scenario_named (texts field.Scenario said) chosen asks.of_scenario in
      let turn = number_first MOST_TURNS USUAL_TURNS (texts field.Turns said) turns asks.of_turns in
      let most = number_first MOST_LIMIT USUAL_LIMIT (texts field.Limit said) limit asks.of_limit in
      let views = ap (λ ts. view_by (first ts) (given field.Outcome said)) asks.of_layout
      ∙ view_first view (texts field.Outcome said) asks.of_outcome in
      ap (request_by command.Explain said) named
      ∙ (λ i. Some (Explain (dirs i) (scenarios i) (turn i) (most i) (views i)))

  made_pair : (dir other : List ℕ) (base : Option (List ℕ)) (chosen : Scenario) (turns limit : ℕ)
      → AsksPair (λ f. texts f said) dir other base chosen turns limit
      → request_of command.Pair said ≡ Some (Pair dir other base chosen turns limit)
  made_pair dir other base chosen turns limit asks =
      let named = ap first asks.of_dir in
      let others = ap first asks.of_other in
      let bases = first_of field.Base base asks.of_base in
      let scenarios = chosen_first pair_named (texts field.Scenario said) chosen asks.of_scenario in
      let turn = number_first MOST_TURNS USUAL_TURNS (texts field.Turns said) turns asks.of_turns in
      let most = number_first MOST_LIMIT USUAL_LIMIT (texts field.Limit said) limit asks.of_limit in
      ap (request_by command.Pair said) named
      ∙ ap (λ s. pair_from dir said s (given field.With said)) scenarios
      ∙ ap (λ o. pair_from dir said (Some chosen) o) others
      ∙ (λ i. Some (Pair dir other (bases i) chosen (turn i) (most i)))

  made_twice : (dir : List ℕ) (base : Option (List ℕ)) (turns limit : ℕ) → AsksTwice (λ f. texts f said) dir base turns limit
      → request_of command.Twice said ≡ Some (Twice dir base turns limit)
  made_twice dir base turns limit asks =
      let named = ap first asks.of_dir in
      let bases = first_of field.Base base asks.of_base in
      let turn = number_first MOST_TURNS USUAL_TURNS (texts field.Turns said) turns asks.of_turns in
      let most = number_first MOST_LIMIT USUAL_LIMIT (texts field.Limit said) limit asks.of_limit in
      ap (request_by command.Twice said) named ∙ (λ i. Some (Twice dir (bases i) (turn i) (most i)))

  pub made : (request : Request) → Asks (λ f. texts f said) request → request_of (command_at request) said ≡ Some request
  made (Check folders chosen turns limit layout) asks = made_check folders chosen turns limit layout asks
  made (Run folders tree chosen turns) asks = made_run folders tree chosen turns asks
  made (Translate file) asks = ap (request_by command.Translate said) (ap first asks.of_file)
  made (Load number limit) asks = made_load number limit asks
  made (Predict report trees) asks =
      ap (request_by command.Predict said) (ap first asks.of_files)
      ∙ ap (predict_by report) (ap (λ ts. first (behind ts)) asks.of_files)
  made (Explain folders chosen turns limit view) asks = made_explain folders chosen turns limit view asks
  made (Pair dir other base chosen turns limit) asks = made_pair dir other base chosen turns limit asks
  made (Twice dir base turns limit) asks = made_twice dir base turns limit asks

-- ---- what is asked for fits

-- of each field that the command takes, one text at most
abbrev OnesFit : Command → List Setting → Type 0
OnesFit command said = Each (λ f. OneOf (Suits command f) (texts f said)) (fields_of command)

never_both : (a : Bool) {b : Bool} → b ≡ false → (a && b) ≡ false
never_both true h = h
never_both false h = refl

module _ (c : Command) (f : Field) where
  fits_none : (ts : Texts) → ts ≡ [] → OneOf (Suits c f) ts
  fits_none ts e = subst (OneOf (Suits c f)) (sym e) tt

  fits_one : (ts : Texts) (t : List ℕ) → ts ≡ t ∷ [] → takes c f ≡ true → is_value c f t ≡ true → OneOf (Suits c f) ts
  fits_one ts t e taken suits = subst (OneOf (Suits c f)) (sym e) (taken, suits)

  fits_listed : (ts : Texts) (o : Option (List ℕ)) → ts ≡ listed o → takes c f ≡ true → ((t : List ℕ) → is_value c f t ≡ true)
      → OneOf (Suits c f) ts
  fits_listed ts None e taken suits = fits_none ts e
  fits_listed ts (Some t) e taken suits = fits_one ts t e taken (suits t)

fits_number : (X : List ℕ → Type 0) (most usual : ℕ) (ts : Texts) (n : ℕ) → ((t : List ℕ) → X t) → IsNumberOr most usual ts n
    → OneOf (λ t. X t × (is_some (number_in most t) ≡ true)) ts
fits_number X most usual [] n x h = tt
fits_number X most usual (t ∷ []) n x h = (x t, ap is_some h)
fits_number X most usual (t ∷ u ∷ more) n x h = absurd h

fits_named : (ts : Texts) (n : ℕ) → IsNumber MOST_LOAD ts n → OneOf (Suits command.Load field.Named) ts
fits_named [] n h = absurd h
fits_named (t ∷ []) n h = (refl, ap is_some h)
fits_named (t ∷ u ∷ more) n h = absurd h

module _ (named : List ℕ → Option Scenario) (X : List ℕ → Type 0) (x : (t : List ℕ) → X t) where
  fits_scenario : (ts : Texts) (o : Option Scenario) → IsScenarioOr named ts o → OneOf (λ t. X t × (is_some (named t) ≡ true)) ts
  fits_scenario [] o h = tt
  fits_scenario (t ∷ []) o h = (x t, ap is_some h.0 ∙ h.1)
  fits_scenario (t ∷ u ∷ more) o h = absurd h

  fits_chosen : (ts : Texts) (s : Scenario) → IsScenario named ts s → OneOf (λ t. X t × (is_some (named t) ≡ true)) ts
  fits_chosen [] s h = absurd h
  fits_chosen (t ∷ []) s h = (x t, ap is_some h)
  fits_chosen (t ∷ u ∷ more) s h = absurd h

fits_view : (ts : Texts) (view : View) → ts ≡ view_words view → OneOf (Suits command.Explain field.Layout) ts
fits_view ts Text e = fits_none command.Explain field.Layout ts e
fits_view ts Places e = fits_one command.Explain field.Layout ts (codes "--places") e refl refl
fits_view ts Html e = fits_one command.Explain field.Layout ts (codes "--html") e refl refl
fits_view ts (Outcome number) e = fits_none command.Explain field.Layout ts e

fits_outcome : (ts : Texts) (view : View) → IsOutcomeOf view ts → OneOf (Suits command.Explain field.Outcome) ts
fits_outcome ts Text h = fits_none command.Explain field.Outcome ts h
fits_outcome ts Places h = fits_none command.Explain field.Outcome ts h
fits_outcome ts Html h = fits_none command.Explain field.Outcome ts h
fits_outcome [] (Outcome number) h = absurd h
fits_outcome (t ∷ []) (Outcome number) h = (refl, ap is_some h)
fits_outcome (t ∷ u ∷ more) (Outcome number) h = absurd h

fits_layout : (ts : Texts) (layout : Layout) → ts ≡ layout_words layout → OneOf (Suits command.Check field.Layout) ts
fits_layout ts Plain e = fits_none command.Check field.Layout ts e
fits_layout ts Brief e = fits_one command.Check field.Layout ts (codes "--brief") e refl refl
fits_layout ts Json e = fits_one command.Check field.Layout ts (codes "--json") e refl refl

module _ (said : List Setting) where
  check_fits : (folders : Folders) (chosen : Option Scenario) (turns limit : ℕ) (layout : Layout)
      → AsksCheck (λ f. texts f said) folders chosen turns limit layout → OnesFit command.Check said
  check_fits folders chosen turns limit layout asks = (
    fits_one command.Check field.Named (texts field.Named said) folders.dir asks.of_folders.dir refl refl,
    (
      fits_listed command.Check field.Old (texts field.Old said) folders.old asks.of_folders.old refl (λ t. refl),
      (
        fits_listed command.Check field.Base (texts field.Base said) folders.base asks.of_folders.base refl (λ t. refl),
        (
          fits_scenario scenario_named (λ t. takes command.Check field.Scenario ≡ true) (λ t. refl) (texts field.Scenario said) chosen asks.of_scenario,
          (
            fits_number (λ t. takes command.Check field.Turns ≡ true) MOST_TURNS USUAL_TURNS (texts field.Turns said) turns (λ t. refl) asks.of_turns,
            (
              fits_number (λ t. takes command.Check field.Limit ≡ true) MOST_LIMIT USUAL_LIMIT (texts field.Limit said) limit (λ t. refl) asks.of_limit,
              (
                fits_layout (texts field.Layout said) layout asks.of_layout,
                tt,
              ),
            ),
          ),
        ),
      ),
    ),
  )

  run_fits : (folders : Folders) (tree : List ℕ) (chosen : Scenario) (turns : ℕ)
      → AsksRun (λ f. texts f said) folders tree chosen turns → OnesFit command.Run said
  run_fits folders tree chosen turns asks = (
    fits_one command.Run field.Named (texts field.Named said) folders.dir asks.of_folders.dir refl refl,
    (
      fits_listed command.Run field.Old (texts field.Old said) folders.old asks.of_folders.old refl (λ t. refl),
      (
        fits_listed command.Run field.Base (texts field.Base said) folders.base asks.of_folders.base refl (λ t. refl),
        (
          fits_chosen scenario_named (λ t. takes command.Run field.Scenario ≡ true) (λ t. refl) (texts field.Scenario said) chosen asks.of_scenario,
          (
            fits_one command.Run field.Tree (texts field.Tree said) tree asks.of_tree refl refl,
            (
              fits_number (λ t. takes command.Run field.Turns ≡ true) MOST_TURNS USUAL_TURNS (texts field.Turns said) turns (λ t. refl) asks.of_turns,
              tt,
            ),
          ),
        ),
      ),
    ),
  )

  translate_fits : (file : List ℕ) → AsksTranslate (λ f. texts f said) file → OnesFit command.Translate said
  translate_fits file asks = (
    fits_one command.Translate field.Named (texts field.Named said) file asks.of_file refl refl,
    tt,
  )

  load_fits : (number limit : ℕ) → AsksLoad (λ f. texts f said) number limit → OnesFit command.Load said
  load_fits number limit asks = (
    fits_named (texts field.Named said) number asks.of_number,
    (
      fits_number (λ t. takes command.Load field.Limit ≡ true) MOST_LIMIT USUAL_LIMIT (texts field.Limit said) limit (λ t. refl) asks.of_limit,
      tt,
    ),
  )

  explain_fits : (folders : Folders) (chosen : Option Scenario) (turns limit : ℕ) (view : View)
      → AsksExplain (λ f. texts f said) folders chosen turns limit view → OnesFit command.Explain said
  explain_fits folders chosen turns limit view asks = (
    fits_one command.Explain field.Named (texts field.Named said) folders.dir asks.of_folders.dir refl refl,
    (
      fits_listed command.Explain field.Old (texts field.Old said) folders.old asks.of_folders.old refl (λ t. refl),
      (
        fits_listed command.Explain field.Base (texts field.Base said) folders.base asks.of_folders.base refl (λ t. refl),
        (
          fits_scenario scenario_named (λ t. takes command.Explain field.Scenario ≡ true) (λ t. refl) (texts field.Scenario said) chosen asks.of_scenario,
          (
            fits_number (λ t. takes command.Explain field.Turns ≡ true) MOST_TURNS USUAL_TURNS (texts field.Turns said) turns (λ t. refl) asks.of_turns,
            (
              fits_number (λ t. takes command.Explain field.Limit ≡ true) MOST_LIMIT USUAL_LIMIT (texts field.Limit said) limit (λ t. refl) asks.of_limit,
              (
                fits_view (texts field.Layout said) view asks.of_layout,
                (
                  fits_outcome (texts field.Outcome said) view asks.of_outcome,
                  tt,
                ),
              ),
            ),
          ),
        ),
      ),
    ),
  )

  pair_fits : (dir other : List ℕ) (base : Option (List ℕ)) (chosen : Scenario) (turns limit : ℕ)
      → AsksPair (λ f. texts f said) dir other base chosen turns limit → OnesFit command.Pair said
  pair_fits dir other base chosen turns limit asks = (
    fits_one command.Pair field.Named (texts field.Named said) dir asks.of_dir refl refl,
    (
      fits_one command.Pair field.With (texts field.With said) other asks.of_other refl refl,
      (
        fits_listed command.Pair field.Base (texts field.Base said) base asks.of_base refl (λ t. refl),
        (
          fits_chosen pair_named (λ t. takes command.Pair field.Scenario ≡ true) (λ t. refl) (texts field.Scenario said) chosen asks.of_scenario,
          (
            fits_number (λ t. takes command.Pair field.Turns ≡ true) MOST_TURNS USUAL_TURNS (texts field.Turns said) turns (λ t. refl) asks.of_turns,
            (
              fits_number (λ t. takes command.Pair field.Limit ≡ true) MOST_LIMIT USUAL_LIMIT (texts field.Limit said) limit (λ t. refl) asks.of_limit,
              tt,
            ),
          ),
        ),
      ),
    ),
  )

  twice_fits : (dir : List ℕ) (base : Option (List ℕ)) (turns limit : ℕ) → AsksTwice (λ f. texts f said) dir base turns limit
      → OnesFit command.Twice said
  twice_fits dir base turns limit asks = (
    fits_one command.Twice field.Named (texts field.Named said) dir asks.of_dir refl refl,
    (
      fits_listed command.Twice field.Base (texts field.Base said) base asks.of_base refl (λ t. refl),
      (
        fits_number (λ t. takes command.Twice field.Turns ≡ true) MOST_TURNS USUAL_TURNS (texts field.Turns said) turns (λ t. refl) asks.of_turns,
        (
          fits_number (λ t. takes command.Twice field.Limit ≡ true) MOST_LIMIT USUAL_LIMIT (texts field.Limit said) limit (λ t. refl) asks.of_limit,
          tt,
        ),
      ),
    ),
  )

  each_once : (c : Command) → names_of c ≡ 1 → OnesFit c said → NoOthers (fields_of c) (λ f. texts f said) → EachFits c said
  each_once c once each others =
      ones_fit c said once (of_all (λ f ts. OneOf (Suits c f) ts) (λ f. tt) (fields_of c) said each others)

  -- no number of an outcome is said
  no_outcome : texts field.Outcome said ≡ [] → lays_out_twice said ≡ false
  no_outcome e = never_both (is_given field.Layout said) (ap (λ ts. is_some (first ts)) e)

  fits_once : (c : Command) → names_of c ≡ 1 → OnesFit c said → NoOthers (fields_of c) (λ f. texts f said)
      → texts field.Outcome said ≡ [] → AllFit c said
  fits_once c once each others none = record { few = each_once c once each others; once = no_outcome none }

  predict_fits : (report trees : List ℕ) → AsksPredict (λ f. texts f said) report trees → AllFit command.Predict said
  predict_fits report trees asks =
      let each = of_all (λ f ts. FewOf (most command.Predict f) (Suits command.Predict f) ts) (λ f. tt) (fields_of command.Predict) said
      (subst (FewOf 2 (Suits command.Predict field.Named)) (sym asks.of_files) ((refl, refl), ((refl, refl), tt)), tt) asks.of_others in
      record { few = each; once = no_outcome (asks.of_others field.Outcome refl) }

  explanation_fits : (folders : Folders) (chosen : Option Scenario) (turns limit : ℕ) (view : View)
      → AsksExplain (λ f. texts f said) folders chosen turns limit view → AllFit command.Explain said
  explanation_fits folders chosen turns limit view asks =
      record {
        few = each_once command.Explain refl (explain_fits folders chosen turns limit view asks) asks.of_others;
        once = view_once view (texts field.Layout said) (texts field.Outcome said) asks.of_layout asks.of_outcome;
      }

  pub asked_fits : (request : Request) → Asks (λ f. texts f said) request → AllFit (command_at request) said
  asked_fits (Check folders chosen turns limit layout) asks =
      fits_once command.Check refl (check_fits folders chosen turns limit layout asks) asks.of_others (asks.of_others field.Outcome refl)
  asked_fits (Run folders tree chosen turns) asks =
      fits_once command.Run refl (run_fits folders tree chosen turns asks) asks.of_others (asks.of_others field.Outcome refl)
  asked_fits (Translate file) asks =
      fits_once command.Translate refl (translate_fits file asks) asks.of_others (asks.of_others field.Outcome refl)
  asked_fits (Load number limit) asks =
      fits_once command.Load refl (load_fits number limit asks) asks.of_others (asks.of_others field.Outcome refl)
  asked_fits (Predict report trees) asks = predict_fits report trees asks
  asked_fits (Explain folders chosen turns limit view) asks =
      explanation_fits folders chosen turns limit view asks
  asked_fits (Pair dir other base chosen turns limit) asks =
      fits_once command.Pair refl (pair_fits dir other base chosen turns limit asks) asks.of_others (asks.of_others field.Outcome refl)
  asked_fits (Twice dir base turns limit) asks =
      fits_once command.Twice refl (twice_fits dir base turns limit asks) asks.of_others (asks.of_others field.Outcome refl)
