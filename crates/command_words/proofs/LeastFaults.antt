-- Where words stop to begin a line.
use Rattle.std.proofs.Common.{◌≡◌, ℕ, zero, suc, ◌+◌, ◌≤◌, Bool, true, false, List, [], ◌∷◌, ◌++◌, length, Option, Some, None, Result, Ok, refl, sym, ap, subst, ◌∙◌, append_assoc, codes, arith}
use Rattle.std.specs.Prelude.{◌&&◌, if◌then◌else◌, nat_lt}
use Rattle.std.specs.List.{list_all}
use Rattle.std.specs.Option.{is_some, unwrap_or, option_and_then}
use Rattle.std.proofs.lemmas.Bool.{and_from, and_parts, ltb-true, ltb-false}
use Rattle.dpkg_scenarios.specs.declared.scenario.Scenario.{Scenario}
use Rattle.command_words.specs.declared.field.Command.{Command}
use Rattle.command_words.specs.declared.field.Command.TheVariants as command
use Rattle.command_words.specs.declared.field.Field.{Field}
use Rattle.command_words.specs.declared.field.Field.TheVariants as field
use Rattle.command_words.specs.declared.setting.Setting.{Setting}
use Rattle.command_words.specs.declared.look.Look.TheVariants.{Says}
use Rattle.command_words.specs.declared.read.Begun.{Begun}
use Rattle.command_words.specs.declared.read.Place.{Place}
use Rattle.command_words.specs.declared.read.Place.TheVariants.{Options, Value, Ended}
use Rattle.command_words.specs.declared.request.Request.{Request}
use Rattle.command_words.specs.declared.request.Request.TheVariants.{Predict}
use Rattle.command_words.specs.declared.limits.TheConstants.{MOST_LOAD}
use Rattle.command_words.specs.Fields.{takes, needs_of, names_of, may, is_given, is_excluded, given, texts, first, behind}
use Rattle.dpkg_scenarios.specs.Names.{scenario_named, pair_named}
use Rattle.command_words.specs.Values.{is_name, number_in, scenario_in, may_name, may_lay_out, is_value}
use Rattle.command_words.specs.Looks.{look}
use Rattle.command_words.specs.Requests.{request_by, run_from, check_of, explain_of, load_by, predict_by, pair_from, twice_of, request_of}
use Rattle.command_words.specs.Words.{is_ready, say, open_step, step, after, finished_at, finished}
use Rattle.command_words.specs.CommandLines.{Texts, HasValue}
use Rattle.command_words.proofs.Fitting.{OneOf, FewOf, Suits, AllFit, fit_once, fits_more, may_say, may_begin, texts_at, all_given, still_given, now_given}
use Rattle.command_words.proofs.Advance.{after_step}
use Rattle.command_words.proofs.ReadLines.{Sound, Stands}
use Rattle.command_words.proofs.SpelledLines.{alone_after, can_say}
use Rattle.command_words.proofs.Results.{differ}

-- ---- words that complete a line

-- nothing excludes the field
abbrev is_free : Field → Bool
is_free field.Layout = false
is_free field.Outcome = false
is_free f = true

free : (f : Field) → is_free f ≡ true → (said : List Setting) → is_excluded said f ≡ false
free field.Layout h said = absurd (differ (sym h))
free field.Outcome h said = absurd (differ (sym h))
free field.Named h said = refl
free field.Old h said = refl
free field.Base h said = refl
free field.Scenario h said = refl
free field.Tree h said = refl
free field.Turns h said = refl
free field.Limit h said = refl
free field.With h said = refl

-- the command takes the field, which nothing excludes
abbrev is_open : Command → Field → Bool
is_open command f = takes command f && is_free f

-- how a line of the command may lay out its text, and a scenario that it may name
pub record Sample (command : Command) : Type 0 where
  pub layout : List ℕ
  pub scenario : List ℕ
  pub lays_out : may_lay_out command layout ≡ true
  pub looked : look layout ≡ Says (record { field = field.Layout; text = layout })
  pub is_scenario : is_some (scenario_in command scenario) ≡ true
  pub scenario_is_name : is_name scenario ≡ true
  pub names_one : may_name command (codes "1") ≡ true
  pub takes_name : takes command field.Named ≡ true
  pub takes_needs : list_all (is_open command) (needs_of command) ≡ true

module _ (command : Command) (layout scenario : List ℕ) where
  with_these : may_lay_out command layout ≡ true → look layout ≡ Says (record { field = field.Layout; text = layout })
      → is_some (scenario_in command scenario) ≡ true → is_name scenario ≡ true → may_name command (codes "1") ≡ true
      → takes command field.Named ≡ true → list_all (is_open command) (needs_of command) ≡ true → Sample command
  with_these lays looks is names one takes needs =
      record {
        layout = layout;
        scenario = scenario;
        lays_out = lays;
        looked = looks;
        is_scenario = is;
        scenario_is_name = names;
        names_one = one;
        takes_name = takes;
        takes_needs = needs;
      }

sample : (command : Command) → Sample command
sample command.Check = with_these command.Check (codes "--json") (codes "install") refl refl refl refl refl refl refl
sample command.Run = with_these command.Run (codes "--json") (codes "install") refl refl refl refl refl refl refl
sample command.Translate = with_these command.Translate (codes "--json") (codes "install") refl refl refl refl refl refl refl
sample command.Load = with_these command.Load (codes "--json") (codes "install") refl refl refl refl refl refl refl
sample command.Predict = with_these command.Predict (codes "--json") (codes "install") refl refl refl refl refl refl refl
sample command.Explain = with_these command.Explain (codes "--places") (codes "install") refl refl refl refl refl refl refl
sample command.Pair = with_these command.Pair (codes "--json") (codes "disappear") refl refl refl refl refl refl refl
sample command.Twice = with_these command.Twice (codes "--json") (codes "install") refl refl refl refl refl refl refl

-- a text for each field, and a word that says it
abbrev text_for : Command → Field → List ℕ
text_for command field.Named = codes "1"
text_for command field.Old = []
text_for command field.Base = []
text_for command field.Scenario = (sample command).scenario
text_for command field.Tree = []
text_for command field.Turns = codes "1"
text_for command field.Limit = codes "1"
text_for command field.Layout = (sample command).layout
text_for command field.With = []
text_for command field.Outcome = codes "1"

abbrev word_for : Command → Field → List ℕ
word_for command field.Named = codes "1"
word_for command field.Old = codes "--old="
word_for command field.Base = codes "--base="
word_for command field.Scenario = codes "--scenario=" ++ (sample command).scenario
word_for command field.Tree = codes "--tree="
word_for command field.Turns = codes "--turns=1"
word_for command field.Limit = codes "--limit=1"
word_for command field.Layout = (sample command).layout
word_for command field.With = codes "--with="
word_for command field.Outcome = codes "--outcome=1"

abbrev setting_for : Command → Field → Setting
setting_for command f = record { field = f; text = text_for command f }

word_looked : (command : Command) (f : Field) → look (word_for command f) ≡ Says (setting_for command f)
word_looked command field.Named = refl
word_looked command field.Old = refl
word_looked command field.Base = refl
word_looked command field.Scenario = refl
word_looked command field.Tree = refl
word_looked command field.Turns = refl
word_looked command field.Limit = refl
word_looked command field.Layout = (sample command).looked
word_looked command field.With = refl
word_looked command field.Outcome = refl

text_is_value : (command : Command) (f : Field) → is_value command f (text_for command f) ≡ true
text_is_value command field.Named = (sample command).names_one
text_is_value command field.Old = refl
text_is_value command field.Base = refl
text_is_value command field.Scenario = (sample command).is_scenario
text_is_value command field.Tree = refl
text_is_value command field.Turns = refl
text_is_value command field.Limit = refl
text_is_value command field.Layout = (sample command).lays_out
text_is_value command field.With = refl
text_is_value command field.Outcome = refl

text_is_name : (command : Command) (f : Field) → HasValue f → is_name (text_for command f) ≡ true
text_is_name command field.Named h = refl
text_is_name command field.Old h = refl
text_is_name command field.Base h = refl
text_is_name command field.Scenario h = (sample command).scenario_is_name
text_is_name command field.Tree h = refl
text_is_name command field.Turns h = refl
text_is_name command field.Limit h = refl
text_is_name command field.Layout h = absurd (h refl)
text_is_name command field.With h = refl
text_is_name command field.Outcome h = refl

-- the words lead from a line that is begun to another, which says what it said and more
pub record Leads (command : Command) (place : Place) (said all : List Setting) (words : Texts) : Type 0 where
  pub fits : AllFit command all
  pub keeps : (f : Field) → is_given f said ≡ true → is_given f all ≡ true
  pub leads : (rest : Texts) (wanted : Result Begun ℕ)
      → ((m : ℕ) → after command (record { said = all; place = place }) rest m ≡ wanted)
      → (n : ℕ) → after command (record { said = said; place = place }) (words ++ rest) n ≡ wanted

-- a line to which something of a field has been added
pub record Grows (command : Command) (place : Place) (said : List Setting) (f : Field) : Type 0 where
  pub all : List Setting
  pub words : Texts
  pub path : Leads command place said all words
  pub has : is_given f all ≡ true

module _ (command : Command) (said : List Setting) (f : Field) where
  grows_by : AllFit command said → is_open command f ≡ true → (b : Bool) → is_given f said ≡ b → Grows command Options said f
  grows_by fits taken true is =
      record {
        all = said;
        words = [];
        path = record { fits = fits; keeps = λ g h. h; leads = λ rest wanted go n. go n };
        has = is;
      }
  grows_by fits taken false is =
      let s = setting_for command f in
      let parts = and_parts (takes command f) (is_free f) taken in
      let can : may command said f ≡ true = may_begin command said f parts.0 is (free f parts.1 said) in
      record {
        all = said ++ s ∷ [];
        words = word_for command f ∷ [];
        path = record {
          fits = fits_more command said s fits can (text_is_value command f);
          keeps = λ g h. still_given g said (s ∷ []) h;
          leads = λ rest wanted go n. alone_after command said (word_for command f) s rest n wanted (word_looked command f) can (text_is_value command f) go;
        };
        has = now_given s said;
      }

  grows : AllFit command said → is_open command f ≡ true → Grows command Options said f
  grows fits taken = grows_by fits taken (is_given f said) refl

-- one path, and then another
module _ (command : Command) (place : Place) (said more all : List Setting) (words others : Texts) where
  both : Leads command place said more words → Leads command place more all others → Leads command place said all (words ++ others)
  both one two =
      record {
        fits = two.fits;
        keeps = λ f h. two.keeps f (one.keeps f h);
        leads = λ rest wanted go n.
            ap (λ ws. after command (record { said = said; place = place }) ws n) (append_assoc words others rest)
            ∙ one.leads (others ++ rest) wanted (two.leads rest wanted go) n;
      }

-- a line to which something of each of these fields has been added
pub record GrowsAll (command : Command) (said : List Setting) (fields : List Field) : Type 0 where
  pub all : List Setting
  pub words : Texts
  pub path : Leads command Options said all words
  pub has : list_all (λ f. is_given f all) fields ≡ true

grows_all : (command : Command) (fields : List Field) (said : List Setting) → AllFit command said
    → list_all (is_open command) fields ≡ true → GrowsAll command said fields
grows_all command [] said fits taken =
    record {
      all = said;
      words = [];
      path = record { fits = fits; keeps = λ g h. h; leads = λ rest wanted go n. go n };
      has = refl;
    }
grows_all command (f ∷ fields) said fits taken =
    let parts = and_parts (is_open command f) (list_all (is_open command) fields) taken in
    let a = grows command said f fits parts.0 in
    let b = grows_all command fields a.all a.path.fits parts.1 in
    record {
      all = b.all;
      words = a.words ++ b.words;
      path = both command Options said a.all b.all a.words b.words a.path b.path;
      has = and_from (is_given f b.all) (list_all (λ g. is_given g b.all) fields) (b.path.keeps f a.has) b.has;
    }

-- a line that names as many things as its command may name
abbrev IsFull : Command → List Setting → Type 0
IsFull command said = names_of command ≤ length (texts field.Named said)

pub record Fills (command : Command) (place : Place) (said : List Setting) : Type 0 where
  pub all : List Setting
  pub words : Texts
  pub path : Leads command place said all words
  pub full : IsFull command all

-- While options may come, and behind `--`, a word names one thing more.
abbrev Names : Command → Place → Type 0
Names command place =
    (said : List Setting) → may command said field.Named ≡ true
    → step command (record { said = said; place = place }) (codes "1")
    ≡ Some (record { said = said ++ setting_for command field.Named ∷ []; place = place })

open_names : (command : Command) → Names command Options
open_names command said can =
    ap (open_step command said) (word_looked command field.Named)
    ∙ can_say command said (setting_for command field.Named) Options can (sample command).names_one

ended_names_one : (command : Command) → Names command Ended
ended_names_one command said can = can_say command said (setting_for command field.Named) Ended can (sample command).names_one

module _ (command : Command) (place : Place) (names : Names command place) where
  name_leads : (said : List Setting) → AllFit command said → may command said field.Named ≡ true
      → Leads command place said (said ++ setting_for command field.Named ∷ []) (codes "1" ∷ [])
  name_leads said fits can =
      let s = setting_for command field.Named in
      record {
        fits = fits_more command said s fits can (sample command).names_one;
        keeps = λ g h. still_given g said (s ∷ []) h;
        leads = λ rest wanted go n.
            after_step command (record { said = said; place = place }) (record { said = said ++ s ∷ []; place = place }) (codes "1") rest n
            (names said can) ∙ go (n + 1);
      }

  filled : (said : List Setting) → AllFit command said → IsFull command said → Fills command place said
  filled said fits full =
      record {
        all = said;
        words = [];
        path = record { fits = fits; keeps = λ g h. h; leads = λ rest wanted go n. go n };
        full = full;
      }

  one_longer : (ts : Texts) (t : List ℕ) → length (ts ++ t ∷ []) ≡ length ts + 1
  one_longer [] t = omega arith
  one_longer (u ∷ ts) t = let later = one_longer ts t in omega (arith, later)

  -- with one name more, where one may come; `fills` fills what is then said
  fills_if : (k : ℕ) (said : List Setting) → AllFit command said → names_of command ≤ length (texts field.Named said) + suc k
      → ((more : List Setting) → AllFit command more → names_of command ≤ length (texts field.Named more) + k → Fills command place more)
      → (b : Bool) → nat_lt (length (texts field.Named said)) (names_of command) ≡ b → Fills command place said
  fills_if k said fits le fills false is = filled said fits (ltb-false (length (texts field.Named said)) (names_of command) is)
  fills_if k said fits le fills true is =
      let s = setting_for command field.Named in
      let can = may_say command said field.Named (sample command).takes_name (ltb-true (length (texts field.Named said)) (names_of command) is) refl in
      let first_one = name_leads said fits can in
      let longer : length (texts field.Named (said ++ s ∷ [])) ≡ length (texts field.Named said) + 1 =
      ap length (texts_at s said []) ∙ one_longer (texts field.Named said) s.text in
      let more = fills (said ++ s ∷ []) first_one.fits (omega (arith, le, longer)) in
      record {
        all = more.all;
        words = (codes "1" ∷ []) ++ more.words;
        path = both command place said (said ++ s ∷ []) more.all (codes "1" ∷ []) more.words first_one more.path;
        full = more.full;
      }

  -- by k words at most
  fills_by : (k : ℕ) (said : List Setting) → AllFit command said → names_of command ≤ length (texts field.Named said) + k
      → Fills command place said
  fills_by zero said fits le = filled said fits (omega (arith, le))
  fills_by (suc k) said fits le =
      fills_if k said fits le (λ more fit few. fills_by k more fit few) (nat_lt (length (texts field.Named said)) (names_of command)) refl

  fills : (said : List Setting) → AllFit command said → Fills command place said
  fills said fits = fills_by (names_of command) said fits (omega arith)

-- ---- a line that has what it needs makes a request

pub record Makes (command : Command) (said : List Setting) : Type 0 where
  pub request : Request
  pub is : request_of command said ≡ Some request

some_text : (o : Option (List ℕ)) → is_some o ≡ true → (t : List ℕ) × (o ≡ Some t)
some_text None h = absurd (differ (sym h))
some_text (Some t) h = (t, refl)

some_scenario : (o : Option Scenario) → is_some o ≡ true → (s : Scenario) × (o ≡ Some s)
some_scenario None h = absurd (differ (sym h))
some_scenario (Some s) h = (s, refl)

some_number : (o : Option ℕ) → is_some o ≡ true → (n : ℕ) × (o ≡ Some n)
some_number None h = absurd (differ (sym h))
some_number (Some n) h = (n, refl)

one_of : (P : List ℕ → Type 0) (ts : Texts) (t : List ℕ) → first ts ≡ Some t → OneOf P ts → P t
one_of P [] t e h = absurd (differ (sym (ap is_some e)))
one_of P (u ∷ []) t e h = subst P (ap (λ o. unwrap_or o u) e) h
one_of P (u ∷ v ∷ more) t e h = absurd h

run_makes : (said : List Setting) (dir tree name : List ℕ) (chosen : Scenario) → given field.Named said ≡ Some dir
    → given field.Tree said ≡ Some tree → given field.Scenario said ≡ Some name → scenario_named name ≡ Some chosen
    → request_of command.Run said ≡ run_from dir said (Some chosen) (Some tree)
run_makes said dir tree name chosen dirs trees names is =
    ap (request_by command.Run said) dirs
    ∙ ap (λ o. run_from dir said (option_and_then scenario_named o) (given field.Tree said)) names
    ∙ ap (λ s. run_from dir said s (given field.Tree said)) is
    ∙ ap (λ t. run_from dir said (Some chosen) t) trees

pair_makes : (said : List Setting) (dir other name : List ℕ) (chosen : Scenario) → given field.Named said ≡ Some dir
    → given field.With said ≡ Some other → given field.Scenario said ≡ Some name → pair_named name ≡ Some chosen
    → request_of command.Pair said ≡ pair_from dir said (Some chosen) (Some other)
pair_makes said dir other name chosen dirs others names is =
    ap (request_by command.Pair said) dirs
    ∙ ap (λ o. pair_from dir said (option_and_then pair_named o) (given field.With said)) names
    ∙ ap (λ s. pair_from dir said s (given field.With said)) is
    ∙ ap (λ o. pair_from dir said (Some chosen) o) others

some_given : (ts : Texts) → 1 ≤ length ts → is_some (first ts) ≡ true
some_given [] le = absurd (omega (arith, le))
some_given (t ∷ ts) le = refl

-- two texts
two_of : (P : List ℕ → Type 0) (ts : Texts) → FewOf 2 P ts → 2 ≤ length ts → (t : List ℕ) × (u : List ℕ) × (ts ≡ t ∷ u ∷ [])
two_of P [] few le = absurd (omega (arith, le))
two_of P (t ∷ []) few le = absurd (omega (arith, le))
two_of P (t ∷ u ∷ []) few le = (t, u, refl)
two_of P (t ∷ u ∷ v ∷ more) few le = absurd few.1.1

makes : (command : Command) (said : List Setting) → AllFit command said → IsFull command said
    → is_ready command said ≡ true → Makes command said
makes command.Check said fits full ready =
    let dir = some_text (given field.Named said) (some_given (texts field.Named said) full) in
    record { request = check_of dir.0 said; is = ap (request_by command.Check said) dir.1 }
makes command.Run said fits full ready =
    let parts = and_parts (is_given field.Scenario said) (is_given field.Tree said && true) ready in
    let dir = some_text (given field.Named said) (some_given (texts field.Named said) full) in
    let tree = some_text (given field.Tree said) (and_parts (is_given field.Tree said) true parts.1).0 in
    let name = some_text (given field.Scenario said) parts.0 in
    let suits = one_of (Suits command.Run field.Scenario) (texts field.Scenario said) name.0 name.1
    (fit_once command.Run said field.Scenario refl fits) in
    let chosen = some_scenario (scenario_named name.0) suits.1 in
    let made = run_makes said dir.0 tree.0 name.0 chosen.0 dir.1 tree.1 name.1 chosen.1 in
    record { request = _; is = made }
makes command.Translate said fits full ready =
    let file = some_text (given field.Named said) (some_given (texts field.Named said) full) in
    record { request = _; is = ap (request_by command.Translate said) file.1 }
makes command.Load said fits full ready =
    let name = some_text (given field.Named said) (some_given (texts field.Named said) full) in
    let suits = one_of (Suits command.Load field.Named) (texts field.Named said) name.0 name.1
    (fit_once command.Load said field.Named refl fits) in
    let number = some_number (number_in MOST_LOAD name.0) suits.1 in
    record { request = _; is = ap (request_by command.Load said) name.1 ∙ ap (load_by said) number.1 }
makes command.Predict said fits full ready =
    let files = two_of (Suits command.Predict field.Named) (texts field.Named said) (fits.few field.Named) full in
    record {
      request = Predict files.0 files.1;
      is = ap (request_by command.Predict said) (ap first files.2)
          ∙ ap (predict_by files.0) (ap (λ ts. first (behind ts)) files.2);
    }
makes command.Explain said fits full ready =
    let dir = some_text (given field.Named said) (some_given (texts field.Named said) full) in
    record { request = explain_of dir.0 said; is = ap (request_by command.Explain said) dir.1 }
makes command.Pair said fits full ready =
    let parts = and_parts (is_given field.With said) (is_given field.Scenario said && true) ready in
    let dir = some_text (given field.Named said) (some_given (texts field.Named said) full) in
    let other = some_text (given field.With said) parts.0 in
    let name = some_text (given field.Scenario said) (and_parts (is_given field.Scenario said) true parts.1).0 in
    let suits = one_of (Suits command.Pair field.Scenario) (texts field.Scenario said) name.0 name.1
    (fit_once command.Pair said field.Scenario refl fits) in
    let chosen = some_scenario (pair_named name.0) suits.1 in
    record { request = _; is = pair_makes said dir.0 other.0 name.0 chosen.0 dir.1 other.1 name.1 chosen.1 }
makes command.Twice said fits full ready =
    let dir = some_text (given field.Named said) (some_given (texts field.Named said) full) in
    record { request = twice_of dir.0 said; is = ap (request_by command.Twice said) dir.1 }

-- ---- each line that is begun can be completed

pub record Completes (command : Command) (begun : Begun) : Type 0 where
  pub rest : Texts
  pub final : Begun
  pub request : Request
  pub leads : (n : ℕ) → after command begun rest n ≡ Ok final
  pub makes_it : finished command final ≡ Some request

-- a line that has all, while options may come or behind `--`
completed : (command : Command) (said all : List Setting) (place : Place) (words : Texts) → Leads command place said all words
    → finished_at command all place ≡ request_of command all → IsFull command all → is_ready command all ≡ true
    → Completes command (record { said = said; place = place })
completed command said all place words path ends full ready =
    let made = makes command all path.fits full ready in
    let final : Begun = record { said = all; place = place } in
    record {
      rest = words ++ [];
      final = final;
      request = made.request;
      leads = path.leads [] (Ok final) (λ m. refl);
      makes_it = ends ∙ made.is;
    }

open_completes : (command : Command) (said : List Setting) → AllFit command said → Completes command (record { said = said; place = Options })
open_completes command said fits =
    let a = grows_all command (needs_of command) said fits (sample command).takes_needs in
    let g = fills command Options (open_names command) a.all a.path.fits in
    completed command said g.all Options (a.words ++ g.words) (both command Options said a.all g.all a.words g.words a.path g.path) refl
    g.full (all_given a.all g.all (needs_of command) g.path.keeps a.has)

place_completes : (command : Command) (said : List Setting) (place : Place) → AllFit command said → Stands command said place
    → Completes command (record { said = said; place = place })
place_completes command said Options fits stands = open_completes command said fits
place_completes command said (Value f) fits stands =
    let s = setting_for command f in
    let waiting : Begun = record { said = said; place = Value f } in
    let next : Begun = record { said = said ++ s ∷ []; place = Options } in
    let rest = open_completes command (said ++ s ∷ []) (fits_more command said s fits stands.0 (text_is_value command f)) in
    let goes : step command waiting (text_for command f) ≡ Some next =
    ap (λ b. if b then say command said s Options else None) (text_is_name command f stands.1)
    ∙ can_say command said s Options stands.0 (text_is_value command f) in
    record {
      rest = text_for command f ∷ rest.rest;
      final = rest.final;
      request = rest.request;
      leads = λ n. after_step command waiting next (text_for command f) rest.rest n goes ∙ rest.leads (n + 1);
      makes_it = rest.makes_it;
    }
place_completes command said Ended fits stands =
    let g = fills command Ended (ended_names_one command) said fits in
    completed command said g.all Ended g.words g.path refl g.full (all_given said g.all (needs_of command) g.path.keeps stands)

pub completes : (command : Command) (begun : Begun) → Sound command begun → Completes command begun
completes command begun sound = place_completes command begun.said begun.place sound.fits sound.stands
