-- A line spells its request.
use Rattle.std.proofs.Common.{◌≡◌, ◌≢◌, ℕ, ◌+◌, Bool, true, false, List, [], ◌∷◌, ◌++◌, map, length, Option, Some, None, Result, Ok, Err, refl, sym, ap, subst, ◌∙◌, append_assoc, codes}
use Rattle.std.specs.Prelude.{IfSome, ◌&&◌, if◌then◌else◌}
use Rattle.std.specs.List.{list_all}
use Rattle.std.specs.Option.{is_some, ok_or}
use Rattle.std.specs.Str.{bytes_eq}
use Rattle.std.proofs.lemmas.Bool.{and_from}
use Rattle.std.proofs.lemmas.List.{append-nil}
use Rattle.std.proofs.lemmas.Slice.Eq.{bytes_eq-Decides}
use Rattle.command_words.specs.declared.field.Command.{Command}
use Rattle.command_words.specs.declared.field.Field.{Field}
use Rattle.command_words.specs.declared.field.Field.TheVariants as field
use Rattle.command_words.specs.declared.setting.Setting.{Setting}
use Rattle.command_words.specs.declared.look.Look.TheVariants.{Says}
use Rattle.command_words.specs.declared.read.Begun.{Begun}
use Rattle.command_words.specs.declared.read.Place.{Place}
use Rattle.command_words.specs.declared.read.Place.TheVariants.{Options, Value, Ended}
use Rattle.command_words.specs.declared.request.Request.{Request}
use Rattle.command_words.specs.declared.request.Request.TheVariants.{Check, Run, Translate, Load, Predict, Explain, Pair, Twice}
use Rattle.command_words.specs.Fields.{is_field, may, is_given, option_name, texts, first, command_name, command_named}
use Rattle.dpkg_scenarios.specs.Names.{scenario_named, pair_named}
use Rattle.command_words.specs.Values.{is_value}
use Rattle.command_words.specs.Looks.{look}
use Rattle.command_words.specs.Requests.{request_of}
use Rattle.command_words.specs.Words.{is_ready, at, say, open_step, step, after, start, finished_at, finished, ended_form, line_form, command_form, form}
use Rattle.command_words.specs.CommandLines.{Item, Texts, item_words, item_setting, items_words, IsItem, AreItems, AreNames, Line, IsLine, Asks}
use Rattle.command_words.specs.CommandLines.{ended_words, ended_names, line_words, line_settings, name_setting, command_of}
use Rattle.command_words.specs.CommandLines.Item.{apart, joined, json, brief, places, html, name}
use Rattle.command_words.specs.Laws.{FormIsLine}
use Rattle.command_words.proofs.Fitting.{AllFit, fits_there, texts-append}
use Rattle.command_words.proofs.Looking.{option_looked, joined_looked, json_looked, brief_looked, places_looked, html_looked, name_looked, names_command}
use Rattle.command_words.proofs.Asking.{command_at, commands, made, asked, asked_fits, chosen_text}
use Rattle.command_words.proofs.Advance.{after_step}
use Rattle.command_words.proofs.ReadLines.{reads, sound_after, sound_start}
use Rattle.command_words.proofs.Results.{differ, no_fault, ok_value}

-- ---- one item

pub can_say : (command : Command) (said : List Setting) (s : Setting) (place : Place) → may command said s.field ≡ true
    → is_value command s.field s.text ≡ true → say command said s place ≡ at (said ++ s ∷ []) place
can_say command said s place can value =
    ap (λ b. if b then (if is_value command s.field s.text then at (said ++ s ∷ []) place else None) else None) can
    ∙ ap (λ b. if b then at (said ++ s ∷ []) place else None) value

module _ (command : Command) (said : List Setting) where
  abbrev open_line : List Setting → Begun
  open_line all = record { said = all; place = Options }

  -- a word that says something by itself
  alone : (word : List ℕ) (s : Setting) → look word ≡ Says s → may command said s.field ≡ true → is_value command s.field s.text ≡ true
      → step command (open_line said) word ≡ Some (open_line (said ++ s ∷ []))
  alone word s looks can value = ap (open_step command said) looks ∙ can_say command said s Options can value

  pub alone_after : (word : List ℕ) (s : Setting) (words : Texts) (n : ℕ) (wanted : Result Begun ℕ) → look word ≡ Says s
      → may command said s.field ≡ true → is_value command s.field s.text ≡ true
      → ((m : ℕ) → after command (open_line (said ++ s ∷ [])) words m ≡ wanted)
      → after command (open_line said) (word ∷ words) n ≡ wanted
  alone_after word s words n wanted looks can value rest =
      after_step command (open_line said) (open_line (said ++ s ∷ [])) word words n (alone word s looks can value) ∙ rest (n + 1)

  item_after : (item : Item) (words : Texts) (n : ℕ) (wanted : Result Begun ℕ) → IsItem item
      → may command said (item_setting item).field ≡ true → is_value command (item_setting item).field (item_setting item).text ≡ true
      → ((m : ℕ) → after command (open_line (said ++ item_setting item ∷ [])) words m ≡ wanted)
      → after command (open_line said) (item_words item ++ words) n ≡ wanted
  item_after (apart f text) words n wanted is can value rest =
      let s : Setting = record { field = f; text = text } in
      let waiting : Begun = record { said = said; place = Value f } in
      let first : step command (open_line said) (option_name f) ≡ Some waiting =
      ap (open_step command said) (option_looked f is.0) ∙ ap (λ b. if b then at said (Value f) else None) can in
      let second : step command waiting text ≡ Some (open_line (said ++ s ∷ [])) =
      ap (λ b. if b then say command said s Options else None) is.1 ∙ can_say command said s Options can value in
      after_step command (open_line said) waiting (option_name f) (text ∷ words) n first
      ∙ after_step command waiting (open_line (said ++ s ∷ [])) text words (n + 1) second ∙ rest (n + 1 + 1)
  item_after (joined f text) words n wanted is can value rest =
      alone_after (option_name f ++ (codes "=" ++ text)) (record { field = f; text = text }) words n wanted (joined_looked f text is) can value rest
  item_after json words n wanted is can value rest =
      alone_after (codes "--json") (item_setting json) words n wanted json_looked can value rest
  item_after brief words n wanted is can value rest =
      alone_after (codes "--brief") (item_setting brief) words n wanted brief_looked can value rest
  item_after places words n wanted is can value rest =
      alone_after (codes "--places") (item_setting places) words n wanted places_looked can value rest
  item_after html words n wanted is can value rest =
      alone_after (codes "--html") (item_setting html) words n wanted html_looked can value rest
  item_after (name word) words n wanted is can value rest =
      alone_after word (name_setting word) words n wanted (name_looked word is) can value rest

-- ---- all items

items_after : (command : Command) (said : List Setting) (items : List Item) (others : List Setting) (words : Texts) (n : ℕ)
    (wanted : Result Begun ℕ) → AreItems items → AllFit command (said ++ (map item_setting items ++ others))
    → ((m : ℕ) → after command (record { said = said ++ map item_setting items; place = Options }) words m ≡ wanted)
    → after command (record { said = said; place = Options }) (items_words items ++ words) n ≡ wanted
items_after command said [] others words n wanted are fit rest =
    subst (λ l. after command (record { said = l; place = Options }) words n ≡ wanted) (append-nil said) (rest n)
items_after command said (item ∷ items) others words n wanted are fit rest =
    let s = item_setting item in
    let later = map item_setting items in
    let can = fits_there command said s (later ++ others) fit in
    let fit_later : AllFit command ((said ++ s ∷ []) ++ (later ++ others)) =
    subst (AllFit command) (sym (append_assoc said (s ∷ []) (later ++ others))) fit in
    let rest_later : (m : ℕ) → after command (record { said = (said ++ s ∷ []) ++ later; place = Options }) words m ≡ wanted =
    λ m. subst (λ l. after command (record { said = l; place = Options }) words m ≡ wanted) (sym (append_assoc said (s ∷ []) later)) (rest m) in
    ap (λ ws. after command (record { said = said; place = Options }) ws n) (append_assoc (item_words item) (items_words items) words)
    ∙ item_after command said item (items_words items ++ words) n wanted are.0 can.0 can.1
    (λ m. items_after command (said ++ s ∷ []) items others words m wanted are.1 fit_later rest_later)

-- ---- the words behind `--`

unequal : (word : List ℕ) → word ≢ codes "--" → (b : Bool) → bytes_eq word (codes "--") ≡ b → b ≡ false
unequal word other true e = absurd (other ((bytes_eq-Decides word (codes "--")).0 e))
unequal word other false e = refl

names_after : (command : Command) (said : List Setting) (names : Texts) (n : ℕ) → AreNames names
    → AllFit command (said ++ map name_setting names)
    → after command (record { said = said; place = Ended }) names n ≡ Ok (record { said = said ++ map name_setting names; place = Ended })
names_after command said [] n are fit =
    let f : List Setting → Result Begun ℕ = λ l. Ok (record { said = l; place = Ended }) in ap f (sym (append-nil said))
names_after command said (word ∷ names) n are fit =
    let s = name_setting word in
    let later = map name_setting names in
    let can = fits_there command said s later fit in
    let begun : Begun = record { said = said; place = Ended } in
    let next : Begun = record { said = said ++ s ∷ []; place = Ended } in
    let goes : step command begun word ≡ Some next =
    ap (λ b. if b then None else say command said s Ended) (unequal word are.0 (bytes_eq word (codes "--")) refl)
    ∙ can_say command said s Ended can.0 can.1 in
    let fit_later : AllFit command ((said ++ s ∷ []) ++ later) = subst (AllFit command) (sym (append_assoc said (s ∷ []) later)) fit in
    let f : List Setting → Result Begun ℕ = λ l. Ok (record { said = l; place = Ended }) in
    after_step command begun next word names n goes
    ∙ names_after command (said ++ s ∷ []) names (n + 1) are.1 fit_later
    ∙ ap f (append_assoc said (s ∷ []) later)

-- ---- a whole line

-- a text for another field than the names stands before `--`
no_names : (f : Field) (names : Texts) → is_field f field.Named ≡ false → texts f (map name_setting names) ≡ []
no_names f [] other = refl
no_names f (word ∷ names) other =
    let later = texts f (map name_setting names) in ap (λ b. if b then word ∷ later else later) other ∙ no_names f names other

given_before : (f : Field) (said : List Setting) (names : Texts) (text : List ℕ) → is_field f field.Named ≡ false
    → texts f (said ++ map name_setting names) ≡ text ∷ [] → is_given f said ≡ true
given_before f said names text other e =
    let before : texts f said ≡ text ∷ [] =
    sym (append-nil (texts f said)) ∙ ap (λ l. texts f said ++ l) (sym (no_names f names other))
    ∙ sym (texts-append f said (map name_setting names)) ∙ e in
    ap (λ l. is_some (first l)) before

-- two options that a command needs
both_given : (f g : Field) (said : List Setting) → is_given f said ≡ true → is_given g said ≡ true
    → list_all (λ h. is_given h said) (f ∷ g ∷ []) ≡ true
both_given f g said one other =
    and_from (is_given f said) (is_given g said && true) one (and_from (is_given g said) true other refl)

-- the command has what it needs before `--`
ready_before : (request : Request) (said : List Setting) (names : Texts)
    → Asks (λ f. texts f (said ++ map name_setting names)) request → is_ready (command_at request) said ≡ true
ready_before (Check folders chosen turns limit layout) said names asks = refl
ready_before (Run folders tree chosen turns) said names asks =
    both_given field.Scenario field.Tree said
    (let t = chosen_text scenario_named _ chosen asks.of_scenario in given_before field.Scenario said names t.0 refl t.1)
    (given_before field.Tree said names tree refl asks.of_tree)
ready_before (Translate file) said names asks = refl
ready_before (Load number limit) said names asks = refl
ready_before (Predict report trees) said names asks = refl
ready_before (Explain folders chosen turns limit view) said names asks = refl
ready_before (Pair dir other base chosen turns limit) said names asks =
    both_given field.With field.Scenario said (given_before field.With said names other refl asks.of_other)
    (let t = chosen_text pair_named _ chosen asks.of_scenario in given_before field.Scenario said names t.0 refl t.1)
ready_before (Twice dir base turns limit) said names asks = refl

abbrev ended_place : Option Texts → Place
ended_place None = Options
ended_place (Some names) = Ended

abbrev whole : List Setting → Option Texts → Begun
whole said ended = record { said = said ++ map name_setting (ended_names ended); place = ended_place ended }

ended_after : (request : Request) (said : List Setting) (ended : Option Texts) (n : ℕ) → AreNames (ended_names ended)
    → Asks (λ f. texts f (said ++ map name_setting (ended_names ended))) request
    → after (command_at request) (record { said = said; place = Options }) (ended_words ended) n ≡ Ok (whole said ended)
ended_after request said None n are asks =
    let f : List Setting → Result Begun ℕ = λ l. Ok (record { said = l; place = Options }) in ap f (sym (append-nil said))
ended_after request said (Some names) n are asks =
    let command = command_at request in
    let begun : Begun = record { said = said; place = Options } in
    let next : Begun = record { said = said; place = Ended } in
    let goes : step command begun (codes "--") ≡ Some next =
    ap (λ b. if b then at said Ended else None) (ready_before request said names asks) in
    after_step command begun next (codes "--") names n goes
    ∙ names_after command said names (n + 1) are (asked_fits (said ++ map name_setting names) request asks)

line_after : (request : Request) (line : Line) (n : ℕ) → AreItems line.items → AreNames (ended_names line.ended)
    → Asks (λ f. texts f (line_settings line)) request
    → after (command_at request) start (line_words line) n ≡ Ok (whole (map item_setting line.items) line.ended)
line_after request line n items names asks =
    items_after (command_at request) [] line.items (map name_setting (ended_names line.ended)) (ended_words line.ended) n
    (Ok (whole (map item_setting line.items) line.ended)) items (asked_fits (line_settings line) request asks)
    (λ m. ended_after request (map item_setting line.items) line.ended m names asks)

ended_finished : (command : Command) (said : List Setting) (ended : Option Texts) → finished command (record { said = said; place = ended_place ended }) ≡ request_of command said
ended_finished command said None = refl
ended_finished command said (Some names) = refl

line_makes : (request : Request) (line : Line) → AreItems line.items → AreNames (ended_names line.ended)
    → Asks (λ f. texts f (line_settings line)) request → line_form (command_at request) (line_words line) ≡ Ok request
line_makes request line items names asks =
    let n = length (line_words line) + 2 in
    ap (ended_form (command_at request) n) (line_after request line 2 items names asks)
    ∙ ap (λ o. ok_or o n) (ended_finished (command_at request) (line_settings line) line.ended)
    ∙ ap (λ o. ok_or o n) (made (line_settings line) request asks)

named_command : (request : Request) → command_named (command_of request) ≡ Some (command_at request)
named_command (Check folders chosen turns limit layout) = refl
named_command (Run folders tree chosen turns) = refl
named_command (Translate file) = refl
named_command (Load number limit) = refl
named_command (Predict report trees) = refl
named_command (Explain folders chosen turns limit view) = refl
named_command (Pair dir other base chosen turns limit) = refl
named_command (Twice dir base turns limit) = refl

pub line_spells : (words : Texts) (request : Request) → IsLine words request → form words ≡ Ok request
line_spells words request is =
    ap form is.is ∙ ap (λ c. command_form c (line_words is.line)) (named_command request)
    ∙ line_makes request is.line is.items is.names is.asks

-- ---- and what spells a request is a line

some_of : {A : Type 0} (o : Option A) (n : ℕ) (x : A) → ok_or o n ≡ Ok x → o ≡ Some x
some_of None n x e = absurd (no_fault e)
some_of (Some y) n x e = ap Some (ap (ok_value y) e)

begun_request : (command : Command) (said : List Setting) (place : Place) (request : Request)
    → finished_at command said place ≡ Some request → request_of command said ≡ Some request
begun_request command said Options request e = e
begun_request command said (Value f) request e = absurd (differ (sym (ap is_some e)))
begun_request command said Ended request e = e

line_of : (command : Command) (words : Texts) (request : Request) (r : Result Begun ℕ) → after command start words 2 ≡ r
    → ended_form command (length words + 2) r ≡ Ok request → IsLine (command_name command ∷ words) request
line_of command words request (Err n) run e = absurd (no_fault e)
line_of command words request (Ok final) run e =
    let done = some_of (finished command final) (length words + 2) request e in
    let read = reads command [] Options words 2 final request run done in
    let sound = sound_after command start words 2 final (sound_start command) run in
    let is = asked command final.said request sound.fits (begun_request command final.said final.place request done) in
    record {
      line = read.line;
      is = ap (λ l. l ∷ words) (sym (commands request ∙ ap command_name is.is)) ∙ ap (λ l. command_of request ∷ l) read.is;
      items = read.items;
      names = read.names;
      asks = subst (λ l. Asks (λ f. texts f l) request) read.says is.asks;
    }

line_by_command : (called : List ℕ) (words : Texts) (request : Request) (c : Option Command) → IfSome c (λ command. called ≡ command_name command)
    → command_form c words ≡ Ok request → IsLine (called ∷ words) request
line_by_command called words request None names e = absurd (no_fault e)
line_by_command called words request (Some command) names e =
    subst (λ w. IsLine (w ∷ words) request) (sym names) (line_of command words request (after command start words 2) refl e)

pub spells_line : (words : Texts) (request : Request) → form words ≡ Ok request → IsLine words request
spells_line [] request e = absurd (no_fault e)
spells_line (called ∷ words) request e = line_by_command called words request (command_named called) (names_command called) e

pub form_is_line : FormIsLine
form_is_line words request = (spells_line words request, line_spells words request)
