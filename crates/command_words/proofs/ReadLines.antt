-- Words that reach a request are a line.
use Rattle.std.proofs.Common.{◌≡◌, ◌≢◌, ℕ, ◌+◌, Bool, true, false, List, [], ◌∷◌, ◌++◌, map, Option, Some, None, Result, Ok, Err, refl, sym, ap, subst, ◌∙◌, append_assoc, codes}
use Rattle.std.specs.Prelude.{if◌then◌else◌}
use Rattle.std.specs.Str.{bytes_eq}
use Rattle.std.proofs.lemmas.List.{append-nil}
use Rattle.std.proofs.lemmas.Slice.Eq.{bytes_eq-Decides}
use Rattle.command_words.specs.declared.field.Command.{Command}
use Rattle.command_words.specs.declared.field.Field.{Field}
use Rattle.command_words.specs.declared.setting.Setting.{Setting}
use Rattle.command_words.specs.declared.look.Look.{Look}
use Rattle.command_words.specs.declared.look.Look.TheVariants.{Says, Awaits, Ends, Unknown}
use Rattle.command_words.specs.declared.read.Begun.{Begun}
use Rattle.command_words.specs.declared.read.Place.{Place}
use Rattle.command_words.specs.declared.read.Place.TheVariants.{Options, Value, Ended}
use Rattle.command_words.specs.declared.request.Request.{Request}
use Rattle.command_words.specs.Fields.{needs_of, may, option_name}
use Rattle.command_words.specs.Values.{is_name, is_value}
use Rattle.command_words.specs.Looks.{look}
use Rattle.command_words.specs.Words.{is_ready, at, say, open_step, step_at, step, after, start, finished_at, finished}
use Rattle.command_words.specs.CommandLines.{Item, Texts, item_words, item_setting, items_words, IsItem, AreItems, HasValue, AreNames, Line}
use Rattle.command_words.specs.CommandLines.{ended_words, ended_names, line_words, line_settings, name_setting}
use Rattle.command_words.specs.CommandLines.Item.{apart}
use Rattle.command_words.proofs.Fitting.{AllFit, fits_more, none_fit, all_given, still_given}
use Rattle.command_words.proofs.Looking.{Looked, looked, IsItemOf}
use Rattle.command_words.proofs.Results.{differ, is_no, in_some, ok_value}

-- ---- one step

-- what a test lets through
if_some : {A : Type 0} (b : Bool) (o : Option A) (x : A) → (if b then o else None) ≡ Some x → (b ≡ true) × (o ≡ Some x)
if_some true o x e = (refl, e)
if_some false o x e = absurd (is_no e)

unless_some : {A : Type 0} (b : Bool) (o : Option A) (x : A) → (if b then None else o) ≡ Some x → (b ≡ false) × (o ≡ Some x)
unless_some true o x e = absurd (is_no e)
unless_some false o x e = (refl, e)

-- the line that says one thing more
pub record IsSaid (command : Command) (said : List Setting) (s : Setting) (place : Place) (next : Begun) : Type 0 where
  pub may_be : may command said s.field ≡ true
  pub is_a_value : is_value command s.field s.text ≡ true
  pub is : record { said = said ++ s ∷ []; place = place } ≡ next

pub is_said : (command : Command) (said : List Setting) (s : Setting) (place : Place) (next : Begun) → say command said s place ≡ Some next
    → IsSaid command said s place next
is_said command said s place next e =
    let first = if_some (may command said s.field) (if is_value command s.field s.text then at (said ++ s ∷ []) place else None) next e in
    let second = if_some (is_value command s.field s.text) (at (said ++ s ∷ []) place) next first.1 in
    record { may_be = first.0; is_a_value = second.0; is = in_some second.1 }

-- what the next word made of the line
abbrev pub Opened : Command → List Setting → List ℕ → Look → Begun → Type 0
Opened command said word (Says s) next = IsItemOf word s × IsSaid command said s Options next
Opened command said word (Awaits f) next =
    (word ≡ option_name f) × HasValue f × (may command said f ≡ true) × (record { said = said; place = Value f } ≡ next)
Opened command said word Ends next = (word ≡ codes "--") × (is_ready command said ≡ true) × (record { said = said; place = Ended } ≡ next)
Opened command said word Unknown next = ⊥

opened_by : (command : Command) (said : List Setting) (word : List ℕ) (l : Look) (next : Begun) → Looked word l
    → open_step command said l ≡ Some next → Opened command said word l next
opened_by command said word (Says s) next is e = (is, is_said command said s Options next e)
opened_by command said word (Awaits f) next is e =
    let can = if_some (may command said f) (at said (Value f)) next e in (is.0, is.1, can.0, in_some can.1)
opened_by command said word Ends next is e =
    let can = if_some (is_ready command said) (at said Ended) next e in (is, can.0, in_some can.1)
opened_by command said word Unknown next is e = absurd (is_no e)

abbrev pub Stepped : Command → List Setting → Place → List ℕ → Begun → Type 0
Stepped command said Options word next = (l : Look) × Opened command said word l next
Stepped command said (Value f) word next = (is_name word ≡ true) × IsSaid command said (record { field = f; text = word }) Options next
Stepped command said Ended word next = (word ≢ codes "--") × IsSaid command said (name_setting word) Ended next

pub stepped : (command : Command) (said : List Setting) (place : Place) (word : List ℕ) (next : Begun)
    → step_at command said place word ≡ Some next → Stepped command said place word next
stepped command said Options word next e = (look word, opened_by command said word (look word) next (looked word) e)
stepped command said (Value f) word next e =
    let name = if_some (is_name word) (say command said (record { field = f; text = word }) Options) next e in
    (name.0, is_said command said (record { field = f; text = word }) Options next name.1)
stepped command said Ended word next e =
    let other = unless_some (bytes_eq word (codes "--")) (say command said (name_setting word) Ended) next e in (
      λ same. differ (sym ((bytes_eq-Decides word (codes "--")).1 same) ∙ other.0),
      is_said command said (name_setting word) Ended next other.1,
    )

-- ---- the words that are left

-- the words behind a line that is begun, and what all say in the end
pub record ReadsLine (said : List Setting) (words : Texts) (all : List Setting) : Type 0 where
  pub line : Line
  pub is : words ≡ line_words line
  pub items : AreItems line.items
  pub names : AreNames (ended_names line.ended)
  pub says : all ≡ said ++ line_settings line

pub record ReadsValue (said : List Setting) (f : Field) (words : Texts) (all : List Setting) : Type 0 where
  pub text : List ℕ
  pub rest : Texts
  pub is : words ≡ text ∷ rest
  pub is_a_name : is_name text ≡ true
  pub reads : ReadsLine (said ++ record { field = f; text = text } ∷ []) rest all

abbrev pub Reads : Place → List Setting → Texts → List Setting → Type 0
Reads Options said words all = ReadsLine said words all
Reads (Value f) said words all = ReadsValue said f words all
Reads Ended said words all = AreNames words × (all ≡ said ++ map name_setting words)

no_more : (said : List Setting) → ReadsLine said [] said
no_more said =
    record { line = record { items = []; ended = None }; is = refl; items = tt; names = tt; says = sym (append-nil said) }

-- an item, and a line behind it
item_more : (said : List Setting) (front words : Texts) (all : List Setting) (s : Setting) (item : Item) → front ≡ item_words item
    → item_setting item ≡ s → IsItem item → ReadsLine (said ++ s ∷ []) words all → ReadsLine said (front ++ words) all
item_more said front words all s item spelled says is reads =
    let rest = reads.line in
    record {
      line = record { items = item ∷ rest.items; ended = rest.ended };
      is = ap (λ l. l ++ words) spelled ∙ ap (λ l. item_words item ++ l) reads.is
          ∙ sym (append_assoc (item_words item) (items_words rest.items) (ended_words rest.ended));
      items = (is, reads.items);
      names = reads.names;
      says = reads.says ∙ append_assoc said (s ∷ []) (line_settings rest)
          ∙ ap (λ t. said ++ t ∷ line_settings rest) (sym says);
    }

ends_more : (said : List Setting) (word : List ℕ) (words : Texts) (all : List Setting) → word ≡ codes "--" → AreNames words
    → all ≡ said ++ map name_setting words → ReadsLine said (word ∷ words) all
ends_more said word words all is names says =
    record {
      line = record { items = []; ended = Some words };
      is = ap (λ w. w ∷ words) is;
      items = tt;
      names = names;
      says = says;
    }

-- an option whose value comes next
value_more : (said : List Setting) (f : Field) (word : List ℕ) (words : Texts) (all : List Setting) → word ≡ option_name f → HasValue f
    → ReadsValue said f words all → ReadsLine said (word ∷ words) all
value_more said f word words all is has reads =
    subst (λ ws. ReadsLine said (word ∷ ws) all) (sym reads.is)
    (item_more said (word ∷ reads.text ∷ []) reads.rest all (record { field = f; text = reads.text }) (apart f reads.text)
    (ap (λ w. w ∷ reads.text ∷ []) is) refl (has, reads.is_a_name) reads.reads)

-- one word before the words that are left
begun_reads : (next : Begun) (words : Texts) (all said : List Setting) (place : Place) → record { said = said; place = place } ≡ next
    → Reads next.place next.said words all → Reads place said words all
begun_reads next words all said place e reads = subst (λ b. Reads b.place b.said words all) (sym e) reads

opened_reads : (command : Command) (said : List Setting) (word : List ℕ) (words : Texts) (all : List Setting) (next : Begun) (l : Look)
    → Opened command said word l next → Reads next.place next.said words all → ReadsLine said (word ∷ words) all
opened_reads command said word words all next (Says s) opened reads =
    item_more said (word ∷ []) words all s opened.0.item opened.0.words opened.0.setting opened.0.is
    (begun_reads next words all (said ++ s ∷ []) Options opened.1.is reads)
opened_reads command said word words all next (Awaits f) opened reads =
    value_more said f word words all opened.0 opened.1 (begun_reads next words all said (Value f) opened.3 reads)
opened_reads command said word words all next Ends opened reads =
    let rest = begun_reads next words all said Ended opened.2 reads in
    ends_more said word words all opened.0 rest.0 rest.1
opened_reads command said word words all next Unknown opened reads = absurd opened

stepped_reads : (command : Command) (said : List Setting) (place : Place) (word : List ℕ) (words : Texts) (all : List Setting) (next : Begun)
    → Stepped command said place word next → Reads next.place next.said words all → Reads place said (word ∷ words) all
stepped_reads command said Options word words all next s reads =
    opened_reads command said word words all next s.0 s.1 reads
stepped_reads command said (Value f) word words all next s reads =
    record {
      text = word;
      rest = words;
      is = refl;
      is_a_name = s.0;
      reads = begun_reads next words all (said ++ record { field = f; text = word } ∷ []) Options s.1.is reads;
    }
stepped_reads command said Ended word words all next s reads =
    let rest = begun_reads next words all (said ++ name_setting word ∷ []) Ended s.1.is reads in
    ((s.0, rest.0), rest.1 ∙ append_assoc said (name_setting word ∷ []) (map name_setting words))

-- ---- all words

-- one word, and the words behind it
pub record GoesOn (command : Command) (begun : Begun) (word : List ℕ) (words : Texts) (n : ℕ) (wanted : Result Begun ℕ) : Type 0 where
  pub next : Begun
  pub is : step command begun word ≡ Some next
  pub after_it : after command next words (n + 1) ≡ wanted

pub goes_on_by : (command : Command) (begun : Begun) (word : List ℕ) (words : Texts) (n : ℕ) (final : Begun) (o : Option Begun)
    → step command begun word ≡ o
    → ◌≡◌ {A = Result Begun ℕ} (elim o as (λ _. Result Begun ℕ) [ None ↦ Err n | Some next ↦ after command next words (n + 1) ]) (Ok final)
    → GoesOn command begun word words n (Ok final)
goes_on_by command begun word words n final None e h = absurd (cc)
goes_on_by command begun word words n final (Some next) e h = record { next = next; is = e; after_it = h }

pub goes_on : (command : Command) (begun : Begun) (word : List ℕ) (words : Texts) (n : ℕ) (final : Begun)
    → after command begun (word ∷ words) n ≡ Ok final → GoesOn command begun word words n (Ok final)
goes_on command begun word words n final h = goes_on_by command begun word words n final (step command begun word) refl h

-- a line that makes a request is at no value
ends_reads : (command : Command) (said : List Setting) (place : Place) (request : Request) → finished_at command said place ≡ Some request
    → Reads place said [] said
ends_reads command said Options request e = no_more said
ends_reads command said (Value f) request e = absurd (is_no e)
ends_reads command said Ended request e = (tt, sym (append-nil said))

pub reads : (command : Command) (said : List Setting) (place : Place) (words : Texts) (n : ℕ) (final : Begun) (request : Request)
    → after command (record { said = said; place = place }) words n ≡ Ok final → finished command final ≡ Some request
    → Reads place said words final.said
reads command said place [] n final request e done =
    let same : record { said = said; place = place } ≡ final = ap (ok_value final) e in
    subst (λ b. Reads place said [] b.said) same
    (ends_reads command said place request (ap (finished command) same ∙ done))
reads command said place (word ∷ words) n final request e done =
    let s = goes_on command (record { said = said; place = place }) word words n final e in
    stepped_reads command said place word words final.said s.next (stepped command said place word s.next s.is)
    (reads command s.next.said s.next.place words (n + 1) final request s.after_it done)

-- ---- what is kept while words come

-- what the line says fits its command, and so does the place where it stands
abbrev pub Stands : Command → List Setting → Place → Type 0
Stands command said Options = Unit {0}
Stands command said (Value f) = (may command said f ≡ true) × HasValue f
Stands command said Ended = is_ready command said ≡ true

pub record Sound (command : Command) (begun : Begun) : Type 0 where
  pub fits : AllFit command begun.said
  pub stands : Stands command begun.said begun.place

said_sound : (command : Command) (said : List Setting) (s : Setting) (place : Place) (next : Begun) → AllFit command said
    → IsSaid command said s place next → Stands command (said ++ s ∷ []) place → Sound command next
said_sound command said s place next fits is stands =
    subst (Sound command) is.is
    (record { fits = fits_more command said s fits is.may_be is.is_a_value; stands = stands })

-- a command that has what it needs still has it when more is said
still_ready : (command : Command) (said more : List Setting) → is_ready command said ≡ true → is_ready command (said ++ more) ≡ true
still_ready command said more h = all_given said (said ++ more) (needs_of command) (λ f h. still_given f said more h) h

opened_sound : (command : Command) (said : List Setting) (word : List ℕ) (next : Begun) (l : Look) → AllFit command said
    → Opened command said word l next → Sound command next
opened_sound command said word next (Says s) fits opened = said_sound command said s Options next fits opened.1 tt
opened_sound command said word next (Awaits f) fits opened =
    subst (Sound command) opened.3 (record { fits = fits; stands = (opened.2, opened.1) })
opened_sound command said word next Ends fits opened =
    subst (Sound command) opened.2 (record { fits = fits; stands = opened.1 })
opened_sound command said word next Unknown fits opened = absurd opened

stepped_sound : (command : Command) (said : List Setting) (place : Place) (word : List ℕ) (next : Begun) → AllFit command said
    → Stands command said place → Stepped command said place word next → Sound command next
stepped_sound command said Options word next fits stands s = opened_sound command said word next s.0 fits s.1
stepped_sound command said (Value f) word next fits stands s =
    said_sound command said (record { field = f; text = word }) Options next fits s.1 tt
stepped_sound command said Ended word next fits stands s =
    said_sound command said (name_setting word) Ended next fits s.1 (still_ready command said (name_setting word ∷ []) stands)

pub sound_step : (command : Command) (begun next : Begun) (word : List ℕ) → Sound command begun → step command begun word ≡ Some next
    → Sound command next
sound_step command begun next word sound e =
    stepped_sound command begun.said begun.place word next sound.fits sound.stands
    (stepped command begun.said begun.place word next e)

pub sound_start : (command : Command) → Sound command start
sound_start command = record { fits = none_fit command; stands = tt }

pub sound_after : (command : Command) (begun : Begun) (words : Texts) (n : ℕ) (final : Begun) → Sound command begun
    → after command begun words n ≡ Ok final → Sound command final
sound_after command begun [] n final sound e =
    subst (Sound command) (ap (ok_value final) e) sound
sound_after command begun (word ∷ words) n final sound e =
    let s = goes_on command begun word words n final e in
    sound_after command s.next words (n + 1) final (sound_step command begun s.next word sound s.is) s.after_it
