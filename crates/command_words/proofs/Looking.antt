-- What a word is that looks like an option, a flag or a name.
use Rattle.std.proofs.Common.{◌≡◌, ℕ, Bool, true, false, List, [], ◌∷◌, ◌++◌, Option, Some, None, refl, sym, ap, ◌∙◌, ⊎_elim, codes}
use Rattle.std.specs.Prelude.{IfSome, ◌==◌, if◌then◌else◌}
use Rattle.std.specs.Str.{bytes_eq}
use Rattle.std.proofs.lemmas.Bool.{eqb-true, or_cases}
use Rattle.std.proofs.lemmas.Slice.Eq.{bytes_eq-Decides}
use Rattle.command_words.specs.declared.field.Command.{Command}
use Rattle.command_words.specs.declared.field.Command.TheVariants as command
use Rattle.command_words.specs.declared.field.Field.{Field}
use Rattle.command_words.specs.declared.field.Field.TheVariants as field
use Rattle.command_words.specs.declared.setting.Setting.{Setting}
use Rattle.command_words.specs.declared.look.Look.{Look}
use Rattle.command_words.specs.declared.look.Look.TheVariants.{Says, Awaits, Ends, Unknown}
use Rattle.command_words.specs.Fields.{option_name, option_named, command_name, command_named}
use Rattle.command_words.specs.Values.{is_name, is_report_flag, is_view_flag, is_flag}
use Rattle.command_words.specs.Looks.{cut, put_before, awaits, says, parted, option_look, look}
use Rattle.command_words.specs.CommandLines.{Item, item_words, item_setting, IsItem, HasValue}
use Rattle.command_words.specs.CommandLines.Item.{joined, json, brief, places, html, name}
use Rattle.command_words.proofs.Results.{differ}

same_bytes : (one other : List ℕ) → bytes_eq one other ≡ true → one ≡ other
same_bytes one other = (bytes_eq-Decides one other).0

-- ---- tables of names

-- the first line of a table, and the others
module _ {F : Type 0} (P : F → Type 0) (word wanted : List ℕ) (found : F) (others : Option F) where
  pick_by : (b : Bool) → bytes_eq word wanted ≡ b → (word ≡ wanted → P found) → IfSome others P
      → IfSome (if b then Some found else others) P
  pick_by true e here later = here (same_bytes word wanted e)
  pick_by false e here later = later

  pick : (word ≡ wanted → P found) → IfSome others P → IfSome (if bytes_eq word wanted then Some found else others) P
  pick here later = pick_by (bytes_eq word wanted) refl here later

abbrev is_some_word : List ℕ → Bool
is_some_word [] = false
is_some_word (b ∷ bytes) = true

has_value : (f : Field) → is_some_word (option_name f) ≡ true → HasValue f
has_value f h e = differ (sym h ∙ ap is_some_word e)

-- a word is this option
abbrev pub IsOption : List ℕ → Field → Type 0
IsOption word f = (word ≡ option_name f) × HasValue f

names_option : (word : List ℕ) → IfSome (option_named word) (IsOption word)
names_option word =
    let P = IsOption word in
    pick P word (codes "--old") field.Old _ (λ e. (e, has_value field.Old refl))
    (pick P word (codes "--base") field.Base _ (λ e. (e, has_value field.Base refl))
    (pick P word (codes "--scenario") field.Scenario _ (λ e. (e, has_value field.Scenario refl))
    (pick P word (codes "--tree") field.Tree _ (λ e. (e, has_value field.Tree refl))
    (pick P word (codes "--turns") field.Turns _ (λ e. (e, has_value field.Turns refl))
    (pick P word (codes "--limit") field.Limit _ (λ e. (e, has_value field.Limit refl))
    (pick P word (codes "--with") field.With _ (λ e. (e, has_value field.With refl))
    (pick P word (codes "--outcome") field.Outcome None (λ e. (e, has_value field.Outcome refl)) tt)))))))

pub names_command : (word : List ℕ) → IfSome (command_named word) (λ c. word ≡ command_name c)
names_command word =
    let P : Command → Type 0 = λ c. word ≡ command_name c in
    pick P word (codes "check") command.Check _ (λ e. e)
    (pick P word (codes "run") command.Run _ (λ e. e)
    (pick P word (codes "translate") command.Translate _ (λ e. e)
    (pick P word (codes "load") command.Load _ (λ e. e)
    (pick P word (codes "predict") command.Predict _ (λ e. e)
    (pick P word (codes "explain") command.Explain _ (λ e. e)
    (pick P word (codes "pair") command.Pair _ (λ e. e)
    (pick P word (codes "twice") command.Twice None (λ e. e) tt)))))))

-- ---- a word with an equals sign

abbrev Whole : List ℕ → Option (List ℕ × List ℕ) → Type 0
Whole word o = IfSome o (λ parts. word ≡ parts.0 ++ 61 ∷ parts.1)

put_whole : (b : ℕ) (bytes : List ℕ) (o : Option (List ℕ × List ℕ)) → Whole bytes o → Whole (b ∷ bytes) (put_before b o)
put_whole b bytes None h = tt
put_whole b bytes (Some parts) h = ap (λ l. b ∷ l) h

whole_by : (b : ℕ) (bytes : List ℕ) (t : Bool) → (b == 61) ≡ t → Whole bytes (cut bytes)
    → Whole (b ∷ bytes) (if t then Some ([], bytes) else put_before b (cut bytes))
whole_by b bytes true e h = ap (λ x. x ∷ bytes) (eqb-true b 61 e)
whole_by b bytes false e h = put_whole b bytes (cut bytes) h

whole : (word : List ℕ) → Whole word (cut word)
whole [] = tt
whole (b ∷ bytes) = whole_by b bytes (b == 61) refl (whole bytes)

-- ---- a word

-- the word is this item, which says this
pub record IsItemOf (word : List ℕ) (s : Setting) : Type 0 where
  pub item : Item
  pub words : word ∷ [] ≡ item_words item
  pub setting : item_setting item ≡ s
  pub is : IsItem item

abbrev pub Looked : List ℕ → Look → Type 0
Looked word (Says s) = IsItemOf word s
Looked word (Awaits f) = IsOption word f
Looked word Ends = word ≡ codes "--"
Looked word Unknown = Unit {0}

looked_awaits : (word : List ℕ) (o : Option Field) → IfSome o (IsOption word) → Looked word (awaits o)
looked_awaits word None h = tt
looked_awaits word (Some f) h = h

looked_says : (word front text : List ℕ) (o : Option Field) → word ≡ front ++ 61 ∷ text → IfSome o (IsOption front)
    → Looked word (says o text)
looked_says word front text None e h = tt
looked_says word front text (Some f) e h =
    record {
      item = joined f text;
      words = ap (λ w. w ∷ []) (e ∙ ap (λ w. w ++ 61 ∷ text) h.0);
      setting = refl;
      is = h.1;
    }

looked_parted : (word : List ℕ) (o : Option (List ℕ × List ℕ)) → Whole word o → Looked word (parted word o)
looked_parted word None h = looked_awaits word (option_named word) (names_option word)
looked_parted word (Some parts) h = looked_says word parts.0 parts.1 (option_named parts.0) h (names_option parts.0)

a_report_flag : (word : List ℕ) → is_report_flag word ≡ true → IsItemOf word (record { field = field.Layout; text = word })
a_report_flag word e =
    ⊎_elim
    (λ h. let same = same_bytes word (codes "--json") h in
    record {
      item = json;
      words = ap (λ w. w ∷ []) same;
      setting = let f : List ℕ → Setting = λ w. record { field = field.Layout; text = w } in ap f (sym same);
      is = tt;
    })
    (λ h. let same = same_bytes word (codes "--brief") h in
    record {
      item = brief;
      words = ap (λ w. w ∷ []) same;
      setting = let f : List ℕ → Setting = λ w. record { field = field.Layout; text = w } in ap f (sym same);
      is = tt;
    })
    (or_cases (bytes_eq word (codes "--json")) (bytes_eq word (codes "--brief")) e)

a_view_flag : (word : List ℕ) → is_view_flag word ≡ true → IsItemOf word (record { field = field.Layout; text = word })
a_view_flag word e =
    ⊎_elim
    (λ h. let same = same_bytes word (codes "--places") h in
    record {
      item = places;
      words = ap (λ w. w ∷ []) same;
      setting = let f : List ℕ → Setting = λ w. record { field = field.Layout; text = w } in ap f (sym same);
      is = tt;
    })
    (λ h. let same = same_bytes word (codes "--html") h in
    record {
      item = html;
      words = ap (λ w. w ∷ []) same;
      setting = let f : List ℕ → Setting = λ w. record { field = field.Layout; text = w } in ap f (sym same);
      is = tt;
    })
    (or_cases (bytes_eq word (codes "--places")) (bytes_eq word (codes "--html")) e)

a_flag : (word : List ℕ) → is_flag word ≡ true → IsItemOf word (record { field = field.Layout; text = word })
a_flag word e =
    ⊎_elim
    (λ h. a_report_flag word h)
    (λ h. a_view_flag word h)
    (or_cases (is_report_flag word) (is_view_flag word) e)

a_name : (word : List ℕ) → is_name word ≡ true → IsItemOf word (record { field = field.Named; text = word })
a_name word e = record { item = name word; words = refl; setting = refl; is = e }

looked_by : (word : List ℕ) (b c d : Bool) → is_name word ≡ b → bytes_eq word (codes "--") ≡ c → is_flag word ≡ d
    → Looked word (if b then Says (record { field = field.Named; text = word })
    else (if c then Ends
    else (if d then Says (record { field = field.Layout; text = word }) else option_look word)))
looked_by word true c d is ends flag = a_name word is
looked_by word false true d is ends flag = same_bytes word (codes "--") ends
looked_by word false false true is ends flag = a_flag word flag
looked_by word false false false is ends flag = looked_parted word (cut word) (whole word)

pub looked : (word : List ℕ) → Looked word (look word)
looked word = looked_by word (is_name word) (bytes_eq word (codes "--")) (is_flag word) refl refl refl

-- ---- the other way

pub option_looked : (f : Field) → HasValue f → look (option_name f) ≡ Awaits f
option_looked field.Named h = absurd (h refl)
option_looked field.Old h = refl
option_looked field.Base h = refl
option_looked field.Scenario h = refl
option_looked field.Tree h = refl
option_looked field.Turns h = refl
option_looked field.Limit h = refl
option_looked field.Layout h = absurd (h refl)
option_looked field.With h = refl
option_looked field.Outcome h = refl

pub joined_looked : (f : Field) (text : List ℕ) → HasValue f
    → look (option_name f ++ (codes "=" ++ text)) ≡ Says (record { field = f; text = text })
joined_looked field.Named text h = absurd (h refl)
joined_looked field.Old text h = refl
joined_looked field.Base text h = refl
joined_looked field.Scenario text h = refl
joined_looked field.Tree text h = refl
joined_looked field.Turns text h = refl
joined_looked field.Limit text h = refl
joined_looked field.Layout text h = absurd (h refl)
joined_looked field.With text h = refl
joined_looked field.Outcome text h = refl

pub json_looked : look (codes "--json") ≡ Says (record { field = field.Layout; text = codes "--json" })
json_looked = refl

pub brief_looked : look (codes "--brief") ≡ Says (record { field = field.Layout; text = codes "--brief" })
brief_looked = refl

pub places_looked : look (codes "--places") ≡ Says (record { field = field.Layout; text = codes "--places" })
places_looked = refl

pub html_looked : look (codes "--html") ≡ Says (record { field = field.Layout; text = codes "--html" })
html_looked = refl

pub name_looked : (word : List ℕ) → is_name word ≡ true → look word ≡ Says (record { field = field.Named; text = word })
name_looked word h =
    ap (λ b. if b then Says (record { field = field.Named; text = word })
    else (if bytes_eq word (codes "--") then Ends
    else (if is_flag word then Says (record { field = field.Layout; text = word }) else option_look word))) h
