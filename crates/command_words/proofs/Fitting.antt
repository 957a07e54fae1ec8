-- Settings that fit a command: each field is said as often as it may be at most, is one that the command takes, and has
-- a value.
use Rattle.std.proofs.Common.{◌≡◌, ℕ, zero, suc, ◌<◌, Bool, true, false, List, [], ◌∷◌, ◌++◌, length, Some, refl, sym, ap, subst, ◌∙◌, ⊎_elim, arith}
use Rattle.std.specs.Prelude.{◌&&◌, not, ◌==◌, nat_lt, if◌then◌else◌}
use Rattle.std.specs.List.{find, filter, list_all}
use Rattle.std.specs.Option.{is_some, option_map}
use Rattle.std.proofs.lemmas.Bool.{and_parts, and_from, or_cases, eqb-true, eq-eqb, ltb-true, lt-ltb}
use Rattle.std.proofs.lemmas.List.{append-nil}
use Rattle.command_words.specs.declared.field.Command.{Command}
use Rattle.command_words.specs.declared.field.Command.TheVariants as command
use Rattle.command_words.specs.declared.field.Field.{Field}
use Rattle.command_words.specs.declared.field.Field.TheVariants as field
use Rattle.command_words.specs.declared.setting.Setting.{Setting}
use Rattle.command_words.specs.Fields.{rank, is_field, is_among, takes, names_of, most, texts, first, given, is_given, is_excluded, may}
use Rattle.command_words.specs.Values.{is_value}
use Rattle.command_words.specs.CommandLines.{Texts, NoOthers}
use Rattle.command_words.proofs.Results.{differ}

-- ---- fields

abbrev field_at : ℕ → Field
field_at n =
    if n == 0 then field.Named
    else (if n == 1 then field.Old
    else (if n == 2 then field.Base
    else (if n == 3 then field.Scenario
    else (if n == 4 then field.Tree
    else (if n == 5 then field.Turns
    else (if n == 6 then field.Limit
    else (if n == 7 then field.Layout
    else (if n == 8 then field.With else field.Outcome))))))))

at_rank : (f : Field) → field_at (rank f) ≡ f
at_rank field.Named = refl
at_rank field.Old = refl
at_rank field.Base = refl
at_rank field.Scenario = refl
at_rank field.Tree = refl
at_rank field.Turns = refl
at_rank field.Limit = refl
at_rank field.Layout = refl
at_rank field.With = refl
at_rank field.Outcome = refl

pub same_field : (one other : Field) → is_field one other ≡ true → one ≡ other
same_field one other e = sym (at_rank one) ∙ ap field_at (eqb-true (rank one) (rank other) e) ∙ at_rank other

pub is_itself : (f : Field) → is_field f f ≡ true
is_itself f = eq-eqb (rank f) (rank f) refl

-- ---- texts

one_more : (b : Bool) (t : List ℕ) (whole left right : Texts) → whole ≡ left ++ right
    → (if b then t ∷ whole else whole) ≡ (if b then t ∷ left else left) ++ right
one_more true t whole left right e = ap (λ l. t ∷ l) e
one_more false t whole left right e = e

pub texts-append : (f : Field) (xs ys : List Setting) → texts f (xs ++ ys) ≡ texts f xs ++ texts f ys
texts-append f [] ys = refl
texts-append f (s ∷ xs) ys = one_more (is_field f s.field) s.text (texts f (xs ++ ys)) (texts f xs) (texts f ys) (texts-append f xs ys)

-- the texts for a setting's own field
pub texts_own : (s : Setting) (more : List Setting) → texts s.field (s ∷ more) ≡ s.text ∷ texts s.field more
texts_own s more = ap (λ b. if b then s.text ∷ texts s.field more else texts s.field more) (is_itself s.field)

pub texts_at : (s : Setting) (said more : List Setting)
    → texts s.field (said ++ s ∷ more) ≡ texts s.field said ++ s.text ∷ texts s.field more
texts_at s said more = texts-append s.field said (s ∷ more) ∙ ap (λ l. texts s.field said ++ l) (texts_own s more)

pub none_first : (ts : Texts) → is_some (first ts) ≡ false → ts ≡ []
none_first [] h = refl
none_first (t ∷ ts) h = absurd (differ h)

some_first : (ts : Texts) (t : List ℕ) (more : Texts) → is_some (first (ts ++ t ∷ more)) ≡ true
some_first [] t more = refl
some_first (u ∷ ts) t more = refl

keeps_first : (ts more : Texts) → is_some (first ts) ≡ true → is_some (first (ts ++ more)) ≡ true
keeps_first [] more h = absurd (differ (sym h))
keeps_first (t ∷ ts) more h = refl

-- what was said stays said, and what is said is said
pub still_given : (f : Field) (said more : List Setting) → is_given f said ≡ true → is_given f (said ++ more) ≡ true
still_given f said more h = ap (λ l. is_some (first l)) (texts-append f said more) ∙ keeps_first (texts f said) (texts f more) h

pub now_given : (s : Setting) (said : List Setting) → is_given s.field (said ++ s ∷ []) ≡ true
now_given s said = ap (λ l. is_some (first l)) (texts_at s said []) ∙ some_first (texts s.field said) s.text []

-- ---- what fits

-- no text, or one of which P holds
abbrev pub OneOf : (List ℕ → Type 0) → Texts → Type 0
OneOf P [] = Unit {0}
OneOf P (t ∷ []) = P t
OneOf P (t ∷ u ∷ more) = ⊥

abbrev pub Suits : Command → Field → List ℕ → Type 0
Suits command f t = (takes command f ≡ true) × (is_value command f t ≡ true)

-- so many texts at most, of each of which P holds
abbrev pub FewOf : ℕ → (List ℕ → Type 0) → Texts → Type 0
FewOf n P [] = Unit {0}
FewOf zero P (t ∷ ts) = ⊥
FewOf (suc n) P (t ∷ ts) = P t × FewOf n P ts

abbrev pub EachFits : Command → List Setting → Type 0
EachFits command said = (f : Field) → FewOf (most command f) (Suits command f) (texts f said)

-- nothing excludes what is said
abbrev pub lays_out_twice : List Setting → Bool
lays_out_twice said = is_given field.Layout said && is_given field.Outcome said

pub record AllFit (command : Command) (said : List Setting) : Type 0 where
  pub few : EachFits command said
  pub once : lays_out_twice said ≡ false

-- one text at most
few_one : (P : List ℕ → Type 0) (ts : Texts) → FewOf 1 P ts → OneOf P ts
few_one P [] h = tt
few_one P (t ∷ []) h = h.0
few_one P (t ∷ u ∷ more) h = absurd h.1

one_few : (P : List ℕ → Type 0) (ts : Texts) → OneOf P ts → FewOf 1 P ts
one_few P [] h = tt
one_few P (t ∷ []) h = (h, tt)
one_few P (t ∷ u ∷ more) h = absurd h

pub fit_once : (command : Command) (said : List Setting) (f : Field) → most command f ≡ 1 → AllFit command said
    → OneOf (Suits command f) (texts f said)
fit_once command said f once fit =
    few_one (Suits command f) (texts f said) (subst (λ n. FewOf n (Suits command f) (texts f said)) once (fit.few f))

-- a command each of whose fields is said once at most
once_at : (command : Command) → names_of command ≡ 1 → (f : Field) → most command f ≡ 1
once_at command once field.Named = once
once_at command once field.Old = refl
once_at command once field.Base = refl
once_at command once field.Scenario = refl
once_at command once field.Tree = refl
once_at command once field.Turns = refl
once_at command once field.Limit = refl
once_at command once field.Layout = refl
once_at command once field.With = refl
once_at command once field.Outcome = refl

pub ones_fit : (command : Command) (said : List Setting) → names_of command ≡ 1
    → ((f : Field) → OneOf (Suits command f) (texts f said)) → EachFits command said
ones_fit command said once fit f =
    subst (λ n. FewOf n (Suits command f) (texts f said)) (sym (once_at command once f)) (one_few (Suits command f) (texts f said) (fit f))

-- what was said of these fields is still said
pub all_given : (said all : List Setting) (fields : List Field) → ((f : Field) → is_given f said ≡ true → is_given f all ≡ true)
    → list_all (λ f. is_given f said) fields ≡ true → list_all (λ f. is_given f all) fields ≡ true
all_given said all [] keeps h = refl
all_given said all (f ∷ fields) keeps h =
    let parts = and_parts (is_given f said) (list_all (λ g. is_given g said) fields) h in
    and_from (is_given f all) (list_all (λ g. is_given g all) fields) (keeps f parts.0) (all_given said all fields keeps parts.1)

-- what holds of each of these fields
abbrev pub Each : (Field → Type 0) → List Field → Type 0
Each P [] = Unit {0}
Each P (f ∷ fields) = P f × Each P fields

of_one : (P : Field → Type 0) (fields : List Field) (f : Field) → Each P fields → is_among fields f ≡ true → P f
of_one P [] f each e = absurd (differ (sym e))
of_one P (g ∷ fields) f each e =
    ⊎_elim (λ h. subst P (same_field g f h) each.0) (λ h. of_one P fields f each.1 h) (or_cases (is_field g f) (is_among fields f) e)

-- and of those of which nothing is said holds of all fields
module _ (P : Field → Texts → Type 0) (none : (f : Field) → P f []) (fields : List Field) (said : List Setting) where
  all_by : Each (λ f. P f (texts f said)) fields → NoOthers fields (λ f. texts f said) → (f : Field) (b : Bool) → is_among fields f ≡ b
      → P f (texts f said)
  all_by each others f true e = of_one (λ g. P g (texts g said)) fields f each e
  all_by each others f false e = subst (P f) (sym (others f e)) (none f)

  pub of_all : Each (λ f. P f (texts f said)) fields → NoOthers fields (λ f. texts f said) → (f : Field) → P f (texts f said)
  of_all each others f = all_by each others f (is_among fields f) refl

-- each field that a command takes is said once at least
some_names : (command : Command) → 0 < names_of command
some_names command.Check = omega arith
some_names command.Run = omega arith
some_names command.Translate = omega arith
some_names command.Load = omega arith
some_names command.Predict = omega arith
some_names command.Explain = omega arith
some_names command.Pair = omega arith
some_names command.Twice = omega arith

pub some_most : (command : Command) (f : Field) → 0 < most command f
some_most command field.Named = some_names command
some_most command field.Old = omega arith
some_most command field.Base = omega arith
some_most command field.Scenario = omega arith
some_most command field.Tree = omega arith
some_most command field.Turns = omega arith
some_most command field.Limit = omega arith
some_most command field.Layout = omega arith
some_most command field.With = omega arith
some_most command field.Outcome = omega arith

few_there : (n : ℕ) (P : List ℕ → Type 0) (us : Texts) (t : List ℕ) (vs : Texts) → FewOf n P (us ++ t ∷ vs) → (length us < n) × P t
few_there zero P [] t vs h = absurd h
few_there (suc n) P [] t vs h = (omega arith, h.0)
few_there zero P (u ∷ us) t vs h = absurd h
few_there (suc n) P (u ∷ us) t vs h = let later = few_there n P us t vs h.1 in (omega (arith, later.0), later.1)

few_more : (n : ℕ) (P : List ℕ → Type 0) (us : Texts) (t : List ℕ) → FewOf n P us → length us < n → P t → FewOf n P (us ++ t ∷ [])
few_more zero P us t h lt is = absurd (omega (arith, lt))
few_more (suc n) P [] t h lt is = (is, tt)
few_more (suc n) P (u ∷ us) t h lt is = (h.0, few_more n P us t h.1 (omega (arith, lt)) is)

-- ---- what excludes

not_false : (b : Bool) → b ≡ false → not b ≡ true
not_false b e = ap not e

is_not : (b : Bool) → not b ≡ true → b ≡ false
is_not true h = absurd (differ (sym h))
is_not false h = refl

first_of_two : (a b : Bool) → (a && b) ≡ false → b ≡ true → a ≡ false
first_of_two true b h is = absurd (differ (sym is ∙ h))
first_of_two false b h is = refl

second_of_two : (a b : Bool) → (a && b) ≡ false → a ≡ true → b ≡ false
second_of_two true b h is = h
second_of_two false b h is = absurd (differ (sym is))

none_and : (a b : Bool) → b ≡ false → (a && b) ≡ false
none_and true b h = h
none_and false b h = refl

-- what is not said in the end was not said before
never_given_by : (f : Field) (said more : List Setting) (b : Bool) → is_given f said ≡ b → is_given f (said ++ more) ≡ false → b ≡ false
never_given_by f said more true is h = absurd (differ (sym (still_given f said more is) ∙ h))
never_given_by f said more false is h = refl

never_given : (f : Field) (said more : List Setting) → is_given f (said ++ more) ≡ false → is_given f said ≡ false
never_given f said more h = never_given_by f said more (is_given f said) refl h

-- of what is said once, nothing was said that excludes it
none_excludes : (f : Field) (said more : List Setting) → lays_out_twice (said ++ more) ≡ false → is_given f (said ++ more) ≡ true
    → is_excluded said f ≡ false
none_excludes field.Layout said more once is =
    never_given field.Outcome said more (second_of_two (is_given field.Layout (said ++ more)) (is_given field.Outcome (said ++ more)) once is)
none_excludes field.Outcome said more once is =
    never_given field.Layout said more (first_of_two (is_given field.Layout (said ++ more)) (is_given field.Outcome (said ++ more)) once is)
none_excludes field.Named said more once is = refl
none_excludes field.Old said more once is = refl
none_excludes field.Base said more once is = refl
none_excludes field.Scenario said more once is = refl
none_excludes field.Tree said more once is = refl
none_excludes field.Turns said more once is = refl
none_excludes field.Limit said more once is = refl
none_excludes field.With said more once is = refl

-- a setting of another field changes nothing
same_given : (f : Field) (said : List Setting) (s : Setting) → is_field f s.field ≡ false → is_given f (said ++ s ∷ []) ≡ is_given f said
same_given f said s other =
    ap (λ ts. is_some (first ts))
    (texts-append f said (s ∷ []) ∙ ap (λ b. texts f said ++ (if b then s.text ∷ [] else [])) other ∙ append-nil (texts f said))

module _ (said : List Setting) (s : Setting) where
  abbrev Still : Field → Type 0
  Still f = s.field ≡ f → is_excluded said f ≡ false → lays_out_twice said ≡ false → lays_out_twice (said ++ s ∷ []) ≡ false

  other_still : (f : Field) → s.field ≡ f → is_field field.Layout f ≡ false → is_field field.Outcome f ≡ false
      → lays_out_twice said ≡ false → lays_out_twice (said ++ s ∷ []) ≡ false
  other_still f e layout outcome once =
      let a = same_given field.Layout said s (ap (is_field field.Layout) e ∙ layout) in
      let b = same_given field.Outcome said s (ap (is_field field.Outcome) e ∙ outcome) in
      (λ i. a i && b i) ∙ once

  still_once : (f : Field) → Still f
  still_once field.Layout e free once =
      none_and (is_given field.Layout (said ++ s ∷ [])) (is_given field.Outcome (said ++ s ∷ []))
      (same_given field.Outcome said s (ap (is_field field.Outcome) e) ∙ free)
  still_once field.Outcome e free once =
      ap (λ b. b && is_given field.Outcome (said ++ s ∷ [])) (same_given field.Layout said s (ap (is_field field.Layout) e) ∙ free)
  still_once field.Named e free once = other_still field.Named e refl refl once
  still_once field.Old e free once = other_still field.Old e refl refl once
  still_once field.Base e free once = other_still field.Base e refl refl once
  still_once field.Scenario e free once = other_still field.Scenario e refl refl once
  still_once field.Tree e free once = other_still field.Tree e refl refl once
  still_once field.Turns e free once = other_still field.Turns e refl refl once
  still_once field.Limit e free once = other_still field.Limit e refl refl once
  still_once field.With e free once = other_still field.With e refl refl once

-- ---- what may be said

pub may_say : (command : Command) (said : List Setting) (f : Field) → takes command f ≡ true → length (texts f said) < most command f
    → is_excluded said f ≡ false → may command said f ≡ true
may_say command said f taken few free =
    and_from (takes command f && nat_lt (length (texts f said)) (most command f)) (not (is_excluded said f))
    (and_from (takes command f) (nat_lt (length (texts f said)) (most command f)) taken (lt-ltb (length (texts f said)) (most command f) few))
    (not_false (is_excluded said f) free)

-- the field was not full, and is not excluded
pub record MayBe (command : Command) (said : List Setting) (f : Field) : Type 0 where
  pub taken : takes command f ≡ true
  pub few : length (texts f said) < most command f
  pub free : is_excluded said f ≡ false

pub was_not_full : (command : Command) (said : List Setting) (f : Field) → may command said f ≡ true → MayBe command said f
was_not_full command said f can =
    let both = and_parts (takes command f && nat_lt (length (texts f said)) (most command f)) (not (is_excluded said f)) can in
    let parts = and_parts (takes command f) (nat_lt (length (texts f said)) (most command f)) both.0 in
    record {
      taken = parts.0;
      few = ltb-true (length (texts f said)) (most command f) parts.1;
      free = is_not (is_excluded said f) both.1;
    }

-- what was not said may be said
pub may_begin : (command : Command) (said : List Setting) (f : Field) → takes command f ≡ true → is_given f said ≡ false
    → is_excluded said f ≡ false → may command said f ≡ true
may_begin command said f taken none free =
    may_say command said f taken
    (subst (λ (l : Texts). length l < most command f) (sym (none_first (texts f said) none)) (some_most command f)) free

-- a setting among settings that fit could be said there
pub fits_there : (command : Command) (said : List Setting) (s : Setting) (more : List Setting) → AllFit command (said ++ s ∷ more)
    → (may command said s.field ≡ true) × (is_value command s.field s.text ≡ true)
fits_there command said s more fit =
    let there = few_there (most command s.field) (Suits command s.field) (texts s.field said) s.text (texts s.field more)
    (subst (FewOf (most command s.field) (Suits command s.field)) (texts_at s said more) (fit.few s.field)) in
    let given = ap (λ l. is_some (first l)) (texts_at s said more) ∙ some_first (texts s.field said) s.text (texts s.field more) in
    (may_say command said s.field there.1.0 there.0 (none_excludes s.field said (s ∷ more) fit.once given), there.1.1)

-- and where it can be said, they fit with it
module _ (command : Command) (said : List Setting) (s : Setting) where
  fit_by : (f : Field) → EachFits command said → Suits command s.field s.text → length (texts s.field said) < most command s.field
      → (b : Bool) → is_field f s.field ≡ b
      → FewOf (most command f) (Suits command f) (texts f said ++ (if b then s.text ∷ [] else []))
  fit_by f fit suits few true e =
      subst (λ g. FewOf (most command g) (Suits command g) (texts g said ++ s.text ∷ [])) (sym (same_field f s.field e))
      (few_more (most command s.field) (Suits command s.field) (texts s.field said) s.text (fit s.field) few suits)
  fit_by f fit suits few false e = subst (FewOf (most command f) (Suits command f)) (sym (append-nil (texts f said))) (fit f)

  each_more : EachFits command said → MayBe command said s.field → is_value command s.field s.text ≡ true
      → EachFits command (said ++ s ∷ [])
  each_more fit was value f =
      subst (FewOf (most command f) (Suits command f)) (sym (texts-append f said (s ∷ [])))
      (fit_by f fit (was.taken, value) was.few (is_field f s.field) refl)

  pub fits_more : AllFit command said → may command said s.field ≡ true → is_value command s.field s.text ≡ true
      → AllFit command (said ++ s ∷ [])
  fits_more fit can value =
      let was = was_not_full command said s.field can in
      record { few = each_more fit.few was value; once = still_once said s s.field refl was.free fit.once }

pub none_fit : (command : Command) → AllFit command []
none_fit command = record { few = λ f. tt; once = refl }

-- ---- the first setting of a field

found_by : (f : Field) (s : Setting) (said : List Setting) (b : Bool)
    → option_map (λ t. t.text) (find (λ t. is_field f t.field) said) ≡ given f said
    → option_map (λ t. t.text) (if b then Some s else find (λ t. is_field f t.field) said)
    ≡ first (if b then s.text ∷ texts f said else texts f said)
found_by f s said true h = refl
found_by f s said false h = h

pub found_given : (f : Field) (said : List Setting) → option_map (λ t. t.text) (find (λ t. is_field f t.field) said) ≡ given f said
found_given f [] = refl
found_given f (s ∷ said) = found_by f s said (is_field f s.field) (found_given f said)

-- ---- how many settings are of a field

kept_by : (f : Field) (s : Setting) (said : List Setting) (b : Bool)
    → length (filter (λ t. is_field f t.field) said) ≡ length (texts f said)
    → length (if b then s ∷ filter (λ t. is_field f t.field) said else filter (λ t. is_field f t.field) said)
    ≡ length (if b then s.text ∷ texts f said else texts f said)
kept_by f s said true h = omega (arith, h)
kept_by f s said false h = h

pub kept_texts : (f : Field) (said : List Setting) → length (filter (λ t. is_field f t.field) said) ≡ length (texts f said)
kept_texts f [] = refl
kept_texts f (s ∷ said) = kept_by f s said (is_field f s.field) (kept_texts f said)
