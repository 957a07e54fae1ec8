-- The numbers of loads.
use Rattle.std.proofs.Common.{◌≡◌, ℕ, ◌≤◌, Bool, true, false, List, [], ◌∷◌, Some, None, refl, subst}
use Rattle.std.specs.Prelude.{◌&&◌, nat_le, length, if◌then◌else◌}
use Rattle.std.specs.List.{list_all}
use Rattle.std.specs.Str.Parse.{digits_value}
use Rattle.std.proofs.lemmas.Bool.{leb-true, and_parts}
use Rattle.command_words.specs.declared.field.Field.TheVariants as field
use Rattle.command_words.specs.declared.request.Request.TheVariants.{Load}
use Rattle.command_words.specs.declared.limits.TheConstants.{MOST_LOAD}
use Rattle.command_words.specs.Fields.{texts}
use Rattle.command_words.specs.Values.{is_within, is_number, number_in}
use Rattle.script_names.specs.ShellNames.{is_digit}
use Rattle.command_words.specs.CommandLines.{Texts, IsNumber, line_settings, AsksLoad}
use Rattle.command_words.specs.Laws.{LoadsAreSmall}
use Rattle.command_words.proofs.SpelledLines.{spells_line}
use Rattle.command_words.proofs.Results.{is_no, in_some}

abbrev Within : ℕ → ℕ → Type 0
Within most n = (1 ≤ n) × (n ≤ most)

value_within : (most : ℕ) (text : List ℕ) → is_number most text ≡ true → Within most (digits_value 10 text)
value_within most text is =
    let value = digits_value 10 text in
    let few = is_within 1 6 (length text) in
    let parts = and_parts (list_all is_digit text) (few && is_within 1 most value) is in
    let bounds = and_parts (nat_le 1 value) (nat_le value most) (and_parts few (is_within 1 most value) parts.1).1 in
    (leb-true 1 value bounds.0, leb-true value most bounds.1)

within_by : (most : ℕ) (text : List ℕ) (n : ℕ) (b : Bool) → is_number most text ≡ b
    → (if b then Some (digits_value 10 text) else None) ≡ Some n → Within most n
within_by most text n true is e = subst (Within most) (in_some e) (value_within most text is)
within_by most text n false is e = absurd (is_no e)

within : (most : ℕ) (text : List ℕ) (n : ℕ) → number_in most text ≡ Some n → Within most n
within most text n e = within_by most text n (is_number most text) refl e

named_within : (most : ℕ) (ts : Texts) (n : ℕ) → IsNumber most ts n → Within most n
named_within most [] n h = absurd h
named_within most (t ∷ []) n h = within most t n h
named_within most (t ∷ u ∷ more) n h = absurd h

pub loads_are_small : LoadsAreSmall
loads_are_small words number limit e =
    let is = spells_line words (Load number limit) e in
    let asks : AsksLoad (λ f. texts f (line_settings is.line)) number limit = is.asks in
    named_within MOST_LOAD (texts field.Named (line_settings is.line)) number asks.of_number
