-- No unsupported form stands in commands of plain words.
use Rattle.std.proofs.Common.{◌≡◌, ℕ, List, [], ◌∷◌, ◌++◌, map, Option, Some, None, codes, refl, sym, ap, ap₂, ◌∙◌}
use Rattle.shell_syntax.specs.declared.syntax.Command.{Command}
use Rattle.shell_syntax.specs.declared.syntax.Command.TheVariants as c
use Rattle.shell_syntax.specs.declared.syntax.Command.TheOpen as o
use Rattle.shell_syntax.specs.declared.syntax.Part.{out-Part, out-roll-Part}
use Rattle.shell_syntax.specs.declared.syntax.Part.TheVariants as part
use Rattle.shell_syntax.specs.declared.syntax.Word.{Word}
use Rattle.shell_grammar.specs.Trees.{seq_of}
use Rattle.shell_forms.specs.declared.place.Place.{Place}
use Rattle.shell_forms.specs.Names.{Text}
use Rattle.shell_forms.specs.Words.{WordSays, both_bytes}
use Rattle.shell_forms.specs.Forms.{Forms, forms_of, word_says, simple_forms, in_word, in_words, all_of, script_place, member}
use Rattle.shell_forms.specs.Forms.{is_named, static_name, is_one_flag}
use Rattle.shell_forms.specs.Seen.{bytes_of, layer_bytes}
use Rattle.shell_forms.proofs.Finds.{forms_simple, forms_seq, in_parts, none_in_plain}
use Rattle.shell_forms.proofs.Says.{static_says, flag_says}
use Rattle.load_maker.proofs.PlainCommands.{plain_word}

bytes_are : (w : Text) → bytes_of (part.Plain w) ≡ Some w
bytes_are w = ap layer_bytes (ap out-Part (sym (part.rolls-Plain w)) ∙ out-roll-Part (o.Plain w))

module _ (first : Text → Option ℕ) where
  abbrev says : List Word → List (WordSays Forms)
  says words = map (word_says first) words

  named_so : (at : ℕ) (w : Text) (words : List Word) → static_name (says (plain_word at w ∷ words)) ≡ both_bytes (Some w) (Some [])
  named_so at w words = static_says first (plain_word at w ∷ words) ∙ ap (λ b. both_bytes b (Some [])) (bytes_are w)

  flag_so : (at : ℕ) (w : Text) → is_one_flag (says (plain_word at w ∷ [])) ≡ is_named (both_bytes (Some w) (Some [])) (codes "-e" ∷ codes "+e" ∷ [])
  flag_so at w =
      flag_says first (plain_word at w ∷ []) ∙ ap (λ b. is_named (both_bytes b (Some [])) (codes "-e" ∷ codes "+e" ∷ [])) (bytes_are w)

  -- no substitution stands in plain words
  no_run : (at : ℕ) (w : Text) (p : Place) → in_word (word_says first (plain_word at w)) p ≡ []
  no_run at w p = in_parts first (plain_word at w) p ∙ ap (λ l. l ++ []) (none_in_plain first w p)

  no_runs : (at : ℕ) (w : Text) (words : List Word) (p : Place) → in_words (says words) p ≡ []
      → in_words (says (plain_word at w ∷ words)) p ≡ []
  no_runs at w words p none = ap₂ (λ a b. a ++ b) (no_run at w p) none

  -- `set -e`, at any place outside of functions
  pub set_formless : (at behind : ℕ) (p : Place) → p.defined_at ≡ None
      → forms_of first (c.Simple at [] (plain_word at (codes "set") ∷ plain_word behind (codes "-e") ∷ [])) p ≡ []
  set_formless at behind p outside =
      let flag = plain_word behind (codes "-e") ∷ [] in
      let words = plain_word at (codes "set") ∷ flag in
      let alone : simple_forms first at [] (says words) p ≡ [] =
      rw (named_so at (codes "set") flag, flag_so behind (codes "-e"), outside) refl
      in
      forms_simple first at [] words p
      ∙ ap₂ (λ a b. a ++ b) alone (no_runs at (codes "set") flag p (no_runs behind (codes "-e") [] p refl))

  -- `mkdir -p` and a path, likewise
  pub mkdir_formless : (at next last : ℕ) (path : Text) (p : Place) → p.defined_at ≡ None
      → forms_of first (c.Simple at [] (plain_word at (codes "mkdir") ∷ plain_word next (codes "-p") ∷ plain_word last path ∷ [])) p ≡ []
  mkdir_formless at next last path p outside =
      let paths = plain_word last path ∷ [] in
      let others = plain_word next (codes "-p") ∷ paths in
      let words = plain_word at (codes "mkdir") ∷ others in
      let alone : simple_forms first at [] (says words) p ≡ [] = rw (named_so at (codes "mkdir") others, outside) refl in
      forms_simple first at [] words p
      ∙ ap₂ (λ a b. a ++ b) alone
      (no_runs at (codes "mkdir") others p (no_runs next (codes "-p") paths p (no_runs last path [] p refl)))

  -- commands in which no form stands, one after another
  abbrev pub Formless : List Command → Type 0
  Formless commands = all_of (map (forms_of first) commands) (member script_place) ≡ []

  pub formless_more : (one : Command) (commands : List Command) → forms_of first one (member script_place) ≡ []
      → Formless commands → Formless (one ∷ commands)
  formless_more one commands e f = ap₂ (λ a b. a ++ b) e f

  pub formless_list : (one : Command) (commands : List Command) → forms_of first one script_place ≡ [] → Formless (one ∷ commands)
      → forms_of first (seq_of (one ∷ commands)) script_place ≡ []
  formless_list one [] alone all = alone
  formless_list one (next ∷ commands) alone all = forms_seq first (one ∷ next ∷ commands) script_place ∙ all
