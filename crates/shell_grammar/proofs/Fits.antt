-- What every production keeps: a token that is named is no common word; one that opens a level is not the tokens' end; and what stands one
-- level further in stands behind one that opens it.
use Rattle.std.proofs.Common.{◌≡◌, ◌<◌, ℕ, Bool, true, false, List, [], ◌∷◌, Option, Some, None, refl}
use Rattle.shell_grammar.specs.declared.form.CommandForm.{CommandForm}
use Rattle.shell_grammar.specs.declared.form.CommandForm.TheVariants as command
use Rattle.shell_grammar.specs.declared.form.CompoundForm.{CompoundForm}
use Rattle.shell_grammar.specs.declared.form.CompoundForm.TheVariants as compound
use Rattle.shell_grammar.specs.declared.form.Item.{Item}
use Rattle.shell_grammar.specs.declared.form.Item.TheVariants as an
use Rattle.shell_grammar.specs.declared.look.Look.{Look}
use Rattle.shell_grammar.specs.declared.look.Look.TheVariants.{AtEnd, Newline, Semi, DoubleSemi, AndAnd, OrOr, Bar, LeftParen, Keyword, Name, Assignment, Other}
use Rattle.shell_grammar.specs.declared.look.Reserved.TheVariants.{Bang, Elif, Else, In, Esac}
use Rattle.shell_grammar.specs.Forms.{is_token, command_form, compound_form, item, starts, is_name_word, is_word, is_separator, link_and, redirection, ends_arm}
use Rattle.shell_grammar.specs.Grammar.{Rule, Script, Body, Newlines, Block, Members, More, Behind, AndOr, Links, Pipeline, Piped, Bars, ACommand, Compound, Clause, Arms, Loop, ForRest, ForName, ForWords, Each, Apart, CaseRest, CaseArms, CaseMore, OneArm, ArmRest, Patterns, MorePatterns, ArmBody, Braces, Named, SimpleItems, Redirects, Sign, Is, Opens, AWord, Here, Never, Of, Inside, production, production_more, production_behind, production_links, production_command, production_compound, production_name, production_each, production_apart, production_arm_body, production_items, production_redirects}
use Rattle.shell_grammar.proofs.Unique.{none_some}
use Rattle.shell_lexer.proofs.PrintedBytes.{clash}
use Rattle.shell_syntax.specs.declared.redirect.Redirect.{Redirect}

-- no word, or a reserved one
abbrev pub is_mark : Look → Bool
is_mark Name = false
is_mark Assignment = false
is_mark Other = false
is_mark _ = true

-- inside so many levels, of which there are fewer than 64 where something stands further in
abbrev pub Fits : ℕ → List Sign → Type 0
Fits d [] = Unit {0}
Fits d (Is l ∷ ss) = (is_mark l ≡ true) × Fits d ss
Fits d (Opens l ∷ ss) = (is_token l ≡ true) × (is_mark l ≡ true) × (d < 64 → Fits d ss)
Fits d (AWord ∷ ss) = Fits d ss
Fits d (Here ∷ ss) = Fits d ss
Fits d (Never ∷ ss) = Fits d ss
Fits d (Of n ∷ ss) = Fits d ss
Fits d (Inside n ∷ ss) = (d < 64) × Fits d ss

separator_mark : (l : Look) → is_separator l ≡ true → is_mark l ≡ true
separator_mark Semi e = refl
separator_mark Newline e = refl
separator_mark _ e = absurd (clash refl e)

link_mark : (l : Look) (b : Bool) → link_and l ≡ Some b → is_mark l ≡ true
link_mark AndAnd b e = refl
link_mark OrOr b e = refl
link_mark _ b e = absurd (none_some refl e)

fits_more : (d : ℕ) (l : Look) (b : Bool) → is_separator l ≡ b → Fits d (production_more l b).signs
fits_more d l true e = (separator_mark l e, tt)
fits_more d l false e = tt

fits_behind : (d : ℕ) (b : Bool) → Fits d (production_behind b).signs
fits_behind d true = tt
fits_behind d false = tt

fits_links : (d : ℕ) (l : Look) (b : Option Bool) → link_and l ≡ b → Fits d (production_links l b).signs
fits_links d l (Some b) e = (link_mark l b e, tt)
fits_links d l None e = tt

fits_command : (d : ℕ) (f : Option CommandForm) → Fits d (production_command f).signs
fits_command d (Some command.Compound) = tt
fits_command d (Some command.Named) = tt
fits_command d (Some command.Simple) = tt
fits_command d None = tt

fits_compound : (d : ℕ) (f : CompoundForm) → Fits d (production_compound f).signs
fits_compound d compound.Subshell = (refl, refl, λ lt. (lt, (refl, tt)))
fits_compound d compound.If = (refl, refl, λ lt. (lt, (refl, tt)))
fits_compound d compound.For = (refl, refl, λ lt. (lt, (refl, tt)))
fits_compound d compound.Case = (refl, refl, λ lt. (lt, (refl, tt)))
fits_compound d (compound.Loop true) = (refl, refl, λ lt. (lt, (refl, tt)))
fits_compound d (compound.Loop false) = (refl, refl, λ lt. (lt, (refl, tt)))
fits_compound d compound.Braces = tt

fits_name : (d : ℕ) (b : Bool) → Fits d (production_name b).signs
fits_name d true = tt
fits_name d false = tt

fits_each : (d : ℕ) (b : Bool) → Fits d (production_each b).signs
fits_each d true = tt
fits_each d false = tt

fits_apart : (d : ℕ) (l : Look) (b : Bool) → is_separator l ≡ b → Fits d (production_apart l b).signs
fits_apart d l true e = (separator_mark l e, tt)
fits_apart d l false e = tt

fits_arm_body : (d : ℕ) (b : Bool) → Fits d (production_arm_body b).signs
fits_arm_body d true = tt
fits_arm_body d false = tt

fits_items : (d : ℕ) (behind_word : Bool) (i : Option Item) → Fits d (production_items behind_word i).signs
fits_items d b (Some an.Assignment) = tt
fits_items d b (Some (an.Redirection which)) = (refl, tt)
fits_items d b (Some an.Word) = tt
fits_items d b None = tt

fits_redirects : (d : ℕ) (r : Option Redirect) → Fits d (production_redirects r).signs
fits_redirects d (Some which) = (refl, tt)
fits_redirects d None = tt

pub fits : (d : ℕ) (n : Rule) (l : Look) → Fits d (production n l).signs
fits d Script l = (refl, tt)
fits d Body AtEnd = tt
fits d Body l = tt
fits d Newlines Newline = (refl, tt)
fits d Newlines l = tt
fits d Block l = tt
fits d Members l = tt
fits d More l = fits_more d l (is_separator l) refl
fits d Behind l = fits_behind d (starts l)
fits d AndOr l = tt
fits d Links l = fits_links d l (link_and l) refl
fits d Pipeline (Keyword Bang) = (refl, tt)
fits d Pipeline l = tt
fits d Piped l = tt
fits d Bars Bar = (refl, tt)
fits d Bars l = tt
fits d ACommand l = fits_command d (command_form l)
fits d Compound l = fits_compound d (compound_form l)
fits d Clause l = (refl, tt)
fits d Arms (Keyword Elif) = (refl, tt)
fits d Arms (Keyword Else) = (refl, tt)
fits d Arms l = tt
fits d Loop l = (refl, tt)
fits d ForRest l = (refl, tt)
fits d ForName l = fits_name d (is_name_word l)
fits d ForWords (Keyword In) = (refl, tt)
fits d ForWords Semi = (refl, tt)
fits d ForWords l = tt
fits d Each l = fits_each d (is_word l)
fits d Apart l = fits_apart d l (is_separator l) refl
fits d CaseRest l = (refl, tt)
fits d CaseArms (Keyword Esac) = tt
fits d CaseArms l = tt
fits d CaseMore DoubleSemi = (refl, tt)
fits d CaseMore l = tt
fits d OneArm LeftParen = (refl, tt)
fits d OneArm l = tt
fits d ArmRest l = (refl, tt)
fits d Patterns l = tt
fits d MorePatterns Bar = (refl, tt)
fits d MorePatterns l = tt
fits d ArmBody l = fits_arm_body d (ends_arm l)
fits d Braces l = (refl, refl, λ lt. (lt, (refl, tt)))
fits d Named LeftParen = (refl, (refl, tt))
fits d Named l = tt
fits d (SimpleItems b) l = fits_items d b (item b l)
fits d Redirects l = fits_redirects d (redirection l)
