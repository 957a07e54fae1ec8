-- Where tokens are first at fault, and with which fault.
use Rattle.std.specs.Prelude.{◌≡◌, ◌<◌, ◌≤◌, ℕ, suc, Bool, List, [], ◌∷◌, ◌++◌, Some}
use Rattle.shell_syntax.specs.declared.syntax.Command.{Command}
use Rattle.shell_syntax.specs.declared.syntax.Part.{Part}
use Rattle.shell_lexer.specs.declared.token.Token.{Token}
use Rattle.shell_lexer.specs.declared.token.RawPart.{RawPart, out-RawPart}
use Rattle.shell_lexer.specs.declared.token.RawPart.TheOpen as raw
use Rattle.shell_grammar.specs.declared.fault.ParseFault.{ParseFault}
use Rattle.shell_grammar.specs.declared.fault.ParseFault.TheVariants.{Syntax, Deep}
use Rattle.shell_grammar.specs.Begins.{Begins}
use Rattle.shell_grammar.specs.Look.{Tokens, word}
use Rattle.shell_grammar.specs.Reading.{Faultless, IsParts}
use Rattle.shell_grammar.specs.Spelling.{Spells, deep_64}

-- each substitution among these parts of a word, which stands inside so many levels, holds a script, and no token in
-- it is too deep
pub record HoldScripts (level : ℕ) (raws : List RawPart) : Type 0 where
  pub parts : List Part
  pub reads : IsParts deep_64 level raws (Faultless parts)

-- A token passes behind others: with it they begin some script's, inside 64 levels at most, and if it is a word, its
-- substitutions hold scripts.
pub record Passes (d end : ℕ) (front : Tokens) (t : Token) : Type 0 where
  pub level : ℕ
  pub begins : Begins d end (front ++ t ∷ []) level
  pub within : level ≤ 64
  pub holds : (raws : List RawPart) → word (t ∷ []) ≡ Some raws → HoldScripts level raws

-- each of the tokens passes behind those before it
abbrev pub Pass : ℕ → ℕ → Tokens → Type 0
Pass d end ts = (front : Tokens) (t : Token) (rest : Tokens) → ts ≡ front ++ t ∷ rest → Passes d end front t

mutual
  -- The first fault of tokens that stand inside d levels, in a text that ends at an offset.
  pub data FirstFault : ℕ → ℕ → Tokens → ParseFault → Type 0 where
    -- that of a token; those before it pass
    at_token : {d end : ℕ} {ts : Tokens} {fault : ParseFault} (front : Tokens) (t : Token) (rest : Tokens)
        → ts ≡ front ++ t ∷ rest → Pass d end front → FaultAt d end front t fault → FirstFault d end ts fault
    -- all pass, so that they begin some script's, and they are no script's: its place is where they end
    at_end : {d end : ℕ} {ts : Tokens} {fault : ParseFault} → Pass d end ts
        → ((body : Command) → Spells end ts body → ⊥) → fault ≡ Syntax end → FirstFault d end ts fault

  -- The fault of a token behind others that pass.
  pub data FaultAt : ℕ → ℕ → Tokens → Token → ParseFault → Type 0 where
    -- no script's tokens begin with those up to it
    cannot_follow : {d end : ℕ} {front : Tokens} {t : Token} {fault : ParseFault}
        → ((level : ℕ) → Begins d end (front ++ t ∷ []) level → ⊥) → fault ≡ Syntax t.at → FaultAt d end front t fault
    -- the token opens the 65th level
    too_far_in : {d end : ℕ} {front : Tokens} {t : Token} {fault : ParseFault} (level : ℕ)
        → Begins d end (front ++ t ∷ []) level → 64 < level → fault ≡ Deep t.at → FaultAt d end front t fault
    -- the token is a word that may stand there, and a substitution in it is at fault
    in_word : {d end : ℕ} {front : Tokens} {t : Token} {fault : ParseFault} (level : ℕ) (raws : List RawPart)
        → Begins d end (front ++ t ∷ []) level → level ≤ 64 → word (t ∷ []) ≡ Some raws → FaultIn level raws fault
        → FaultAt d end front t fault

  -- The first fault in the substitutions of a word that stands inside so many levels.
  pub data FaultIn : ℕ → List RawPart → ParseFault → Type 0 where
    -- the first part is a substitution that opens the 65th level
    at_substitution : {level : ℕ} {p : RawPart} {ps : List RawPart} {fault : ParseFault} (at : ℕ) (ts : Tokens)
        (quoted : Bool) → out-RawPart p ≡ raw.Run at ts quoted → 64 ≤ level → fault ≡ Deep at
        → FaultIn level (p ∷ ps) fault
    -- it is a substitution whose tokens are at fault; they count as ending at its own offset, which is thus the place
    -- where they are cut short
    in_substitution : {level : ℕ} {p : RawPart} {ps : List RawPart} {fault : ParseFault} (at : ℕ) (ts : Tokens)
        (quoted : Bool) → out-RawPart p ≡ raw.Run at ts quoted → level < 64 → FirstFault (suc level) at ts fault
        → FaultIn level (p ∷ ps) fault
    -- the first part holds no fault, and the others do
    behind_part : {level : ℕ} {p : RawPart} {ps : List RawPart} {fault : ParseFault}
        → HoldScripts level (p ∷ []) → FaultIn level ps fault → FaultIn level (p ∷ ps) fault

-- no token and no substitution is at fault, and the tokens' end is none
abbrev pub NoFault : ℕ → Tokens → Type 0
NoFault end ts = (fault : ParseFault) → FirstFault 0 end ts fault → ⊥
