-- Tokens that are the same but for their offsets.
use Rattle.std.specs.Prelude.{◌≡◌, ℕ, ◌+◌, Bool, true, false, List, [], ◌∷◌}
use Rattle.shell_lexer.specs.declared.sight.Sign.{Sign}
use Rattle.shell_lexer.specs.declared.token.Token.{Token}
use Rattle.shell_lexer.specs.declared.token.RawPart.{RawPart}
use Rattle.shell_lexer.specs.declared.token.RawPart.TheVariants as part
use Rattle.shell_lexer.specs.declared.token.TokenKind.TheVariants as token
use Rattle.shell_lexer.specs.Reading.{token_at, kind_of_sign}

-- whether a part has offsets: a substitution
abbrev pub has_offsets : RawPart → Bool
has_offsets (part.Plain bytes) = false
has_offsets (part.Quoted bytes) = false
has_offsets (part.Param key default quoted) = false
has_offsets part.All = false
has_offsets _ = true

-- The second tokens are the first, each offset greater by so many bytes, also in the substitutions of their words.
module _ (bytes : ℕ) where
  mutual
    pub data AreMoved : List Token → List Token → Type 0 where
      none : AreMoved [] []
      operator : (at : ℕ) (s : Sign) {ts us : List Token}
          → AreMoved ts us → AreMoved (token_at at (kind_of_sign s) ∷ ts) (token_at (at + bytes) (kind_of_sign s) ∷ us)
      word : (at : ℕ) (ps qs : List RawPart) {ts us : List Token} → PartsAreMoved ps qs → AreMoved ts us
          → AreMoved (token_at at (token.Word ps) ∷ ts) (token_at (at + bytes) (token.Word qs) ∷ us)

    -- the second parts are the first, each offset in their substitutions greater by so many bytes
    pub data PartsAreMoved : List RawPart → List RawPart → Type 0 where
      no_part : PartsAreMoved [] []
      substitution : (at : ℕ) (quoted : Bool) (ts us : List Token) {ps qs : List RawPart}
          → AreMoved ts us → PartsAreMoved ps qs
          → PartsAreMoved (part.Run at ts quoted ∷ ps) (part.Run (at + bytes) us quoted ∷ qs)
      other : {p : RawPart} {ps qs : List RawPart}
          → has_offsets p ≡ false → PartsAreMoved ps qs → PartsAreMoved (p ∷ ps) (p ∷ qs)
