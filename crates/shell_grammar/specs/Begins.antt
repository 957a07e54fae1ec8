-- The grammar cut off: which tokens some script's tokens begin with.
use Rattle.std.specs.Prelude.{◌≡◌, ℕ, suc, List, [], ◌∷◌, Some}
use Rattle.shell_lexer.specs.declared.token.Token.{Token}
use Rattle.shell_lexer.specs.declared.token.RawPart.{RawPart}
use Rattle.shell_grammar.specs.declared.look.Look.{Look}
use Rattle.shell_grammar.specs.WithoutRuns.{without_runs}
use Rattle.shell_grammar.specs.Grammar.{Rule, Script, Sign, Is, Opens, AWord, Of, Inside, Value}
use Rattle.shell_grammar.specs.Grammar.{production}
use Rattle.shell_grammar.specs.Look.{Tokens, look, word}
use Rattle.shell_grammar.specs.Reading.{Whole, IsSign}
use Rattle.shell_grammar.specs.Spelling.{no_limit}

-- Of tokens in a text that ends at an offset. The first number is how many levels they stand inside, the last how
-- many are open behind them.
module _ (end : ℕ) where
  mutual
    -- No tokens begin every production. Others begin one where they begin its first sign, or where they are that
    -- whole and what is left, which has a token, begins the signs behind it.
    pub data BeginsAll : ℕ → List Sign → Tokens → ℕ → Type 0 where
      begins_none : {d : ℕ} {ss : List Sign} {ts : Tokens} {l : ℕ} → ts ≡ [] → l ≡ d → BeginsAll d ss ts l
      begins_first : {d : ℕ} {s : Sign} {ss : List Sign} {ts : Tokens} {l : ℕ} → BeginsSign d s ts l
          → BeginsAll d (s ∷ ss) ts l
      begins_later : {d : ℕ} {s : Sign} {ss : List Sign} {ts : Tokens} {l : ℕ} (v : Value s) (t : Token)
          (rest : Tokens) → IsSign no_limit d end s ts (Whole v (t ∷ rest)) → BeginsAll d ss (t ∷ rest) l
          → BeginsAll d (s ∷ ss) ts l

    -- A token begins itself.
    pub data BeginsSign : ℕ → Sign → Tokens → ℕ → Type 0 where
      begins_is : {d : ℕ} {what : Look} {ts : Tokens} {l : ℕ} (t : Token) → ts ≡ t ∷ [] → look ts ≡ what → l ≡ d
          → BeginsSign d (Is what) ts l
      begins_opens : {d : ℕ} {what : Look} {ts : Tokens} {l : ℕ} (t : Token) → ts ≡ t ∷ [] → look ts ≡ what → l ≡ suc d
          → BeginsSign d (Opens what) ts l
      begins_word : {d : ℕ} {ts : Tokens} {l : ℕ} (t : Token) (raws : List RawPart) → ts ≡ t ∷ []
          → word ts ≡ Some raws → l ≡ d → BeginsSign d AWord ts l
      begins_of : {d : ℕ} {n : Rule} {ts : Tokens} {l : ℕ} → BeginsRule d n ts l → BeginsSign d (Of n) ts l
      begins_inside : {d : ℕ} {n : Rule} {ts : Tokens} {l : ℕ} → BeginsRule (suc d) n ts l
          → BeginsSign d (Inside n) ts l

    pub data BeginsRule : ℕ → Rule → Tokens → ℕ → Type 0 where
      begins_rule : {d : ℕ} {n : Rule} {ts : Tokens} {l : ℕ} → BeginsAll d (production n (look ts)).signs ts l
          → BeginsRule d n ts l

-- tokens that stand inside d levels, in a text that ends at an offset, begin some script's, whatever the
-- substitutions of their words hold, and so many levels are open behind them
abbrev pub Begins : ℕ → ℕ → Tokens → ℕ → Type 0
Begins d end ts level = BeginsRule end d Script (without_runs ts) level
