-- What is known of the tokens that a text is cut into: each word is printed so that it is read back, whatever is
-- printed for its substitutions, provided that this is read back.
use Rattle.std.proofs.Common.{◌≡◌, ℕ, suc, Bool, true, false, List, [], ◌∷◌, Some, None, refl, sym, ap, ◌∙◌, subst}
use Rattle.shell_syntax.specs.declared.syntax.Part.{Part}
use Rattle.shell_lexer.specs.declared.token.Token.{Token}
use Rattle.shell_lexer.specs.declared.token.TokenKind.{out-TokenKind}
use Rattle.shell_lexer.specs.declared.token.RawPart.{RawPart, roll-RawPart, out-RawPart, roll-out-RawPart}
use Rattle.shell_lexer.specs.declared.token.RawPart.TheVariants as raw
use Rattle.shell_lexer.specs.declared.token.RawPart.TheOpen as o
use Rattle.token_laws.specs.LongestRuns.{plain_runs_are_longest}
use Rattle.token_laws.specs.PrintedLaws.{ends_in_backslash}
use Rattle.shell_grammar.specs.Look.{Tokens, word, behind, kind_word}
use Rattle.shell_grammar.specs.Reading.{plainly}
use Rattle.shell_printing.specs.PrintedTokens.{word_token, raw_of}
use Rattle.shell_printing.proofs.PhraseLayers.{phrase_plain, phrase_quoted, phrase_param, phrase_all}
use Rattle.shell_grammar.proofs.RunsLeftOut.{Seen as SeenPart}
use Rattle.shell_printing.proofs.Backs.{ReadsBack}
use Rattle.shell_lexer.proofs.SpelledCases.{some_same as somes}

-- whether the text may end where these tokens are left
abbrev pub may_end : Bool → Tokens → Bool
may_end last [] = last
may_end last (t ∷ ts) = false

-- a part without a substitution is printed as itself
pub rolled : (p : RawPart) (r : SeenPart) → out-RawPart p ≡ r → p ≡ roll-RawPart r
rolled p r e = sym (roll-out-RawPart p) ∙ ap roll-RawPart e

same_part_by : (p : RawPart) (r : SeenPart) (x : Part) → out-RawPart p ≡ r → plainly r ≡ Some x → raw_of x ≡ p
same_part_by p (o.Plain w) x e f = ap raw_of (sym (somes f)) ∙ phrase_plain w ∙ sym (rolled p (o.Plain w) e ∙ raw.rolls-Plain w)
same_part_by p (o.Quoted w) x e f = ap raw_of (sym (somes f)) ∙ phrase_quoted w ∙ sym (rolled p (o.Quoted w) e ∙ raw.rolls-Quoted w)
same_part_by p (o.Param key default quoted) x e f = ap raw_of (sym (somes f)) ∙ phrase_param key default quoted ∙ sym (rolled p (o.Param key default quoted) e ∙ raw.rolls-Param key default quoted)
same_part_by p o.All x e f = ap raw_of (sym (somes f)) ∙ phrase_all ∙ sym (rolled p o.All e ∙ raw.rolls-All)
same_part_by p (o.Run at ts quoted) x e f = absurd (cc f)

pub same_part : (p : RawPart) (x : Part) → plainly (out-RawPart p) ≡ Some x → raw_of x ≡ p
same_part p x e = same_part_by p (out-RawPart p) x refl e

module _ (deep : ℕ → Bool) where
  -- the same parts, but for what their substitutions hold, which is read back
  pub data Likes (d : ℕ) : List RawPart → List RawPart → Type 0 where
    likes_none : Likes d [] []
    likes_same : {p q : RawPart} {ps qs : List RawPart} (x : Part) → plainly (out-RawPart p) ≡ Some x → q ≡ p → Likes d ps qs → Likes d (p ∷ ps) (q ∷ qs)
    likes_run : {p q : RawPart} {ps qs : List RawPart} (at : ℕ) (ts us : Tokens) (quoted : Bool) → out-RawPart p ≡ o.Run at ts quoted → q ≡ raw.Run 0 us quoted
        → deep d ≡ false → ReadsBack deep (suc d) false us → Likes d ps qs → Likes d (p ∷ ps) (q ∷ qs)

  -- a word of these parts is read back, where something may come behind it unless it ends in a plain backslash
  abbrev pub WordBack : ℕ → List RawPart → List RawPart → Type 0
  WordBack d ps qs = (last : Bool) → (ends_in_backslash ps ≡ true → last ≡ true) → ReadsBack deep d last (word_token qs ∷ [])

  mutual
    -- tokens of a text, inside d substitutions; `last` says that the last one may be a word that ends in a backslash
    pub data Sound : ℕ → Bool → Tokens → Type 0 where
      no_token : {d : ℕ} {last : Bool} → Sound d last []
      other_token : {d : ℕ} {last : Bool} {t : Token} {ts : Tokens} → kind_word (out-TokenKind t.kind) ≡ None → Sound d last ts → Sound d last (t ∷ ts)
      word_token_of : {d : ℕ} {last : Bool} {t : Token} {ts : Tokens} (raws : List RawPart) → kind_word (out-TokenKind t.kind) ≡ Some raws → plain_runs_are_longest false raws ≡ true
          → ((qs : List RawPart) → Likes d raws qs → WordBack d raws qs) → (ends_in_backslash raws ≡ true → may_end last ts ≡ true) → SoundParts d raws → Sound d last ts → Sound d last (t ∷ ts)

    -- the tokens of the substitutions among the parts of a word
    pub data SoundParts : ℕ → List RawPart → Type 0 where
      no_part : {d : ℕ} → SoundParts d []
      other_part : {d : ℕ} {p : RawPart} {ps : List RawPart} (x : Part) → plainly (out-RawPart p) ≡ Some x → SoundParts d ps → SoundParts d (p ∷ ps)
      substitution : {d : ℕ} {p : RawPart} {ps : List RawPart} (at : ℕ) (ts : Tokens) (quoted : Bool) → out-RawPart p ≡ o.Run at ts quoted → deep d ≡ false → Sound (suc d) false ts
          → SoundParts d ps → SoundParts d (p ∷ ps)

  -- what is known of the word that stands first
  pub record FirstWord (d : ℕ) (last : Bool) (ts : Tokens) (raws : List RawPart) : Type 0 where
    pub longest : plain_runs_are_longest false raws ≡ true
    pub back : (qs : List RawPart) → Likes d raws qs → ReadsBack deep d (may_end last (behind ts)) (word_token qs ∷ [])
    pub parts : SoundParts d raws
    pub others : Sound d last (behind ts)

  pub first_word : {d : ℕ} {last : Bool} (ts : Tokens) (raws : List RawPart) → Sound d last ts → word ts ≡ Some raws → FirstWord d last ts raws
  first_word [] raws s e = absurd (cc e)
  first_word (t ∷ ts) raws (other_token f s) e = absurd (cc (sym f ∙ e))
  first_word {d} {last} (t ∷ ts) raws (word_token_of parts f l b n p s) e =
      subst (FirstWord d last (t ∷ ts)) (somes (sym f ∙ e)) (record { longest = l; back = λ qs k. b qs k (may_end last ts) n; parts = p; others = s })

  pub sound_behind : {d : ℕ} {last : Bool} (ts : Tokens) → Sound d last ts → Sound d last (behind ts)
  sound_behind [] s = s
  sound_behind (t ∷ ts) (other_token f s) = s
  sound_behind (t ∷ ts) (word_token_of parts f l b n p s) = s
