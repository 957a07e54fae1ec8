-- Tokens without their substitutions look the same.
use Rattle.std.proofs.Common.{◌≡◌, ℕ, List, [], ◌∷◌, ◌++◌, Option, Some, None, refl, sym, ap, ◌∙◌}
use Rattle.shell_syntax.specs.declared.syntax.Part.{Part}
use Rattle.shell_syntax.specs.declared.syntax.Part.TheVariants as part
use Rattle.shell_lexer.specs.declared.token.Token.{Token}
use Rattle.shell_lexer.specs.declared.token.TokenKind.{TokenKind, out-TokenKind, out-roll-TokenKind}
use Rattle.shell_lexer.specs.declared.token.TokenKind.TheVariants as token
use Rattle.shell_lexer.specs.declared.token.RawPart.{RawPart, out-RawPart, out-roll-RawPart}
use Rattle.shell_lexer.specs.declared.token.RawPart.TheVariants as raw
use Rattle.shell_lexer.specs.declared.token.RawPart.TheOpen as o
use Rattle.shell_grammar.specs.Look.{Tokens, look, word, behind, place, kind_look, kind_word, word_look, first_look}
use Rattle.shell_grammar.specs.WithoutRuns.{part_without_runs, parts_without_runs, kind_without_runs, token_without_runs, without_runs}
use Rattle.shell_grammar.specs.Reading.{Faultless, plainly, IsParts, no_parts, plain_part}
use Rattle.shell_grammar.specs.Spelling.{no_limit}

abbrev pub Seen : Type 0
Seen = o.RawPart-F RawPart TokenKind Token

seen_quoted : out-RawPart (raw.Quoted []) ≡ o.Quoted []
seen_quoted = ap out-RawPart (sym (raw.rolls-Quoted [])) ∙ out-roll-RawPart (o.Quoted [])

seen_word : (ps : List RawPart) → out-TokenKind (token.Word ps) ≡ o.Word ps
seen_word ps = ap out-TokenKind (sym (token.rolls-Word ps)) ∙ out-roll-TokenKind (o.Word ps)

first_without_runs : (r : Seen) (p : RawPart) (ps : List RawPart) → out-RawPart p ≡ r → first_look (out-RawPart (part_without_runs r p)) (parts_without_runs ps) ≡ first_look r ps
first_without_runs (o.Plain w) p [] e = ap (λ r. first_look r []) e
first_without_runs (o.Plain w) p (q ∷ ps) e = ap (λ r. first_look r (parts_without_runs (q ∷ ps))) e
first_without_runs (o.Quoted w) p ps e = ap (λ r. first_look r (parts_without_runs ps)) e
first_without_runs (o.Param k v b) p ps e = ap (λ r. first_look r (parts_without_runs ps)) e
first_without_runs o.All p ps e = ap (λ r. first_look r (parts_without_runs ps)) e
first_without_runs (o.Run at ts b) p ps e = ap (λ r. first_look r (parts_without_runs ps)) seen_quoted

word_look_without_runs : (ps : List RawPart) → word_look (parts_without_runs ps) ≡ word_look ps
word_look_without_runs [] = refl
word_look_without_runs (p ∷ ps) = first_without_runs (out-RawPart p) p ps refl

kind_look_without_runs : (s : o.TokenKind-F RawPart TokenKind Token) (k : TokenKind) → out-TokenKind k ≡ s → kind_look (out-TokenKind (kind_without_runs s k)) ≡ kind_look s
kind_look_without_runs (o.Word ps) k e = ap kind_look (seen_word (parts_without_runs ps)) ∙ word_look_without_runs ps
kind_look_without_runs _ k e = ap kind_look e

pub look_without_runs : (ts : Tokens) → look (without_runs ts) ≡ look ts
look_without_runs [] = refl
look_without_runs (t ∷ ts) = kind_look_without_runs (out-TokenKind t.kind) t.kind refl

pub place_without_runs : (end : ℕ) (ts : Tokens) → place end (without_runs ts) ≡ place end ts
place_without_runs end [] = refl
place_without_runs end (t ∷ ts) = refl

pub behind_without_runs : (ts : Tokens) → behind (without_runs ts) ≡ without_runs (behind ts)
behind_without_runs [] = refl
behind_without_runs (t ∷ ts) = refl

abbrev pub option_without_runs : Option (List RawPart) → Option (List RawPart)
option_without_runs (Some ps) = Some (parts_without_runs ps)
option_without_runs None = None

kind_word_without_runs : (s : o.TokenKind-F RawPart TokenKind Token) (k : TokenKind) → out-TokenKind k ≡ s → kind_word (out-TokenKind (kind_without_runs s k)) ≡ option_without_runs (kind_word s)
kind_word_without_runs (o.Word ps) k e = ap kind_word (seen_word (parts_without_runs ps))
kind_word_without_runs o.Newline k e = ap kind_word e
kind_word_without_runs o.Semi k e = ap kind_word e
kind_word_without_runs o.DoubleSemi k e = ap kind_word e
kind_word_without_runs o.AndAnd k e = ap kind_word e
kind_word_without_runs o.OrOr k e = ap kind_word e
kind_word_without_runs o.Bar k e = ap kind_word e
kind_word_without_runs o.LeftParen k e = ap kind_word e
kind_word_without_runs o.RightParen k e = ap kind_word e
kind_word_without_runs (o.Redirect which) k e = ap kind_word e

pub word_without_runs : (ts : Tokens) → word (without_runs ts) ≡ option_without_runs (word ts)
word_without_runs [] = refl
word_without_runs (t ∷ ts) = kind_word_without_runs (out-TokenKind t.kind) t.kind refl

-- a without_runs part holds no substitution
plain_without_runs : (r : Seen) (p : RawPart) → out-RawPart p ≡ r → (x : Part) × (plainly (out-RawPart (part_without_runs r p)) ≡ Some x)
plain_without_runs (o.Plain w) p e = (part.Plain w, ap plainly e)
plain_without_runs (o.Quoted w) p e = (part.Quoted w, ap plainly e)
plain_without_runs (o.Param k v b) p e = (part.Param k v b, ap plainly e)
plain_without_runs o.All p e = (part.All, ap plainly e)
plain_without_runs (o.Run at ts b) p e = (part.Quoted [], ap plainly seen_quoted)

-- the parts of a without_runs word are faultless
pub faultless_without_runs : (d : ℕ) (ps : List RawPart) → (xs : List Part) × IsParts no_limit d (parts_without_runs ps) (Faultless xs)
faultless_without_runs d [] = ([], no_parts refl)
faultless_without_runs d (p ∷ ps) =
    let x = plain_without_runs (out-RawPart p) p refl in
    let m = faultless_without_runs d ps in
    (x.0 ∷ m.0, plain_part x.0 (Faultless m.0) x.1 m.1 refl)

pub append_without_runs : (u r : Tokens) → without_runs (u ++ r) ≡ without_runs u ++ without_runs r
append_without_runs [] r = refl
append_without_runs (t ∷ u) r = ap (λ x. token_without_runs t ∷ x) (append_without_runs u r)
