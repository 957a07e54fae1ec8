-- Tokens with every offset 0 look as they did.
use Rattle.std.proofs.Common.{◌≡◌, ℕ, Bool, List, [], ◌∷◌, map, Option, Some, None, refl, sym, ap, ◌∙◌}
use Rattle.shell_lexer.specs.declared.token.Token.{Token}
use Rattle.shell_lexer.specs.declared.token.TokenKind.{TokenKind, roll-TokenKind, out-TokenKind, out-roll-TokenKind, roll-out-TokenKind}
use Rattle.shell_lexer.specs.declared.token.TokenKind.TheVariants as token
use Rattle.shell_lexer.specs.declared.token.RawPart.{RawPart, roll-RawPart, out-RawPart, out-roll-RawPart, roll-out-RawPart}
use Rattle.shell_lexer.specs.declared.token.RawPart.TheVariants as raw
use Rattle.shell_lexer.specs.declared.token.RawPart.TheOpen as o
use Rattle.shell_lexer.specs.declared.token.RawPart.TheFolds.{fold-roll-RawPart, fold-roll-TokenKind, fold_out-Token}
use Rattle.shell_grammar.specs.Look.{Tokens, look, word, behind, kind_look, kind_word, word_look, first_look}
use Rattle.shell_grammar.specs.Reading.{plainly}
use Rattle.shell_printing.specs.Zeroed.{raw_layer, kind_layer, token_layer, zeroed_raw, zeroed_kind, zeroed_token, zeroed_tokens}
use Rattle.shell_grammar.proofs.RunsLeftOut.{Seen as SeenPart}

abbrev pub SeenKind : Type 0
SeenKind = o.TokenKind-F RawPart TokenKind Token

-- ---- each kind of token, and of part, is seen as what it is

pub seen_kind : (s : SeenKind) → out-TokenKind (kind_layer s) ≡ s
seen_kind (o.Word ps) = ap out-TokenKind (sym (token.rolls-Word ps)) ∙ out-roll-TokenKind (o.Word ps)
seen_kind o.Newline = ap out-TokenKind (sym token.rolls-Newline) ∙ out-roll-TokenKind o.Newline
seen_kind o.Semi = ap out-TokenKind (sym token.rolls-Semi) ∙ out-roll-TokenKind o.Semi
seen_kind o.DoubleSemi = ap out-TokenKind (sym token.rolls-DoubleSemi) ∙ out-roll-TokenKind o.DoubleSemi
seen_kind o.AndAnd = ap out-TokenKind (sym token.rolls-AndAnd) ∙ out-roll-TokenKind o.AndAnd
seen_kind o.OrOr = ap out-TokenKind (sym token.rolls-OrOr) ∙ out-roll-TokenKind o.OrOr
seen_kind o.Bar = ap out-TokenKind (sym token.rolls-Bar) ∙ out-roll-TokenKind o.Bar
seen_kind o.LeftParen = ap out-TokenKind (sym token.rolls-LeftParen) ∙ out-roll-TokenKind o.LeftParen
seen_kind o.RightParen = ap out-TokenKind (sym token.rolls-RightParen) ∙ out-roll-TokenKind o.RightParen
seen_kind (o.Redirect which) = ap out-TokenKind (sym (token.rolls-Redirect which)) ∙ out-roll-TokenKind (o.Redirect which)

pub seen_plain : (w : List ℕ) → out-RawPart (raw.Plain w) ≡ o.Plain w
seen_plain w = ap out-RawPart (sym (raw.rolls-Plain w)) ∙ out-roll-RawPart (o.Plain w)

pub seen_quoted : (w : List ℕ) → out-RawPart (raw.Quoted w) ≡ o.Quoted w
seen_quoted w = ap out-RawPart (sym (raw.rolls-Quoted w)) ∙ out-roll-RawPart (o.Quoted w)

pub seen_param : (key : _) (default : _) (quoted : Bool) → out-RawPart (raw.Param key default quoted) ≡ o.Param key default quoted
seen_param key default quoted = ap out-RawPart (sym (raw.rolls-Param key default quoted)) ∙ out-roll-RawPart (o.Param key default quoted)

pub seen_all : out-RawPart raw.All ≡ o.All
seen_all = ap out-RawPart (sym raw.rolls-All) ∙ out-roll-RawPart o.All

pub seen_run : (at : ℕ) (ts : Tokens) (quoted : Bool) → out-RawPart (raw.Run at ts quoted) ≡ o.Run at ts quoted
seen_run at ts quoted = ap out-RawPart (sym (raw.rolls-Run at ts quoted)) ∙ out-roll-RawPart (o.Run at ts quoted)

-- ---- with every offset 0

abbrev zeroed_seen_kind : SeenKind → SeenKind
zeroed_seen_kind (o.Word ps) = o.Word (map zeroed_raw ps)
zeroed_seen_kind s = s

abbrev pub zeroed_seen : SeenPart → SeenPart
zeroed_seen (o.Run at ts quoted) = o.Run 0 (zeroed_tokens ts) quoted
zeroed_seen r = r

kind_by : (s : SeenKind) (k : TokenKind) → out-TokenKind k ≡ s → zeroed_kind k ≡ zeroed_kind (roll-TokenKind s)
kind_by s k e = ap zeroed_kind (sym (roll-out-TokenKind k) ∙ ap roll-TokenKind e)

kind_out : (s : SeenKind) (k : TokenKind) → out-TokenKind k ≡ s → out-TokenKind (zeroed_kind k) ≡ zeroed_seen_kind s
kind_out (o.Word ps) k e = ap out-TokenKind (kind_by (o.Word ps) k e ∙ fold-roll-TokenKind RawPart TokenKind Token raw_layer kind_layer token_layer (o.Word ps)) ∙ seen_kind (o.Word (map zeroed_raw ps))
kind_out o.Newline k e = ap out-TokenKind (kind_by o.Newline k e ∙ fold-roll-TokenKind RawPart TokenKind Token raw_layer kind_layer token_layer o.Newline) ∙ seen_kind o.Newline
kind_out o.Semi k e = ap out-TokenKind (kind_by o.Semi k e ∙ fold-roll-TokenKind RawPart TokenKind Token raw_layer kind_layer token_layer o.Semi) ∙ seen_kind o.Semi
kind_out o.DoubleSemi k e = ap out-TokenKind (kind_by o.DoubleSemi k e ∙ fold-roll-TokenKind RawPart TokenKind Token raw_layer kind_layer token_layer o.DoubleSemi) ∙ seen_kind o.DoubleSemi
kind_out o.AndAnd k e = ap out-TokenKind (kind_by o.AndAnd k e ∙ fold-roll-TokenKind RawPart TokenKind Token raw_layer kind_layer token_layer o.AndAnd) ∙ seen_kind o.AndAnd
kind_out o.OrOr k e = ap out-TokenKind (kind_by o.OrOr k e ∙ fold-roll-TokenKind RawPart TokenKind Token raw_layer kind_layer token_layer o.OrOr) ∙ seen_kind o.OrOr
kind_out o.Bar k e = ap out-TokenKind (kind_by o.Bar k e ∙ fold-roll-TokenKind RawPart TokenKind Token raw_layer kind_layer token_layer o.Bar) ∙ seen_kind o.Bar
kind_out o.LeftParen k e = ap out-TokenKind (kind_by o.LeftParen k e ∙ fold-roll-TokenKind RawPart TokenKind Token raw_layer kind_layer token_layer o.LeftParen) ∙ seen_kind o.LeftParen
kind_out o.RightParen k e = ap out-TokenKind (kind_by o.RightParen k e ∙ fold-roll-TokenKind RawPart TokenKind Token raw_layer kind_layer token_layer o.RightParen) ∙ seen_kind o.RightParen
kind_out (o.Redirect which) k e = ap out-TokenKind (kind_by (o.Redirect which) k e ∙ fold-roll-TokenKind RawPart TokenKind Token raw_layer kind_layer token_layer (o.Redirect which)) ∙ seen_kind (o.Redirect which)

raw_by : (r : SeenPart) (p : RawPart) → out-RawPart p ≡ r → zeroed_raw p ≡ zeroed_raw (roll-RawPart r)
raw_by r p e = ap zeroed_raw (sym (roll-out-RawPart p) ∙ ap roll-RawPart e)

pub raw_out : (r : SeenPart) (p : RawPart) → out-RawPart p ≡ r → out-RawPart (zeroed_raw p) ≡ zeroed_seen r
raw_out (o.Plain w) p e = ap out-RawPart (raw_by (o.Plain w) p e ∙ fold-roll-RawPart RawPart TokenKind Token raw_layer kind_layer token_layer (o.Plain w)) ∙ seen_plain w
raw_out (o.Quoted w) p e = ap out-RawPart (raw_by (o.Quoted w) p e ∙ fold-roll-RawPart RawPart TokenKind Token raw_layer kind_layer token_layer (o.Quoted w)) ∙ seen_quoted w
raw_out (o.Param key default quoted) p e = ap out-RawPart (raw_by (o.Param key default quoted) p e ∙ fold-roll-RawPart RawPart TokenKind Token raw_layer kind_layer token_layer (o.Param key default quoted)) ∙ seen_param key default quoted
raw_out o.All p e = ap out-RawPart (raw_by o.All p e ∙ fold-roll-RawPart RawPart TokenKind Token raw_layer kind_layer token_layer o.All) ∙ seen_all
raw_out (o.Run at ts quoted) p e = ap out-RawPart (raw_by (o.Run at ts quoted) p e ∙ fold-roll-RawPart RawPart TokenKind Token raw_layer kind_layer token_layer (o.Run at ts quoted)) ∙ seen_run 0 (zeroed_tokens ts) quoted

token_kind : (t : Token) → (zeroed_token t).kind ≡ zeroed_kind t.kind
token_kind t = ap (λ (t : Token). t.kind) (fold_out-Token RawPart TokenKind Token raw_layer kind_layer token_layer t)

-- ---- how they look

first_zeroed : (r : SeenPart) (p : RawPart) (ps : List RawPart) → out-RawPart p ≡ r → first_look (out-RawPart (zeroed_raw p)) (map zeroed_raw ps) ≡ first_look r ps
first_zeroed (o.Plain w) p [] e = ap (λ r. first_look r []) (raw_out (o.Plain w) p e)
first_zeroed (o.Plain w) p (q ∷ ps) e = ap (λ r. first_look r (map zeroed_raw (q ∷ ps))) (raw_out (o.Plain w) p e)
first_zeroed (o.Quoted w) p ps e = ap (λ r. first_look r (map zeroed_raw ps)) (raw_out (o.Quoted w) p e)
first_zeroed (o.Param key default quoted) p ps e = ap (λ r. first_look r (map zeroed_raw ps)) (raw_out (o.Param key default quoted) p e)
first_zeroed o.All p ps e = ap (λ r. first_look r (map zeroed_raw ps)) (raw_out o.All p e)
first_zeroed (o.Run at ts quoted) p ps e = ap (λ r. first_look r (map zeroed_raw ps)) (raw_out (o.Run at ts quoted) p e)

word_look_zeroed : (ps : List RawPart) → word_look (map zeroed_raw ps) ≡ word_look ps
word_look_zeroed [] = refl
word_look_zeroed (p ∷ ps) = first_zeroed (out-RawPart p) p ps refl

kind_look_zeroed : (s : SeenKind) → kind_look (zeroed_seen_kind s) ≡ kind_look s
kind_look_zeroed (o.Word ps) = word_look_zeroed ps
kind_look_zeroed _ = refl

look_zeroed : (ts : Tokens) → look (zeroed_tokens ts) ≡ look ts
look_zeroed [] = refl
look_zeroed (t ∷ ts) = ap (λ k. kind_look (out-TokenKind k)) (token_kind t) ∙ ap kind_look (kind_out (out-TokenKind t.kind) t.kind refl) ∙ kind_look_zeroed (out-TokenKind t.kind)

pub same_look : (ts us : Tokens) → zeroed_tokens ts ≡ zeroed_tokens us → look us ≡ look ts
same_look ts us e = sym (look_zeroed us) ∙ ap look (sym e) ∙ look_zeroed ts

behind_zeroed : (ts : Tokens) → zeroed_tokens (behind ts) ≡ behind (zeroed_tokens ts)
behind_zeroed [] = refl
behind_zeroed (t ∷ ts) = refl

pub same_behind : (ts us : Tokens) → zeroed_tokens ts ≡ zeroed_tokens us → zeroed_tokens (behind ts) ≡ zeroed_tokens (behind us)
same_behind ts us e = behind_zeroed ts ∙ ap behind e ∙ sym (behind_zeroed us)

-- ---- words

abbrev zeroed_option : Option (List RawPart) → Option (List RawPart)
zeroed_option None = None
zeroed_option (Some ps) = Some (map zeroed_raw ps)

kind_word_zeroed : (s : SeenKind) → kind_word (zeroed_seen_kind s) ≡ zeroed_option (kind_word s)
kind_word_zeroed (o.Word ps) = refl
kind_word_zeroed _ = refl

word_zeroed : (ts : Tokens) → word (zeroed_tokens ts) ≡ zeroed_option (word ts)
word_zeroed [] = refl
word_zeroed (t ∷ ts) = ap (λ k. kind_word (out-TokenKind k)) (token_kind t) ∙ ap kind_word (kind_out (out-TokenKind t.kind) t.kind refl) ∙ kind_word_zeroed (out-TokenKind t.kind)

pub same_word : (ts us : Tokens) (raws : List RawPart) → zeroed_tokens ts ≡ zeroed_tokens us → word ts ≡ Some raws → (others : List RawPart) × (word us ≡ Some others) × (map zeroed_raw raws ≡ map zeroed_raw others)
same_word ts us raws e w = by (word us) refl where
  found : zeroed_option (word us) ≡ Some (map zeroed_raw raws)
  found = sym (word_zeroed us) ∙ ap word (sym e) ∙ word_zeroed ts ∙ ap zeroed_option w

  by : (it : Option (List RawPart)) → word us ≡ it → (others : List RawPart) × (word us ≡ Some others) × (map zeroed_raw raws ≡ map zeroed_raw others)
  by None g = absurd (cc (sym (ap zeroed_option g) ∙ found))
  by (Some others) g = (others, g, cc (sym (ap zeroed_option g) ∙ found))

-- ---- parts

plainly_zeroed : (r : SeenPart) → plainly (zeroed_seen r) ≡ plainly r
plainly_zeroed (o.Run at ts quoted) = refl
plainly_zeroed _ = refl

pub same_plainly : (p q : RawPart) → zeroed_raw p ≡ zeroed_raw q → plainly (out-RawPart q) ≡ plainly (out-RawPart p)
same_plainly p q e =
    sym (plainly_zeroed (out-RawPart q)) ∙ sym (ap plainly (raw_out (out-RawPart q) q refl)) ∙ ap (λ p. plainly (out-RawPart p)) (sym e)
    ∙ ap plainly (raw_out (out-RawPart p) p refl) ∙ plainly_zeroed (out-RawPart p)

pub record SameRun (ts : Tokens) (quoted : Bool) (q : RawPart) : Type 0 where
  pub at : ℕ
  pub tokens : Tokens
  pub is : out-RawPart q ≡ o.Run at tokens quoted
  pub same : zeroed_tokens ts ≡ zeroed_tokens tokens

run_seen : (ts : Tokens) (quoted : Bool) (q : RawPart) (r : SeenPart) → out-RawPart q ≡ r → zeroed_seen r ≡ o.Run 0 (zeroed_tokens ts) quoted → SameRun ts quoted q
run_seen ts quoted q (o.Run at us other) e f =
    let g : other ≡ quoted = cc in
    record { at = at; tokens = us; is = e ∙ ap (o.Run at us) g; same = cc }
run_seen ts quoted q (o.Plain w) e f = absurd (cc f)
run_seen ts quoted q (o.Quoted w) e f = absurd (cc f)
run_seen ts quoted q (o.Param key default it) e f = absurd (cc f)
run_seen ts quoted q o.All e f = absurd (cc f)

pub same_run : (p q : RawPart) (at : ℕ) (ts : Tokens) (quoted : Bool) → zeroed_raw p ≡ zeroed_raw q → out-RawPart p ≡ o.Run at ts quoted → SameRun ts quoted q
same_run p q at ts quoted e f = run_seen ts quoted q (out-RawPart q) refl (sym (raw_out (out-RawPart q) q refl) ∙ ap out-RawPart (sym e) ∙ raw_out (o.Run at ts quoted) p f)
