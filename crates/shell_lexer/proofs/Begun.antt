-- Where a token that is a word begins, the word isn't at its end.
use Rattle.std.proofs.Common.{◌≡◌, ℕ, ◌-◌, if◌then◌else◌, nat_eq, Bool, true, false, [], ◌∷◌, Option, Some, None, sym, ◌∙◌, drop, length}
use Rattle.shell_syntax.specs.declared.form.Form.TheVariants as form
use Rattle.shell_syntax.specs.declared.key.Key.{Key}
use Rattle.shell_syntax.specs.declared.key.Key.TheVariants.{Named, Arg, Count}
use Rattle.shell_syntax.specs.declared.redirect.Redirect.{Redirect}
use Rattle.shell_lexer.specs.declared.fault.LexFault.{LexFault}
use Rattle.shell_lexer.specs.declared.fault.LexFault.TheVariants.{OpenQuote, Unsupported}
use Rattle.shell_lexer.specs.declared.sight.Sign.{Sign}
use Rattle.shell_lexer.specs.declared.sight.Sign.TheVariants as sign
use Rattle.shell_lexer.specs.declared.token.RawPart.{RawPart}
use Rattle.shell_lexer.specs.declared.token.RawPart.TheVariants.{Quoted, Param}
use Rattle.shell_lexer.specs.declared.byte_kind.ByteKind.{ByteKind}
use Rattle.shell_lexer.specs.declared.byte_kind.ByteKind.TheVariants as kinds
use Rattle.shell_lexer.specs.declared.byte_kind.RunKind.TheVariants.{Names, Defaults}
use Rattle.shell_lexer.specs.Text.{Bytes, kind, skip, head_is, tail, run, behind}
use Rattle.shell_lexer.specs.Operators as operators
use Rattle.shell_lexer.specs.Operators.{sight_at, sight_by}
use Rattle.shell_lexer.specs.Parts as parts
use Rattle.shell_lexer.specs.Parts.{look, look_at, look_by}
use Rattle.shell_lexer.proofs.Fronts.{Here, at_here}

-- not the end of a word
abbrev pub NotEnd : parts.Look → Type 0
NotEnd l = l ≡ parts.Ends → ⊥

if_look : (b : Bool) (x y : parts.Look) → NotEnd x → NotEnd y → NotEnd (if b then x else y)
if_look true x y f g = f
if_look false x y f g = g

piece_on : (p : RawPart) (t : Bytes) → NotEnd (parts.Piece p t)
piece_on p t e = cc

byte_on : (b : ℕ) (t : Bytes) → NotEnd (parts.Byte b t)
byte_on b t e = cc

bad_on : (f : LexFault) → NotEnd (parts.Bad f)
bad_on f e = cc

closed_on : (quoted : Bool) (at : ℕ) (key : Key) (default : Option Bytes) (t : Bytes) → NotEnd (parts.closed quoted at key default t)
closed_on quoted at key default [] e = cc
closed_on quoted at key default (b ∷ rest) e = if_look (nat_eq b 125) _ _ (piece_on (Param key default quoted) rest) (bad_on (Unsupported form.Param at)) e

colon_on : (quoted : Bool) (at : ℕ) (key : Key) (t : Bytes) → NotEnd (parts.behind_colon quoted at key t)
colon_on quoted at key [] e = cc
colon_on quoted at key (b ∷ rest) e = if_look (nat_eq b 45) _ _ (closed_on quoted at key (Some (run Defaults rest)) (skip (behind Defaults rest))) (bad_on (Unsupported form.Param at)) e

key_on : (quoted : Bool) (at : ℕ) (key : Key) (t : Bytes) → NotEnd (parts.behind_key quoted at key t)
key_on quoted at key [] e = cc
key_on quoted at key (b ∷ rest) e = if_look (nat_eq b 58) _ _ (colon_on quoted at key (skip rest)) (closed_on quoted at key None (b ∷ rest)) e

braced_by_on : (quoted : Bool) (at b : ℕ) (k : ByteKind) (t : Bytes) → NotEnd (parts.braced_by quoted at b k t)
braced_by_on quoted at b kinds.Name t e = key_on quoted at (Named (run Names (b ∷ t))) (skip (behind Names (b ∷ t))) e
braced_by_on quoted at b kinds.Digit t e = if_look (nat_eq b 48) _ _ (bad_on (Unsupported form.Param at)) (key_on quoted at (Arg (b - 48)) (skip t)) e
braced_by_on quoted at b kinds.Hash t e = closed_on quoted at Count None (skip t) e
braced_by_on quoted at b _ t e = cc

braced_on : (quoted : Bool) (at : ℕ) (t : Bytes) → NotEnd (parts.braced quoted at t)
braced_on quoted at [] e = cc
braced_on quoted at (b ∷ t) e = braced_by_on quoted at b (kind b) t e

before_on : (quoted : Bool) (at : ℕ) (t : Bytes) → NotEnd (parts.before_quote quoted at t)
before_on true at t e = cc
before_on false at t e = cc

substitution_on : (t : Bytes) → NotEnd (parts.Substitution t)
substitution_on t e = cc

dollar_by_on : (quoted : Bool) (at : ℕ) (t : Bytes) (b : ℕ) (k : ByteKind) (more : Bytes) → NotEnd (parts.dollar_by quoted at t b k more)
dollar_by_on quoted at t b kinds.Open more e = if_look (head_is 40 (skip more)) _ _ (bad_on (Unsupported form.Arith at)) (substitution_on more) e
dollar_by_on quoted at t b kinds.Brace more e = braced_on quoted at (skip more) e
dollar_by_on quoted at t b kinds.Digit more e = if_look (nat_eq b 48) _ _ (bad_on (Unsupported form.Param at)) (piece_on (Param (Arg (b - 48)) None quoted) more) e
dollar_by_on quoted at t b kinds.Single more e = before_on quoted at t e
dollar_by_on quoted at t b kinds.Double more e = before_on quoted at t e
dollar_by_on quoted at t b _ more e = cc

dollar_on : (quoted : Bool) (at : ℕ) (t next : Bytes) → NotEnd (parts.dollar quoted at t next)
dollar_on quoted at t [] e = cc
dollar_on quoted at t (b ∷ more) e = dollar_by_on quoted at t b (kind b) more e

escaped_on : (b : ℕ) (t : Bytes) → NotEnd (parts.escaped b t)
escaped_on b [] e = cc
escaped_on b (c ∷ t) e = cc

-- not a word
abbrev pub NotWord : operators.Sight → Type 0
NotWord s = s ≡ operators.Word → ⊥

pub if_sight : (b : Bool) (x y : operators.Sight) → NotWord x → NotWord y → NotWord (if b then x else y)
if_sight true x y f g = f
if_sight false x y f g = g

pub operator_no : (s : Sign) (t : Bytes) → NotWord (operators.Operator s t)
operator_no s t e = cc

pub wrong_no : (f : LexFault) → NotWord (operators.Wrong f)
wrong_no f e = cc

redirected_no : (at : ℕ) (which : Option Redirect) (t : Option Bytes) → NotWord (operators.redirected at which t)
redirected_no at None t e = cc
redirected_no at (Some which) None e = cc
redirected_no at (Some which) (Some t) e = cc

copied_no : (at : ℕ) (number t : Bytes) → NotWord (operators.copied at number t)
copied_no at number [] e = cc
copied_no at number (b ∷ rest) e = redirected_no at (operators.copy_of number b) (operators.whole_word (Some rest)) e

pub less_no : (at : ℕ) (number t : Bytes) → NotWord (operators.less at number t)
less_no at number t e = if_sight (head_is 60 (skip t)) _ _ (wrong_no (Unsupported form.Heredoc at)) (redirected_no at (operators.in_from number) (operators.null_word t)) e

pub greater_no : (at : ℕ) (number t : Bytes) → NotWord (operators.greater at number t)
greater_no at number t e =
    if_sight (head_is 62 (skip t)) _ _ (redirected_no at (operators.out_to number) (operators.null_word (tail (skip t))))
    (if_sight (head_is 38 (skip t)) _ _ (copied_no at number (skip (tail (skip t)))) (redirected_no at (operators.out_to number) (operators.null_word t))) e

by_begun : (len at b : ℕ) (k : ByteKind) (t : Bytes) → sight_by len at b k t ≡ operators.Word → NotEnd (look_by at b k t)
by_begun len at b kinds.Blank t e f = cc
by_begun len at b kinds.Newline t e f = cc
by_begun len at b kinds.Semi t e f = if_sight (head_is 59 (skip t)) _ _ (operator_no sign.DoubleSemi (tail (skip t))) (operator_no sign.Semi t) e
by_begun len at b kinds.Amp t e f = if_sight (head_is 38 (skip t)) _ _ (operator_no sign.AndAnd (tail (skip t))) (wrong_no (Unsupported form.Background at)) e
by_begun len at b kinds.Bar t e f = if_sight (head_is 124 (skip t)) _ _ (operator_no sign.OrOr (tail (skip t))) (operator_no sign.Bar t) e
by_begun len at b kinds.Open t e f = if_sight (head_is 40 (skip t)) _ _ (wrong_no (Unsupported form.Arith at)) (operator_no sign.LeftParen t) e
by_begun len at b kinds.Close t e f = cc
by_begun len at b kinds.Less t e f = less_no at [] t e
by_begun len at b kinds.Greater t e f = greater_no at [] t e
by_begun len at b kinds.Single t e f = if_look (parts.has_quote t) _ _ (piece_on (Quoted (parts.quote_body t)) (parts.behind_quote t)) (bad_on (OpenQuote at)) f
by_begun len at b kinds.Back t e f = escaped_on b t f
by_begun len at b kinds.Dollar t e f = dollar_on false at t (skip t) f
by_begun len at b _ t e f = cc

pub begun : (len at : ℕ) (t : Bytes) → sight_at len at t ≡ operators.Word → NotEnd (look_at at t)
begun len at [] e f = cc
begun len at (b ∷ rest) e f = by_begun len at b (kind b) rest e f

pub word_begun : (text : Bytes) (p here : ℕ) → Here text p here → operators.Word ≡ sight_at (length text) here (drop here text) → look (length text) (drop p text) ≡ parts.Ends → ⊥
word_begun text p here h e f = begun (length text) here (drop here text) (sym e) (sym (at_here look_at text p here h) ∙ f)
