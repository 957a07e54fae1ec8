-- The reading of a text: rules from what stands at a place to the tokens, or to the first fault
-- (POSIX.1-2017, XCU 2.3 Token Recognition; what is not supported is this project's own choice).
use Rattle.std.specs.Prelude.{◌≡◌, ℕ, zero, suc, ◌+◌, ◌-◌, Bool, true, false, List, [], ◌∷◌, ◌++◌, Some, None}
use Rattle.shell_lexer.specs.declared.sight.Sign.{Sign}
use Rattle.shell_lexer.specs.declared.sight.Sign.TheVariants as sign
use Rattle.shell_lexer.specs.declared.sight.ByteNote.{ByteNote}
use Rattle.shell_lexer.specs.declared.sight.ByteNote.TheVariants as note
use Rattle.shell_lexer.specs.declared.fault.LexFault.{LexFault}
use Rattle.shell_lexer.specs.declared.fault.LexFault.TheVariants.{OpenQuote, OpenSubstitution, Deep}
use Rattle.shell_lexer.specs.declared.token.Token.{Token, roll-Token}
use Rattle.shell_lexer.specs.declared.token.RawPart.{RawPart}
use Rattle.shell_lexer.specs.declared.token.RawPart.TheVariants as part
use Rattle.shell_lexer.specs.declared.token.TokenKind.{TokenKind}
use Rattle.shell_lexer.specs.declared.token.TokenKind.TheVariants as token
use Rattle.shell_lexer.specs.Text.{Bytes, offset}
use Rattle.shell_lexer.specs.Operators.{End, Passed, Operator, Wrong, Word, sight}
use Rattle.shell_lexer.specs.Parts.{Ends, Byte, Piece, AllArgs, DoubleQuote, Substitution, Bad, look, inner}
use Rattle.shell_lexer.specs.Late.{late}

-- a value and the text behind it, or the first fault
pub data Out (A : Type 0) : Type 0 where
  Whole : (value : A) (rest : Bytes) → Out A
  Stop : (fault : LexFault) → Out A

-- some first members before those that are read, or the fault
abbrev pub behind : {A : Type 0} → List A → Out (List A) → Out (List A)
behind xs (Whole ys rest) = Whole (xs ++ ys) rest
behind xs (Stop fault) = Stop fault

-- ---- words

-- the parts of a word, or of what stands in double quotes, and its notes
abbrev pub Read : Type 0
Read = List RawPart × List ByteNote

-- some first parts and notes before those that are read, or the fault
abbrev pub grown : List RawPart → List ByteNote → Out Read → Out Read
grown ps ms (Whole v rest) = Whole (ps ++ v.0, ms ++ v.1) rest
grown ps ms (Stop fault) = Stop fault

-- a run of plain bytes is a part, where it has one
abbrev pub plain_run : Bytes → List RawPart
plain_run [] = []
plain_run (b ∷ run) = part.Plain (b ∷ run) ∷ []

-- a run of quoted bytes is a part, where it has one
abbrev pub quoted_run : Bytes → List RawPart
quoted_run [] = []
quoted_run (b ∷ run) = part.Quoted (b ∷ run) ∷ []

-- a run of bytes in double quotes, or of plain ones, is a part, where it has one
abbrev pub either_run : Bool → Bytes → List RawPart
either_run true run = quoted_run run
either_run false run = plain_run run

-- the last part of double quotes; those that hold nothing have an empty one
abbrev pub last_run : Bool → Bytes → List RawPart
last_run true [] = part.Quoted [] ∷ []
last_run _ run = quoted_run run

-- ---- tokens

-- the token that an operator or a redirection is
abbrev pub kind_of_sign : Sign → TokenKind
kind_of_sign sign.Newline = token.Newline
kind_of_sign sign.Semi = token.Semi
kind_of_sign sign.DoubleSemi = token.DoubleSemi
kind_of_sign sign.AndAnd = token.AndAnd
kind_of_sign sign.OrOr = token.OrOr
kind_of_sign sign.Bar = token.Bar
kind_of_sign sign.LeftParen = token.LeftParen
kind_of_sign sign.RightParen = token.RightParen
kind_of_sign (sign.Redirect which) = token.Redirect which

-- the token of this kind that begins at a place
abbrev pub token_at : ℕ → TokenKind → Token
token_at at k = roll-Token (record { at = at; kind = k })

-- how many parentheses of its own a substitution has open behind an operator
abbrev pub opened : Sign → ℕ → ℕ
opened sign.LeftParen n = n + 1
opened sign.RightParen n = n - 1
opened _ n = n

-- whether the operator closes the substitution
abbrev pub closes : ℕ → ℕ → Sign → Bool
closes (suc d) zero sign.RightParen = true
closes _ _ _ = false

-- at the text's end; inside a substitution the innermost open one is the fault
abbrev pub ended : ℕ → ℕ → Out (List Token)
ended zero from = Whole [] []
ended (suc d) from = Stop (OpenSubstitution from)

-- Readings of a text of len bytes from a place on, which is given by the rest of the text. `deep` is the limit of
-- substitutions (specs/Depth.antt).
module _ (deep : ℕ → Bool) (len : ℕ) where
  mutual
    -- the tokens from a place on, inside depth substitutions, of which the innermost began at `from` and has so many
    -- parentheses of its own open
    pub data IsItems : ℕ → ℕ → ℕ → Bytes → Out (List Token) → Type 0 where
      -- the text ends
      items_end : {depth from parens : ℕ} {text : Bytes} {q : Out (List Token)}
          → sight len text ≡ End → q ≡ ended depth from → IsItems depth from parens text q
      -- a blank or a comment is passed over
      items_pass : {depth from parens : ℕ} {text : Bytes} {q : Out (List Token)} (rest : Bytes)
          → sight len text ≡ Passed rest → IsItems depth from parens rest q → IsItems depth from parens text q
      -- a form that is not supported stands there
      items_wrong : {depth from parens : ℕ} {text : Bytes} {q : Out (List Token)} (fault : LexFault)
          → sight len text ≡ Wrong fault → q ≡ Stop fault → IsItems depth from parens text q
      -- the substitution is closed
      items_close : {depth from parens : ℕ} {text : Bytes} {q : Out (List Token)} (s : Sign) (rest : Bytes)
          → sight len text ≡ Operator s rest → closes depth parens s ≡ true → q ≡ Whole [] rest
          → IsItems depth from parens text q
      -- an operator or a redirection
      items_sign : {depth from parens : ℕ} {text : Bytes} {q : Out (List Token)}
          (s : Sign) (rest : Bytes) (q1 : Out (List Token))
          → sight len text ≡ Operator s rest → closes depth parens s ≡ false
          → IsItems depth from (opened s parens) rest q1
          → q ≡ behind (token_at (offset len text) (kind_of_sign s) ∷ []) q1 → IsItems depth from parens text q
      -- a word
      items_word : {depth from parens : ℕ} {text : Bytes} {q : Out (List Token)}
          (v : Read) (rest : Bytes) (q1 : Out (List Token))
          → sight len text ≡ Word → IsWord depth [] text (Whole v rest) → late depth (offset len text) v.1 ≡ None
          → IsItems depth from parens rest q1
          → q ≡ behind (token_at (offset len text) (token.Word v.0) ∷ []) q1 → IsItems depth from parens text q
      -- a word with a form that is looked for once it is whole
      items_late : {depth from parens : ℕ} {text : Bytes} {q : Out (List Token)}
          (v : Read) (rest : Bytes) (fault : LexFault)
          → sight len text ≡ Word → IsWord depth [] text (Whole v rest)
          → late depth (offset len text) v.1 ≡ Some fault
          → q ≡ Stop fault → IsItems depth from parens text q
      -- a word with a part that is no whole part, or not supported
      items_bad : {depth from parens : ℕ} {text : Bytes} {q : Out (List Token)} (fault : LexFault)
          → sight len text ≡ Word → IsWord depth [] text (Stop fault) → q ≡ Stop fault
          → IsItems depth from parens text q

    -- the rest of a word behind a run of plain bytes
    pub data IsWord : ℕ → Bytes → Bytes → Out Read → Type 0 where
      -- the word ends
      word_ends : {depth : ℕ} {run text : Bytes} {q : Out Read}
          → look len text ≡ Ends → q ≡ Whole (plain_run run, []) text → IsWord depth run text q
      -- one more plain byte
      word_byte : {depth : ℕ} {run text : Bytes} {q : Out Read} (b : ℕ) (rest : Bytes) (q1 : Out Read)
          → look len text ≡ Byte b rest → IsWord depth (run ++ b ∷ []) rest q1
          → q ≡ grown [] (note.Plain b (offset len text) ∷ []) q1 → IsWord depth run text q
      -- a part that holds no others
      word_piece : {depth : ℕ} {run text : Bytes} {q : Out Read} (p : RawPart) (rest : Bytes) (q1 : Out Read)
          → look len text ≡ Piece p rest → IsWord depth [] rest q1
          → q ≡ grown (plain_run run ++ p ∷ []) (note.Gap ∷ []) q1 → IsWord depth run text q
      -- `$@`
      word_all : {depth : ℕ} {run text : Bytes} {q : Out Read} (rest : Bytes) (q1 : Out Read)
          → look len text ≡ AllArgs rest → IsWord depth [] rest q1
          → q ≡ grown (plain_run run ++ part.All ∷ []) (note.All (offset len text) false ∷ []) q1
          → IsWord depth run text q
      -- double quotes
      word_double : {depth : ℕ} {run text : Bytes} {q : Out Read}
          (begin : Bytes) (v : Read) (rest : Bytes) (q1 : Out Read)
          → look len text ≡ DoubleQuote begin → IsInner depth (offset len text) true [] begin (Whole v rest)
          → IsWord depth [] rest q1
          → q ≡ grown (plain_run run ++ v.0) (v.1 ++ note.Gap ∷ []) q1 → IsWord depth run text q
      -- a substitution
      word_run : {depth : ℕ} {run text : Bytes} {q : Out Read}
          (begin : Bytes) (ts : List Token) (rest : Bytes) (q1 : Out Read)
          → look len text ≡ Substitution begin → IsSub depth (offset len text) begin (Whole ts rest)
          → IsWord depth [] rest q1
          → q ≡ grown (plain_run run ++ part.Run (offset len text) ts false ∷ []) (note.Gap ∷ []) q1
          → IsWord depth run text q
      -- a part that is no whole part, or not supported; the same in double quotes, and in a substitution
      word_wrong : {depth : ℕ} {run text : Bytes} {q : Out Read} (fault : LexFault)
          → look len text ≡ Bad fault → q ≡ Stop fault → IsWord depth run text q
      word_bad_double : {depth : ℕ} {run text : Bytes} {q : Out Read} (begin : Bytes) (fault : LexFault)
          → look len text ≡ DoubleQuote begin → IsInner depth (offset len text) true [] begin (Stop fault)
          → q ≡ Stop fault → IsWord depth run text q
      word_bad_run : {depth : ℕ} {run text : Bytes} {q : Out Read} (begin : Bytes) (fault : LexFault)
          → look len text ≡ Substitution begin → IsSub depth (offset len text) begin (Stop fault)
          → q ≡ Stop fault → IsWord depth run text q

    -- the rest of what stands in double quotes that began at `from`, behind a run of its bytes; fresh: no part came
    -- yet
    pub data IsInner : ℕ → ℕ → Bool → Bytes → Bytes → Out Read → Type 0 where
      -- the text ends
      inner_open : {depth from : ℕ} {fresh : Bool} {run text : Bytes} {q : Out Read}
          → inner len text ≡ Ends → q ≡ Stop (OpenQuote from) → IsInner depth from fresh run text q
      -- the quotes are closed
      inner_ends : {depth from : ℕ} {fresh : Bool} {run text : Bytes} {q : Out Read} (rest : Bytes)
          → inner len text ≡ DoubleQuote rest → q ≡ Whole (last_run fresh run, []) rest
          → IsInner depth from fresh run text q
      -- one more byte that stands for itself
      inner_byte : {depth from : ℕ} {fresh : Bool} {run text : Bytes} {q : Out Read}
          (b : ℕ) (rest : Bytes) (q1 : Out Read)
          → inner len text ≡ Byte b rest → IsInner depth from fresh (run ++ b ∷ []) rest q1
          → q ≡ grown [] (note.Gap ∷ []) q1 → IsInner depth from fresh run text q
      -- a part that holds no others
      inner_piece : {depth from : ℕ} {fresh : Bool} {run text : Bytes} {q : Out Read}
          (p : RawPart) (rest : Bytes) (q1 : Out Read)
          → inner len text ≡ Piece p rest → IsInner depth from false [] rest q1
          → q ≡ grown (quoted_run run ++ p ∷ []) (note.Gap ∷ []) q1 → IsInner depth from fresh run text q
      -- `$@`
      inner_all : {depth from : ℕ} {fresh : Bool} {run text : Bytes} {q : Out Read} (rest : Bytes) (q1 : Out Read)
          → inner len text ≡ AllArgs rest → IsInner depth from false [] rest q1
          → q ≡ grown (quoted_run run ++ part.All ∷ []) (note.All (offset len text) true ∷ []) q1
          → IsInner depth from fresh run text q
      -- a substitution
      inner_run : {depth from : ℕ} {fresh : Bool} {run text : Bytes} {q : Out Read}
          (begin : Bytes) (ts : List Token) (rest : Bytes) (q1 : Out Read)
          → inner len text ≡ Substitution begin → IsSub depth (offset len text) begin (Whole ts rest)
          → IsInner depth from false [] rest q1
          → q ≡ grown (quoted_run run ++ part.Run (offset len text) ts true ∷ []) (note.Gap ∷ []) q1
          → IsInner depth from fresh run text q
      -- a part that is no whole part, or not supported; the same in a substitution
      inner_wrong : {depth from : ℕ} {fresh : Bool} {run text : Bytes} {q : Out Read} (fault : LexFault)
          → inner len text ≡ Bad fault → q ≡ Stop fault → IsInner depth from fresh run text q
      inner_bad_run : {depth from : ℕ} {fresh : Bool} {run text : Bytes} {q : Out Read}
          (begin : Bytes) (fault : LexFault)
          → inner len text ≡ Substitution begin → IsSub depth (offset len text) begin (Stop fault)
          → q ≡ Stop fault → IsInner depth from fresh run text q

    -- the tokens of a substitution that began at `from`, inside depth others
    pub data IsSub : ℕ → ℕ → Bytes → Out (List Token) → Type 0 where
      -- the substitution is too deep
      sub_deep : {depth from : ℕ} {text : Bytes} {q : Out (List Token)}
          → deep depth ≡ true → q ≡ Stop (Deep from) → IsSub depth from text q
      -- its tokens are those up to the parenthesis that closes it
      sub_items : {depth from : ℕ} {text : Bytes} {q : Out (List Token)}
          → deep depth ≡ false → IsItems (suc depth) from 0 text q → IsSub depth from text q
