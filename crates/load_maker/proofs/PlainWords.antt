-- Words of bytes that stand for themselves are cut as they stand.
use Rattle.std.proofs.Common.{◌≡◌, ℕ, ◌+◌, Bool, true, false, not, ◌&&◌, ◌||◌, if◌then◌else◌, nat_eq, List, [], ◌∷◌, ◌++◌}
use Rattle.std.proofs.Common.{append_assoc, append-nil, Option, Some, None, refl, sym, ap, ◌∙◌}
use Rattle.std.proofs.lemmas.Bool.{and_parts, true≢false}
use Rattle.shell_lexer.specs.declared.token.Token.{Token}
use Rattle.shell_lexer.specs.declared.token.RawPart.TheVariants as raw
use Rattle.shell_lexer.specs.declared.token.TokenKind.TheVariants as token
use Rattle.shell_lexer.specs.Depth.{too_deep}
use Rattle.shell_lexer.specs.FirstLine.{nul_from}
use Rattle.shell_lexer.specs.Text.{Bytes, kind, place, offset}
use Rattle.shell_lexer.specs.Parts.{Ends, Byte, look, look_at, look_by}
use Rattle.shell_lexer.specs.Operators.{Word, sight, sight_at}
use Rattle.shell_lexer.specs.Late.{first_all, is_all_word, all_args, tilde, brace, has_list, late}
use Rattle.shell_lexer.specs.Reading.{Whole, Read, plain_run, token_at}
use Rattle.shell_lexer.specs.Reading.{IsItems, items_end, items_pass, items_sign, items_word, IsWord, word_ends, word_byte}
use Rattle.shell_lexer.proofs.PrintedBytes.{skip_first}
use Rattle.token_laws.proofs.PrintedNotes.{if_none}

-- ---- bytes

-- whether a byte is no NUL, no backslash, no tilde and no opening brace
abbrev pub is_safe : ℕ → Bool
is_safe b = not (nat_eq b 0) && (not (nat_eq b 92) && (not (nat_eq b 126) && not (nat_eq b 123)))

-- a byte stands for itself, and no form begins with it
pub record Plain (b : ℕ) : Type 0 where
  pub stands : (at : ℕ) (t : Bytes) → look_by at b (kind b) t ≡ Byte b t
  pub safe : is_safe b ≡ true

-- each of the bytes does
abbrev pub AllPlain : Bytes → Type 0
AllPlain [] = Unit {0}
AllPlain (b ∷ w) = Plain b × AllPlain w

is_not : (b : Bool) → not b ≡ true → b ≡ false
is_not true e = sym e
is_not false e = refl

-- what a byte is not
record Not (b : ℕ) : Type 0 where
  pub nul : nat_eq b 0 ≡ false
  pub backslash : nat_eq b 92 ≡ false
  pub tilde : nat_eq b 126 ≡ false
  pub brace : nat_eq b 123 ≡ false

apart : (b : ℕ) → is_safe b ≡ true → Not b
apart b e =
    let last = not (nat_eq b 126) && not (nat_eq b 123) in
    let one = and_parts (not (nat_eq b 0)) (not (nat_eq b 92) && last) e in
    let two = and_parts (not (nat_eq b 92)) last one.1 in
    let three = and_parts (not (nat_eq b 126)) (not (nat_eq b 123)) two.1 in
    record {
      nul = is_not (nat_eq b 0) one.0;
      backslash = is_not (nat_eq b 92) two.0;
      tilde = is_not (nat_eq b 126) three.0;
      brace = is_not (nat_eq b 123) three.1;
    }

look_plain : (len b : ℕ) (t : Bytes) → Plain b → look len (b ∷ t) ≡ Byte b t
look_plain len b t h =
    ap (λ u. look_at (place len u) u) (skip_first b t (apart b h.safe).backslash) ∙ h.stands (place len (b ∷ t)) t

if_false : (is : Bool) (x y : Option ℕ) → is ≡ false → y ≡ None → (if is then x else y) ≡ None
if_false true x y e none = absurd (true≢false e)
if_false false x y e none = none

and_false : (a b : Bool) → b ≡ false → (a && b) ≡ false
and_false true b e = e
and_false false b e = refl

-- no NUL stands in a word, and behind it none where none stands in the text behind it
pub nul_behind : (w behind : Bytes) → AllPlain w → ((at : ℕ) → nul_from at behind ≡ None) → (at : ℕ)
    → nul_from at (w ++ behind) ≡ None
nul_behind [] behind h none at = none at
nul_behind (b ∷ w) behind h none at =
    if_false (nat_eq b 0) (Some at) (nul_from (at + 1) (w ++ behind)) (apart b h.0.safe).nul (nul_behind w behind h.1 none (at + 1))

-- ---- words

module _ (len : ℕ) where
  -- a word that is read behind a run, in which no form is found once it is whole
  record Reads (run w behind : Bytes) : Type 0 where
    pub value : Read
    pub reads : IsWord too_deep len 0 run (w ++ behind) (Whole value behind)
    pub parts : value.0 ≡ plain_run (run ++ w)
    pub no_all : first_all value.1 ≡ None
    pub no_tilde : (may : Bool) → tilde may value.1 ≡ None
    pub no_brace : brace value.1 ≡ None

  read : (run w behind : Bytes) → AllPlain w → look len behind ≡ Ends → Reads run w behind
  read run [] behind h e = record {
    value = (plain_run run, []);
    reads = word_ends e refl;
    parts = ap plain_run (sym (append-nil run));
    no_all = refl;
    no_tilde = λ may. refl;
    no_brace = refl;
  }
  read run (b ∷ w) behind h e =
      let more = read (run ++ b ∷ []) w behind h.1 e in
      let at = offset len (b ∷ (w ++ behind)) in
      let is = apart b h.0.safe in
      record {
        value = (more.value.0, _);
        reads = word_byte b (w ++ behind) (Whole more.value behind) (look_plain len b (w ++ behind) h.0) more.reads refl;
        parts = more.parts ∙ ap plain_run (append_assoc run (b ∷ []) w);
        no_all = more.no_all;
        no_tilde = λ may. if_false (may && nat_eq b 126) (Some at) (tilde (nat_eq b 61 || nat_eq b 58) more.value.1)
            (and_false may (nat_eq b 126) is.tilde) (more.no_tilde (nat_eq b 61 || nat_eq b 58));
        no_brace = if_false (nat_eq b 123) (if has_list false more.value.1 then Some at else None) (brace more.value.1)
            is.brace more.no_brace;
      }

  nothing_late : {run w behind : Bytes} (at : ℕ) (r : Reads run w behind) → late 0 at r.value.1 ≡ None
  nothing_late at r =
      let ns = r.value.1 in
      let all : all_args ns ≡ None = if_none (is_all_word ns) (first_all ns) r.no_all in
      rw (all, r.no_tilde true, r.no_brace) refl

  -- ---- the tokens of a text outside of every substitution

  abbrev pub Cuts : Bytes → List Token → Type 0
  Cuts text ts = IsItems too_deep len 0 0 0 text (Whole ts [])

  -- a word, which stands at the front of a text
  abbrev pub word_token : Bytes → Bytes → Token
  word_token w behind = token_at (offset len (w ++ behind)) (token.Word (raw.Plain w ∷ []))

  abbrev pub newline_token : Bytes → Token
  newline_token rest = token_at (offset len (10 ∷ rest)) token.Newline

  pub cuts_end : Cuts [] []
  cuts_end = items_end refl refl

  pub cuts_blank : (b : ℕ) (rest : Bytes) (ts : List Token) → Cuts (b ∷ rest) ts → Cuts (32 ∷ (b ∷ rest)) ts
  cuts_blank b rest ts x = items_pass (b ∷ rest) refl x

  pub cuts_newline : (rest : Bytes) (ts : List Token) → Cuts rest ts → Cuts (10 ∷ rest) (newline_token rest ∷ ts)
  cuts_newline rest ts x =
      items_sign _ rest (Whole ts []) (ap (λ u. sight_at len (place len u) u) (skip_first 10 rest refl)) refl x refl

  pub cuts_word : (b : ℕ) (w behind : Bytes) (ts : List Token) → sight len ((b ∷ w) ++ behind) ≡ Word
      → AllPlain (b ∷ w) → look len behind ≡ Ends → Cuts behind ts
      → Cuts ((b ∷ w) ++ behind) (word_token (b ∷ w) behind ∷ ts)
  cuts_word b w behind ts s h e x =
      let r = read [] (b ∷ w) behind h e in
      items_word r.value behind (Whole ts []) s r.reads (nothing_late (offset len ((b ∷ w) ++ behind)) r) x
      (ap (λ ps. Whole (token_at (offset len ((b ∷ w) ++ behind)) (token.Word ps) ∷ ts) []) (sym r.parts))

  -- a word ends before a newline, and before a blank
  pub ends_newline : (rest : Bytes) → look len (10 ∷ rest) ≡ Ends
  ends_newline rest = ap (λ u. look_at (place len u) u) (skip_first 10 rest refl)

  pub ends_blank : (rest : Bytes) → look len (32 ∷ rest) ≡ Ends
  ends_blank rest = ap (λ u. look_at (place len u) u) (skip_first 32 rest refl)
