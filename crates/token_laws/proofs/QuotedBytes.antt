-- Double quotes round bytes that stand for themselves are one part.
use Rattle.std.proofs.Common.{◌≡◌, ℕ, suc, ◌+◌, Bool, true, false, ◌||◌, nat_eq, List, [], ◌∷◌, ◌++◌, append_assoc, append-nil, length, None, codes, refl, sym, ap, ◌∙◌, subst, arith}
use Rattle.std.specs.List.{list_all}
use Rattle.shell_lexer.specs.declared.byte_kind.ByteKind.{ByteKind}
use Rattle.shell_lexer.specs.declared.byte_kind.ByteKind.TheVariants as k
use Rattle.shell_lexer.specs.declared.sight.ByteNote.{ByteNote}
use Rattle.shell_lexer.specs.declared.sight.ByteNote.TheVariants as note
use Rattle.shell_lexer.specs.declared.token.RawPart.{RawPart}
use Rattle.shell_lexer.specs.declared.token.RawPart.TheVariants as part
use Rattle.shell_lexer.specs.declared.token.TokenKind.TheVariants as token
use Rattle.shell_lexer.specs.Depth.{too_deep}
use Rattle.shell_lexer.specs.FirstLine.{nul_from}
use Rattle.shell_lexer.specs.Late.{first_all, tilde, brace, late}
use Rattle.token_laws.specs.Laws.{is_literal, gaps, one_word}
use Rattle.shell_lexer.specs.Lexed.{Cut}
use Rattle.shell_lexer.specs.Operators.{sight_at}
use Rattle.shell_lexer.specs.Parts.{Byte, inner, inner_at, inner_by, look_at}
use Rattle.shell_lexer.specs.Reading.{Whole, Read, last_run, token_at, IsItems, items_end, items_word, IsWord, word_ends, word_double, IsInner, inner_ends, inner_byte}
use Rattle.shell_lexer.specs.Text.{Bytes, kind, skip, place, offset}
use Rattle.std.proofs.lemmas.Bool.{and_parts, cond-false, not-true, or_parts, true≢false}
use Rattle.shell_lexer.proofs.SpelledCases.{eq_same}
use Rattle.shell_lexer.proofs.SpelledKinds.{KindOf, kind_of}
use Rattle.shell_lexer.proofs.PrintedBytes.{skip_first}
use Rattle.token_laws.proofs.PrintedQuotes.{last_is}

-- ---- bytes that stand for themselves

record IsApart (b : ℕ) : Type 0 where
  pub nul : nat_eq b 0 ≡ false
  pub double : nat_eq b 34 ≡ false
  pub dollar : nat_eq b 36 ≡ false
  pub back : nat_eq b 92 ≡ false
  pub tick : nat_eq b 96 ≡ false

apart : (b : ℕ) → is_literal b ≡ true → IsApart b
apart b e =
    let all = not-true (nat_eq b 0 || nat_eq b 34 || nat_eq b 36 || nat_eq b 92 || nat_eq b 96) e in
    let four = (or_parts (nat_eq b 0 || nat_eq b 34 || nat_eq b 36 || nat_eq b 92) (nat_eq b 96) all).0 in
    let three = (or_parts (nat_eq b 0 || nat_eq b 34 || nat_eq b 36) (nat_eq b 92) four).0 in
    let two = (or_parts (nat_eq b 0 || nat_eq b 34) (nat_eq b 36) three).0 in
    record {
      nul = (or_parts (nat_eq b 0) (nat_eq b 34) two).0;
      double = (or_parts (nat_eq b 0) (nat_eq b 34) two).1;
      dollar = (or_parts (nat_eq b 0 || nat_eq b 34) (nat_eq b 36) three).1;
      back = (or_parts (nat_eq b 0 || nat_eq b 34 || nat_eq b 36) (nat_eq b 92) four).1;
      tick = (or_parts (nat_eq b 0 || nat_eq b 34 || nat_eq b 36 || nat_eq b 92) (nat_eq b 96) all).1;
    }

-- it is none of these
other : (b c : ℕ) → nat_eq b c ≡ false → b ≡ c → ⊥
other b c e is = absurd (true≢false (sym (same c) ∙ subst (λ x. nat_eq x c ≡ false) is e)) where
  same : (c : ℕ) → nat_eq c c ≡ true
  same c = eq_same c

literal_by : (at b : ℕ) (it : ByteKind) (rest : Bytes) → IsApart b → KindOf b it → inner_by at b it rest ≡ Byte b rest
literal_by at b k.Double rest a h = absurd (other b 34 a.double h)
literal_by at b k.Back rest a h = absurd (other b 92 a.back h)
literal_by at b k.Tick rest a h = absurd (other b 96 a.tick h)
literal_by at b k.Dollar rest a h = absurd (other b 36 a.dollar h)
literal_by at b _ rest a h = refl

literal_seen : (len b : ℕ) (rest : Bytes) → IsApart b → inner len (b ∷ rest) ≡ Byte b rest
literal_seen len b rest a = ap (λ t. inner_at (place len t) t) (skip_first b rest a.back) ∙ literal_by (place len (b ∷ rest)) b (kind b) rest a (kind_of b)

-- ---- what stands in the quotes

module _ (deep : ℕ → Bool) (len depth «from» : ℕ) (fresh : Bool) (rest : Bytes) where
  quotes_read : (run bytes : Bytes) → list_all is_literal bytes ≡ true → IsInner deep len depth «from» fresh run (bytes ++ 34 ∷ rest) (Whole (last_run fresh (run ++ bytes), gaps bytes) rest)
  quotes_read run [] e =
      inner_ends rest (ap (λ t. inner_at (place len t) t) (skip_first 34 rest refl)) (ap (λ r. Whole (last_run fresh r, gaps []) rest) (append-nil run))
  quotes_read run (b ∷ bytes) e =
      let a = apart b (and_parts (is_literal b) (list_all is_literal bytes) e).0 in
      let more = quotes_read (run ++ b ∷ []) bytes (and_parts (is_literal b) (list_all is_literal bytes) e).1 in
      inner_byte b (bytes ++ 34 ∷ rest) (Whole (last_run fresh ((run ++ b ∷ []) ++ bytes), gaps bytes) rest) (literal_seen len b (bytes ++ 34 ∷ rest) a) more
      (ap (λ r. Whole (last_run fresh r, note.Gap ∷ gaps bytes) rest) (sym (append_assoc run (b ∷ []) bytes)))

pub quotes_one_part : (deep : ℕ → Bool) (len depth «from» : ℕ) (bytes rest : Bytes) → list_all is_literal bytes ≡ true → IsInner deep len depth «from» true [] (bytes ++ 34 ∷ rest) (Whole (part.Quoted bytes ∷ [], gaps bytes) rest)
quotes_one_part deep len depth «from» bytes rest e =
    subst (λ (ps : List RawPart). IsInner deep len depth «from» true [] (bytes ++ 34 ∷ rest) (Whole (ps, gaps bytes) rest)) (last_is bytes) (quotes_read deep len depth «from» true rest [] bytes e)

-- ---- a script of one word

gaps_first : (bytes : Bytes) → first_all (gaps bytes) ≡ None
gaps_first [] = refl
gaps_first (b ∷ bytes) = gaps_first bytes

gaps_tilde : (bytes : Bytes) → tilde false (gaps bytes) ≡ None
gaps_tilde [] = refl
gaps_tilde (b ∷ bytes) = gaps_tilde bytes

gaps_brace : (bytes : Bytes) → brace (gaps bytes) ≡ None
gaps_brace [] = refl
gaps_brace (b ∷ bytes) = gaps_brace bytes

gaps_late : (at : ℕ) (bytes : Bytes) → late 0 at (note.Gap ∷ gaps bytes) ≡ None
gaps_late at bytes = rw (gaps_first bytes, gaps_tilde bytes, gaps_brace bytes) refl

gaps_last : (bytes : Bytes) → (gaps bytes ++ note.Gap ∷ []) ++ [] ≡ note.Gap ∷ gaps bytes
gaps_last [] = refl
gaps_last (b ∷ bytes) = ap (λ (ns : List ByteNote). note.Gap ∷ ns) (gaps_last bytes)

no_nul : (at : ℕ) (bytes : Bytes) → list_all is_literal bytes ≡ true → nul_from at (bytes ++ 34 ∷ []) ≡ None
no_nul at [] e = refl
no_nul at (b ∷ bytes) e =
    let a = apart b (and_parts (is_literal b) (list_all is_literal bytes) e).0 in
    cond-false (nat_eq b 0) _ _ a.nul ∙ no_nul (at + 1) bytes (and_parts (is_literal b) (list_all is_literal bytes) e).1

length_last : (bytes : Bytes) → length (bytes ++ 34 ∷ []) ≡ suc (length bytes)
length_last [] = refl
length_last (b ∷ bytes) = ap suc (length_last bytes)

abbrev quoted : Bytes → Bytes
quoted bytes = 34 ∷ (bytes ++ 34 ∷ [])

place_is : (len : ℕ) (bytes : Bytes) → len ≡ 12 + length bytes → place len (quoted bytes) ≡ 10
place_is len bytes is = let l = length_last bytes in omega arith

body_read : (len : ℕ) (bytes : Bytes) → len ≡ 12 + length bytes → list_all is_literal bytes ≡ true → IsItems too_deep len 0 0 0 (quoted bytes) (Whole (token_at 10 (token.Word (part.Quoted bytes ∷ [])) ∷ []) [])
body_read len bytes is e =
    let skipped : skip (quoted bytes) ≡ quoted bytes = skip_first 34 (bytes ++ 34 ∷ []) refl in
    let at : offset len (quoted bytes) ≡ 10 = ap (place len) skipped ∙ place_is len bytes is in
    let v : Read = (part.Quoted bytes ∷ [], (gaps bytes ++ note.Gap ∷ []) ++ []) in
    let w : IsWord too_deep len 0 [] (quoted bytes) (Whole v []) =
    word_double (bytes ++ 34 ∷ []) (part.Quoted bytes ∷ [], gaps bytes) [] (Whole ([], []) []) (ap (λ t. look_at (place len t) t) skipped)
    (quotes_one_part too_deep len 0 (offset len (quoted bytes)) bytes [] e) (word_ends refl refl) refl
    in
    items_word v [] (Whole [] []) (ap (λ t. sight_at len (place len t) t) skipped) w (ap (late 0 (offset len (quoted bytes))) (gaps_last bytes) ∙ gaps_late (offset len (quoted bytes)) bytes) (items_end refl refl)
    (ap (λ n. Whole (token_at n (token.Word (part.Quoted bytes ∷ [])) ∷ []) []) (sym at))

-- the script
abbrev quotes_script : Bytes → Bytes
quotes_script bytes = codes "#!/bin/sh\n\"" ++ (bytes ++ codes "\"")

script_length : (bytes : Bytes) → length (quotes_script bytes) ≡ 12 + length bytes
script_length bytes = let l = length_last bytes in omega arith

pub quotes_cut : (bytes : Bytes) → list_all is_literal bytes ≡ true → Cut (quotes_script bytes) (one_word (part.Quoted bytes ∷ []) (12 + length bytes))
quotes_cut bytes e = record {
  no_nul = no_nul 11 bytes e;
  first = refl;
  body = body_read (length (quotes_script bytes)) bytes (script_length bytes) e;
  end = sym (script_length bytes);
}
