-- Of a text without the byte 0 no part has one, and no text that is left.
use Rattle.std.proofs.Common.{◌≡◌, ℕ, zero, suc, ◌+◌, ◌≤◌, Bool, true, false, ◌&&◌, nat_eq, not, List, [], ◌∷◌, ◌++◌, Option, Some, None, codes, refl, sym, ap, subst, arith}
use Rattle.std.specs.List.{flat_map, list_all}
use Rattle.std.specs.Fmt.{decimal}
use Rattle.std.proofs.lemmas.Fmt.{decimal_digit}
use Rattle.shell_syntax.specs.declared.key.Key.{Key}
use Rattle.shell_syntax.specs.declared.redirect.Redirect.{Redirect}
use Rattle.shell_syntax.specs.PrintedParts.{is_active, escaped as escape, is_one_byte, quoted_text, double_quote, key_text, default_text, param_text}
use Rattle.shell_lexer.specs.declared.token.Token.{Token}
use Rattle.shell_lexer.specs.declared.token.RawPart.{RawPart}
use Rattle.shell_lexer.specs.declared.token.RawPart.TheVariants as raw
use Rattle.token_laws.specs.Laws.{PartsAreSpelled, AllArgsAreSpelled, SubstitutionsAreSpelled, DoubleQuotesAreSpelled}
use Rattle.shell_lexer.specs.Operators.{Sight, Passed, Operator, sight_by, sight_at, sight, less, greater, copied, redirected, numbered, numbered_by, out_to, in_from, copy_of, whole_word, null_word, after_line}
use Rattle.shell_lexer.specs.Parts.{Look, Byte, look, look_at, look_by, inner, inner_at, inner_by, inner_escaped, is_escapable, dollar, escaped, has_quote}
use Rattle.token_laws.specs.PrintedLaws.{raw_text as lexed_text, holds_no_run}
use Rattle.shell_lexer.specs.Reading.{Out, Whole, Stop, Read, behind, ended, plain_run, quoted_run, last_run, IsItems, items_end, items_pass, items_wrong, items_close, items_sign, items_word, items_late, items_bad, IsWord, word_ends, word_byte, word_piece, word_all, word_double, word_run, word_wrong, word_bad_double, word_bad_run, IsInner, inner_open, inner_ends, inner_byte, inner_piece, inner_all, inner_run, inner_wrong, inner_bad_run, IsSub, sub_deep, sub_items}
use Rattle.shell_lexer.specs.Spelling.{Stands}
use Rattle.shell_lexer.specs.SpelledParts.{IsParam, name as by_name, name_braced, name_default, number as by_number, number_braced, number_default, count as by_count, count_braced, IsQuoted, single, escaped as by_backslash, IsPiece}
use Rattle.script_names.specs.ShellNames.{is_digit, is_letter}
use Rattle.shell_lexer.specs.Text.{Bytes, kind, cells, run_of, behind_run, behind_bytes, behind_next, is_blank, is_special, skip, place, tail, head_is, ends_word}
use Rattle.shell_printing.proofs.CleanTexts.{is_clean, IsClean}
use Rattle.shell_printing.specs.TokenTexts.{raw_text}
use Rattle.shell_printing.proofs.Backs.{false_true, clean_append, same_text}
use Rattle.shell_printing.proofs.CutDollars.{either, IsDollar, dollar_seen}
use Rattle.shell_printing.proofs.WordBytes.{eq_of}

-- ---- lists of bytes

and_left : (a b : Bool) → (a && b) ≡ true → a ≡ true
and_left true b h = refl
and_left false b h = h

and_right : (a b : Bool) → (a && b) ≡ true → b ≡ true
and_right true b h = h
and_right false b h = absurd (false_true h)

and_true : (a b : Bool) → a ≡ true → b ≡ true → (a && b) ≡ true
and_true true b e f = f
and_true false b e f = e

first : (b : ℕ) (t : Bytes) → IsClean (b ∷ t) → is_clean b ≡ true
first b t e = and_left (is_clean b) (list_all is_clean t) e

pub later : (b : ℕ) (t : Bytes) → IsClean (b ∷ t) → IsClean t
later b t e = and_right (is_clean b) (list_all is_clean t) e

clean_left : (s t : Bytes) → IsClean (s ++ t) → IsClean s
clean_left [] t e = refl
clean_left (b ∷ s) t e = and_true (is_clean b) (list_all is_clean s) (first b (s ++ t) e) (clean_left s t (later b (s ++ t) e))

clean_right : (s t : Bytes) → IsClean (s ++ t) → IsClean t
clean_right [] t e = e
clean_right (b ∷ s) t e = clean_right s t (later b (s ++ t) e)

clean_skip : (t : Bytes) → IsClean t → IsClean (skip t)
clean_skip [] e = e
clean_skip (a ∷ []) e = e
clean_skip (a ∷ b ∷ t) e = either IsClean (nat_eq a 92 && nat_eq b 10) (clean_skip t (later b t (later a (b ∷ t) e))) e

pub clean_stands : (s text rest : Bytes) → Stands s text rest → IsClean text → IsClean s × IsClean rest
clean_stands [] text rest h e = (refl, subst IsClean h e)
clean_stands (b ∷ s) text rest h e =
    let k = subst IsClean h.1 (clean_skip text e) in
    let m = clean_stands s h.0 rest h.2 (later b h.0 k) in
    (and_true (is_clean b) (list_all is_clean s) (first b h.0 k) m.0, m.1)

-- ---- parts

abbrev pub CleanPart : RawPart → Type 0
CleanPart (raw.Plain w) = IsClean w
CleanPart (raw.Quoted w) = IsClean w
CleanPart (raw.Param key default quoted) = IsClean (key_text key) × IsClean (default_text default)
CleanPart _ = Unit {0}

abbrev pub AllClean : List RawPart → Type 0
AllClean [] = Unit {0}
AllClean (p ∷ ps) = CleanPart p × AllClean ps

all_clean : (xs ys : List RawPart) → AllClean xs → AllClean ys → AllClean (xs ++ ys)
all_clean [] ys a b = b
all_clean (x ∷ xs) ys a b = (a.0, all_clean xs ys a.1 b)

digit_byte : (n : ℕ) → is_clean (48 + n) ≡ true
digit_byte n = by (nat_eq (48 + n) 0) refl where
  by : (it : Bool) → nat_eq (48 + n) 0 ≡ it → not (nat_eq (48 + n) 0) ≡ true
  by true f = absurd (let g : 48 + n ≡ 0 = eq_of (48 + n) 0 f in omega arith)
  by false f = ap not f

digit_clean : (number : ℕ) → number ≤ 9 → IsClean (decimal number)
digit_clean number e = subst IsClean (sym (decimal_digit number (omega arith))) (and_true (is_clean (48 + number)) true (digit_byte number) refl)

abbrev ParamClean : Key → Option Bytes → Bytes → Type 0
ParamClean key default rest = IsClean (key_text key) × IsClean (default_text default) × IsClean rest

clean_param : {key : Key} {default : Option Bytes} {text rest : Bytes} → IsParam key default text rest → IsClean text → ParamClean key default rest
clean_param {text = text} {rest = rest} (by_name {name = name} is h ends) e = let k = clean_stands (codes "$" ++ name) text rest h e in (later 36 name k.0, refl, k.1)
clean_param {text = text} {rest = rest} (name_braced {name = name} is h) e =
    let k = clean_stands (codes "${" ++ (name ++ codes "}")) text rest h e in (clean_left name (codes "}") (clean_right (codes "${") (name ++ codes "}") k.0), refl, k.1)
clean_param {text = text} {rest = rest} (name_default {name = name} {default = default} is default_is h) e =
    let k = clean_stands (codes "${" ++ (name ++ (codes ":-" ++ (default ++ codes "}")))) text rest h e in
    let n = clean_right (codes "${") (name ++ (codes ":-" ++ (default ++ codes "}"))) k.0 in
    let d = clean_right name (codes ":-" ++ (default ++ codes "}")) n in
    (clean_left name (codes ":-" ++ (default ++ codes "}")) n, clean_append (codes ":-") default refl (clean_left default (codes "}") (clean_right (codes ":-") (default ++ codes "}") d)), k.1)
clean_param {text = text} {rest = rest} (by_number {number = number} {digit = digit} is h) e = let k = clean_stands (codes "$" ++ (digit ∷ [])) text rest h e in (digit_clean number is.most, refl, k.1)
clean_param {text = text} {rest = rest} (number_braced {number = number} {digit = digit} is h) e =
    let k = clean_stands (codes "${" ++ (digit ∷ codes "}")) text rest h e in (digit_clean number is.most, refl, k.1)
clean_param {text = text} {rest = rest} (number_default {number = number} {digit = digit} {default = default} is default_is h) e =
    let k = clean_stands (codes "${" ++ (digit ∷ (codes ":-" ++ (default ++ codes "}")))) text rest h e in
    let d = later digit (codes ":-" ++ (default ++ codes "}")) (clean_right (codes "${") (digit ∷ (codes ":-" ++ (default ++ codes "}"))) k.0) in
    (digit_clean number is.most, clean_append (codes ":-") default refl (clean_left default (codes "}") (clean_right (codes ":-") (default ++ codes "}") d)), k.1)
clean_param {text = text} {rest = rest} (by_count h) e = let k = clean_stands (codes "$#") text rest h e in (refl, refl, k.1)
clean_param {text = text} {rest = rest} (count_braced h) e = let k = clean_stands (codes "${#}") text rest h e in (refl, refl, k.1)

clean_quoted : {bytes text rest : Bytes} → IsQuoted bytes text rest → IsClean text → IsClean bytes × IsClean rest
clean_quoted {bytes} {text} {rest} (single all h) e =
    let k = (clean_stands (codes "'") text (bytes ++ 39 ∷ rest) h e).1 in (clean_left bytes (39 ∷ rest) k, later 39 rest (clean_right bytes (39 ∷ rest) k))
clean_quoted {text = text} {rest = rest} (by_backslash {byte = b} h) e =
    let k = (clean_stands (codes "\\") text (b ∷ rest) h e).1 in (and_true (is_clean b) true (first b rest k) refl, later b rest k)

pub clean_piece : (inside : Bool) (p : RawPart) (text rest : Bytes) → IsPiece inside p text rest → IsClean text → CleanPart p × IsClean rest
clean_piece inside (raw.Param key default quoted) text rest h e = let k = clean_param h.1 e in ((k.0, k.1), k.2)
clean_piece inside (raw.Quoted bytes) text rest h e = clean_quoted h.1 e
clean_piece inside _ text rest h e = absurd h

clean_run : (run : Bytes) → IsClean run → AllClean (plain_run run)
clean_run [] e = tt
clean_run (b ∷ run) e = (e, tt)

clean_quoted_run : (run : Bytes) → IsClean run → AllClean (quoted_run run)
clean_quoted_run [] e = tt
clean_quoted_run (b ∷ run) e = (e, tt)

clean_last : (fresh : Bool) (run : Bytes) → IsClean run → AllClean (last_run fresh run)
clean_last true [] e = (refl, tt)
clean_last true (b ∷ run) e = (e, tt)
clean_last false [] e = tt
clean_last false (b ∷ run) e = (e, tt)

-- ---- what is printed for them

escaped_clean : (w : Bytes) → IsClean w → IsClean (flat_map escape w)
escaped_clean [] e = refl
escaped_clean (b ∷ w) e =
    clean_append (escape b) (flat_map escape w) (either IsClean (is_active b) (and_true (is_clean b) true (first b w e) refl) (and_true (is_clean b) true (first b w e) refl)) (escaped_clean w (later b w e))

quoted_clean : (w : Bytes) → IsClean w → IsClean (quoted_text w)
unfolding quoted_text
quoted_clean w e = either IsClean (is_one_byte w) e (clean_append (codes "\"" ++ flat_map escape w) (codes "\"") (escaped_clean w e) refl)

quote_clean : (quoted : Bool) → IsClean (double_quote quoted)
quote_clean true = refl
quote_clean false = refl

param_clean : (key : Key) (default : Option Bytes) (quoted : Bool) → IsClean (key_text key) → IsClean (default_text default) → IsClean (param_text key default quoted)
unfolding param_text
param_clean key default quoted k d =
    let q = double_quote quoted in
    clean_append ((((q ++ codes "${") ++ key_text key) ++ default_text default) ++ codes "}") q
    (clean_append (((q ++ codes "${") ++ key_text key) ++ default_text default) (codes "}")
    (clean_append ((q ++ codes "${") ++ key_text key) (default_text default) (clean_append (q ++ codes "${") (key_text key) (clean_append q (codes "${") (quote_clean quoted) refl) k) d) refl) (quote_clean quoted)

-- the text of parts without a substitution
pub parts_clean : (ps : List RawPart) → holds_no_run ps ≡ true → AllClean ps → IsClean (flat_map raw_text ps)
parts_clean ps n a = subst IsClean (sym (same_text ps n)) (by ps n a) where
  by : (ps : List RawPart) → holds_no_run ps ≡ true → AllClean ps → IsClean (flat_map lexed_text ps)
  by [] n a = refl
  by (raw.Plain w ∷ ps) n a = clean_append w (flat_map lexed_text ps) a.0 (by ps n a.1)
  by (raw.Quoted w ∷ ps) n a = clean_append (quoted_text w) (flat_map lexed_text ps) (quoted_clean w a.0) (by ps n a.1)
  by (raw.Param key default quoted ∷ ps) n a = clean_append (param_text key default quoted) (flat_map lexed_text ps) (param_clean key default quoted a.0.0 a.0.1) (by ps n a.1)
  by (raw.All ∷ ps) n a = clean_append (codes "\"$@\"") (flat_map lexed_text ps) refl (by ps n a.1)
  by (_ ∷ ps) n a = absurd (false_true n)

-- ---- what is seen of a text

abbrev pub CleanByte : Look → Type 0
CleanByte (Byte b rest) = (is_clean b ≡ true) × IsClean rest
CleanByte _ = Unit {0}

dollar_clean : (quoted : Bool) (at : ℕ) (rest t : Bytes) → IsClean rest → CleanByte (dollar quoted at rest t)
dollar_clean quoted at rest t e = by (dollar quoted at rest t) (dollar_seen rest quoted at t) where
  by : (l : Look) → IsDollar rest l → CleanByte l
  by (Byte b r) h = (ap is_clean h.0, subst IsClean (sym h.1) e)
  by _ h = tt

escaped_byte : (b : ℕ) (t : Bytes) → is_clean b ≡ true → CleanByte (escaped b t)
escaped_byte b [] e = (e, refl)
escaped_byte b (c ∷ t) e = tt

inner_escaped_byte : (b : ℕ) (t : Bytes) → is_clean b ≡ true → IsClean t → CleanByte (inner_escaped b t)
inner_escaped_byte b [] e f = (e, refl)
inner_escaped_byte b (c ∷ t) e f = either CleanByte (is_escapable (kind c)) (first c t f, later c t f) (e, f)

pub look_clean : (len : ℕ) (text : Bytes) → IsClean text → CleanByte (look len text)
look_clean len text e = by (place len (skip text)) (skip text) (clean_skip text e) where
  at_byte : (at b : ℕ) (t : Bytes) → is_clean b ≡ true → IsClean t → CleanByte (look_by at b (kind b) t)
  at_byte at b t f g =
      either (λ it. CleanByte (look_by at b it t)) (is_blank b) tt
      (either (λ it. CleanByte (look_by at b it t)) (nat_eq b 10) tt
      (either (λ it. CleanByte (look_by at b it t)) (nat_eq b 59) tt
      (either (λ it. CleanByte (look_by at b it t)) (nat_eq b 38) tt
      (either (λ it. CleanByte (look_by at b it t)) (nat_eq b 124) tt
      (either (λ it. CleanByte (look_by at b it t)) (nat_eq b 40) tt
      (either (λ it. CleanByte (look_by at b it t)) (nat_eq b 41) tt
      (either (λ it. CleanByte (look_by at b it t)) (nat_eq b 60) tt
      (either (λ it. CleanByte (look_by at b it t)) (nat_eq b 62) tt
      (either (λ it. CleanByte (look_by at b it t)) (nat_eq b 35) (f, g)
      (either (λ it. CleanByte (look_by at b it t)) (nat_eq b 39) (either CleanByte (has_quote t) tt tt)
      (either (λ it. CleanByte (look_by at b it t)) (nat_eq b 34) tt
      (either (λ it. CleanByte (look_by at b it t)) (nat_eq b 92) (escaped_byte b t f)
      (either (λ it. CleanByte (look_by at b it t)) (nat_eq b 96) tt
      (either (λ it. CleanByte (look_by at b it t)) (nat_eq b 36) (dollar_clean false at t (skip t) g)
      (either (λ it. CleanByte (look_by at b it t)) (nat_eq b 123) (f, g)
      (either (λ it. CleanByte (look_by at b it t)) (nat_eq b 64) (f, g)
      (either (λ it. CleanByte (look_by at b it t)) (is_special b) (f, g)
      (either (λ it. CleanByte (look_by at b it t)) (is_digit b) (f, g)
      (either (λ it. CleanByte (look_by at b it t)) (is_letter b) (f, g) (f, g))))))))))))))))))))

  by : (at : ℕ) (t : Bytes) → IsClean t → CleanByte (look_at at t)
  by at [] e = tt
  by at (b ∷ t) e = at_byte at b t (first b t e) (later b t e)

pub inner_look_clean : (len : ℕ) (text : Bytes) → IsClean text → CleanByte (inner len text)
inner_look_clean len text e = by (place len (skip text)) (skip text) (clean_skip text e) where
  at_byte : (at b : ℕ) (t : Bytes) → is_clean b ≡ true → IsClean t → CleanByte (inner_by at b (kind b) t)
  at_byte at b t f g =
      either (λ it. CleanByte (inner_by at b it t)) (is_blank b) (f, g)
      (either (λ it. CleanByte (inner_by at b it t)) (nat_eq b 10) (f, g)
      (either (λ it. CleanByte (inner_by at b it t)) (nat_eq b 59) (f, g)
      (either (λ it. CleanByte (inner_by at b it t)) (nat_eq b 38) (f, g)
      (either (λ it. CleanByte (inner_by at b it t)) (nat_eq b 124) (f, g)
      (either (λ it. CleanByte (inner_by at b it t)) (nat_eq b 40) (f, g)
      (either (λ it. CleanByte (inner_by at b it t)) (nat_eq b 41) (f, g)
      (either (λ it. CleanByte (inner_by at b it t)) (nat_eq b 60) (f, g)
      (either (λ it. CleanByte (inner_by at b it t)) (nat_eq b 62) (f, g)
      (either (λ it. CleanByte (inner_by at b it t)) (nat_eq b 35) (f, g)
      (either (λ it. CleanByte (inner_by at b it t)) (nat_eq b 39) (f, g)
      (either (λ it. CleanByte (inner_by at b it t)) (nat_eq b 34) tt
      (either (λ it. CleanByte (inner_by at b it t)) (nat_eq b 92) (inner_escaped_byte b t f g)
      (either (λ it. CleanByte (inner_by at b it t)) (nat_eq b 96) tt
      (either (λ it. CleanByte (inner_by at b it t)) (nat_eq b 36) (dollar_clean true at t (skip t) g)
      (either (λ it. CleanByte (inner_by at b it t)) (nat_eq b 123) (f, g)
      (either (λ it. CleanByte (inner_by at b it t)) (nat_eq b 64) (f, g)
      (either (λ it. CleanByte (inner_by at b it t)) (is_special b) (f, g)
      (either (λ it. CleanByte (inner_by at b it t)) (is_digit b) (f, g)
      (either (λ it. CleanByte (inner_by at b it t)) (is_letter b) (f, g) (f, g))))))))))))))))))))

  by : (at : ℕ) (t : Bytes) → IsClean t → CleanByte (inner_at at t)
  by at [] e = tt
  by at (b ∷ t) e = at_byte at b t (first b t e) (later b t e)

-- ---- what is seen where a token may begin

abbrev pub CleanSight : Sight → Type 0
CleanSight (Passed rest) = IsClean rest
CleanSight (Operator which rest) = IsClean rest
CleanSight _ = Unit {0}

abbrev CleanRest : Option Bytes → Type 0
CleanRest None = Unit {0}
CleanRest (Some rest) = IsClean rest

abbrev CleanCells : List (ℕ × Bytes) → Type 0
CleanCells [] = Unit {0}
CleanCells (c ∷ cs) = IsClean c.1 × CleanCells cs

clean_cells : (t : Bytes) → IsClean t → CleanCells (cells t)
clean_cells [] e = tt
clean_cells (a ∷ []) e = (refl, tt)
clean_cells (a ∷ b ∷ t) e = let f = later a (b ∷ t) e in either CleanCells (nat_eq a 92 && nat_eq b 10) (clean_cells t (later b t f)) (f, clean_cells (b ∷ t) f)

behind_run_clean : (test : ℕ → Bool) (t : Bytes) (cs : List (ℕ × Bytes)) → IsClean t → CleanCells cs → IsClean (behind_run test t cs)
behind_run_clean test t [] e f = e
behind_run_clean test t (c ∷ cs) e f = either IsClean (test c.0) (behind_run_clean test c.1 cs f.0 f.1) e

after_line_clean : (t : Bytes) → IsClean t → IsClean (after_line t)
after_line_clean [] e = e
after_line_clean (b ∷ t) e = either IsClean (nat_eq b 10) e (after_line_clean t (later b t e))

tail_clean : (t : Bytes) → IsClean t → IsClean (tail t)
tail_clean [] e = e
tail_clean (b ∷ t) e = later b t e

bytes_clean : (s t : Bytes) → IsClean t → CleanRest (behind_bytes s t)
bytes_clean [] t e = e
bytes_clean (b ∷ s) t e = by (skip t) (clean_skip t e) (bytes_clean s) where
  by : (u : Bytes) → IsClean u → ((t : Bytes) → IsClean t → CleanRest (behind_bytes s t)) → CleanRest (behind_next b (behind_bytes s) u)
  by [] f more = tt
  by (a ∷ u) f more = either CleanRest (nat_eq a b) (more u (later a u f)) tt

whole_clean : (o : Option Bytes) → CleanRest o → CleanRest (whole_word o)
whole_clean None e = tt
whole_clean (Some t) e = either CleanRest (ends_word (skip t)) e tt

null_clean : (t : Bytes) → IsClean t → CleanRest (null_word t)
null_clean t e = whole_clean _ (bytes_clean (codes "/dev/null") (behind_run is_blank t (cells t)) (behind_run_clean is_blank t (cells t) e (clean_cells t e)))

redirected_clean : (at : ℕ) (which : Option Redirect) (rest : Option Bytes) → CleanRest rest → CleanSight (redirected at which rest)
redirected_clean at None rest e = tt
redirected_clean at (Some which) None e = tt
redirected_clean at (Some which) (Some rest) e = e

copied_clean : (at : ℕ) (number t : Bytes) → IsClean t → CleanSight (copied at number t)
copied_clean at number [] e = tt
copied_clean at number (b ∷ t) e = redirected_clean at (copy_of number b) (whole_word (Some t)) (whole_clean (Some t) (later b t e))

less_clean : (at : ℕ) (number t : Bytes) → IsClean t → CleanSight (less at number t)
less_clean at number t e = either CleanSight (head_is 60 (skip t)) tt (redirected_clean at (in_from number) (null_word t) (null_clean t e))

behind_next_clean : (t : Bytes) → IsClean t → IsClean (tail (skip t))
behind_next_clean t e = tail_clean (skip t) (clean_skip t e)

greater_clean : (at : ℕ) (number t : Bytes) → IsClean t → CleanSight (greater at number t)
greater_clean at number t e =
    let f = behind_next_clean t e in
    either CleanSight (head_is 62 (skip t)) (redirected_clean at (out_to number) (null_word (tail (skip t))) (null_clean (tail (skip t)) f))
    (either CleanSight (head_is 38 (skip t)) (copied_clean at number (skip (tail (skip t))) (clean_skip (tail (skip t)) f)) (redirected_clean at (out_to number) (null_word t) (null_clean t e)))

numbered_clean : (len : ℕ) (number t : Bytes) → IsClean t → CleanSight (numbered len number t)
numbered_clean len number [] e = tt
numbered_clean len number (b ∷ t) e =
    let at = place len (b ∷ t) in
    let f = later b t e in
    either (λ it. CleanSight (numbered_by at number it t)) (is_blank b) tt
    (either (λ it. CleanSight (numbered_by at number it t)) (nat_eq b 10) tt
    (either (λ it. CleanSight (numbered_by at number it t)) (nat_eq b 59) tt
    (either (λ it. CleanSight (numbered_by at number it t)) (nat_eq b 38) tt
    (either (λ it. CleanSight (numbered_by at number it t)) (nat_eq b 124) tt
    (either (λ it. CleanSight (numbered_by at number it t)) (nat_eq b 40) tt
    (either (λ it. CleanSight (numbered_by at number it t)) (nat_eq b 41) tt
    (either (λ it. CleanSight (numbered_by at number it t)) (nat_eq b 60) (less_clean at number t f)
    (either (λ it. CleanSight (numbered_by at number it t)) (nat_eq b 62) (greater_clean at number t f)
    (either (λ it. CleanSight (numbered_by at number it t)) (nat_eq b 35) tt
    (either (λ it. CleanSight (numbered_by at number it t)) (nat_eq b 39) tt
    (either (λ it. CleanSight (numbered_by at number it t)) (nat_eq b 34) tt
    (either (λ it. CleanSight (numbered_by at number it t)) (nat_eq b 92) tt
    (either (λ it. CleanSight (numbered_by at number it t)) (nat_eq b 96) tt
    (either (λ it. CleanSight (numbered_by at number it t)) (nat_eq b 36) tt
    (either (λ it. CleanSight (numbered_by at number it t)) (nat_eq b 123) tt
    (either (λ it. CleanSight (numbered_by at number it t)) (nat_eq b 64) tt
    (either (λ it. CleanSight (numbered_by at number it t)) (is_special b) tt
    (either (λ it. CleanSight (numbered_by at number it t)) (is_digit b) tt
    (either (λ it. CleanSight (numbered_by at number it t)) (is_letter b) tt tt)))))))))))))))))))

pub sight_clean : (len : ℕ) (text : Bytes) → IsClean text → CleanSight (sight len text)
sight_clean len text e = by (place len (skip text)) (skip text) (clean_skip text e) where
  at_byte : (at b : ℕ) (t : Bytes) → IsClean (b ∷ t) → IsClean t → CleanSight (sight_by len at b (kind b) t)
  at_byte at b t f g =
      either (λ it. CleanSight (sight_by len at b it t)) (is_blank b) g
      (either (λ it. CleanSight (sight_by len at b it t)) (nat_eq b 10) g
      (either (λ it. CleanSight (sight_by len at b it t)) (nat_eq b 59) (either CleanSight (head_is 59 (skip t)) (behind_next_clean t g) g)
      (either (λ it. CleanSight (sight_by len at b it t)) (nat_eq b 38) (either CleanSight (head_is 38 (skip t)) (behind_next_clean t g) tt)
      (either (λ it. CleanSight (sight_by len at b it t)) (nat_eq b 124) (either CleanSight (head_is 124 (skip t)) (behind_next_clean t g) g)
      (either (λ it. CleanSight (sight_by len at b it t)) (nat_eq b 40) (either CleanSight (head_is 40 (skip t)) tt g)
      (either (λ it. CleanSight (sight_by len at b it t)) (nat_eq b 41) g
      (either (λ it. CleanSight (sight_by len at b it t)) (nat_eq b 60) (less_clean at [] t g)
      (either (λ it. CleanSight (sight_by len at b it t)) (nat_eq b 62) (greater_clean at [] t g)
      (either (λ it. CleanSight (sight_by len at b it t)) (nat_eq b 35) (after_line_clean t g)
      (either (λ it. CleanSight (sight_by len at b it t)) (nat_eq b 39) tt
      (either (λ it. CleanSight (sight_by len at b it t)) (nat_eq b 34) tt
      (either (λ it. CleanSight (sight_by len at b it t)) (nat_eq b 92) tt
      (either (λ it. CleanSight (sight_by len at b it t)) (nat_eq b 96) tt
      (either (λ it. CleanSight (sight_by len at b it t)) (nat_eq b 36) tt
      (either (λ it. CleanSight (sight_by len at b it t)) (nat_eq b 123) tt
      (either (λ it. CleanSight (sight_by len at b it t)) (nat_eq b 64) tt
      (either (λ it. CleanSight (sight_by len at b it t)) (is_special b) tt
      (either (λ it. CleanSight (sight_by len at b it t)) (is_digit b) (numbered_clean len (run_of is_digit (cells (b ∷ t))) (skip (behind_run is_digit (b ∷ t) (cells (b ∷ t)))) (clean_skip (behind_run is_digit (b ∷ t) (cells (b ∷ t))) (behind_run_clean is_digit (b ∷ t) (cells (b ∷ t)) f (clean_cells (b ∷ t) f))))
      (either (λ it. CleanSight (sight_by len at b it t)) (is_letter b) tt tt)))))))))))))))))))

  by : (at : ℕ) (t : Bytes) → IsClean t → CleanSight (sight_at len at t)
  by at [] e = tt
  by at (b ∷ t) e = at_byte at b t e (later b t e)

-- ---- all readings

abbrev pub RestClean : Out (List Token) → Type 0
RestClean (Whole ts rest) = IsClean rest
RestClean (Stop f) = Unit {0}

abbrev pub ReadClean : Out Read → Type 0
ReadClean (Whole v rest) = AllClean v.0 × IsClean rest
ReadClean (Stop f) = Unit {0}

ended_clean : (depth begun : ℕ) → RestClean (ended depth begun)
ended_clean zero begun = refl
ended_clean (suc depth) begun = tt

behind_clean : (t : Token) (q : Out (List Token)) → RestClean q → RestClean (behind (t ∷ []) q)
behind_clean t (Whole ts rest) x = x
behind_clean t (Stop f) x = tt

module _ (outside : PartsAreSpelled look false) (inside : PartsAreSpelled inner true) (args : AllArgsAreSpelled look) (args_inside : AllArgsAreSpelled inner) (subs : SubstitutionsAreSpelled look) (subs_inside : SubstitutionsAreSpelled inner)
    (quotes : DoubleQuotesAreSpelled look) (quotes_inside : DoubleQuotesAreSpelled inner) where
  mutual
    items_clean : {deep : ℕ → Bool} {len depth begun parens : ℕ} {text : Bytes} {q : Out (List Token)} → IsItems deep len depth begun parens text q → IsClean text → RestClean q
    items_clean {depth = depth} {begun = begun} (items_end h e) k = subst RestClean (sym e) (ended_clean depth begun)
    items_clean {len = len} {text = text} (items_pass t h x) k = items_clean x (subst CleanSight h (sight_clean len text k))
    items_clean (items_wrong f h e) k = subst RestClean (sym e) tt
    items_clean {len = len} {text = text} (items_close s t h c e) k = subst RestClean (sym e) (subst CleanSight h (sight_clean len text k))
    items_clean {len = len} {text = text} (items_sign s t q1 h c x e) k = subst RestClean (sym e) (behind_clean _ q1 (items_clean x (subst CleanSight h (sight_clean len text k))))
    items_clean (items_word v t q1 h w l x e) k = subst RestClean (sym e) (behind_clean _ q1 (items_clean x (word_clean w refl k).1))
    items_clean (items_late v t f h w l e) k = subst RestClean (sym e) tt
    items_clean (items_bad f h w e) k = subst RestClean (sym e) tt

    word_clean : {deep : ℕ → Bool} {len depth : ℕ} {run text : Bytes} {q : Out Read} → IsWord deep len depth run text q → IsClean run → IsClean text → ReadClean q
    word_clean {run = run} (word_ends h e) r k = subst ReadClean (sym e) (clean_run run r, k)
    word_clean {len = len} {run = run} {text = text} (word_byte b t (Whole v1 r1) h x e) r k =
        let c = subst CleanByte h (look_clean len text k) in subst ReadClean (sym e) (word_clean x (clean_append run (b ∷ []) r (and_true (is_clean b) true c.0 refl)) c.1)
    word_clean (word_byte b t (Stop f) h x e) r k = subst ReadClean (sym e) tt
    word_clean {len = len} {run = run} {text = text} (word_piece p t (Whole v1 r1) h x e) r k =
        let c = clean_piece false p text t ((outside len text t p).0 h) k in
        let m = word_clean x refl c.1 in
        subst ReadClean (sym e) (all_clean (plain_run run ++ p ∷ []) v1.0 (all_clean (plain_run run) (p ∷ []) (clean_run run r) (c.0, tt)) m.0, m.1)
    word_clean (word_piece p t (Stop f) h x e) r k = subst ReadClean (sym e) tt
    word_clean {len = len} {run = run} {text = text} (word_all t (Whole v1 r1) h x e) r k =
        let m = word_clean x refl (clean_stands (codes "$@") text t ((args len text t).0 h) k).1 in
        subst ReadClean (sym e) (all_clean (plain_run run ++ raw.All ∷ []) v1.0 (all_clean (plain_run run) (raw.All ∷ []) (clean_run run r) (tt, tt)) m.0, m.1)
    word_clean (word_all t (Stop f) h x e) r k = subst ReadClean (sym e) tt
    word_clean {len = len} {run = run} {text = text} (word_double g v t (Whole v1 r1) h i x e) r k =
        let c = inner_clean i refl (clean_stands (codes "\"") text g ((quotes len text g).0 h) k).1 in
        let m = word_clean x refl c.1 in
        subst ReadClean (sym e) (all_clean (plain_run run ++ v.0) v1.0 (all_clean (plain_run run) v.0 (clean_run run r) c.0) m.0, m.1)
    word_clean (word_double g v t (Stop f) h i x e) r k = subst ReadClean (sym e) tt
    word_clean {len = len} {run = run} {text = text} (word_run g ts t (Whole v1 r1) h i x e) r k =
        let m = word_clean x refl (sub_clean i (clean_stands (codes "$(") text g ((subs len text g).0 h).stands k).1) in
        subst ReadClean (sym e) (all_clean (plain_run run ++ raw.Run _ ts false ∷ []) v1.0 (all_clean (plain_run run) (raw.Run _ ts false ∷ []) (clean_run run r) (tt, tt)) m.0, m.1)
    word_clean (word_run g ts t (Stop f) h i x e) r k = subst ReadClean (sym e) tt
    word_clean (word_wrong f h e) r k = subst ReadClean (sym e) tt
    word_clean (word_bad_double g f h i e) r k = subst ReadClean (sym e) tt
    word_clean (word_bad_run g f h i e) r k = subst ReadClean (sym e) tt

    pub inner_clean : {deep : ℕ → Bool} {len depth begun : ℕ} {fresh : Bool} {run text : Bytes} {q : Out Read} → IsInner deep len depth begun fresh run text q → IsClean run → IsClean text → ReadClean q
    inner_clean (inner_open h e) r k = subst ReadClean (sym e) tt
    inner_clean {len = len} {fresh = fresh} {run = run} {text = text} (inner_ends t h e) r k = subst ReadClean (sym e) (clean_last fresh run r, (clean_stands (codes "\"") text t ((quotes_inside len text t).0 h) k).1)
    inner_clean {len = len} {run = run} {text = text} (inner_byte b t (Whole v1 r1) h x e) r k =
        let c = subst CleanByte h (inner_look_clean len text k) in subst ReadClean (sym e) (inner_clean x (clean_append run (b ∷ []) r (and_true (is_clean b) true c.0 refl)) c.1)
    inner_clean (inner_byte b t (Stop f) h x e) r k = subst ReadClean (sym e) tt
    inner_clean {len = len} {run = run} {text = text} (inner_piece p t (Whole v1 r1) h x e) r k =
        let c = clean_piece true p text t ((inside len text t p).0 h) k in
        let m = inner_clean x refl c.1 in
        subst ReadClean (sym e) (all_clean (quoted_run run ++ p ∷ []) v1.0 (all_clean (quoted_run run) (p ∷ []) (clean_quoted_run run r) (c.0, tt)) m.0, m.1)
    inner_clean (inner_piece p t (Stop f) h x e) r k = subst ReadClean (sym e) tt
    inner_clean {len = len} {run = run} {text = text} (inner_all t (Whole v1 r1) h x e) r k =
        let m = inner_clean x refl (clean_stands (codes "$@") text t ((args_inside len text t).0 h) k).1 in
        subst ReadClean (sym e) (all_clean (quoted_run run ++ raw.All ∷ []) v1.0 (all_clean (quoted_run run) (raw.All ∷ []) (clean_quoted_run run r) (tt, tt)) m.0, m.1)
    inner_clean (inner_all t (Stop f) h x e) r k = subst ReadClean (sym e) tt
    inner_clean {len = len} {run = run} {text = text} (inner_run g ts t (Whole v1 r1) h i x e) r k =
        let m = inner_clean x refl (sub_clean i (clean_stands (codes "$(") text g ((subs_inside len text g).0 h).stands k).1) in
        subst ReadClean (sym e) (all_clean (quoted_run run ++ raw.Run _ ts true ∷ []) v1.0 (all_clean (quoted_run run) (raw.Run _ ts true ∷ []) (clean_quoted_run run r) (tt, tt)) m.0, m.1)
    inner_clean (inner_run g ts t (Stop f) h i x e) r k = subst ReadClean (sym e) tt
    inner_clean (inner_wrong f h e) r k = subst ReadClean (sym e) tt
    inner_clean (inner_bad_run g f h i e) r k = subst ReadClean (sym e) tt

    pub sub_clean : {deep : ℕ → Bool} {len depth begun : ℕ} {text : Bytes} {q : Out (List Token)} → IsSub deep len depth begun text q → IsClean text → RestClean q
    sub_clean (sub_deep h e) k = subst RestClean (sym e) tt
    sub_clean (sub_items h x) k = items_clean x k

  -- what is read of a text without the byte 0 has none, and none is behind it
  pub read_clean : {deep : ℕ → Bool} {len depth : ℕ} {text rest : Bytes} (v : Read) → IsWord deep len depth [] text (Whole v rest) → IsClean text → AllClean v.0 × IsClean rest
  read_clean v w k = word_clean w refl k
