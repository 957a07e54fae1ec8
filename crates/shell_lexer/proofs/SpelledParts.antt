-- What is seen in a word, or in double quotes, is what is spelled; and a part that holds no others is seen where it is
-- spelled.
use Rattle.std.proofs.Common.{◌≡◌, ℕ, ◌+◌, ◌-◌, ◌≤◌, Bool, true, false, not, if◌then◌else◌, ◌||◌, nat_eq, [], ◌∷◌, ◌++◌, append-nil, Option, Some, None, refl, sym, ap, ◌∙◌, subst, codes, arith}
use Rattle.std.proofs.lemmas.Grind.{common_steps}
use Rattle.std.specs.List.{list_all, list_any}
use Rattle.shell_syntax.specs.declared.form.Form.TheVariants as form
use Rattle.shell_syntax.specs.declared.key.Key.{Key}
use Rattle.shell_syntax.specs.declared.key.Key.TheVariants.{Named, Arg, Count}
use Rattle.shell_lexer.specs.declared.byte_kind.ByteKind.{ByteKind}
use Rattle.shell_lexer.specs.declared.byte_kind.ByteKind.TheVariants as k
use Rattle.shell_lexer.specs.declared.byte_kind.RunKind.TheVariants.{Names, Defaults}
use Rattle.shell_lexer.specs.declared.fault.LexFault.{LexFault}
use Rattle.shell_lexer.specs.declared.fault.LexFault.TheVariants.{OpenQuote, Unsupported}
use Rattle.shell_lexer.specs.declared.token.RawPart.{RawPart}
use Rattle.shell_lexer.specs.declared.token.RawPart.TheVariants as part
use Rattle.script_names.specs.ShellNames.{is_letter, is_digit, is_name_byte, is_shell_name}
use Rattle.shell_lexer.specs.Text.{Bytes, kind, skip, place, offset, tail, head_is, is_special, is_default_byte, run, behind}
use Rattle.shell_lexer.specs.Parts.{Look, Ends, Byte, Piece, AllArgs, DoubleQuote, Substitution, Bad, bad_param, closed, behind_colon, behind_key, braced_by, braced, parenthesis, before_quote, dollar_by, dollar, has_quote, quote_body, behind_quote, look_by, look_at, look, is_escapable, inner_escaped, inner_by, inner_at, inner}
use Rattle.shell_lexer.specs.Spelling.{Stands, begins}
use Rattle.shell_lexer.specs.SpelledParts.{is_default, IsDigitOf, IsParam, name as by_name, name_braced, name_default, number as by_number, number_braced, number_default, count, count_braced, IsQuoted, single, escaped, IsPiece, IsSubstitution}
use Rattle.shell_lexer.specs.SpelledBytes.{begins_expansion, IsByte, ordinary, dollar as byte_dollar, last as byte_last, backslash as byte_backslash, escaped as byte_escaped}
use Rattle.shell_lexer.specs.SpelledEnds.{AtTextEnd, IsWordEnd, text_ends}
use Rattle.shell_lexer.specs.SpelledFaults.{IsKey, name as name_key_is, number as number_key_is, IsBegun, nothing, key as key_begun, colon, default as with_default, count as begun_count, EndsInParam, special, before_quote as before_a_quote, IsBad, open_quote, open_parameter, backquote, arithmetic, parameter}
use Rattle.shell_lexer.proofs.SpelledBytes.{kind_escaped, not_escaped, no_meaning, is_expansion, no_expansion}
use Rattle.shell_lexer.proofs.SpelledEnds.{is_end}
use Rattle.shell_lexer.proofs.SpelledKinds.{KindOf, kind_of, digit_kind, letter_kind}
use Rattle.shell_lexer.proofs.SpelledRuns.{skip_again, stands_then, stands_parts, stands_skip, skip_stands, IsRun, run_is, behind_is, run_stands}
use Rattle.shell_lexer.proofs.SpelledFronts.{head_back, is_not, not_next}
use Rattle.shell_lexer.proofs.SpelledCases.{or_case}
use Rattle.std.proofs.Math.Bool.{or-true}
use Rattle.std.proofs.lemmas.Bool.{and_from, and_parts, cond-false, cond-true, cond_both, eqb-true, false≢true, not-true, true≢false}

-- ---- bytes of names

pub letter_passes : (b : ℕ) → is_letter b ≡ true → is_name_byte b ≡ true
letter_passes b e = by (is_letter b) e where
  by : (it : Bool) → it ≡ true → (it || is_digit b) ≡ true
  by true e = refl
  by false e = absurd (false≢true e)

variable_pass : (b : ℕ) (name : Bytes) → is_shell_name (b ∷ name) ≡ true → list_all is_name_byte (b ∷ name) ≡ true
variable_pass b name e = and_from (is_name_byte b) (list_all is_name_byte name) (letter_passes b (and_parts (is_letter b) (list_all is_name_byte name) e).0) (and_parts (is_letter b) (list_all is_name_byte name) e).1

digit_passes : {number digit : ℕ} → IsDigitOf number digit → is_digit digit ≡ true
digit_passes {number} {digit} h = subst (λ d. is_digit d ≡ true) (sym h.digit_is) (by number h.least h.most) where
  by : (number : ℕ) → 1 ≤ number → number ≤ 9 → is_digit (48 + number) ≡ true
  by number h g = grind (arith, common_steps)

digit_no_zero : {number digit : ℕ} → IsDigitOf number digit → nat_eq digit 48 ≡ false
digit_no_zero {number} {digit} h = subst (λ d. nat_eq d 48 ≡ false) (sym h.digit_is) (by number h.least) where
  by : (number : ℕ) → 1 ≤ number → nat_eq (48 + number) 48 ≡ false
  by number h = grind (arith, common_steps)

digit_number : {number digit : ℕ} → IsDigitOf number digit → digit - 48 ≡ number
digit_number {number} {digit} h = omega (arith, h.digit_is)

digit_of : (b : ℕ) → is_digit b ≡ true → nat_eq b 48 ≡ false → IsDigitOf (b - 48) b
digit_of b e n = record { least = low b e n; most = high b e; digit_is = same b e } where
  low : (b : ℕ) → is_digit b ≡ true → nat_eq b 48 ≡ false → 1 ≤ b - 48
  low b e n = grind (arith, common_steps)

  high : (b : ℕ) → is_digit b ≡ true → b - 48 ≤ 9
  high b e = grind (arith, common_steps)

  same : (b : ℕ) → is_digit b ≡ true → b ≡ 48 + (b - 48)
  same b e = grind (arith, common_steps)

-- ---- what is spelled is seen

-- a longest name, at the next byte that counts
name_run : (b : ℕ) (more text middle : Bytes) (name : Bytes) → is_shell_name (b ∷ name) ≡ true → Stands (b ∷ name) text middle → skip text ≡ b ∷ more → begins is_name_byte (skip middle) ≡ false
    → IsRun is_name_byte (b ∷ name) (b ∷ more) middle
name_run b more text middle name is h e ends = record { stands = subst (λ t. Stands (b ∷ name) t middle) e (skip_stands b name text middle h); pass = variable_pass b name is; longest = ends }

key_closed : (quoted : Bool) (at : ℕ) (key : Key) (middle rest : Bytes) → Stands (codes "}") middle rest → behind_key quoted at key (skip middle) ≡ Piece (part.Param key None quoted) rest
key_closed quoted at key middle rest h = ap (behind_key quoted at key) h.1 ∙ ap (Piece (part.Param key None quoted)) h.2

key_default : (quoted : Bool) (at : ℕ) (key : Key) (default middle rest : Bytes) → is_default default ≡ true → Stands (codes ":-" ++ (default ++ codes "}")) middle rest
    → behind_key quoted at key (skip middle) ≡ Piece (part.Param key (Some default) quoted) rest
key_default quoted at key default middle rest is h =
    let from = h.2.0 in
    let p = stands_parts default (codes "}") from rest h.2.2 in
    let all : IsRun is_default_byte default from p.0 = record { stands = p.1; pass = is; longest = ap (begins is_default_byte) p.2.1 } in
    ap (behind_key quoted at key) h.1 ∙ ap (behind_colon quoted at key) h.2.1
    ∙ ap (λ d. closed quoted at key (Some d) (skip (behind Defaults from))) (run_is is_default_byte default from p.0 all)
    ∙ ap (λ t. closed quoted at key (Some default) (skip t)) (behind_is is_default_byte default from p.0 all)
    ∙ ap (closed quoted at key (Some default)) p.2.1 ∙ ap (Piece (part.Param key (Some default) quoted)) p.2.2

-- behind `${`
pub name_key : (quoted : Bool) (at : ℕ) (name text middle : Bytes) → is_shell_name name ≡ true → Stands name text middle → begins is_name_byte (skip middle) ≡ false
    → braced quoted at (skip text) ≡ behind_key quoted at (Named name) (skip middle)
name_key quoted at [] text middle is h ends = absurd (false≢true is)
name_key quoted at (b ∷ name) text middle is h ends =
    let all = name_run b h.0 text middle name is h h.1 ends in
    ap (braced quoted at) h.1 ∙ ap (λ it. braced_by quoted at b it h.0) (letter_kind b (and_parts (is_letter b) (list_all is_name_byte name) is).0)
    ∙ ap (λ n. behind_key quoted at (Named n) (skip (behind Names (b ∷ h.0)))) (run_is is_name_byte (b ∷ name) (b ∷ h.0) middle all)
    ∙ ap (λ t. behind_key quoted at (Named (b ∷ name)) (skip t)) (behind_is is_name_byte (b ∷ name) (b ∷ h.0) middle all)

pub digit_key : (quoted : Bool) (at number digit : ℕ) (text more : Bytes) → IsDigitOf number digit → skip text ≡ digit ∷ more → braced quoted at (skip text) ≡ behind_key quoted at (Arg number) (skip more)
digit_key quoted at number digit text more is e =
    ap (braced quoted at) e ∙ ap (λ it. braced_by quoted at digit it more) (digit_kind digit (digit_passes is))
    ∙ cond-false (nat_eq digit 48) _ _ (digit_no_zero is) ∙ ap (λ n. behind_key quoted at (Arg n) (skip more)) (digit_number is)

-- behind `$`
name_part : (quoted : Bool) (at : ℕ) (name text rest : Bytes) → is_shell_name name ≡ true → Stands name text rest → begins is_name_byte (skip rest) ≡ false
    → dollar quoted at text (skip text) ≡ Piece (part.Param (Named name) None quoted) rest
name_part quoted at [] text rest is h ends = absurd (false≢true is)
name_part quoted at (b ∷ name) text rest is h ends =
    let all = name_run b h.0 text rest name is h h.1 ends in
    ap (dollar quoted at text) h.1 ∙ ap (λ it. dollar_by quoted at text b it h.0) (letter_kind b (and_parts (is_letter b) (list_all is_name_byte name) is).0)
    ∙ ap (λ n. Piece (part.Param (Named n) None quoted) (behind Names (b ∷ h.0))) (run_is is_name_byte (b ∷ name) (b ∷ h.0) rest all)
    ∙ ap (Piece (part.Param (Named (b ∷ name)) None quoted)) (behind_is is_name_byte (b ∷ name) (b ∷ h.0) rest all)

digit_part : (quoted : Bool) (at number digit : ℕ) (text more : Bytes) → IsDigitOf number digit → skip text ≡ digit ∷ more → dollar quoted at text (skip text) ≡ Piece (part.Param (Arg number) None quoted) more
digit_part quoted at number digit text more is e =
    ap (dollar quoted at text) e ∙ ap (λ it. dollar_by quoted at text digit it more) (digit_kind digit (digit_passes is))
    ∙ cond-false (nat_eq digit 48) _ _ (digit_no_zero is) ∙ ap (λ n. Piece (part.Param (Arg n) None quoted) more) (digit_number is)

-- a `$`, and behind it what the dollar's table gives whatever the place
record IsDollar (quoted : Bool) (seen : Look) (text : Bytes) : Type 0 where
  pub behind : Bytes
  pub is : skip text ≡ 36 ∷ behind
  pub gives : (at : ℕ) → dollar quoted at behind (skip behind) ≡ seen

param_dollar : (quoted : Bool) (key : Key) (default : Option Bytes) (text rest : Bytes) → IsParam key default text rest → IsDollar quoted (Piece (part.Param key default quoted) rest) text
param_dollar quoted key default text rest (by_name {name = n} is h ends) = record { behind = h.0; is = h.1; gives = λ at. name_part quoted at n h.0 rest is h.2 ends }
param_dollar quoted key default text rest (name_braced {name = n} is h) =
    let p = stands_parts n (codes "}") h.2.0 rest h.2.2 in
    record { behind = h.0; is = h.1; gives = λ at. ap (dollar quoted at h.0) h.2.1 ∙ name_key quoted at n h.2.0 p.0 is p.1 (ap (begins is_name_byte) p.2.1) ∙ key_closed quoted at (Named n) p.0 rest p.2 }
param_dollar quoted key default text rest (name_default {name = n} {default = d} is default_is h) =
    let p = stands_parts n (codes ":-" ++ (d ++ codes "}")) h.2.0 rest h.2.2 in
    record { behind = h.0; is = h.1; gives = λ at. ap (dollar quoted at h.0) h.2.1 ∙ name_key quoted at n h.2.0 p.0 is p.1 (ap (begins is_name_byte) p.2.1) ∙ key_default quoted at (Named n) d p.0 rest default_is p.2 }
param_dollar quoted key default text rest (by_number {number = n} {digit = d} is h) =
    record { behind = h.0; is = h.1; gives = λ at. digit_part quoted at n d h.0 h.2.0 is h.2.1 ∙ ap (Piece (part.Param (Arg n) None quoted)) h.2.2 }
param_dollar quoted key default text rest (number_braced {number = n} {digit = d} is h) =
    record { behind = h.0; is = h.1; gives = λ at. ap (dollar quoted at h.0) h.2.1 ∙ digit_key quoted at n d h.2.0 h.2.2.0 is h.2.2.1 ∙ key_closed quoted at (Arg n) h.2.2.0 rest h.2.2.2 }
param_dollar quoted key default text rest (number_default {number = n} {digit = d} {default = b} is default_is h) =
    record { behind = h.0; is = h.1; gives = λ at. ap (dollar quoted at h.0) h.2.1 ∙ digit_key quoted at n d h.2.0 h.2.2.0 is h.2.2.1 ∙ key_default quoted at (Arg n) b h.2.2.0 rest default_is h.2.2.2 }
param_dollar quoted key default text rest (count h) =
    record { behind = h.0; is = h.1; gives = λ at. ap (dollar quoted at h.0) h.2.1 ∙ ap (Piece (part.Param Count None quoted)) h.2.2 }
param_dollar quoted key default text rest (count_braced h) =
    record { behind = h.0; is = h.1; gives = λ at. ap (dollar quoted at h.0) h.2.1 ∙ ap (braced quoted at) h.2.2.1 ∙ ap (closed quoted at Count None) h.2.2.2.1 ∙ ap (Piece (part.Param Count None quoted)) h.2.2.2.2 }

all_dollar : (quoted : Bool) (text rest : Bytes) → Stands (codes "$@") text rest → IsDollar quoted (AllArgs rest) text
all_dollar quoted text rest h = record { behind = h.0; is = h.1; gives = λ at. ap (dollar quoted at h.0) h.2.1 ∙ ap AllArgs h.2.2 }

substitution_dollar : (quoted : Bool) (text rest : Bytes) → IsSubstitution text rest → IsDollar quoted (Substitution rest) text
substitution_dollar quoted text rest h =
    let g = h.stands in
    record { behind = g.0; is = g.1; gives = λ at. ap (dollar quoted at g.0) g.2.1 ∙ ap (parenthesis at) g.2.2 ∙ cond-false (head_is 40 (skip rest)) _ _ (is_not 40 (skip rest) h.single) }

look_dollar : (len : ℕ) (seen : Look) (text : Bytes) → IsDollar false seen text → look len text ≡ seen
look_dollar len seen text h = ap (λ t. look_at (place len t) t) h.is ∙ h.gives (place len (36 ∷ h.behind))

inner_dollar : (len : ℕ) (seen : Look) (text : Bytes) → IsDollar true seen text → inner len text ≡ seen
inner_dollar len seen text h = ap (λ t. inner_at (place len t) t) h.is ∙ h.gives (place len (36 ∷ h.behind))

-- quotes
quote_found : (bytes rest : Bytes) → list_all (λ b. not (nat_eq b 39)) bytes ≡ true → (has_quote (bytes ++ 39 ∷ rest) ≡ true) × (quote_body (bytes ++ 39 ∷ rest) ≡ bytes) × (behind_quote (bytes ++ 39 ∷ rest) ≡ rest)
quote_found [] rest e = (refl, refl, refl)
quote_found (b ∷ bytes) rest e =
    let more = quote_found bytes rest (and_parts (not (nat_eq b 39)) (list_all (λ b. not (nat_eq b 39)) bytes) e).1 in
    let other = not-true (nat_eq b 39) (and_parts (not (nat_eq b 39)) (list_all (λ b. not (nat_eq b 39)) bytes) e).0 in
    (ap (λ x. nat_eq b 39 || x) more.0 ∙ or-true (nat_eq b 39), cond-false (nat_eq b 39) _ _ other ∙ ap (λ t. b ∷ t) more.1, cond-false (nat_eq b 39) _ _ other ∙ more.2)

quoted_seen : (len : ℕ) (bytes text rest : Bytes) → IsQuoted bytes text rest → look len text ≡ Piece (part.Quoted bytes) rest
quoted_seen len bytes text rest (single all h) =
    let q = quote_found bytes rest all in
    ap (λ t. look_at (place len t) t) (h.1 ∙ ap (λ t. 39 ∷ t) h.2) ∙ cond-true (has_quote (bytes ++ 39 ∷ rest)) _ _ q.0
    ∙ ap (λ b. Piece (part.Quoted b) (behind_quote (bytes ++ 39 ∷ rest))) q.1 ∙ ap (Piece (part.Quoted bytes)) q.2
quoted_seen len bytes text rest (escaped h) = ap (λ t. look_at (place len t) t) (h.1 ∙ ap (λ t. 92 ∷ t) h.2)

pub look_piece : (len : ℕ) (text rest : Bytes) (it : RawPart) → IsPiece false it text rest → look len text ≡ Piece it rest
look_piece len text rest (part.Param key default quoted) h = look_dollar len _ text (param_dollar false key default text rest h.1) ∙ ap (λ q. Piece (part.Param key default q) rest) (sym h.0)
look_piece len text rest (part.Quoted bytes) h = quoted_seen len bytes text rest h.1
look_piece len text rest _ h = absurd h

pub inner_piece : (len : ℕ) (text rest : Bytes) (it : RawPart) → IsPiece true it text rest → inner len text ≡ Piece it rest
inner_piece len text rest (part.Param key default quoted) h = inner_dollar len _ text (param_dollar true key default text rest h.1) ∙ ap (λ q. Piece (part.Param key default q) rest) (sym h.0)
inner_piece len text rest (part.Quoted bytes) h = absurd (true≢false h.0)
inner_piece len text rest _ h = absurd h

pub look_all : (len : ℕ) (text rest : Bytes) → Stands (codes "$@") text rest → look len text ≡ AllArgs rest
look_all len text rest h = look_dollar len (AllArgs rest) text (all_dollar false text rest h)

pub inner_all : (len : ℕ) (text rest : Bytes) → Stands (codes "$@") text rest → inner len text ≡ AllArgs rest
inner_all len text rest h = inner_dollar len (AllArgs rest) text (all_dollar true text rest h)

pub look_substitution : (len : ℕ) (text rest : Bytes) → IsSubstitution text rest → look len text ≡ Substitution rest
look_substitution len text rest h = look_dollar len (Substitution rest) text (substitution_dollar false text rest h)

pub inner_substitution : (len : ℕ) (text rest : Bytes) → IsSubstitution text rest → inner len text ≡ Substitution rest
inner_substitution len text rest h = inner_dollar len (Substitution rest) text (substitution_dollar true text rest h)

pub look_double : (len : ℕ) (text rest : Bytes) → Stands (codes "\"") text rest → look len text ≡ DoubleQuote rest
look_double len text rest h = ap (λ t. look_at (place len t) t) (h.1 ∙ ap (λ t. 34 ∷ t) h.2)

pub inner_double : (len : ℕ) (text rest : Bytes) → Stands (codes "\"") text rest → inner len text ≡ DoubleQuote rest
inner_double len text rest h = ap (λ t. inner_at (place len t) t) (h.1 ∙ ap (λ t. 34 ∷ t) h.2)

-- ---- what is seen is spelled

-- where an end is
abbrev IsEndSeen : Bool → Bytes → Type 0
IsEndSeen true text = AtTextEnd text
IsEndSeen false text = IsWordEnd text

-- a fault, or a form in braces of which it is not said that it is no parameter
pub data IsBadSeen (inside : Bool) (at : ℕ) (text : Bytes) : LexFault → Type 0 where
  bad : {fault : LexFault} → IsBad inside at text fault → IsBadSeen inside at text fault
  in_braces : {rest : Bytes} → Stands (codes "${") text rest → IsBadSeen inside at text (Unsupported form.Param at)

-- what is seen says what stands
abbrev pub IsSeen : Bool → ℕ → Look → Bytes → Type 0
IsSeen inside at (Piece it rest) text = IsPiece inside it text rest
IsSeen inside at (AllArgs rest) text = Stands (codes "$@") text rest
IsSeen inside at (Substitution rest) text = IsSubstitution text rest
IsSeen inside at (DoubleQuote rest) text = Stands (codes "\"") text rest
IsSeen inside at (Byte b rest) text = IsByte inside text b rest
IsSeen inside at Ends text = IsEndSeen inside text
IsSeen inside at (Bad fault) text = IsBadSeen inside at text fault

-- what stands behind `${`, as what stands from `$` on
record IsOpened (text from : Bytes) : Type 0 where
  pub behind : Bytes
  pub is : skip text ≡ 36 ∷ behind
  pub brace : skip behind ≡ 123 ∷ from

opened_stands : (text from bytes rest : Bytes) → IsOpened text from → Stands bytes from rest → Stands (codes "${" ++ bytes) text rest
opened_stands text from bytes rest o h = (o.behind, o.is, (from, o.brace, h))

-- the text ends behind the beginning of a parameter
opened_ends : (text from begun rest : Bytes) → IsOpened text from → IsBegun begun → Stands begun from rest → AtTextEnd rest → EndsInParam text
opened_ends text from begun rest o is h e = record { begun = begun; is_begun = is; rest = rest; stands = opened_stands text from begun rest o h; ends = e }

-- another form in braces
other_seen : (quoted : Bool) (at : ℕ) (text from : Bytes) → IsOpened text from → IsSeen quoted at (bad_param at) text
other_seen quoted at text from o = in_braces (opened_stands text from [] from o refl)

-- what stands behind a key in a parameter that ends with the text
data IsTail : Bytes → Type 0 where
  no_tail : IsTail []
  colon_tail : IsTail (codes ":")
  default_tail : (default : Bytes) → is_default default ≡ true → IsTail (codes ":-" ++ default)

begun_tail : (bytes tail : Bytes) → IsKey bytes → IsTail tail → IsBegun (bytes ++ tail)
begun_tail bytes tail is no_tail = subst IsBegun (sym (append-nil bytes)) (key_begun is)
begun_tail bytes tail is colon_tail = colon is
begun_tail bytes tail is (default_tail d e) = with_default d is e

closed_seen : (quoted : Bool) (at : ℕ) (key : Key) (default : Option Bytes) (text from middle t : Bytes) → IsOpened text from → skip middle ≡ t
    → ((rest : Bytes) → Stands (codes "}") middle rest → IsParam key default text rest) → (AtTextEnd middle → EndsInParam text) → IsSeen quoted at (closed quoted at key default t) text
closed_seen quoted at key default text from middle [] o e make ends = bad (open_parameter (ends e))
closed_seen quoted at key default text from middle (b ∷ u) o e make ends =
    cond_both (nat_eq b 125) (Piece (part.Param key default quoted) u) (bad_param at) (λ l. IsSeen quoted at l text)
    (λ is. (refl, make u (u, e ∙ ap (λ b. b ∷ u) (eqb-true b 125 is), refl))) (λ _. other_seen quoted at text from o)

colon_seen : (quoted : Bool) (at : ℕ) (key : Key) (text from middle t : Bytes) → IsOpened text from → skip middle ≡ t
    → ((default rest : Bytes) → is_default default ≡ true → Stands (codes "-" ++ (default ++ codes "}")) middle rest → IsParam key (Some default) text rest)
    → ((tail rest : Bytes) → IsTail (58 ∷ tail) → Stands tail middle rest → AtTextEnd rest → EndsInParam text) → IsSeen quoted at (behind_colon quoted at key t) text
colon_seen quoted at key text from middle [] o e make ends = bad (open_parameter (ends [] middle colon_tail refl e))
colon_seen quoted at key text from middle (b ∷ u) o e make ends =
    cond_both (nat_eq b 45) (closed quoted at key (Some (run Defaults u)) (skip (behind Defaults u))) (bad_param at) (λ l. IsSeen quoted at l text)
    (λ is.
    let all = run_stands is_default_byte (run Defaults u) u refl in
    let dash = e ∙ ap (λ b. b ∷ u) (eqb-true b 45 is) in
    closed_seen quoted at key (Some (run Defaults u)) text from (behind Defaults u) (skip (behind Defaults u)) o refl
    (λ rest h. make (run Defaults u) rest all.pass (u, dash, stands_then (run Defaults u) (codes "}") u (behind Defaults u) rest all.stands h))
    (λ end. ends (45 ∷ run Defaults u) (behind Defaults u) (default_tail (run Defaults u) all.pass) (u, dash, all.stands) end))
    (λ _. other_seen quoted at text from o)

key_seen : (quoted : Bool) (at : ℕ) (key : Key) (text from middle t : Bytes) → IsOpened text from → skip middle ≡ t → ((rest : Bytes) → Stands (codes "}") middle rest → IsParam key None text rest)
    → ((default rest : Bytes) → is_default default ≡ true → Stands (codes ":-" ++ (default ++ codes "}")) middle rest → IsParam key (Some default) text rest)
    → ((tail rest : Bytes) → IsTail tail → Stands tail middle rest → AtTextEnd rest → EndsInParam text) → IsSeen quoted at (behind_key quoted at key t) text
key_seen quoted at key text from middle [] o e make make_default ends = bad (open_parameter (ends [] middle no_tail refl e))
key_seen quoted at key text from middle (b ∷ u) o e make make_default ends =
    cond_both (nat_eq b 58) (behind_colon quoted at key (skip u)) (closed quoted at key None (b ∷ u)) (λ l. IsSeen quoted at l text)
    (λ is.
    let colon_is = e ∙ ap (λ b. b ∷ u) (eqb-true b 58 is) in
    colon_seen quoted at key text from u (skip u) o refl (λ default rest default_is h. make_default default rest default_is (u, colon_is, h))
    (λ tail rest tail_is h end. ends (58 ∷ tail) rest tail_is (u, colon_is, h) end))
    (λ _. closed_seen quoted at key None text from middle (b ∷ u) o e make (λ end. ends [] middle no_tail refl end))

-- the run of a name that begins with a letter
name_stands : (b : ℕ) (more text : Bytes) → skip text ≡ b ∷ more → is_letter b ≡ true
    → (is_shell_name (run Names (b ∷ more)) ≡ true) × Stands (run Names (b ∷ more)) text (behind Names (b ∷ more)) × (begins is_name_byte (skip (behind Names (b ∷ more))) ≡ false)
name_stands b more text e is = by (run Names (b ∷ more)) (run_stands is_name_byte (run Names (b ∷ more)) (b ∷ more) refl) where
  by : (found : Bytes) → IsRun is_name_byte found (b ∷ more) (behind Names (b ∷ more))
      → (is_shell_name found ≡ true) × Stands found text (behind Names (b ∷ more)) × (begins is_name_byte (skip (behind Names (b ∷ more))) ≡ false)
  by [] all = absurd (empty (sym (ap (begins is_name_byte) again) ∙ ap (λ t. begins is_name_byte (skip t)) all.stands ∙ all.longest)) where
    again : skip (b ∷ more) ≡ b ∷ more
    again = sym (ap skip e) ∙ skip_again text ∙ e

    empty : is_name_byte b ≡ false → ⊥
    empty n = true≢false (sym (letter_passes b is) ∙ n)
  by (c ∷ found) all = (
    and_from (is_letter c) (list_all is_name_byte found) (ap is_letter (first (again ∙ all.stands.1)) ∙ is) (and_parts (is_name_byte c) (list_all is_name_byte found) all.pass).1,
    stands_skip c found text (behind Names (b ∷ more)) (subst (λ t. Stands (c ∷ found) t (behind Names (b ∷ more))) (sym e) all.stands),
    all.longest,
  ) where
    again : b ∷ more ≡ skip (b ∷ more)
    again = sym (sym (ap skip e) ∙ skip_again text ∙ e)

    first : {t : Bytes} → b ∷ more ≡ c ∷ t → c ≡ b
    first e = cc

braced_by_seen : (quoted : Bool) (at b : ℕ) (text from more : Bytes) (it : ByteKind) → IsOpened text from → skip from ≡ b ∷ more → KindOf b it → IsSeen quoted at (braced_by quoted at b it more) text
braced_by_seen quoted at b text from more k.Name o e is =
    let n = name_stands b more from e is in
    let found = run Names (b ∷ more) in
    let middle = behind Names (b ∷ more) in
    key_seen quoted at (Named found) text from middle (skip middle) o refl
    (λ rest h. name_braced n.0 (opened_stands text from (found ++ codes "}") rest o (stands_then found (codes "}") from middle rest n.1 h)))
    (λ default rest default_is h. name_default n.0 default_is
    (opened_stands text from (found ++ (codes ":-" ++ (default ++ codes "}"))) rest o (stands_then found (codes ":-" ++ (default ++ codes "}")) from middle rest n.1 h)))
    (λ tail rest tail_is h end. opened_ends text from (found ++ tail) rest o (begun_tail found tail (name_key_is n.0) tail_is) (stands_then found tail from middle rest n.1 h) end)
braced_by_seen quoted at b text from more k.Digit o e is =
    cond_both (nat_eq b 48) (bad_param at) (behind_key quoted at (Arg (b - 48)) (skip more)) (λ l. IsSeen quoted at l text) (λ _. other_seen quoted at text from o)
    (λ other. key_seen quoted at (Arg (b - 48)) text from more (skip more) o refl
    (λ rest h. number_braced (digit_of b is other) (opened_stands text from (b ∷ codes "}") rest o (more, e, h)))
    (λ default rest default_is h. number_default (digit_of b is other) default_is (opened_stands text from (b ∷ (codes ":-" ++ (default ++ codes "}"))) rest o (more, e, h)))
    (λ tail rest tail_is h end. opened_ends text from (b ∷ tail) rest o (begun_tail (b ∷ []) tail (number_key_is (digit_of b is other)) tail_is) (more, e, h) end))
braced_by_seen quoted at b text from more k.Hash o e is =
    let hash = e ∙ ap (λ b. b ∷ more) is in
    closed_seen quoted at Count None text from more (skip more) o refl (λ rest h. count_braced (opened_stands text from (codes "#}") rest o (more, hash, h)))
    (λ end. opened_ends text from (codes "#") more o begun_count (more, hash, refl) end)
braced_by_seen quoted at b text from more _ o e is = other_seen quoted at text from o

braced_seen : (quoted : Bool) (at : ℕ) (text from t : Bytes) → IsOpened text from → skip from ≡ t → IsSeen quoted at (braced quoted at t) text
braced_seen quoted at text from [] o e = bad (open_parameter (opened_ends text from [] from o nothing refl e))
braced_seen quoted at text from (b ∷ more) o e = braced_by_seen quoted at b text from more (kind b) o e (kind_of b)

-- a `$` before a byte with which it begins nothing
dollar_itself : (inside : Bool) (b : ℕ) (text behind more : Bytes) (it : ByteKind) → skip text ≡ 36 ∷ behind → skip behind ≡ b ∷ more → kind b ≡ it → is_expansion inside it ≡ false → IsByte inside text 36 behind
dollar_itself inside b text behind more it d e same none = byte_dollar (behind, d, refl) (ap (begins (begins_expansion inside)) e ∙ no_expansion inside b it same none)

quote_byte : (quoted : Bool) (at b : ℕ) (behind more text : Bytes) (it : ByteKind) → skip text ≡ 36 ∷ behind → skip behind ≡ b ∷ more → list_any (nat_eq b) (codes "'\"") ≡ true
    → kind b ≡ it → is_expansion true it ≡ false → IsSeen quoted at (before_quote quoted at behind) text
quote_byte true at b behind more text it d e is same none = dollar_itself true b text behind more it d e same none
quote_byte false at b behind more text it d e is same none = bad (parameter (before_a_quote refl is (behind, d, (more, e, refl))))

-- a special parameter that is not supported
special_seen : (quoted : Bool) (at b : ℕ) (text behind more : Bytes) → skip text ≡ 36 ∷ behind → skip behind ≡ b ∷ more → list_any (nat_eq b) (codes "*?-$!0") ≡ true → IsSeen quoted at (bad_param at) text
special_seen quoted at b text behind more d e is = bad (parameter (special is (behind, d, (more, e, refl))))

special_byte : (b : ℕ) → is_special b ≡ true → list_any (nat_eq b) (codes "*?-$!0") ≡ true
special_byte b e =
    or_case (nat_eq b 42 || nat_eq b 63 || nat_eq b 33) (nat_eq b 45) e
    (λ e. or_case (nat_eq b 42 || nat_eq b 63) (nat_eq b 33) e (λ e. or_case (nat_eq b 42) (nat_eq b 63) e (one 42 refl) (one 63 refl)) (one 33 refl)) (one 45 refl) where
      one : (c : ℕ) → list_any (nat_eq c) (codes "*?-$!0") ≡ true → nat_eq b c ≡ true → list_any (nat_eq b) (codes "*?-$!0") ≡ true
      one c h is = ap (λ b. list_any (nat_eq b) (codes "*?-$!0")) (eqb-true b c is) ∙ h

dollar_by_seen : (quoted : Bool) (at b : ℕ) (text behind more : Bytes) (it : ByteKind) → skip text ≡ 36 ∷ behind → skip behind ≡ b ∷ more → KindOf b it → kind b ≡ it → IsSeen quoted at (dollar_by quoted at behind b it more) text
dollar_by_seen quoted at b text after more k.Open d e is same =
    let first = e ∙ ap (λ b. b ∷ more) is in
    cond_both (head_is 40 (skip more)) _ (Substitution more) (λ l. IsSeen quoted at l text) (λ two. bad (arithmetic (after, d, (more, first, (tail (skip more), head_back 40 (skip more) two, refl)))))
    (λ one. record { stands = (after, d, (more, first, refl)); single = not_next 40 more refl one })
dollar_by_seen quoted at b text after more k.Brace d e is same = braced_seen quoted at text more (skip more) (record { behind = after; is = d; brace = e ∙ ap (λ b. b ∷ more) is }) refl
dollar_by_seen quoted at b text after more k.Name d e is same = let n = name_stands b more after e is in (refl, by_name n.0 (after, d, n.1) n.2)
dollar_by_seen quoted at b text after more k.Digit d e is same =
    cond_both (nat_eq b 48) (bad_param at) (Piece (part.Param (Arg (b - 48)) None quoted) more) (λ l. IsSeen quoted at l text)
    (λ zero'. special_seen quoted at b text after more d e (ap (λ b. list_any (nat_eq b) (codes "*?-$!0")) (eqb-true b 48 zero')))
    (λ other. (refl, by_number (digit_of b is other) (after, d, (more, e, refl))))
dollar_by_seen quoted at b text after more k.Hash d e is same = (refl, count (after, d, (more, e ∙ ap (λ b. b ∷ more) is, refl)))
dollar_by_seen quoted at b text after more k.At d e is same = (after, d, (more, e ∙ ap (λ b. b ∷ more) is, refl))
dollar_by_seen quoted at b text after more k.Single d e is same = quote_byte quoted at b after more text k.Single d e (ap (λ b. list_any (nat_eq b) (codes "'\"")) is) same refl
dollar_by_seen quoted at b text after more k.Double d e is same = quote_byte quoted at b after more text k.Double d e (ap (λ b. list_any (nat_eq b) (codes "'\"")) is) same refl
dollar_by_seen quoted at b text after more k.Special d e is same = special_seen quoted at b text after more d e (special_byte b is)
dollar_by_seen quoted at b text after more k.Dollar d e is same = special_seen quoted at b text after more d e (ap (λ b. list_any (nat_eq b) (codes "*?-$!0")) is)
dollar_by_seen quoted at b text after more it d e is same = dollar_itself quoted b text after more it d e same refl

dollar_seen : (quoted : Bool) (at : ℕ) (text behind t : Bytes) → skip text ≡ 36 ∷ behind → skip behind ≡ t → IsSeen quoted at (dollar quoted at behind t) text
dollar_seen quoted at text after [] d e = byte_dollar (after, d, refl) (ap (begins (begins_expansion quoted)) e)
dollar_seen quoted at text after (b ∷ more) d e = dollar_by_seen quoted at b text after more (kind b) d e (kind_of b) refl

-- up to the quote
quote_splits_by : (b : ℕ) (t : Bytes) (it : Bool) → nat_eq b 39 ≡ it → (it || has_quote t) ≡ true
    → (has_quote t ≡ true → (t ≡ quote_body t ++ 39 ∷ behind_quote t) × (list_all (λ b. not (nat_eq b 39)) (quote_body t) ≡ true))
    → (b ∷ t ≡ (if it then [] else b ∷ quote_body t) ++ 39 ∷ (if it then t else behind_quote t)) × (list_all (λ b. not (nat_eq b 39)) (if it then [] else b ∷ quote_body t) ≡ true)
quote_splits_by b t true is e again = (ap (λ b. b ∷ t) (eqb-true b 39 is), refl)
quote_splits_by b t false is e again = let more = again e in (ap (λ t. b ∷ t) more.0, and_from (not (nat_eq b 39)) (list_all (λ b. not (nat_eq b 39)) (quote_body t)) (ap not is) more.1)

quote_splits : (t : Bytes) → has_quote t ≡ true → (t ≡ quote_body t ++ 39 ∷ behind_quote t) × (list_all (λ b. not (nat_eq b 39)) (quote_body t) ≡ true)
quote_splits [] e = absurd (false≢true e)
quote_splits (b ∷ t) e = quote_splits_by b t (nat_eq b 39) refl e (λ h. quote_splits t h)

no_quote_by : (b : ℕ) (t : Bytes) (it : Bool) → nat_eq b 39 ≡ it → (it || has_quote t) ≡ false → (has_quote t ≡ false → list_all (λ b. not (nat_eq b 39)) t ≡ true)
    → list_all (λ b. not (nat_eq b 39)) (b ∷ t) ≡ true
no_quote_by b t true is e again = absurd (true≢false e)
no_quote_by b t false is e again = and_from (not (nat_eq b 39)) (list_all (λ b. not (nat_eq b 39)) t) (ap not is) (again e)

-- no quote comes
no_quote : (t : Bytes) → has_quote t ≡ false → list_all (λ b. not (nat_eq b 39)) t ≡ true
no_quote [] e = refl
no_quote (b ∷ t) e = no_quote_by b t (nat_eq b 39) refl e (λ h. no_quote t h)

look_by_seen : (at c : ℕ) (text more : Bytes) (it : ByteKind) → skip text ≡ c ∷ more → KindOf c it → kind c ≡ it → IsSeen false at (look_by at c it more) text
look_by_seen at c text more k.Single e is same =
    let quote = e ∙ ap (λ c. c ∷ more) is in
    cond_both (has_quote more) (Piece (part.Quoted (quote_body more)) (behind_quote more)) (Bad (OpenQuote at)) (λ l. IsSeen false at l text)
    (λ has. let q = quote_splits more has in (refl, single q.1 (more, quote, q.0))) (λ none. bad (open_quote refl (more, quote, refl) (no_quote more none)))
look_by_seen at c text more k.Double e is same = (more, e ∙ ap (λ c. c ∷ more) is, refl)
look_by_seen at c text [] k.Back e is same = subst (λ b. IsByte false text b []) (sym is) (byte_last ([], e ∙ ap (λ c. c ∷ []) is, refl))
look_by_seen at c text (b ∷ more) k.Back e is same = (refl, escaped (b ∷ more, e ∙ ap (λ c. c ∷ b ∷ more) is, refl))
look_by_seen at c text more k.Dollar e is same = dollar_seen false at text more (skip more) (e ∙ ap (λ c. c ∷ more) is) refl
look_by_seen at c text more k.Tick e is same = bad (backquote (more, e ∙ ap (λ c. c ∷ more) is, refl))
look_by_seen at c text more k.Blank e is same = is_end c text more k.Blank e is refl
look_by_seen at c text more k.Newline e is same = is_end c text more k.Newline e is refl
look_by_seen at c text more k.Semi e is same = is_end c text more k.Semi e is refl
look_by_seen at c text more k.Amp e is same = is_end c text more k.Amp e is refl
look_by_seen at c text more k.Bar e is same = is_end c text more k.Bar e is refl
look_by_seen at c text more k.Open e is same = is_end c text more k.Open e is refl
look_by_seen at c text more k.Close e is same = is_end c text more k.Close e is refl
look_by_seen at c text more k.Less e is same = is_end c text more k.Less e is refl
look_by_seen at c text more k.Greater e is same = is_end c text more k.Greater e is refl
look_by_seen at c text more it e is same = ordinary (more, e, refl) (no_meaning c it same refl)

look_at_seen : (at : ℕ) (text t : Bytes) → skip text ≡ t → IsSeen false at (look_at at t) text
look_at_seen at text [] e = text_ends e
look_at_seen at text (c ∷ more) e = look_by_seen at c text more (kind c) e (kind_of c) refl

pub look_seen : (len : ℕ) (text : Bytes) (it : Look) → look len text ≡ it → IsSeen false (offset len text) it text
look_seen len text it e = subst (λ l. IsSeen false (offset len text) l text) e (look_at_seen (offset len text) text (skip text) refl)

escaped_byte : (at b : ℕ) (more text : Bytes) → skip text ≡ b ∷ more → b ≡ 92 → IsSeen true at (inner_escaped b more) text
escaped_byte at b [] text e is = subst (λ b. IsByte true text b []) (sym is) (byte_last ([], e ∙ ap (λ b. b ∷ []) is, refl))
escaped_byte at b (c ∷ more) text e is =
    let stands : Stands (codes "\\") text (c ∷ more) = (c ∷ more, e ∙ ap (λ b. b ∷ c ∷ more) is, refl) in
    cond_both (is_escapable (kind c)) (Byte c more) (Byte b (c ∷ more)) (λ l. IsSeen true at l text) (λ it. byte_escaped refl stands (kind_escaped c (kind c) (kind_of c) it))
    (λ it. subst (λ b. IsByte true text b (c ∷ more)) (sym is) (byte_backslash refl stands (not_escaped c (kind c) refl it)))

inner_by_seen : (at c : ℕ) (text more : Bytes) (it : ByteKind) → skip text ≡ c ∷ more → KindOf c it → kind c ≡ it → IsSeen true at (inner_by at c it more) text
inner_by_seen at c text more k.Double e is same = (more, e ∙ ap (λ c. c ∷ more) is, refl)
inner_by_seen at c text more k.Back e is same = escaped_byte at c more text e is
inner_by_seen at c text more k.Dollar e is same = dollar_seen true at text more (skip more) (e ∙ ap (λ c. c ∷ more) is) refl
inner_by_seen at c text more k.Tick e is same = bad (backquote (more, e ∙ ap (λ c. c ∷ more) is, refl))
inner_by_seen at c text more it e is same = ordinary (more, e, refl) (not_escaped c it same refl)

inner_at_seen : (at : ℕ) (text t : Bytes) → skip text ≡ t → IsSeen true at (inner_at at t) text
inner_at_seen at text [] e = e
inner_at_seen at text (c ∷ more) e = inner_by_seen at c text more (kind c) e (kind_of c) refl

pub inner_seen : (len : ℕ) (text : Bytes) (it : Look) → inner len text ≡ it → IsSeen true (offset len text) it text
inner_seen len text it e = subst (λ l. IsSeen true (offset len text) l text) e (inner_at_seen (offset len text) text (skip text) refl)
