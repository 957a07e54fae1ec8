-- A fault in a word, or in double quotes, is seen exactly where it is spelled; and a NUL is found where the first one
-- stands.
use Rattle.std.proofs.Common.{◌≡◌, ℕ, ◌+◌, ◌-◌, Bool, true, false, not, nat_eq, [], ◌∷◌, ◌++◌, length, Option, Some, None, refl, sym, ap, ◌∙◌, subst, codes, arith}
use Rattle.std.specs.List.{list_all, list_any}
use Rattle.shell_syntax.specs.declared.form.Form.TheVariants as form
use Rattle.shell_syntax.specs.declared.key.Key.{Key}
use Rattle.shell_syntax.specs.declared.key.Key.TheVariants.{Named, Arg, Count}
use Rattle.shell_lexer.specs.declared.fault.LexFault.{LexFault}
use Rattle.shell_lexer.specs.declared.fault.LexFault.TheVariants.{OpenQuote, OpenSubstitution, Unsupported}
use Rattle.shell_lexer.specs.declared.byte_kind.ByteKind.{ByteKind}
use Rattle.shell_lexer.specs.declared.byte_kind.ByteKind.TheVariants as k
use Rattle.shell_lexer.specs.declared.byte_kind.RunKind.TheVariants.{Names, Defaults}
use Rattle.shell_lexer.specs.declared.token.RawPart.{RawPart}
use Rattle.shell_lexer.specs.declared.token.RawPart.TheVariants as part
use Rattle.shell_lexer.specs.FirstLine.{nul_from, nul_of, interpreter}
use Rattle.script_names.specs.ShellNames.{is_name_byte}
use Rattle.shell_lexer.specs.Text.{Bytes, kind, skip, place, offset, head_is, is_default_byte, run, behind}
use Rattle.shell_lexer.specs.Parts.{Look, Piece, Substitution, Bad, bad_param, closed, behind_key, behind_colon, braced_by, braced, dollar_by, dollar, has_quote, look_at, look, inner_at, inner}
use Rattle.shell_lexer.specs.Spelling.{Stands, begins}
use Rattle.shell_lexer.specs.SpelledEnds.{AtTextEnd}
use Rattle.shell_lexer.specs.SpelledFaults.{IsKey, name as by_name, number as by_number, IsBegun, nothing, key as key_begun, colon, default as with_default, count as by_count, EndsInParam, IsOtherParam, special, before_quote as before_a_quote, braced as in_braces, IsNoParam, IsBad, open_quote, open_parameter, backquote, arithmetic, parameter, IsFirstNul}
use Rattle.shell_lexer.specs.SpelledLine.{IsFirstLine}
use Rattle.shell_lexer.specs.SpelledParts.{is_default, IsParam}
use Rattle.shell_lexer.proofs.SpelledCases.{none_some, some_same, one_among}
use Rattle.shell_lexer.proofs.SpelledFronts.{head_of}
use Rattle.shell_lexer.proofs.SpelledLine.{line_is, line_accepted}
use Rattle.shell_lexer.proofs.SpelledParts.{name_key, digit_key, IsSeen, IsBadSeen, bad, in_braces as seen_in_braces, look_seen, inner_seen, look_piece, inner_piece}
use Rattle.shell_lexer.proofs.SpelledRuns.{stands_parts, IsRun, run_is, behind_is}
use Rattle.std.proofs.lemmas.Bool.{and_from, and_parts, cond-false, cond-true, cond_both, eqb-true, false≢true, not-true, or_from}

-- ---- what is spelled is seen

-- the table by which a word, or what stands in double quotes, is looked at
abbrev pub eyes : Bool → ℕ → Bytes → Look
eyes false = look
eyes true = inner

-- behind `$` the table of dollars is asked
pub eyes_dollar : (inside : Bool) (len : ℕ) (text behind : Bytes) → skip text ≡ 36 ∷ behind → eyes inside len text ≡ dollar inside (offset len text) behind (skip behind)
eyes_dollar false len text behind e = ap (λ t. look_at (place len t) t) e ∙ ap (λ t. dollar false (place len t) behind (skip behind)) (sym e)
eyes_dollar true len text behind e = ap (λ t. inner_at (place len t) t) e ∙ ap (λ t. dollar true (place len t) behind (skip behind)) (sym e)

-- a key's rest, where the text ends
ended_key : (inside : Bool) (at : ℕ) (key : Key) (from : Bytes) → AtTextEnd from → behind_key inside at key (skip from) ≡ Bad (OpenSubstitution at)
ended_key inside at key from e = ap (behind_key inside at key) e

ended_colon : (inside : Bool) (at : ℕ) (key : Key) (from rest : Bytes) → Stands (codes ":") from rest → AtTextEnd rest → behind_key inside at key (skip from) ≡ Bad (OpenSubstitution at)
ended_colon inside at key from rest h e = ap (behind_key inside at key) h.1 ∙ ap (λ t. behind_colon inside at key (skip t)) h.2 ∙ ap (behind_colon inside at key) e

ended_default : (inside : Bool) (at : ℕ) (key : Key) (default from rest : Bytes) → is_default default ≡ true → Stands (codes ":-" ++ default) from rest → AtTextEnd rest
    → behind_key inside at key (skip from) ≡ Bad (OpenSubstitution at)
ended_default inside at key default from rest is h e =
    let middle = h.2.0 in
    let all : IsRun is_default_byte default middle rest = record { stands = h.2.2; pass = is; longest = ap (begins is_default_byte) e } in
    ap (behind_key inside at key) h.1 ∙ ap (behind_colon inside at key) h.2.1
    ∙ ap (λ t. closed inside at key (Some (run Defaults middle)) (skip t)) (behind_is is_default_byte default middle rest all)
    ∙ ap (closed inside at key (Some (run Defaults middle))) e

-- a key, and what the table gives behind it
key_then : (inside : Bool) (at : ℕ) (bytes from middle : Bytes) → IsKey bytes → Stands bytes from middle → begins is_name_byte (skip middle) ≡ false
    → (key : Key) × (braced inside at (skip from) ≡ behind_key inside at key (skip middle))
key_then inside at bytes from middle (by_name is) h ends = (Named bytes, name_key inside at bytes from middle is h ends)
key_then inside at bytes from middle (by_number {number = n} {digit = d} is) h ends =
    (Arg n, digit_key inside at n d from h.0 is h.1 ∙ ap (λ t. behind_key inside at (Arg n) (skip t)) h.2)

begun_braced : (inside : Bool) (at : ℕ) (bytes from rest : Bytes) → IsBegun bytes → Stands bytes from rest → AtTextEnd rest → braced inside at (skip from) ≡ Bad (OpenSubstitution at)
begun_braced inside at bytes from rest nothing h e = ap (λ t. braced inside at (skip t)) h ∙ ap (braced inside at) e
begun_braced inside at bytes from rest (key_begun is) h e =
    let k = key_then inside at bytes from rest is h (ap (begins is_name_byte) e) in k.1 ∙ ended_key inside at k.0 rest e
begun_braced inside at _ from rest (colon {key = bytes} is) h e =
    let p = stands_parts bytes (codes ":") from rest h in
    let k = key_then inside at bytes from p.0 is p.1 (ap (begins is_name_byte) p.2.1) in
    k.1 ∙ ended_colon inside at k.0 p.0 rest p.2 e
begun_braced inside at _ from rest (with_default {key = bytes} default is default_is) h e =
    let p = stands_parts bytes (codes ":-" ++ default) from rest h in
    let k = key_then inside at bytes from p.0 is p.1 (ap (begins is_name_byte) p.2.1) in
    k.1 ∙ ended_default inside at k.0 default p.0 rest default_is p.2 e
begun_braced inside at bytes from rest by_count h e =
    ap (braced inside at) h.1 ∙ ap (λ t. closed inside at Count None (skip t)) h.2 ∙ ap (closed inside at Count None) e

ends_in_param : (inside : Bool) (len : ℕ) (text : Bytes) → EndsInParam text → eyes inside len text ≡ Bad (OpenSubstitution (offset len text))
ends_in_param inside len text h =
    let s = h.stands in
    eyes_dollar inside len text s.0 s.1 ∙ ap (dollar inside (offset len text) s.0) s.2.1
    ∙ begun_braced inside (offset len text) h.begun s.2.0 h.rest h.is_begun s.2.2 h.ends

-- behind `$`, a byte before which no supported form begins
abbrev IsBadDollar : Bool → ℕ → Type 0
IsBadDollar inside b = (at : ℕ) (behind more : Bytes) → dollar_by inside at behind b (kind b) more ≡ bad_param at

bad_special : (inside : Bool) (b : ℕ) → list_any (nat_eq b) (codes "*?-$!0") ≡ true → IsBadDollar inside b
bad_special inside b e =
    one_among (IsBadDollar inside) b (codes "*?-$!0")
    ((λ at t u. refl), ((λ at t u. refl), ((λ at t u. refl), ((λ at t u. refl), ((λ at t u. refl), ((λ at t u. refl), tt)))))) e

bad_quote : (b : ℕ) → list_any (nat_eq b) (codes "'\"") ≡ true → IsBadDollar false b
bad_quote b e = one_among (IsBadDollar false) b (codes "'\"") ((λ at t u. refl), ((λ at t u. refl), tt)) e

-- what the table may give for a form in braces
data IsBraces (at : ℕ) : Look → Type 0 where
  whole : {key : Key} {default : Option Bytes} {quoted : Bool} {rest : Bytes} → IsBraces at (Piece (part.Param key default quoted) rest)
  open_to_end : IsBraces at (Bad (OpenSubstitution at))
  other : IsBraces at (Bad (Unsupported form.Param at))

closed_braces : (quoted : Bool) (at : ℕ) (key : Key) (default : Option Bytes) (t : Bytes) → IsBraces at (closed quoted at key default t)
closed_braces quoted at key default [] = open_to_end
closed_braces quoted at key default (b ∷ rest) = cond_both (nat_eq b 125) (Piece (part.Param key default quoted) rest) (bad_param at) (IsBraces at) (λ _. whole) (λ _. other)

colon_braces : (quoted : Bool) (at : ℕ) (key : Key) (t : Bytes) → IsBraces at (behind_colon quoted at key t)
colon_braces quoted at key [] = open_to_end
colon_braces quoted at key (b ∷ rest) =
    cond_both (nat_eq b 45) (closed quoted at key (Some (run Defaults rest)) (skip (behind Defaults rest))) (bad_param at) (IsBraces at)
    (λ _. closed_braces quoted at key (Some (run Defaults rest)) (skip (behind Defaults rest))) (λ _. other)

key_braces : (quoted : Bool) (at : ℕ) (key : Key) (t : Bytes) → IsBraces at (behind_key quoted at key t)
key_braces quoted at key [] = open_to_end
key_braces quoted at key (b ∷ rest) =
    cond_both (nat_eq b 58) (behind_colon quoted at key (skip rest)) (closed quoted at key None (b ∷ rest)) (IsBraces at)
    (λ _. colon_braces quoted at key (skip rest)) (λ _. closed_braces quoted at key None (b ∷ rest))

braces_by : (quoted : Bool) (at b : ℕ) (it : ByteKind) (rest : Bytes) → IsBraces at (braced_by quoted at b it rest)
braces_by quoted at b k.Name rest = key_braces quoted at (Named (run Names (b ∷ rest))) (skip (behind Names (b ∷ rest)))
braces_by quoted at b k.Digit rest =
    cond_both (nat_eq b 48) (bad_param at) (behind_key quoted at (Arg (b - 48)) (skip rest)) (IsBraces at) (λ _. other) (λ _. key_braces quoted at (Arg (b - 48)) (skip rest))
braces_by quoted at b k.Hash rest = closed_braces quoted at Count None (skip rest)
braces_by quoted at b _ rest = other

braces_are : (quoted : Bool) (at : ℕ) (t : Bytes) → IsBraces at (braced quoted at t)
braces_are quoted at [] = open_to_end
braces_are quoted at (b ∷ rest) = braces_by quoted at b (kind b) rest

open_seen : (inside : Bool) (at to : ℕ) (text : Bytes) → IsBadSeen inside at text (OpenSubstitution to) → EndsInParam text
open_seen inside at to text (bad (open_parameter h)) = h

-- one that is no parameter, and that the text does not end in, is not supported
braces_left : (inside : Bool) (at : ℕ) (it : Look) (text : Bytes) → IsBraces at it → IsSeen inside at it text → IsNoParam text → (EndsInParam text → ⊥) → it ≡ bad_param at
braces_left inside at it text (whole {key = key} {default = default} {rest = rest}) seen none ends = absurd (none key default rest seen.1)
braces_left inside at it text open_to_end seen none ends = absurd (ends (open_seen inside at at text seen))
braces_left inside at it text other seen none ends = refl

eyes_seen : (inside : Bool) (len : ℕ) (text : Bytes) (it : Look) → eyes inside len text ≡ it → IsSeen inside (offset len text) it text
eyes_seen false = look_seen
eyes_seen true = inner_seen

other_param : (inside : Bool) (len : ℕ) (text : Bytes) → IsOtherParam inside text → eyes inside len text ≡ bad_param (offset len text)
other_param inside len text (special {byte = b} is h) =
    eyes_dollar inside len text h.0 h.1 ∙ ap (dollar inside (offset len text) h.0) h.2.1 ∙ bad_special inside b is (offset len text) h.0 h.2.0
other_param inside len text (before_a_quote {byte = b} out is h) =
    eyes_dollar inside len text h.0 h.1 ∙ ap (dollar inside (offset len text) h.0) h.2.1
    ∙ subst (λ inside. IsBadDollar inside b) (sym out) (bad_quote b is) (offset len text) h.0 h.2.0
other_param inside len text (in_braces h none ends) =
    let from = h.2.0 in
    let at = offset len text in
    let same = eyes_dollar inside len text h.0 h.1 ∙ ap (dollar inside at h.0) h.2.1 in
    same ∙ braces_left inside at (braced inside at (skip from)) text (braces_are inside at (skip from)) (eyes_seen inside len text (braced inside at (skip from)) same) none ends

unclosed : (t : Bytes) → list_all (λ b. not (nat_eq b 39)) t ≡ true → has_quote t ≡ false
unclosed [] e = refl
unclosed (b ∷ t) e =
    or_from (nat_eq b 39) (has_quote t) (not-true (nat_eq b 39) (and_parts (not (nat_eq b 39)) (list_all (λ b. not (nat_eq b 39)) t) e).0)
    (unclosed t (and_parts (not (nat_eq b 39)) (list_all (λ b. not (nat_eq b 39)) t) e).1)

single_open : (len : ℕ) (text rest : Bytes) → Stands (codes "'") text rest → list_all (λ b. not (nat_eq b 39)) rest ≡ true → look len text ≡ Bad (OpenQuote (offset len text))
single_open len text rest h none =
    ap (λ t. look_at (place len t) t) (h.1 ∙ ap (λ t. 39 ∷ t) h.2) ∙ cond-false (has_quote rest) _ _ (unclosed rest none)
    ∙ ap (λ t. Bad (OpenQuote (place len t))) (sym (h.1 ∙ ap (λ t. 39 ∷ t) h.2))

tick_seen : (inside : Bool) (len : ℕ) (text rest : Bytes) → Stands (codes "`") text rest → eyes inside len text ≡ Bad (Unsupported form.Backquote (offset len text))
tick_seen false len text rest h = ap (λ t. look_at (place len t) t) h.1 ∙ ap (λ t. Bad (Unsupported form.Backquote (place len t))) (sym h.1)
tick_seen true len text rest h = ap (λ t. inner_at (place len t) t) h.1 ∙ ap (λ t. Bad (Unsupported form.Backquote (place len t))) (sym h.1)

pub bad_seen : (inside : Bool) (len : ℕ) (text : Bytes) (fault : LexFault) → IsBad inside (offset len text) text fault → eyes inside len text ≡ Bad fault
bad_seen inside len text fault (open_quote out h none) = subst (λ inside. eyes inside len text ≡ Bad (OpenQuote (offset len text))) (sym out) (single_open len text _ h none)
bad_seen inside len text fault (open_parameter h) = ends_in_param inside len text h
bad_seen inside len text fault (backquote h) = tick_seen inside len text _ h
bad_seen inside len text fault (arithmetic h) =
    let at = offset len text in
    eyes_dollar inside len text h.0 h.1 ∙ ap (dollar inside at h.0) h.2.1
    ∙ cond-true (head_is 40 (skip h.2.0)) (Bad (Unsupported form.Arith at)) (Substitution h.2.0) (head_of 40 (skip h.2.0) h.2.2.0 h.2.2.1 refl).0
bad_seen inside len text fault (parameter h) = other_param inside len text h

-- ---- what is seen is spelled

piece_bad : {it : RawPart} {rest : Bytes} {fault : LexFault} → Piece it rest ≡ Bad fault → ⊥
piece_bad e = cc

open_param : {at to : ℕ} → Bad (OpenSubstitution at) ≡ Bad (Unsupported form.Param to) → ⊥
open_param e = cc

eyes_param : (inside : Bool) (len : ℕ) (key : Key) (default : Option Bytes) (text rest : Bytes) → IsParam key default text rest → eyes inside len text ≡ Piece (part.Param key default inside) rest
eyes_param false len key default text rest h = look_piece len text rest (part.Param key default false) (refl, h)
eyes_param true len key default text rest h = inner_piece len text rest (part.Param key default true) (refl, h)

bad_settled : (inside : Bool) (len : ℕ) (text : Bytes) (fault : LexFault) → IsBadSeen inside (offset len text) text fault → eyes inside len text ≡ Bad fault → IsBad inside (offset len text) text fault
bad_settled inside len text fault (bad h) e = h
bad_settled inside len text fault (seen_in_braces h) e =
    parameter (in_braces h (λ key default rest p. piece_bad (sym (eyes_param inside len key default text rest p) ∙ e)) (λ ends. open_param (sym (ends_in_param inside len text ends) ∙ e)))

pub bad_is : (inside : Bool) (len : ℕ) (text : Bytes) (fault : LexFault) → eyes inside len text ≡ Bad fault → IsBad inside (offset len text) text fault
bad_is inside len text fault e = bad_settled inside len text fault (eyes_seen inside len text (Bad fault) e) e

-- ---- the first NUL

nul_found : (from : ℕ) (before rest : Bytes) → list_all (λ b. not (nat_eq b 0)) before ≡ true → nul_from from (before ++ 0 ∷ rest) ≡ Some (from + length before)
nul_found from [] rest e = ap Some (omega arith)
nul_found from (b ∷ before) rest e =
    cond-false (nat_eq b 0) (Some from) (nul_from (from + 1) (before ++ 0 ∷ rest)) (not-true (nat_eq b 0) (and_parts (not (nat_eq b 0)) (list_all (λ b. not (nat_eq b 0)) before) e).0)
    ∙ nul_found (from + 1) before rest (and_parts (not (nat_eq b 0)) (list_all (λ b. not (nat_eq b 0)) before) e).1 ∙ ap Some (omega arith)

pub nul_seen : (text : Bytes) (at : ℕ) → IsFirstNul at text → nul_of text ≡ Some at
nul_seen text at h = ap nul_of h.is ∙ nul_found 0 h.before h.rest h.first ∙ ap Some (from_zero (length h.before) at h.place) where
  from_zero : (n at : ℕ) → n ≡ at → 0 + n ≡ at
  from_zero n at e = omega (arith, e)

-- the first NUL, counted from an offset on
abbrev NulFrom : ℕ → ℕ → Bytes → Type 0
NulFrom from at text = (before rest : Bytes) × (text ≡ before ++ 0 ∷ rest) × (list_all (λ b. not (nat_eq b 0)) before ≡ true) × (from + length before ≡ at)

nul_is_from : (from at : ℕ) (text : Bytes) → nul_from from text ≡ Some at → NulFrom from at text
nul_is_from from at [] e = absurd (none_some e)
nul_is_from from at (b ∷ t) e =
    cond_both (nat_eq b 0) (Some from) (nul_from (from + 1) t) (λ o. o ≡ Some at → NulFrom from at (b ∷ t))
    (λ is e. ([], t, ap (λ b. b ∷ t) (eqb-true b 0 is), refl, (let same = some_same e in omega (arith, same))))
    (λ is e. let more = nul_is_from (from + 1) at t e in
    (b ∷ more.0, more.1, ap (λ t. b ∷ t) more.2, and_from (not (nat_eq b 0)) (list_all (λ b. not (nat_eq b 0)) more.0) (ap not is) more.3, (let same = more.4 in omega (arith, same)))) e

pub nul_is : (text : Bytes) (at : ℕ) → nul_of text ≡ Some at → IsFirstNul at text
nul_is text at e =
    let h = nul_is_from 0 at text e in
    record { before = h.0; rest = h.1; is = h.2; first = h.3; place = (let same = h.4 in omega (arith, same)) }

-- ---- first lines that are refused

pub line_refused : (line : Bytes) → ((strict : Bool) → IsFirstLine strict line → ⊥) → interpreter line ≡ None
line_refused line none = by (interpreter line) refl where
  by : (it : Option Bool) → interpreter line ≡ it → it ≡ None
  by None e = refl
  by (Some strict) e = absurd (none strict (line_is line strict e))

pub refused_line : (line : Bytes) → interpreter line ≡ None → (strict : Bool) → IsFirstLine strict line → ⊥
refused_line line e strict h = none_some (sym e ∙ line_accepted line strict h)
