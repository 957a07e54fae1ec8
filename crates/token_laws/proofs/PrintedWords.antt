-- A word without substitutions is printed so that it is read as the same parts.
use Rattle.std.proofs.Common.{◌≡◌, ℕ, ◌-◌, Bool, true, false, if◌then◌else◌, ◌&&◌, nat_eq, not, List, [], ◌∷◌, ◌++◌, append_assoc, append-nil, Option, Some, None, codes, refl, sym, ap, ◌∙◌, subst}
use Rattle.std.proofs.lemmas.Grind.{flat_map-append}
use Rattle.std.specs.List.{flat_map}
use Rattle.shell_syntax.specs.PrintedParts.{is_one_byte, escaped as escape, quoted_text, key_text, default_text, param_text}
use Rattle.shell_syntax.specs.declared.key.Key.{Key}
use Rattle.shell_syntax.specs.declared.key.Key.TheVariants.{Named, Arg, Count}
use Rattle.shell_lexer.specs.declared.byte_kind.RunKind.TheVariants.{Names, Defaults}
use Rattle.shell_lexer.specs.declared.byte_kind.ByteKind.{ByteKind}
use Rattle.shell_lexer.specs.declared.byte_kind.ByteKind.TheVariants as k
use Rattle.shell_lexer.specs.declared.sight.ByteNote.{ByteNote}
use Rattle.shell_lexer.specs.declared.sight.ByteNote.TheVariants as note
use Rattle.shell_lexer.specs.declared.token.Token.{Token}
use Rattle.shell_lexer.specs.declared.token.RawPart.{RawPart}
use Rattle.shell_lexer.specs.declared.token.RawPart.TheVariants as part
use Rattle.token_laws.specs.Laws.{PartsAreSpelled, AllArgsAreSpelled, DoubleQuotesAreSpelled}
use Rattle.shell_lexer.specs.Parts.{Look, Ends, Byte, Piece, AllArgs, DoubleQuote, look, look_at, look_by, inner, dollar, dollar_by, braced, braced_by, behind_key, behind_colon, closed, escaped, has_quote}
use Rattle.shell_lexer.specs.SpelledParts.{IsParam, name as by_name, name_braced, name_default, number as by_number, number_braced, number_default, count as by_count, count_braced, IsQuoted, single, escaped as by_backslash, IsPiece}
use Rattle.shell_lexer.specs.Reading.{Out, Whole, Stop, Read, grown, plain_run, quoted_run, last_run, IsWord, word_ends, word_byte, word_piece, word_all, word_double, word_run, word_wrong, word_bad_double, word_bad_run, IsInner, inner_open, inner_ends, inner_byte, inner_piece, inner_all, inner_run, inner_wrong, inner_bad_run}
use Rattle.script_names.specs.ShellNames.{is_digit}
use Rattle.shell_lexer.specs.Text.{Bytes, kind, skip, place, offset, head_is, run as run_at, behind as behind_at}
use Rattle.token_laws.specs.PrintedLaws.{IsOnePart, ParamIsOnePart, AllIsOnePart, raw_text, holds_no_run, is_last, ends_in_backslash, is_apart, WordsReadBack}
use Rattle.std.proofs.lemmas.Bool.{and_from, cond-false, cond_both, eqb-true, true≢false}
use Rattle.shell_lexer.proofs.SpelledCases.{or_case}
use Rattle.shell_lexer.proofs.PrintedBytes.{clash, skip_first}
use Rattle.token_laws.proofs.PrintedQuotes.{quoted_is_one_part}
use Rattle.shell_lexer.proofs.SpelledKinds.{KindOf, kind_of}

-- ---- what stands behind a plain `$`

-- whether a `$` before a byte of this kind stands for itself
abbrev may_follow : ByteKind → Bool
may_follow k.Open = false
may_follow k.Brace = false
may_follow k.Name = false
may_follow k.Digit = false
may_follow k.Hash = false
may_follow k.At = false
may_follow k.Special = false
may_follow k.Dollar = false
may_follow k.Single = false
may_follow k.Double = false
may_follow _ = true

-- likewise before bytes that count
abbrev after_dollar : Bytes → Bool
after_dollar [] = true
after_dollar (b ∷ text) = may_follow (kind b)

-- ---- what stands where a word may go on, or begin

-- a byte of this kind begins no redirection behind digits
abbrev pub no_angle : ByteKind → Bool
no_angle k.Less = false
no_angle k.Greater = false
no_angle _ = true

abbrev pub begins_ten : Bytes → Bool
begins_ten [] = false
begins_ten (b ∷ text) = nat_eq b 10

-- behind digits, perhaps none, no redirection begins, and no joined line stands
abbrev pub steady : Bytes → Bool
steady [] = true
steady (b ∷ text) = if is_digit b then steady text else (no_angle (kind b) && not (nat_eq b 92 && begins_ten text))

-- whether a word may begin with a byte of this kind
abbrev pub may_begin : ByteKind → Bool
may_begin k.Blank = false
may_begin k.Newline = false
may_begin k.Semi = false
may_begin k.Amp = false
may_begin k.Bar = false
may_begin k.Open = false
may_begin k.Close = false
may_begin k.Less = false
may_begin k.Greater = false
may_begin k.Hash = false
may_begin _ = true

abbrev pub begins_word : Bytes → Bool
begins_word [] = false
begins_word (b ∷ text) = may_begin (kind b)

steady_byte : (c : ℕ) (t : Bytes) (it : ByteKind) → kind c ≡ it → nat_eq c 92 ≡ false → no_angle it ≡ true → steady t ≡ true → steady (c ∷ t) ≡ true
steady_byte c t it is nb na s =
    cond_both (is_digit c) (steady t) (no_angle (kind c) && not (nat_eq c 92 && begins_ten t)) (λ x. x ≡ true) (λ e. s)
    (λ e. and_from (no_angle (kind c)) (not (nat_eq c 92 && begins_ten t)) (ap no_angle is ∙ na) (ap (λ x. not (x && begins_ten t)) nb))

dollar_here : (at : ℕ) (rest : Bytes) (b : ℕ) (it : ByteKind) (more : Bytes) → may_follow it ≡ true → dollar_by false at rest b it more ≡ Byte 36 rest
dollar_here at rest b k.Open more e = absurd (true≢false (sym e))
dollar_here at rest b k.Brace more e = absurd (true≢false (sym e))
dollar_here at rest b k.Name more e = absurd (true≢false (sym e))
dollar_here at rest b k.Digit more e = absurd (true≢false (sym e))
dollar_here at rest b k.Hash more e = absurd (true≢false (sym e))
dollar_here at rest b k.At more e = absurd (true≢false (sym e))
dollar_here at rest b k.Special more e = absurd (true≢false (sym e))
dollar_here at rest b k.Dollar more e = absurd (true≢false (sym e))
dollar_here at rest b k.Single more e = absurd (true≢false (sym e))
dollar_here at rest b k.Double more e = absurd (true≢false (sym e))
dollar_here at rest b _ more e = refl

dollar_alone : (at : ℕ) (rest t : Bytes) → after_dollar t ≡ true → dollar false at rest t ≡ Byte 36 rest
dollar_alone at rest [] e = refl
dollar_alone at rest (b ∷ t) e = dollar_here at rest b (kind b) t e

-- ---- a plain byte, where it is seen, and where it is printed

same_byte : {b c : ℕ} {t u : Bytes} → Byte b t ≡ Byte c u → (b ≡ c) × (t ≡ u)
same_byte e = (cc, cc)

-- no byte stands there
abbrev NoByte : Look → Type 0
NoByte (Byte b rest) = ⊥
NoByte _ = Unit {0}

no_byte : (l : Look) {b : ℕ} {rest : Bytes} {A : Type 0} → NoByte l → l ≡ Byte b rest → A
no_byte l n e = absurd (subst NoByte e n)

no_closed : (quoted : Bool) (at : ℕ) (key : Key) (default : Option Bytes) (t : Bytes) → NoByte (closed quoted at key default t)
no_closed quoted at key default [] = tt
no_closed quoted at key default (b ∷ t) = cond_both (nat_eq b 125) _ _ NoByte (λ e. tt) (λ e. tt)

no_colon : (quoted : Bool) (at : ℕ) (key : Key) (t : Bytes) → NoByte (behind_colon quoted at key t)
no_colon quoted at key [] = tt
no_colon quoted at key (b ∷ t) = cond_both (nat_eq b 45) _ _ NoByte (λ e. no_closed quoted at key (Some (run_at Defaults t)) (skip (behind_at Defaults t))) (λ e. tt)

no_key : (quoted : Bool) (at : ℕ) (key : Key) (t : Bytes) → NoByte (behind_key quoted at key t)
no_key quoted at key [] = tt
no_key quoted at key (b ∷ t) = cond_both (nat_eq b 58) _ _ NoByte (λ e. no_colon quoted at key (skip t)) (λ e. no_closed quoted at key None (b ∷ t))

no_braced_by : (quoted : Bool) (at b : ℕ) (it : ByteKind) (t : Bytes) → NoByte (braced_by quoted at b it t)
no_braced_by quoted at b k.Name t = no_key quoted at (Named (run_at Names (b ∷ t))) (skip (behind_at Names (b ∷ t)))
no_braced_by quoted at b k.Digit t = cond_both (nat_eq b 48) _ _ NoByte (λ e. tt) (λ e. no_key quoted at (Arg (b - 48)) (skip t))
no_braced_by quoted at b k.Hash t = no_closed quoted at Count None (skip t)
no_braced_by quoted at b _ t = tt

no_braced : (quoted : Bool) (at : ℕ) (t : Bytes) → NoByte (braced quoted at t)
no_braced quoted at [] = tt
no_braced quoted at (b ∷ t) = no_braced_by quoted at b (kind b) t

-- what a plain `$` is, by what stands behind it
record IsDollar (b : ℕ) (u rest t : Bytes) : Type 0 where
  pub is : 36 ≡ b
  pub same : u ≡ rest
  pub after : after_dollar t ≡ true

dollar_seen_by : (at : ℕ) (u : Bytes) (x : ℕ) (it : ByteKind) (more : Bytes) (b : ℕ) (rest t : Bytes) → after_dollar t ≡ may_follow it → dollar_by false at u x it more ≡ Byte b rest → IsDollar b u rest t
dollar_seen_by at u x k.Open more b rest t f h = no_byte _ (cond_both (head_is 40 (skip more)) _ _ NoByte (λ e. tt) (λ e. tt)) h
dollar_seen_by at u x k.Brace more b rest t f h = no_byte _ (no_braced false at (skip more)) h
dollar_seen_by at u x k.Name more b rest t f h = no_byte _ tt h
dollar_seen_by at u x k.Digit more b rest t f h = no_byte _ (cond_both (nat_eq x 48) _ _ NoByte (λ e. tt) (λ e. tt)) h
dollar_seen_by at u x k.Hash more b rest t f h = no_byte _ tt h
dollar_seen_by at u x k.At more b rest t f h = no_byte _ tt h
dollar_seen_by at u x k.Special more b rest t f h = no_byte _ tt h
dollar_seen_by at u x k.Dollar more b rest t f h = no_byte _ tt h
dollar_seen_by at u x k.Single more b rest t f h = no_byte _ tt h
dollar_seen_by at u x k.Double more b rest t f h = no_byte _ tt h
dollar_seen_by at u x _ more b rest t f h = record { is = (same_byte h).0; same = (same_byte h).1; after = f }

dollar_seen : (at : ℕ) (u t : Bytes) (b : ℕ) (rest : Bytes) → dollar false at u t ≡ Byte b rest → IsDollar b u rest t
dollar_seen at u [] b rest h = record { is = (same_byte h).0; same = (same_byte h).1; after = refl }
dollar_seen at u (x ∷ t) b rest h = dollar_seen_by at u x (kind x) t b rest (x ∷ t) refl h

abbrev is_back : ByteKind → Bool
is_back k.Back = true
is_back _ = false

not_back : (c : ℕ) (it : ByteKind) → kind c ≡ it → is_back it ≡ false → nat_eq c 92 ≡ false
not_back c it e f = by (nat_eq c 92) refl where
  by : (is : Bool) → nat_eq c 92 ≡ is → is ≡ false
  by true g = absurd (clash f (ap is_back (sym e) ∙ ap (λ x. is_back (kind x)) (eqb-true c 92 g)))
  by false g = refl

back_only : (c : ℕ) → kind c ≡ k.Back → c ≡ 92
back_only c e = subst (KindOf c) e (kind_of c)

-- a plain byte before a text is read as itself, and may stand behind a plain `$` where it might before
record IsPrinted (all : ℕ) (it : ByteKind) (b : ℕ) (t : Bytes) : Type 0 where
  pub seen : look all (b ∷ t) ≡ Byte b t
  pub follows : may_follow it ≡ true → after_dollar (skip (b ∷ t)) ≡ true
  pub stays : steady t ≡ true → steady (b ∷ t) ≡ true
  pub begins : may_begin it ≡ true → begins_word (b ∷ t) ≡ true

plainly : (all c b : ℕ) (t : Bytes) (it : ByteKind) → kind c ≡ it → is_back it ≡ false → no_angle it ≡ true → ((at : ℕ) → look_by at c it t ≡ Byte c t) → c ≡ b → IsPrinted all it b t
plainly all c b t it is nb na table e = subst (λ x. IsPrinted all it x t) e (record {
  seen = ap (λ u. look_at (place all u) u) (skip_first c t (not_back c it is nb)) ∙ ap (λ i. look_by (place all (c ∷ t)) c i t) is ∙ table (place all (c ∷ t));
  follows = λ f. ap after_dollar (skip_first c t (not_back c it is nb)) ∙ ap may_follow is ∙ f;
  stays = steady_byte c t it is (not_back c it is nb) na;
  begins = λ f. ap may_begin is ∙ f;
})

backslash : (all c : ℕ) (u : Bytes) (b : ℕ) (rest t : Bytes) → kind c ≡ k.Back → escaped c u ≡ Byte b rest → (nat_eq b 92 ≡ true → rest ≡ [] → t ≡ []) → IsPrinted all k.Back b t
backslash all c [] b rest t is h ends =
    let e = same_byte h in
    let n : b ≡ 92 = sym e.0 ∙ back_only c is in
    let m : nat_eq b 92 ≡ true = ap (λ x. nat_eq x 92) n in
    subst (λ x. IsPrinted all k.Back x t) (sym n)
    (subst (IsPrinted all k.Back 92) (sym (ends m (sym e.1))) (record { seen = refl; follows = λ f. refl; stays = λ f. refl; begins = λ f. refl }))
backslash all c (x ∷ u) b rest t is h ends = no_byte _ tt h

printed_byte : (all at c : ℕ) (u : Bytes) (it : ByteKind) (b : ℕ) (rest t : Bytes) → kind c ≡ it → look_by at c it u ≡ Byte b rest
    → (after_dollar (skip rest) ≡ true → after_dollar (skip t) ≡ true) → (nat_eq b 92 ≡ true → rest ≡ [] → t ≡ []) → IsPrinted all it b t
printed_byte all at c u k.Blank b rest t is h follow ends = no_byte _ tt h
printed_byte all at c u k.Newline b rest t is h follow ends = no_byte _ tt h
printed_byte all at c u k.Semi b rest t is h follow ends = no_byte _ tt h
printed_byte all at c u k.Amp b rest t is h follow ends = no_byte _ tt h
printed_byte all at c u k.Bar b rest t is h follow ends = no_byte _ tt h
printed_byte all at c u k.Open b rest t is h follow ends = no_byte _ tt h
printed_byte all at c u k.Close b rest t is h follow ends = no_byte _ tt h
printed_byte all at c u k.Less b rest t is h follow ends = no_byte _ tt h
printed_byte all at c u k.Greater b rest t is h follow ends = no_byte _ tt h
printed_byte all at c u k.Single b rest t is h follow ends = no_byte _ (cond_both (has_quote u) _ _ NoByte (λ e. tt) (λ e. tt)) h
printed_byte all at c u k.Double b rest t is h follow ends = no_byte _ tt h
printed_byte all at c u k.Back b rest t is h follow ends = backslash all c u b rest t is h ends
printed_byte all at c u k.Tick b rest t is h follow ends = no_byte _ tt h
printed_byte all at c u k.Dollar b rest t is h follow ends =
    let d = dollar_seen at u (skip u) b rest h in
    let after : after_dollar (skip t) ≡ true = follow (ap (λ r. after_dollar (skip r)) (sym d.same) ∙ d.after) in
    subst (λ x. IsPrinted all k.Dollar x t) d.is (record {
      seen = ap (λ u. look_at (place all u) u) (skip_first 36 t refl) ∙ dollar_alone (place all (36 ∷ t)) t (skip t) after;
      follows = λ f. absurd (true≢false (sym f));
      stays = λ f. refl;
      begins = λ f. refl;
    })
printed_byte all at c u it b rest t is h follow ends = plainly all c b t it is refl refl (λ at. refl) (same_byte h).0

-- the same of the byte that is seen at the front of a text
record FrontPrinted (all : ℕ) (text : Bytes) (b : ℕ) (t : Bytes) : Type 0 where
  pub seen : look all (b ∷ t) ≡ Byte b t
  pub follows : after_dollar text ≡ true → after_dollar (skip (b ∷ t)) ≡ true
  pub stays : steady t ≡ true → steady (b ∷ t) ≡ true
  pub begins : begins_word text ≡ true → begins_word (b ∷ t) ≡ true

front_printed : (all len : ℕ) (text : Bytes) (b : ℕ) (rest t : Bytes) → look_at (place len text) text ≡ Byte b rest
    → (after_dollar (skip rest) ≡ true → after_dollar (skip t) ≡ true) → (nat_eq b 92 ≡ true → rest ≡ [] → t ≡ []) → FrontPrinted all text b t
front_printed all len [] b rest t h follow ends = no_byte _ tt h
front_printed all len (c ∷ u) b rest t h follow ends =
    let p = printed_byte all (place len (c ∷ u)) c u (kind c) b rest t refl h follow ends in
    record { seen = p.seen; follows = p.follows; stays = p.stays; begins = p.begins }

-- ---- what stands behind a printed word

ends_at : (all b c : ℕ) (t : Bytes) → b ≡ c → look all (c ∷ t) ≡ Ends → look all (b ∷ t) ≡ Ends
ends_at all b c t e h = subst (λ x. look all (x ∷ t) ≡ Ends) (sym e) h

pub ends_here : (all : ℕ) (behind : Bytes) → is_apart behind ≡ true → look all behind ≡ Ends
ends_here all [] e = refl
ends_here all (b ∷ t) e =
    or_case (nat_eq b 32) (nat_eq b 10) e
    (λ f. ends_at all b 32 t (eqb-true b 32 f) (ap (λ u. look_at (place all u) u) (skip_first 32 t refl)))
    (λ f. ends_at all b 10 t (eqb-true b 10 f) (ap (λ u. look_at (place all u) u) (skip_first 10 t refl)))

apart_follows : (behind : Bytes) → is_apart behind ≡ true → after_dollar (skip behind) ≡ true
apart_follows [] e = refl
apart_follows (b ∷ t) e =
    or_case (nat_eq b 32) (nat_eq b 10) e
    (λ f. subst (λ x. after_dollar (skip (x ∷ t)) ≡ true) (sym (eqb-true b 32 f)) (ap after_dollar (skip_first 32 t refl)))
    (λ f. subst (λ x. after_dollar (skip (x ∷ t)) ≡ true) (sym (eqb-true b 10 f)) (ap after_dollar (skip_first 10 t refl)))

apart_steady : (behind : Bytes) → is_apart behind ≡ true → steady behind ≡ true
apart_steady [] e = refl
apart_steady (b ∷ t) e =
    or_case (nat_eq b 32) (nat_eq b 10) e
    (λ f. subst (λ x. steady (x ∷ t) ≡ true) (sym (eqb-true b 32 f)) refl) (λ f. subst (λ x. steady (x ∷ t) ≡ true) (sym (eqb-true b 10 f)) refl)

-- ---- how a part begins that is not plain

record PartHead (p : RawPart) : Type 0 where
  pub head : ℕ
  pub tail : Bytes
  pub is : raw_text p ≡ head ∷ tail
  pub stays : (z : Bytes) → steady (head ∷ (tail ++ z)) ≡ true
  pub begins : may_begin (kind head) ≡ true

quoted_by : (w : Bytes) (one : Bool) → is_one_byte w ≡ one → quoted_text w ≡ (if one then codes "\\" ++ w else codes "\"" ++ flat_map escape w ++ codes "\"")
unfolding quoted_text
quoted_by w one e = ap (λ t. if t then codes "\\" ++ w else codes "\"" ++ flat_map escape w ++ codes "\"") e

one_byte_head : (w : Bytes) → is_one_byte w ≡ true → PartHead (part.Quoted w)
one_byte_head [] e = absurd (true≢false (sym e))
one_byte_head (b ∷ []) e = record { head = 92; tail = b ∷ []; is = quoted_by (b ∷ []) true e; stays = λ z. e; begins = refl }
one_byte_head (b ∷ c ∷ w) e = absurd (true≢false (sym e))

quoted_head : (w : Bytes) → PartHead (part.Quoted w)
quoted_head w = by (is_one_byte w) refl where
  by : (one : Bool) → is_one_byte w ≡ one → PartHead (part.Quoted w)
  by true e = one_byte_head w e
  by false e = record { head = 34; tail = flat_map escape w ++ codes "\""; is = quoted_by w false e; stays = λ z. refl; begins = refl }

param_head : (key : Key) (default : Option Bytes) (quoted : Bool) → PartHead (part.Param key default quoted)
unfolding param_text
param_head key default true = record {
  head = 34;
  tail = codes "${" ++ key_text key ++ default_text default ++ codes "}" ++ codes "\"";
  is = refl;
  stays = λ z. refl;
  begins = refl;
}
param_head key default false = record {
  head = 36;
  tail = codes "{" ++ key_text key ++ default_text default ++ codes "}" ++ [];
  is = refl;
  stays = λ z. refl;
  begins = refl;
}

all_head : PartHead part.All
all_head = record { head = 34; tail = codes "$@\""; is = refl; stays = λ z. refl; begins = refl }

-- a part that is one part as it is printed
record One (p : RawPart) : Type 0 where
  pub one : IsOnePart p (raw_text p)
  pub begin : PartHead p

quoted_one : (w : Bytes) → One (part.Quoted w)
quoted_one w = record { one = quoted_is_one_part w; begin = quoted_head w }

-- ---- parts, one behind the other

-- each of these parts, as it is printed, is one part
data AllOne : List RawPart → Type 0 where
  one_none : AllOne []
  one_more : {p : RawPart} {ps : List RawPart} → One p → AllOne ps → AllOne (p ∷ ps)

grown_none : (q : Out Read) → grown [] [] q ≡ q
grown_none (Whole v rest) = refl
grown_none (Stop fault) = refl

grown_twice : (xs ys : List RawPart) (ms ns : List ByteNote) (q : Out Read) → grown xs ms (grown ys ns q) ≡ grown (xs ++ ys) (ms ++ ns) q
grown_twice xs ys ms ns (Whole v rest) =
    ap (λ ps. Whole (ps, ms ++ (ns ++ v.1)) rest) (sym (append_assoc xs ys v.0)) ∙ ap (λ l. Whole ((xs ++ ys) ++ v.0, l) rest) (sym (append_assoc ms ns v.1))
grown_twice xs ys ms ns (Stop fault) = refl

abbrev pub flat : List RawPart → Bytes
flat ps = flat_map raw_text ps

module _ (deep : ℕ → Bool) (all depth : ℕ) where
  parts_read : (ps : List RawPart) → AllOne ps → (t : Bytes) (q : Out Read) → IsWord deep all depth [] t q
      → (notes : List ByteNote) × IsWord deep all depth [] (flat ps ++ t) (grown ps notes q)
  parts_read [] one_none t q w = ([], subst (IsWord deep all depth [] t) (sym (grown_none q)) w)
  parts_read (p ∷ ps) (one_more h a) t q w =
      let more = parts_read ps a t q w in
      let first = h.one deep all depth [] (flat ps ++ t) (grown ps more.0 q) more.1 in (
        first.0 ++ more.0,
        subst (λ u. IsWord deep all depth [] u (grown (p ∷ ps) (first.0 ++ more.0) q)) (sym (append_assoc (raw_text p) (flat ps) t))
            (subst (IsWord deep all depth [] (raw_text p ++ (flat ps ++ t))) (grown_twice (p ∷ []) ps first.0 more.0 q) first.1),
      )

  run_read : (run : Bytes) (p : RawPart) (ps : List RawPart) → AllOne (p ∷ ps) → (t : Bytes) (q : Out Read) → IsWord deep all depth [] t q
      → (notes : List ByteNote) × IsWord deep all depth run (flat (p ∷ ps) ++ t) (grown (plain_run run ++ (p ∷ ps)) notes q)
  run_read run p ps (one_more h a) t q w =
      let more = parts_read ps a t q w in
      let first = h.one deep all depth run (flat ps ++ t) (grown ps more.0 q) more.1 in (
        first.0 ++ more.0,
        subst (λ u. IsWord deep all depth run u (grown (plain_run run ++ (p ∷ ps)) (first.0 ++ more.0) q)) (sym (append_assoc (raw_text p) (flat ps) t))
            (subst (IsWord deep all depth run (raw_text p ++ (flat ps ++ t)))
            (grown_twice (plain_run run ++ p ∷ []) ps first.0 more.0 q ∙ ap (λ l. grown l (first.0 ++ more.0) q) (append_assoc (plain_run run) (p ∷ []) ps)) first.1),
      )

first_head : {p : RawPart} {ps : List RawPart} → AllOne (p ∷ ps) → PartHead p
first_head (one_more h a) = h.begin

-- ---- lists of parts

no_run_left : (xs ys : List RawPart) → holds_no_run (xs ++ ys) ≡ true → holds_no_run xs ≡ true
no_run_left [] ys e = refl
no_run_left (part.Plain w ∷ xs) ys e = no_run_left xs ys e
no_run_left (part.Quoted w ∷ xs) ys e = no_run_left xs ys e
no_run_left (part.Param key default quoted ∷ xs) ys e = no_run_left xs ys e
no_run_left (part.All ∷ xs) ys e = no_run_left xs ys e
no_run_left (_ ∷ xs) ys e = e

no_run_right : (xs ys : List RawPart) → holds_no_run (xs ++ ys) ≡ true → holds_no_run ys ≡ true
no_run_right [] ys e = e
no_run_right (part.Plain w ∷ xs) ys e = no_run_right xs ys e
no_run_right (part.Quoted w ∷ xs) ys e = no_run_right xs ys e
no_run_right (part.Param key default quoted ∷ xs) ys e = no_run_right xs ys e
no_run_right (part.All ∷ xs) ys e = no_run_right xs ys e
no_run_right (_ ∷ xs) ys e = absurd (true≢false (sym e))

ends_more : (x : RawPart) (zs : List RawPart) → ends_in_backslash zs ≡ true → ends_in_backslash (x ∷ zs) ≡ true
ends_more x [] e = absurd (true≢false (sym e))
ends_more (part.Plain w) (z ∷ zs) e = e
ends_more _ (z ∷ zs) e = e

pub ends_right : (xs ys : List RawPart) → ends_in_backslash ys ≡ true → ends_in_backslash (xs ++ ys) ≡ true
ends_right [] ys e = e
ends_right (x ∷ xs) ys e = ends_more x (xs ++ ys) (ends_right xs ys e)

plain_flat : (run : Bytes) → flat (plain_run run) ≡ run
plain_flat [] = refl
plain_flat (b ∷ run) = append-nil (b ∷ run)

pub last_of : (run : Bytes) → is_last 92 (run ++ 92 ∷ []) ≡ true
last_of [] = refl
last_of (a ∷ []) = refl
last_of (a ∷ c ∷ run) = last_of (c ∷ run)

pub run_ends : (run : Bytes) → ends_in_backslash (plain_run (run ++ 92 ∷ [])) ≡ true
run_ends [] = refl
run_ends (a ∷ run) = last_of (a ∷ run)

-- no joined line is left before bytes that count
pub no_joined : (text : Bytes) (b : ℕ) (r : Bytes) → skip text ≡ 92 ∷ b ∷ r → nat_eq b 10 ≡ false
no_joined [] b r e = absurd (cc e)
no_joined (a ∷ []) b r e = absurd (cc e)
no_joined (a ∷ c ∷ t) b r e = by (nat_eq a 92 && nat_eq c 10) refl e (no_joined t b r) where
  by : (it : Bool) → (nat_eq a 92 && nat_eq c 10) ≡ it → (if it then skip t else a ∷ c ∷ t) ≡ 92 ∷ b ∷ r → (skip t ≡ 92 ∷ b ∷ r → nat_eq b 10 ≡ false) → nat_eq b 10 ≡ false
  by true g f more = more f
  by false g f more =
      let first : a ≡ 92 = cc in
      let second : c ≡ b = cc in
      subst (λ x. nat_eq x 10 ≡ false) second (ap (λ x. nat_eq x 92 && nat_eq c 10) (sym first) ∙ g)

one_quoted : (b : ℕ) (t : Bytes) → nat_eq b 10 ≡ false → flat (part.Quoted (b ∷ []) ∷ []) ++ t ≡ 92 ∷ b ∷ t
unfolding quoted_text
one_quoted b t e = rw e

skip_quoted : (b : ℕ) (t : Bytes) → nat_eq b 10 ≡ false → skip (92 ∷ b ∷ t) ≡ 92 ∷ b ∷ t
skip_quoted b t e = cond-false (nat_eq b 10) _ _ e

-- ---- what stands at the front of a part

-- where these parts are seen, a plain `$` may stand before their text if it may stand before what is printed
abbrev Follows : Bytes → List RawPart → Type 0
Follows text ps = after_dollar (skip text) ≡ true → (t : Bytes) → after_dollar (skip (flat ps ++ t)) ≡ true

never : (b : ℕ) (text more : Bytes) (ps : List RawPart) → may_follow (kind b) ≡ false → skip text ≡ b ∷ more → Follows text ps
never b text more ps e f g t = absurd (true≢false (sym g ∙ ap after_dollar f ∙ e))

param_follows : (ps : List RawPart) {key : Key} {default : Option Bytes} {text rest : Bytes} → IsParam key default text rest → Follows text ps
param_follows ps {text = text} (by_name is h ends) = never 36 text h.0 ps refl h.1
param_follows ps {text = text} (name_braced is h) = never 36 text h.0 ps refl h.1
param_follows ps {text = text} (name_default is default_is h) = never 36 text h.0 ps refl h.1
param_follows ps {text = text} (by_number is h) = never 36 text h.0 ps refl h.1
param_follows ps {text = text} (number_braced is h) = never 36 text h.0 ps refl h.1
param_follows ps {text = text} (number_default is default_is h) = never 36 text h.0 ps refl h.1
param_follows ps {text = text} (by_count h) = never 36 text h.0 ps refl h.1
param_follows ps {text = text} (count_braced h) = never 36 text h.0 ps refl h.1

quoted_follows : {bytes text rest : Bytes} → IsQuoted bytes text rest → Follows text (part.Quoted bytes ∷ [])
quoted_follows {bytes} {text} (single all h) = never 39 text h.0 (part.Quoted bytes ∷ []) refl h.1
quoted_follows {text = text} {rest = rest} (by_backslash {byte = b} h) = λ g t.
    let n = no_joined text b rest (h.1 ∙ ap (λ l. 92 ∷ l) h.2) in
    ap (λ u. after_dollar (skip u)) (one_quoted b t n) ∙ ap after_dollar (skip_quoted b t n)

-- what is no end of a word stands before no end of the text
pub not_end : (len : ℕ) (text : Bytes) (l : Look) → look len text ≡ l → (Ends ≡ l → ⊥) → text ≡ [] → ⊥
not_end len text l h g e = g (ap (look len) (sym e) ∙ h)

-- ---- what stands in double quotes

abbrev pub some_part : List RawPart → Bool
some_part [] = false
some_part (p ∷ ps) = true

-- where no substitution stands among the parts in double quotes, each of them is one part as it is printed; and
-- where they are read from their beginning, there is a part
abbrev InnerHasParts : Bool → Out Read → Type 0
InnerHasParts fresh (Whole v rest) = (holds_no_run v.0 ≡ true → AllOne v.0) × (fresh ≡ true → some_part v.0 ≡ true)
InnerHasParts fresh (Stop fault) = Unit {0}

last_has_parts : (fresh : Bool) (run rest : Bytes) → InnerHasParts fresh (Whole (last_run fresh run, []) rest)
last_has_parts true [] rest = (λ n. one_more (quoted_one []) one_none, λ e. refl)
last_has_parts true (b ∷ run) rest = (λ n. one_more (quoted_one (b ∷ run)) one_none, λ e. refl)
last_has_parts false [] rest = (λ n. one_none, λ e. absurd (true≢false (sym e)))
last_has_parts false (b ∷ run) rest = (λ n. one_more (quoted_one (b ∷ run)) one_none, λ e. refl)

same_has_parts : (fresh : Bool) (ns : List ByteNote) (q : Out Read) → InnerHasParts fresh q → InnerHasParts fresh (grown [] ns q)
same_has_parts fresh ns (Whole v rest) f = f
same_has_parts fresh ns (Stop fault) f = tt

behind_run : (run : Bytes) (p : RawPart) (ps : List RawPart) → One p → AllOne ps → AllOne ((quoted_run run ++ p ∷ []) ++ ps)
behind_run [] p ps h a = one_more h a
behind_run (b ∷ run) p ps h a = one_more (quoted_one (b ∷ run)) (one_more h a)

pub some_behind : (run : Bytes) (p : RawPart) (ps : List RawPart) → some_part ((quoted_run run ++ p ∷ []) ++ ps) ≡ true
some_behind [] p ps = refl
some_behind (b ∷ run) p ps = refl

more_has_parts : (fresh : Bool) (run : Bytes) (p : RawPart) (ns : List ByteNote) (q : Out Read) → One p → InnerHasParts false q → InnerHasParts fresh (grown (quoted_run run ++ p ∷ []) ns q)
more_has_parts fresh run p ns (Whole v rest) h f = (λ n. behind_run run p v.0 h (f.0 (no_run_right (quoted_run run ++ p ∷ []) v.0 n)), λ e. some_behind run p v.0)
more_has_parts fresh run p ns (Stop fault) h f = tt

no_runs : (run : Bytes) (at : ℕ) (ts : List Token) (quoted : Bool) (ps : List RawPart) → holds_no_run ((quoted_run run ++ part.Run at ts quoted ∷ []) ++ ps) ≡ true → ⊥
no_runs [] at ts quoted ps e = true≢false (sym e)
no_runs (b ∷ run) at ts quoted ps e = true≢false (sym e)

run_has_parts : (fresh : Bool) (run : Bytes) (at : ℕ) (ts : List Token) (quoted : Bool) (ns : List ByteNote) (q : Out Read) → InnerHasParts fresh (grown (quoted_run run ++ part.Run at ts quoted ∷ []) ns q)
run_has_parts fresh run at ts quoted ns (Whole v rest) = (λ n. absurd (no_runs run at ts quoted v.0 n), λ e. some_behind run (part.Run at ts quoted) v.0)
run_has_parts fresh run at ts quoted ns (Stop fault) = tt

module _ (outside : PartsAreSpelled look false) (inside : PartsAreSpelled inner true) (args : AllArgsAreSpelled look) (quotes : DoubleQuotesAreSpelled look) (param : ParamIsOnePart) (whole : AllIsOnePart) where
  piece_one : (in_quotes : Bool) (p : RawPart) (text rest : Bytes) → IsPiece in_quotes p text rest → One p
  piece_one in_quotes (part.Param key default quoted) text rest h = record { one = param key default quoted text rest h.1; begin = param_head key default quoted }
  piece_one in_quotes (part.Quoted bytes) text rest h = quoted_one bytes
  piece_one in_quotes _ text rest h = absurd h

  whole_one : One part.All
  whole_one = record { one = whole; begin = all_head }

  inner_has_parts : {deep : ℕ → Bool} {len depth «from» : ℕ} {fresh : Bool} {run text : Bytes} {q : Out Read} → IsInner deep len depth «from» fresh run text q → InnerHasParts fresh q
  inner_has_parts {deep} {len} {depth} {«from»} {fresh} {run} {text} {q} (inner_open h e) = subst (InnerHasParts fresh) (sym e) tt
  inner_has_parts {deep} {len} {depth} {«from»} {fresh} {run} {text} {q} (inner_ends t h e) = subst (InnerHasParts fresh) (sym e) (last_has_parts fresh run t)
  inner_has_parts {deep} {len} {depth} {«from»} {fresh} {run} {text} {q} (inner_byte b t q1 h x e) = subst (InnerHasParts fresh) (sym e) (same_has_parts fresh (note.Gap ∷ []) q1 (inner_has_parts x))
  inner_has_parts {deep} {len} {depth} {«from»} {fresh} {run} {text} {q} (inner_piece p t q1 h x e) =
      subst (InnerHasParts fresh) (sym e) (more_has_parts fresh run p (note.Gap ∷ []) q1 (piece_one true p text t ((inside len text t p).0 h)) (inner_has_parts x))
  inner_has_parts {deep} {len} {depth} {«from»} {fresh} {run} {text} {q} (inner_all t q1 h x e) =
      subst (InnerHasParts fresh) (sym e) (more_has_parts fresh run part.All (note.All (offset len text) true ∷ []) q1 whole_one (inner_has_parts x))
  inner_has_parts {deep} {len} {depth} {«from»} {fresh} {run} {text} {q} (inner_run g ts t q1 h i x e) =
      subst (InnerHasParts fresh) (sym e) (run_has_parts fresh run (offset len text) ts true (note.Gap ∷ []) q1)
  inner_has_parts {deep} {len} {depth} {«from»} {fresh} {run} {text} {q} (inner_wrong f h e) = subst (InnerHasParts fresh) (sym e) tt
  inner_has_parts {deep} {len} {depth} {«from»} {fresh} {run} {text} {q} (inner_bad_run g f h i e) = subst (InnerHasParts fresh) (sym e) tt

  -- ---- words

  module _ (deep : ℕ → Bool) (all depth : ℕ) (behind : Bytes) (apart : is_apart behind ≡ true) where
    -- how the rest of a word is printed
    pub record Back (len : ℕ) (run text : Bytes) (v : Read) : Type 0 where
      pub suffix : Bytes
      pub notes : List ByteNote
      pub printed : flat_map raw_text v.0 ≡ run ++ suffix
      pub reads : IsWord deep all depth run (suffix ++ behind) (Whole (v.0, notes) behind)
      pub follows : after_dollar (skip text) ≡ true → after_dollar (skip (suffix ++ behind)) ≡ true
      pub at_end : text ≡ [] → (suffix ≡ []) × (v.0 ≡ plain_run run)
      pub calm : steady (suffix ++ behind) ≡ true
      pub begun : (look len text ≡ Ends → ⊥) → begins_word (skip text) ≡ true → begins_word (suffix ++ behind) ≡ true

    abbrev pub Claim : ℕ → Bytes → Bytes → Out Read → Type 0
    Claim len run text (Whole v rest) = holds_no_run v.0 ≡ true → (ends_in_backslash v.0 ≡ true → behind ≡ []) → Back len run text v
    Claim len run text (Stop fault) = Unit {0}

    end_claim : (len : ℕ) (run text : Bytes) → look len text ≡ Ends → Claim len run text (Whole (plain_run run, []) text)
    end_claim len run text h none ends = record {
      suffix = [];
      notes = [];
      printed = plain_flat run ∙ sym (append-nil run);
      reads = word_ends (ends_here all behind apart) refl;
      follows = λ e. apart_follows behind apart;
      at_end = λ e. (refl, refl);
      calm = apart_steady behind apart;
      begun = λ n e. absurd (n h);
    }

    byte_claim : (len : ℕ) (run text : Bytes) (b : ℕ) (rest : Bytes) (ns : List ByteNote) (q : Out Read) → look len text ≡ Byte b rest → Claim len (run ++ b ∷ []) rest q → Claim len run text (grown [] ns q)
    byte_claim len run text b rest ns (Stop fault) h x = tt
    byte_claim len run text b rest ns (Whole v last) h x = λ none ends.
        let i = x none ends in
        let t = i.suffix ++ behind in
        let open_end : nat_eq b 92 ≡ true → rest ≡ [] → t ≡ [] = (λ e f.
        let is = i.at_end f in
        let last_part : ends_in_backslash v.0 ≡ true = ap ends_in_backslash (is.1 ∙ ap (λ x. plain_run (run ++ x ∷ [])) (eqb-true b 92 e)) ∙ run_ends run in
        ap (λ s. s ++ behind) is.0 ∙ ends last_part) in
        let p = front_printed all len (skip text) b rest t h i.follows open_end in
        record {
          suffix = b ∷ i.suffix;
          notes = note.Plain b (offset all (b ∷ t)) ∷ i.notes;
          printed = i.printed ∙ append_assoc run (b ∷ []) i.suffix;
          reads = word_byte b t (Whole (v.0, i.notes) behind) p.seen i.reads refl;
          follows = p.follows;
          at_end = λ e. absurd (not_end len text (Byte b rest) h (λ f. cc f) e);
          calm = p.stays i.calm;
          begun = λ n e. p.begins e;
        }

    parts_claim : (len : ℕ) (run text rest : Bytes) (p : RawPart) (ps : List RawPart) (ns : List ByteNote) (q : Out Read)
        → (holds_no_run (p ∷ ps) ≡ true → AllOne (p ∷ ps)) → Follows text (p ∷ ps) → (text ≡ [] → ⊥) → Claim len [] rest q → Claim len run text (grown (plain_run run ++ (p ∷ ps)) ns q)
    parts_claim len run text rest p ps ns (Stop fault) ones follow some x = tt
    parts_claim len run text rest p ps ns (Whole v last) ones follow some x = λ none ends.
        let begin = plain_run run ++ (p ∷ ps) in
        let i = x (no_run_right begin v.0 none) (λ e. ends (ends_right begin v.0 e)) in
        let a = ones (no_run_right (plain_run run) (p ∷ ps) (no_run_left begin v.0 none)) in
        let r = run_read deep all depth run p ps a (i.suffix ++ behind) (Whole (v.0, i.notes) behind) i.reads in
        let f = flat_map raw_text (p ∷ ps) in
        let z = flat_map raw_text ps ++ (i.suffix ++ behind) in
        let h = first_head a in
        let whole_text : (f ++ i.suffix) ++ behind ≡ h.head ∷ (h.tail ++ z) =
        append_assoc f i.suffix behind ∙ append_assoc (raw_text p) (flat_map raw_text ps) (i.suffix ++ behind) ∙ ap (λ r. r ++ z) h.is
        in
        record {
          suffix = f ++ i.suffix;
          notes = r.0 ++ i.notes;
          printed = flat_map-append raw_text begin v.0
              ∙ ap (λ l. l ++ flat_map raw_text v.0) (flat_map-append raw_text (plain_run run) (p ∷ ps) ∙ ap (λ l. l ++ f) (plain_flat run))
              ∙ ap (λ l. (run ++ f) ++ l) i.printed ∙ append_assoc run f i.suffix;
          reads = subst (λ u. IsWord deep all depth run u (Whole (begin ++ v.0, r.0 ++ i.notes) behind)) (sym (append_assoc f i.suffix behind)) r.1;
          follows = λ e. ap (λ u. after_dollar (skip u)) (append_assoc f i.suffix behind) ∙ follow e (i.suffix ++ behind);
          at_end = λ e. absurd (some e);
          calm = ap steady whole_text ∙ h.stays z;
          begun = λ n e. ap begins_word whole_text ∙ h.begins;
        }

    double_claim : (len : ℕ) (run text rest : Bytes) (xs : List RawPart) (ns : List ByteNote) (q : Out Read)
        → some_part xs ≡ true → (holds_no_run xs ≡ true → AllOne xs) → Follows text xs → (text ≡ [] → ⊥) → Claim len [] rest q → Claim len run text (grown (plain_run run ++ xs) ns q)
    double_claim len run text rest [] ns q some ones follow end x = absurd (true≢false (sym some))
    double_claim len run text rest (p ∷ ps) ns q some ones follow end x = parts_claim len run text rest p ps ns q ones follow end x

    piece_follows : (p : RawPart) (text rest : Bytes) → IsPiece false p text rest → Follows text (p ∷ [])
    piece_follows (part.Param key default quoted) text rest h = param_follows (part.Param key default quoted ∷ []) h.1
    piece_follows (part.Quoted bytes) text rest h = quoted_follows h.1
    piece_follows _ text rest h = absurd h

    no_run_claim : (len : ℕ) (run text : Bytes) (at : ℕ) (ts : List Token) (ns : List ByteNote) (q : Out Read) → Claim len run text (grown (plain_run run ++ part.Run at ts false ∷ []) ns q)
    no_run_claim len run text at ts ns (Stop fault) = tt
    no_run_claim len [] text at ts ns (Whole v rest) = λ none ends. absurd (true≢false (sym none))
    no_run_claim len (b ∷ run) text at ts ns (Whole v rest) = λ none ends. absurd (true≢false (sym none))

    pub word_claim : {len : ℕ} {run text : Bytes} {q : Out Read} → IsWord deep len depth run text q → Claim len run text q
    word_claim {len} {run} {text} {q} (word_ends h e) = subst (Claim len run text) (sym e) (end_claim len run text h)
    word_claim {len} {run} {text} {q} (word_byte b t q1 h x e) = subst (Claim len run text) (sym e) (byte_claim len run text b t (note.Plain b (offset len text) ∷ []) q1 h (word_claim x))
    word_claim {len} {run} {text} {q} (word_piece p t q1 h x e) =
        let g = (outside len text t p).0 h in
        subst (Claim len run text) (sym e)
        (parts_claim len run text t p [] (note.Gap ∷ []) q1 (λ n. one_more (piece_one false p text t g) one_none) (piece_follows p text t g) (not_end len text (Piece p t) h (λ f. cc f)) (word_claim x))
    word_claim {len} {run} {text} {q} (word_all t q1 h x e) =
        let g = (args len text t).0 h in
        subst (Claim len run text) (sym e)
        (parts_claim len run text t part.All [] (note.All (offset len text) false ∷ []) q1 (λ n. one_more whole_one one_none) (never 36 text g.0 (part.All ∷ []) refl g.1) (not_end len text (AllArgs t) h (λ f. cc f)) (word_claim x))
    word_claim {len} {run} {text} {q} (word_double begin v t q1 h i x e) =
        let g = (quotes len text begin).0 h in
        let has_parts = inner_has_parts i in
        subst (Claim len run text) (sym e)
        (double_claim len run text t v.0 (v.1 ++ note.Gap ∷ []) q1 (has_parts.1 refl) has_parts.0 (never 34 text g.0 v.0 refl g.1) (not_end len text (DoubleQuote begin) h (λ f. cc f)) (word_claim x))
    word_claim {len} {run} {text} {q} (word_run begin ts t q1 h i x e) = subst (Claim len run text) (sym e) (no_run_claim len run text (offset len text) ts (note.Gap ∷ []) q1)
    word_claim {len} {run} {text} {q} (word_wrong f h e) = subst (Claim len run text) (sym e) tt
    word_claim {len} {run} {text} {q} (word_bad_double begin f h i e) = subst (Claim len run text) (sym e) tt
    word_claim {len} {run} {text} {q} (word_bad_run begin f h i e) = subst (Claim len run text) (sym e) tt

  pub words_read_back : WordsReadBack
  words_read_back deep len depth spelled rest v w none all behind apart ends =
      let b = word_claim deep all depth behind apart w none ends in
      (b.notes, subst (λ t. IsWord deep all depth [] (t ++ behind) (Whole (v.0, b.notes) behind)) (sym b.printed) b.reads)
