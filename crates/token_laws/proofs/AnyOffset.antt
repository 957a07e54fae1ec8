-- What the tables see in a text, and what is looked for once a word is whole, does not depend on the text's offset.
use Rattle.std.proofs.Common.{◌≡◌, ℕ, suc, zero, ◌+◌, ◌-◌, Bool, true, false, if◌then◌else◌, ◌&&◌, ◌||◌, nat_eq, nat_le, List, [], ◌∷◌, ◌++◌, Option, Some, None, codes, map, refl, sym, ap, subst}
use Rattle.shell_syntax.specs.declared.form.Form.{Form}
use Rattle.shell_syntax.specs.declared.form.Form.TheVariants as form
use Rattle.shell_syntax.specs.declared.key.Key.{Key}
use Rattle.shell_syntax.specs.declared.key.Key.TheVariants.{Named, Arg, Count}
use Rattle.shell_syntax.specs.declared.redirect.Redirect.{Redirect}
use Rattle.shell_lexer.specs.declared.byte_kind.ByteKind.{ByteKind}
use Rattle.shell_lexer.specs.declared.byte_kind.ByteKind.TheVariants as k
use Rattle.shell_lexer.specs.declared.byte_kind.RunKind.TheVariants.{Digits, Names, Defaults}
use Rattle.shell_lexer.specs.declared.sight.ByteNote.{ByteNote}
use Rattle.shell_lexer.specs.declared.sight.ByteNote.TheVariants as note
use Rattle.shell_lexer.specs.Late.{first_all, is_all_word, all_args, tilde, has_list, brace, is_plainly, subst_case, found, sooner, as_fault, late}
use Rattle.shell_lexer.specs.Operators.{Sight, End, Passed, Operator, Wrong, Word, sight, sight_at, sight_by, redirected, whole_word, null_word, copied, less, greater, numbered, numbered_by, out_to, in_from, copy_of}
use Rattle.shell_lexer.specs.Parts as parts
use Rattle.shell_lexer.specs.Parts.{Look, Ends, Byte, Piece, AllArgs, DoubleQuote, Substitution, Bad, look, look_at, look_by, inner, inner_at, inner_by, has_quote, is_escapable}
use Rattle.shell_lexer.specs.Text.{Bytes, kind, skip, place, tail, head_is, run, behind}
use Rattle.shell_lexer.proofs.SpelledCases.{none_some}

-- ---- where a token may begin

-- the same is seen; nothing is said of forms that are not supported
abbrev pub SameSight : Sight → Sight → Type 0
SameSight End s = s ≡ End
SameSight (Passed rest) s = s ≡ Passed rest
SameSight (Operator which rest) s = s ≡ Operator which rest
SameSight Word s = s ≡ Word
SameSight (Wrong fault) s = Unit {0}

if_sights : (x : Bool) (s t u v : Sight) → SameSight s u → SameSight t v → SameSight (if x then s else t) (if x then u else v)
if_sights true s t u v h g = h
if_sights false s t u v h g = g

module _ (at to : ℕ) where
  redirected_same : (which : Option Redirect) (rest : Option Bytes) → SameSight (redirected at which rest) (redirected to which rest)
  redirected_same None rest = tt
  redirected_same (Some which) None = tt
  redirected_same (Some which) (Some rest) = refl

  copied_same : (number t : Bytes) → SameSight (copied at number t) (copied to number t)
  copied_same number [] = tt
  copied_same number (c ∷ t) = redirected_same (copy_of number c) (whole_word (Some t))

  less_same : (number t : Bytes) → SameSight (less at number t) (less to number t)
  less_same number t = if_sights (head_is 60 (skip t)) _ _ _ _ tt (redirected_same (in_from number) (null_word t))

  greater_same : (number t : Bytes) → SameSight (greater at number t) (greater to number t)
  greater_same number t =
      if_sights (head_is 62 (skip t)) _ _ _ _ (redirected_same (out_to number) (null_word (tail (skip t))))
      (if_sights (head_is 38 (skip t)) _ _ _ _ (copied_same number (skip (tail (skip t)))) (redirected_same (out_to number) (null_word t)))

  numbered_by_same : (number : Bytes) (it : ByteKind) (t : Bytes) → SameSight (numbered_by at number it t) (numbered_by to number it t)
  numbered_by_same number k.Less t = less_same number t
  numbered_by_same number k.Greater t = greater_same number t
  numbered_by_same number _ t = refl

module _ (len total : ℕ) where
  numbered_same : (number t : Bytes) → SameSight (numbered len number t) (numbered total number t)
  numbered_same number [] = refl
  numbered_same number (c ∷ t) = numbered_by_same (place len (c ∷ t)) (place total (c ∷ t)) number (kind c) t

  by_same : (at to c : ℕ) (it : ByteKind) (t : Bytes) → SameSight (sight_by len at c it t) (sight_by total to c it t)
  by_same at to c k.Semi t = if_sights (head_is 59 (skip t)) _ _ _ _ refl refl
  by_same at to c k.Amp t = if_sights (head_is 38 (skip t)) _ _ _ _ refl tt
  by_same at to c k.Bar t = if_sights (head_is 124 (skip t)) _ _ _ _ refl refl
  by_same at to c k.Open t = if_sights (head_is 40 (skip t)) _ _ _ _ tt refl
  by_same at to c k.Less t = less_same at to [] t
  by_same at to c k.Greater t = greater_same at to [] t
  by_same at to c k.Digit t = numbered_same (run Digits (c ∷ t)) (skip (behind Digits (c ∷ t)))
  by_same at to c _ t = refl

  at_same : (at to : ℕ) (t : Bytes) → SameSight (sight_at len at t) (sight_at total to t)
  at_same at to [] = refl
  at_same at to (c ∷ t) = by_same at to c (kind c) t

  pub sight_same : (text : Bytes) (s : Sight) → sight len text ≡ s → SameSight s (sight total text)
  sight_same text s h = subst (λ s. SameSight s (sight total text)) h (at_same (place len (skip text)) (place total (skip text)) (skip text))

-- ---- in a word, and in double quotes

-- the same is seen; nothing is said of what is no whole part or not supported
abbrev pub SameLook : Look → Look → Type 0
SameLook Ends l = l ≡ Ends
SameLook (Byte c rest) l = l ≡ Byte c rest
SameLook (Piece p rest) l = l ≡ Piece p rest
SameLook (AllArgs rest) l = l ≡ AllArgs rest
SameLook (DoubleQuote rest) l = l ≡ DoubleQuote rest
SameLook (Substitution rest) l = l ≡ Substitution rest
SameLook (Bad fault) l = Unit {0}

if_looks : (x : Bool) (s t u v : Look) → SameLook s u → SameLook t v → SameLook (if x then s else t) (if x then u else v)
if_looks true s t u v h g = h
if_looks false s t u v h g = g

module _ (quoted : Bool) (at to : ℕ) where
  closed_same : (key : Key) (default : Option Bytes) (t : Bytes) → SameLook (parts.closed quoted at key default t) (parts.closed quoted to key default t)
  closed_same key default [] = tt
  closed_same key default (c ∷ t) = if_looks (nat_eq c 125) _ _ _ _ refl tt

  colon_same : (key : Key) (t : Bytes) → SameLook (parts.behind_colon quoted at key t) (parts.behind_colon quoted to key t)
  colon_same key [] = tt
  colon_same key (c ∷ t) = if_looks (nat_eq c 45) _ _ _ _ (closed_same key (Some (run Defaults t)) (skip (behind Defaults t))) tt

  key_same : (key : Key) (t : Bytes) → SameLook (parts.behind_key quoted at key t) (parts.behind_key quoted to key t)
  key_same key [] = tt
  key_same key (c ∷ t) = if_looks (nat_eq c 58) _ _ _ _ (colon_same key (skip t)) (closed_same key None (c ∷ t))

  braced_by_same : (c : ℕ) (it : ByteKind) (t : Bytes) → SameLook (parts.braced_by quoted at c it t) (parts.braced_by quoted to c it t)
  braced_by_same c k.Name t = key_same (Named (run Names (c ∷ t))) (skip (behind Names (c ∷ t)))
  braced_by_same c k.Digit t = if_looks (nat_eq c 48) _ _ _ _ tt (key_same (Arg (c - 48)) (skip t))
  braced_by_same c k.Hash t = closed_same Count None (skip t)
  braced_by_same c _ t = tt

  braced_same : (t : Bytes) → SameLook (parts.braced quoted at t) (parts.braced quoted to t)
  braced_same [] = tt
  braced_same (c ∷ t) = braced_by_same c (kind c) t

  quote_same : (it : Bool) (rest : Bytes) → SameLook (parts.before_quote it at rest) (parts.before_quote it to rest)
  quote_same true rest = refl
  quote_same false rest = tt

  dollar_by_same : (rest : Bytes) (c : ℕ) (it : ByteKind) (more : Bytes) → SameLook (parts.dollar_by quoted at rest c it more) (parts.dollar_by quoted to rest c it more)
  dollar_by_same rest c k.Open more = if_looks (head_is 40 (skip more)) _ _ _ _ tt refl
  dollar_by_same rest c k.Brace more = braced_same (skip more)
  dollar_by_same rest c k.Digit more = if_looks (nat_eq c 48) _ _ _ _ tt refl
  dollar_by_same rest c k.Special more = tt
  dollar_by_same rest c k.Dollar more = tt
  dollar_by_same rest c k.Single more = quote_same quoted rest
  dollar_by_same rest c k.Double more = quote_same quoted rest
  dollar_by_same rest c _ more = refl

  dollar_same : (rest t : Bytes) → SameLook (parts.dollar quoted at rest t) (parts.dollar quoted to rest t)
  dollar_same rest [] = refl
  dollar_same rest (c ∷ t) = dollar_by_same rest c (kind c) t

escaped_same : (c : ℕ) (t : Bytes) → SameLook (parts.escaped c t) (parts.escaped c t)
escaped_same c [] = refl
escaped_same c (d ∷ t) = refl

inner_escaped_same : (c : ℕ) (t : Bytes) → SameLook (parts.inner_escaped c t) (parts.inner_escaped c t)
inner_escaped_same c [] = refl
inner_escaped_same c (d ∷ t) = if_looks (is_escapable (kind d)) _ _ _ _ refl refl

look_by_same : (at to c : ℕ) (it : ByteKind) (t : Bytes) → SameLook (look_by at c it t) (look_by to c it t)
look_by_same at to c k.Single t = if_looks (has_quote t) _ _ _ _ refl tt
look_by_same at to c k.Back t = escaped_same c t
look_by_same at to c k.Tick t = tt
look_by_same at to c k.Dollar t = dollar_same false at to t (skip t)
look_by_same at to c _ t = refl

look_at_same : (at to : ℕ) (t : Bytes) → SameLook (look_at at t) (look_at to t)
look_at_same at to [] = refl
look_at_same at to (c ∷ t) = look_by_same at to c (kind c) t

inner_by_same : (at to c : ℕ) (it : ByteKind) (t : Bytes) → SameLook (inner_by at c it t) (inner_by to c it t)
inner_by_same at to c k.Back t = inner_escaped_same c t
inner_by_same at to c k.Tick t = tt
inner_by_same at to c k.Dollar t = dollar_same true at to t (skip t)
inner_by_same at to c _ t = refl

inner_at_same : (at to : ℕ) (t : Bytes) → SameLook (inner_at at t) (inner_at to t)
inner_at_same at to [] = refl
inner_at_same at to (c ∷ t) = inner_by_same at to c (kind c) t

pub look_same : (len total : ℕ) (text : Bytes) (l : Look) → look len text ≡ l → SameLook l (look total text)
look_same len total text l h = subst (λ l. SameLook l (look total text)) h (look_at_same (place len (skip text)) (place total (skip text)) (skip text))

pub inner_same : (len total : ℕ) (text : Bytes) (l : Look) → inner len text ≡ l → SameLook l (inner total text)
inner_same len total text l h = subst (λ l. SameLook l (inner total text)) h (inner_at_same (place len (skip text)) (place total (skip text)) (skip text))

-- ---- once a word is whole

some_no : {A B : Type 0} {x : A} → Some x ≡ None → B
some_no e = absurd (none_some (sym e))

if_none : (x : Bool) (at to : ℕ) (o p : Option ℕ) → (o ≡ None → p ≡ None) → (if x then Some at else o) ≡ None → (if x then Some to else p) ≡ None
if_none true at to o p h e = some_no e
if_none false at to o p h e = h e

sooner_none : (a b : Option (ℕ × Form)) → as_fault (sooner a b) ≡ None → (a ≡ None) × (as_fault b ≡ None)
sooner_none None b e = (refl, e)
sooner_none (Some a) None e = some_no e
sooner_none (Some a) (Some b) e = by (nat_le a.0 b.0) e where
  by : (x : Bool) → as_fault (if x then Some a else Some b) ≡ None → (Some a ≡ None) × (as_fault (Some b) ≡ None)
  by true e = some_no e
  by false e = some_no e

found_none : (which : Form) (o : Option ℕ) → found which o ≡ None → o ≡ None
found_none which None e = refl
found_none which (Some at) e = some_no e

as_none : (a : Option (ℕ × Form)) → as_fault a ≡ None → a ≡ None
as_none None e = refl
as_none (Some a) e = some_no e

module _ (bytes : ℕ) where
  abbrev moved_note : ByteNote → ByteNote
  moved_note note.Gap = note.Gap
  moved_note (note.Plain b at) = note.Plain b (at + bytes)
  moved_note (note.All at quoted) = note.All (at + bytes) quoted

  abbrev pub moved : List ByteNote → List ByteNote
  moved ms = map moved_note ms

  pub moved_append : (ms ns : List ByteNote) → moved (ms ++ ns) ≡ moved ms ++ moved ns
  moved_append [] ns = refl
  moved_append (m ∷ ms) ns = ap (λ (ns : List ByteNote). moved_note m ∷ ns) (moved_append ms ns)

  first_moved : (ms : List ByteNote) → first_all ms ≡ None → first_all (moved ms) ≡ None
  first_moved [] e = refl
  first_moved (note.Gap ∷ ms) e = first_moved ms e
  first_moved (note.Plain b at ∷ ms) e = first_moved ms e
  first_moved (note.All at quoted ∷ ms) e = some_no e

  word_moved : (ms : List ByteNote) → is_all_word (moved ms) ≡ is_all_word ms
  word_moved [] = refl
  word_moved (note.Gap ∷ ms) = refl
  word_moved (note.Plain b at ∷ ms) = refl
  word_moved (note.All at false ∷ ms) = refl
  word_moved (note.All at true ∷ []) = refl
  word_moved (note.All at true ∷ note.Gap ∷ []) = refl
  word_moved (note.All at true ∷ note.Gap ∷ m ∷ ms) = refl
  word_moved (note.All at true ∷ note.Plain b i ∷ ms) = refl
  word_moved (note.All at true ∷ note.All i quoted ∷ ms) = refl

  args_moved : (ms : List ByteNote) → all_args ms ≡ None → all_args (moved ms) ≡ None
  args_moved ms e =
      subst (λ x. (if x then None else first_all (moved ms)) ≡ None) (sym (word_moved ms)) (by (is_all_word ms) e) where
        by : (x : Bool) → (if x then None else first_all ms) ≡ None → (if x then None else first_all (moved ms)) ≡ None
        by true e = refl
        by false e = first_moved ms e

  tilde_moved : (may : Bool) (ms : List ByteNote) → tilde may ms ≡ None → tilde may (moved ms) ≡ None
  tilde_moved may [] e = refl
  tilde_moved may (note.Gap ∷ ms) e = tilde_moved false ms e
  tilde_moved may (note.All at quoted ∷ ms) e = tilde_moved false ms e
  tilde_moved may (note.Plain b at ∷ ms) e =
      if_none (may && nat_eq b 126) at (at + bytes) (tilde (nat_eq b 61 || nat_eq b 58) ms) (tilde (nat_eq b 61 || nat_eq b 58) (moved ms)) (λ e. tilde_moved (nat_eq b 61 || nat_eq b 58) ms e) e

  list_moved : (dot : Bool) (ms : List ByteNote) → has_list dot (moved ms) ≡ has_list dot ms
  list_moved dot [] = refl
  list_moved dot (note.Gap ∷ ms) = list_moved false ms
  list_moved dot (note.All at quoted ∷ ms) = list_moved false ms
  list_moved dot (note.Plain b at ∷ ms) = ap (λ x. (nat_eq b 44 || (dot && nat_eq b 46)) || x) (list_moved (nat_eq b 46) ms)

  brace_moved : (ms : List ByteNote) → brace ms ≡ None → brace (moved ms) ≡ None
  brace_moved [] e = refl
  brace_moved (note.Gap ∷ ms) e = brace_moved ms e
  brace_moved (note.All at quoted ∷ ms) e = brace_moved ms e
  brace_moved (note.Plain b at ∷ ms) e =
      subst (λ y. (if nat_eq b 123 then (if y then Some (at + bytes) else None) else brace (moved ms)) ≡ None) (sym (list_moved false ms)) (by (λ e. brace_moved ms e) (nat_eq b 123) (has_list false ms) e) where
        by : (brace ms ≡ None → brace (moved ms) ≡ None) → (x y : Bool) → (if x then (if y then Some at else None) else brace ms) ≡ None → (if x then (if y then Some (at + bytes) else None) else brace (moved ms)) ≡ None
        by h true true e = some_no e
        by h true false e = refl
        by h false y e = h e

  plainly_moved : (word : Bytes) (ms : List ByteNote) → is_plainly word (moved ms) ≡ is_plainly word ms
  plainly_moved [] [] = refl
  plainly_moved [] (m ∷ ms) = refl
  plainly_moved (c ∷ word) [] = refl
  plainly_moved (c ∷ word) (note.Gap ∷ ms) = refl
  plainly_moved (c ∷ word) (note.All at quoted ∷ ms) = refl
  plainly_moved (c ∷ word) (note.Plain b at ∷ ms) = ap (λ x. nat_eq b c && x) (plainly_moved word ms)

  case_moved : (depth at to : ℕ) (ms : List ByteNote) → subst_case depth at ms ≡ None → subst_case depth to (moved ms) ≡ None
  case_moved zero at to ms e = refl
  case_moved (suc depth) at to ms e =
      subst (λ x. (if x then Some to else None) ≡ None) (sym (plainly_moved (codes "case") ms)) (if_none (is_plainly (codes "case") ms) at to None None (λ e. e) e)

  pub late_moved : (depth at to : ℕ) (ms : List ByteNote) → late depth at ms ≡ None → late depth to (moved ms) ≡ None
  late_moved depth at to ms e =
      let all = sooner_none (found form.AllArgs (all_args ms)) (sooner (found form.Tilde (tilde true ms)) (sooner (found form.Brace (brace ms)) (found form.SubstCase (subst_case depth at ms)))) e in
      let tildes = sooner_none (found form.Tilde (tilde true ms)) (sooner (found form.Brace (brace ms)) (found form.SubstCase (subst_case depth at ms))) all.1 in
      let braces = sooner_none (found form.Brace (brace ms)) (found form.SubstCase (subst_case depth at ms)) tildes.1 in
      none (all_args (moved ms)) (tilde true (moved ms)) (brace (moved ms)) (subst_case depth to (moved ms))
      (args_moved ms (found_none form.AllArgs (all_args ms) all.0)) (tilde_moved true ms (found_none form.Tilde (tilde true ms) tildes.0))
      (brace_moved ms (found_none form.Brace (brace ms) braces.0))
      (case_moved depth at to ms (found_none form.SubstCase (subst_case depth at ms) (as_none (found form.SubstCase (subst_case depth at ms)) braces.1))) where
        none : (a b c d : Option ℕ) → a ≡ None → b ≡ None → c ≡ None → d ≡ None
            → as_fault (sooner (found form.AllArgs a) (sooner (found form.Tilde b) (sooner (found form.Brace c) (found form.SubstCase d)))) ≡ None
        none a b c d e f g h = rw (e, f, g, h) refl
