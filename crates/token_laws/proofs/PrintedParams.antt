-- Parameter expansions and `"$@"`, as they are printed, are one part.
use Rattle.std.proofs.Common.{◌≡◌, ℕ, ◌+◌, ◌≤◌, Bool, true, false, nat_eq, not, List, [], ◌∷◌, ◌++◌, append_assoc, Option, Some, None, codes, refl, sym, ap, ◌∙◌, subst, arith, decimal}
use Rattle.std.proofs.lemmas.Fmt.{decimal_digit}
use Rattle.std.specs.List.{list_all}
use Rattle.shell_syntax.specs.declared.key.Key.{Key}
use Rattle.shell_syntax.specs.declared.key.Key.TheVariants.{Named, Arg, Count}
use Rattle.shell_syntax.specs.PrintedParts.{double_quote, key_text, default_text, param_text}
use Rattle.shell_lexer.specs.declared.sight.ByteNote.{ByteNote}
use Rattle.shell_lexer.specs.declared.sight.ByteNote.TheVariants as note
use Rattle.shell_lexer.specs.declared.token.RawPart.{RawPart}
use Rattle.shell_lexer.specs.declared.token.RawPart.TheVariants as part
use Rattle.token_laws.specs.Laws.{PartsAreSpelled}
use Rattle.shell_lexer.specs.Parts.{look, look_at, inner, inner_at}
use Rattle.shell_lexer.specs.SpelledParts.{is_default, IsDigitOf, IsParam, name as by_name, name_braced, name_default, number as by_number, number_braced, number_default, count as by_count, count_braced}
use Rattle.shell_lexer.specs.Reading.{Out, Whole, Read, grown, plain_run, IsWord, word_piece, word_double, IsInner, inner_ends, inner_piece, inner_all}
use Rattle.script_names.specs.ShellNames.{is_letter, is_name_byte, is_shell_name}
use Rattle.shell_lexer.specs.Text.{Bytes, place, offset, is_default_byte}
use Rattle.token_laws.specs.PrintedLaws.{AllIsOnePart, ParamIsOnePart}
use Rattle.std.proofs.lemmas.Bool.{and_from, and_parts, eqb-true}
use Rattle.shell_lexer.proofs.PrintedBytes.{clash, is_no_back, skip_first, stands_here, all_pass, all_append}

-- ---- what a parameter expansion may name, and what default it may have

data IsExpansion : Key → Option Bytes → Type 0 where
  variable : {name : Bytes} → is_shell_name name ≡ true → IsExpansion (Named name) None
  variable_or : {name default : Bytes} → is_shell_name name ≡ true → is_default default ≡ true
      → IsExpansion (Named name) (Some default)
  positional : {number : ℕ} → 1 ≤ number → number ≤ 9 → IsExpansion (Arg number) None
  positional_or : {number : ℕ} {default : Bytes} → 1 ≤ number → number ≤ 9 → is_default default ≡ true
      → IsExpansion (Arg number) (Some default)
  how_many : IsExpansion Count None

expansion_of : {key : Key} {default : Option Bytes} {text rest : Bytes} → IsParam key default text rest → IsExpansion key default
expansion_of (by_name is h ends) = variable is
expansion_of (name_braced is h) = variable is
expansion_of (name_default is default_is h) = variable_or is default_is
expansion_of (by_number is h) = positional is.least is.most
expansion_of (number_braced is h) = positional is.least is.most
expansion_of (number_default is default_is h) = positional_or is.least is.most default_is
expansion_of (by_count h) = how_many
expansion_of (count_braced h) = how_many

-- ---- bytes without a backslash

pass_no_back : (f : ℕ → Bool) → f 92 ≡ false → (b : ℕ) → f b ≡ true → is_no_back b ≡ true
pass_no_back f e b h = by (nat_eq b 92) refl where
  by : (it : Bool) → nat_eq b 92 ≡ it → not it ≡ true
  by true g = absurd (clash (ap f (eqb-true b 92 g) ∙ e) h)
  by false g = refl

variable_no_back : (name : Bytes) → is_shell_name name ≡ true → list_all is_no_back name ≡ true
variable_no_back [] e = refl
variable_no_back (b ∷ name) e =
    and_from (is_no_back b) (list_all is_no_back name) (pass_no_back is_letter refl b (and_parts (is_letter b) (list_all is_name_byte name) e).0)
    (all_pass is_name_byte is_no_back (pass_no_back is_name_byte refl) name (and_parts (is_letter b) (list_all is_name_byte name) e).1)

default_no_back : (default : Bytes) → is_default default ≡ true → list_all is_no_back default ≡ true
default_no_back default e = all_pass is_default_byte is_no_back (pass_no_back is_default_byte refl) default e

digit_no_back : (n : ℕ) → n ≤ 9 → is_no_back (48 + n) ≡ true
digit_no_back n le = by (nat_eq (48 + n) 92) refl where
  by : (it : Bool) → nat_eq (48 + n) 92 ≡ it → not it ≡ true
  by true g = let e = eqb-true (48 + n) 92 g in absurd (omega arith)
  by false g = refl

-- ---- what is printed is how a parameter may be spelled

-- in braces
abbrev spelled : Bytes → Bytes → Bytes
spelled key default = codes "${" ++ (key ++ (default ++ codes "}"))

digit_of : (n : ℕ) → 1 ≤ n → n ≤ 9 → IsDigitOf n (48 + n)
digit_of n lo hi = record { least = lo; most = hi; digit_is = refl }

digit_is : (n : ℕ) → n ≤ 9 → decimal n ≡ (48 + n) ∷ []
digit_is n le = decimal_digit n (omega arith)

braced : (key : Key) (default : Option Bytes) (rest : Bytes) → IsExpansion key default
    → IsParam key default (spelled (key_text key) (default_text default) ++ rest) rest
braced key default rest (variable {name = n} is) =
    name_braced is (stands_here (spelled n []) rest (all_append is_no_back n (codes "}") (variable_no_back n is) refl))
braced key default rest (variable_or {name = n} {default = d} is default_is) =
    name_default is default_is
    (stands_here (spelled n (codes ":-" ++ d)) rest
    (all_append is_no_back n (codes ":-" ++ (d ++ codes "}")) (variable_no_back n is) (all_append is_no_back d (codes "}") (default_no_back d default_is) refl)))
braced key default rest (positional {number = n} lo hi) =
    subst (λ k. IsParam (Arg n) None (spelled k [] ++ rest) rest) (sym (digit_is n hi))
    (number_braced (digit_of n lo hi) (stands_here (spelled ((48 + n) ∷ []) []) rest (and_from (is_no_back (48 + n)) true (digit_no_back n hi) refl)))
braced key default rest (positional_or {number = n} {default = d} lo hi default_is) =
    subst (λ k. IsParam (Arg n) (Some d) (spelled k (codes ":-" ++ d) ++ rest) rest) (sym (digit_is n hi))
    (number_default (digit_of n lo hi) default_is
    (stands_here (spelled ((48 + n) ∷ []) (codes ":-" ++ d)) rest
    (and_from (is_no_back (48 + n)) (list_all is_no_back (d ++ codes "}")) (digit_no_back n hi) (all_append is_no_back d (codes "}") (default_no_back d default_is) refl))))
braced key default rest how_many = count_braced (stands_here (spelled (codes "#") []) rest refl)

-- ---- the parts

grouped : (q a k d b r rest : Bytes) → (((((q ++ a) ++ k) ++ d) ++ b) ++ r) ++ rest ≡ q ++ ((a ++ (k ++ (d ++ b))) ++ (r ++ rest))
grouped q a k d b r rest = simp append_assoc refl

printed : (key : Key) (default : Option Bytes) (quoted : Bool) (rest : Bytes)
    → param_text key default quoted ++ rest ≡ double_quote quoted ++ (spelled (key_text key) (default_text default) ++ (double_quote quoted ++ rest))
unfolding param_text
printed key default quoted rest = grouped (double_quote quoted) (codes "${") (key_text key) (default_text default) (codes "}") (double_quote quoted) rest

module _ (outside : PartsAreSpelled look false) (inside : PartsAreSpelled inner true) (deep : ℕ → Bool) (len depth : ℕ) (run rest : Bytes) (q : Out Read) where
  abbrev IsRead : RawPart → Bytes → Type 0
  IsRead it text = (notes : List ByteNote) × IsWord deep len depth run text (grown (plain_run run ++ it ∷ []) notes q)

  param_read : (key : Key) (default : Option Bytes) (quoted : Bool) → IsExpansion key default → IsWord deep len depth [] rest q
      → IsRead (part.Param key default quoted) (double_quote quoted ++ (spelled (key_text key) (default_text default) ++ (double_quote quoted ++ rest)))
  param_read key default false h w =
      let text = spelled (key_text key) (default_text default) ++ rest in
      (note.Gap ∷ [], word_piece (part.Param key default false) rest q ((outside len text rest (part.Param key default false)).1 (refl, braced key default rest h)) w refl)
  param_read key default true h w =
      let it = part.Param key default true in
      let text = spelled (key_text key) (default_text default) ++ 34 ∷ rest in
      let from = offset len (34 ∷ text) in
      let closed : IsInner deep len depth from false [] (34 ∷ rest) (Whole ([], []) rest) = inner_ends rest (ap (λ t. inner_at (place len t) t) (skip_first 34 rest refl)) refl in
      let i : IsInner deep len depth from true [] text (Whole (it ∷ [], note.Gap ∷ []) rest) =
      inner_piece it (34 ∷ rest) (Whole ([], []) rest) ((inside len text (34 ∷ rest) it).1 (refl, braced key default (34 ∷ rest) h)) closed refl
      in
      (note.Gap ∷ note.Gap ∷ [], word_double text (it ∷ [], note.Gap ∷ []) rest q (ap (λ t. look_at (place len t) t) (skip_first 34 text refl)) i w refl)

pub param_is_one_part : PartsAreSpelled look false → PartsAreSpelled inner true → ParamIsOnePart
param_is_one_part outside inside key default quoted spelled_somewhere behind h deep len depth run rest q w =
    subst (IsRead outside inside deep len depth run rest q (part.Param key default quoted)) (sym (printed key default quoted rest))
    (param_read outside inside deep len depth run rest q key default quoted (expansion_of h) w)

pub all_is_one_part : AllIsOnePart
all_is_one_part deep len depth run rest q w =
    let text = 36 ∷ 64 ∷ 34 ∷ rest in
    let from = offset len (34 ∷ text) in
    let mark = note.All (offset len text) true in
    let closed : IsInner deep len depth from false [] (34 ∷ rest) (Whole ([], []) rest) = inner_ends rest (ap (λ t. inner_at (place len t) t) (skip_first 34 rest refl)) refl in
    let i : IsInner deep len depth from true [] text (Whole (part.All ∷ [], mark ∷ []) rest) = inner_all (34 ∷ rest) (Whole ([], []) rest) refl closed refl in
    (mark ∷ note.Gap ∷ [], word_double text (part.All ∷ [], mark ∷ []) rest q refl i w refl)
