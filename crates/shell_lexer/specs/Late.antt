-- The forms that are looked for once a word is whole, by the notes of its bytes: `$@` elsewhere than as the word
-- `"$@"`, a tilde, a brace, and the word `case` in a substitution. The least offset decides.
use Rattle.std.specs.Prelude.{ℕ, zero, suc, Bool, true, false, if◌then◌else◌, ◌&&◌, ◌||◌, nat_eq, nat_le, List, []}
use Rattle.std.specs.Prelude.{◌∷◌, Option, Some, None, codes}
use Rattle.script_names.specs.Ascii.{brace_open, colon, comma, equals, full_stop, tilde as tilde_byte}
use Rattle.shell_syntax.specs.declared.form.Form.{Form}
use Rattle.shell_syntax.specs.declared.form.Form.TheVariants as form
use Rattle.shell_lexer.specs.declared.fault.LexFault.{LexFault}
use Rattle.shell_lexer.specs.declared.fault.LexFault.TheVariants.{Unsupported}
use Rattle.shell_lexer.specs.declared.sight.ByteNote.{ByteNote}
use Rattle.shell_lexer.specs.declared.sight.ByteNote.TheVariants.{Gap, Plain, All}
use Rattle.shell_lexer.specs.Text.{Bytes}

-- the first `$@`
abbrev pub first_all : List ByteNote → Option ℕ
first_all [] = None
first_all (Gap ∷ ms) = first_all ms
first_all (Plain b at ∷ ms) = first_all ms
first_all (All at quoted ∷ ms) = Some at

-- the notes of the word `"$@"`: a quoted `$@`, and the end of its quotes
abbrev pub is_all_word : List ByteNote → Bool
is_all_word (All at true ∷ Gap ∷ []) = true
is_all_word _ = false

-- the first `$@` of a word that is not `"$@"`
abbrev pub all_args : List ByteNote → Option ℕ
all_args ms = if is_all_word ms then None else first_all ms

-- a tilde that is first in the word, or directly behind a plain `=` or `:`
abbrev pub tilde : Bool → List ByteNote → Option ℕ
tilde may [] = None
tilde may (Gap ∷ ms) = tilde false ms
tilde may (All at quoted ∷ ms) = tilde false ms
tilde may (Plain b at ∷ ms) =
    if may && nat_eq b tilde_byte then Some at else tilde (nat_eq b equals || nat_eq b colon) ms

-- whether a plain comma comes, or two plain dots side by side; `dot` says that the byte before is a plain dot
abbrev pub has_list : Bool → List ByteNote → Bool
has_list dot [] = false
has_list dot (Gap ∷ ms) = has_list false ms
has_list dot (All at quoted ∷ ms) = has_list false ms
has_list dot (Plain b at ∷ ms) =
    (nat_eq b comma || (dot && nat_eq b full_stop)) || has_list (nat_eq b full_stop) ms

-- the first plain `{`, where a comma or two dots come behind it
abbrev pub brace : List ByteNote → Option ℕ
brace [] = None
brace (Gap ∷ ms) = brace ms
brace (All at quoted ∷ ms) = brace ms
brace (Plain b at ∷ ms) = if nat_eq b brace_open then (if has_list false ms then Some at else None) else brace ms

-- whether the word is just these plain bytes
abbrev pub is_plainly : Bytes → List ByteNote → Bool
is_plainly [] [] = true
is_plainly (c ∷ bytes) (Plain b at ∷ ms) = nat_eq b c && is_plainly bytes ms
is_plainly _ _ = false

-- the word `case`, which begins at a place, inside a substitution
abbrev pub subst_case : ℕ → ℕ → List ByteNote → Option ℕ
subst_case zero at ms = None
subst_case (suc depth) at ms = if is_plainly (codes "case") ms then Some at else None

-- a form with its offset
abbrev pub found : Form → Option ℕ → Option (ℕ × Form)
found which None = None
found which (Some at) = Some (at, which)

-- the one with the lower offset; the first, where they have the same
abbrev pub sooner : Option (ℕ × Form) → Option (ℕ × Form) → Option (ℕ × Form)
sooner None b = b
sooner (Some a) None = Some a
sooner (Some a) (Some b) = if nat_le a.0 b.0 then Some a else Some b

-- the fault that a form with its offset is
abbrev pub as_fault : Option (ℕ × Form) → Option LexFault
as_fault None = None
as_fault (Some a) = Some (Unsupported a.1 a.0)

-- the form of a whole word with these notes, which begins at a place inside so many substitutions
abbrev pub late : ℕ → ℕ → List ByteNote → Option LexFault
late depth at ms =
    let all = found form.AllArgs (all_args ms) in
    let tilde_at = found form.Tilde (tilde true ms) in
    let brace_at = found form.Brace (brace ms) in
    let case_at = found form.SubstCase (subst_case depth at ms) in
    as_fault (sooner all (sooner tilde_at (sooner brace_at case_at)))
