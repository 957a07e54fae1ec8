-- Digits where a token may begin, and a redirection's word.
use Rattle.std.proofs.Common.{◌≡◌, ℕ, ◌+◌, ◌<◌, ◌≤◌, Option, Some, None, ◌∷◌, refl, sym, ap, ◌∙◌, arith, drop, length, get_or}
use Rattle.shell_lexer.specs.declared.byte_kind.ByteKind.{ByteKind}
use Rattle.shell_lexer.specs.declared.byte_kind.ByteKind.TheVariants.{Less, Greater}
use Rattle.shell_lexer.specs.declared.byte_kind.RunKind.TheVariants.{Digits}
use Rattle.shell_lexer.specs.Text.{Bytes, kind, skip, place, run, behind}
use Rattle.shell_lexer.specs.Operators.{Word, numbered, numbered_by}
use Rattle.shell_lexer.specs.Seen.{OnFrom}
use Rattle.shell_lexer.proofs.Fronts.{Here, skip_front, place_of}

pub on_before : (at b len : ℕ) (end : Option ℕ) → at ≤ b → OnFrom b len end → OnFrom at len end
on_before at b len None le h = tt
on_before at b len (Some i) le h = (let k : b ≤ i = h.0 in omega arith, h.1)

numbered_front : (s number : Bytes) (end angle : ℕ) → Here s end angle → angle < length s → numbered (length s) number (skip (drop end s)) ≡ numbered_by angle number (kind (get_or s angle 0)) (drop (angle + 1) s)
numbered_front s number end angle h lt =
    let f : skip (drop end s) ≡ get_or s angle 0 ∷ drop (angle + 1) s = skip_front s end angle h lt in
    ap (numbered (length s) number) f ∙ ap (λ n. numbered_by n number (kind (get_or s angle 0)) (drop (angle + 1) s)) (ap (place (length s)) (sym f) ∙ place_of s end angle h)

-- behind the digits from a place on, which are this number, stands a byte of this kind
pub numbered_at : (s number : Bytes) (at end angle : ℕ) (k : ByteKind) → number ≡ run Digits (drop at s) → drop end s ≡ behind Digits (drop at s) → Here s end angle → angle < length s
    → k ≡ kind (get_or s angle 0) → numbered_by angle number k (drop (angle + 1) s) ≡ numbered (length s) (run Digits (drop at s)) (skip (behind Digits (drop at s)))
numbered_at s number at end angle k n b h lt e =
    ap (λ k. numbered_by angle number k (drop (angle + 1) s)) e ∙ sym (numbered_front s number end angle h lt)
    ∙ ap (λ m. numbered (length s) m (skip (drop end s))) n ∙ ap (λ t. numbered (length s) (run Digits (drop at s)) (skip t)) b

pub other_word : (at : ℕ) (number rest : Bytes) (k : ByteKind) → (k ≡ Less → ⊥) → (k ≡ Greater → ⊥) → Word ≡ numbered_by at number k rest
other_word at number rest Less n g = absurd (n refl)
other_word at number rest Greater n g = absurd (g refl)
other_word at number rest _ n g = refl
