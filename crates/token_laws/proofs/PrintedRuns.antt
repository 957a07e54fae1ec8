-- Command substitutions, as they are printed, are one part.
use Rattle.std.proofs.Common.{◌≡◌, ℕ, Bool, true, false, List, [], ◌∷◌, ◌++◌, append_assoc, codes, refl, sym, ap, subst}
use Rattle.shell_syntax.specs.PrintedParts.{double_quote, run_text}
use Rattle.shell_lexer.specs.declared.sight.ByteNote.{ByteNote}
use Rattle.shell_lexer.specs.declared.sight.ByteNote.TheVariants as note
use Rattle.shell_lexer.specs.declared.token.Token.{Token}
use Rattle.shell_lexer.specs.declared.token.RawPart.TheVariants as part
use Rattle.token_laws.specs.Laws.{SubstitutionsAreSpelled}
use Rattle.shell_lexer.specs.Parts.{look, inner, inner_at}
use Rattle.shell_lexer.specs.Spelling.{IsNotNext}
use Rattle.shell_lexer.specs.SpelledParts.{IsSubstitution}
use Rattle.shell_lexer.specs.Reading.{Out, Whole, Read, grown, plain_run, IsWord, word_run, word_double, IsInner, inner_ends, inner_run, IsSub}
use Rattle.shell_lexer.specs.Text.{Bytes, place, offset}
use Rattle.token_laws.specs.PrintedLaws.{RunIsOnePart}
use Rattle.shell_lexer.proofs.PrintedBytes.{skip_first}

pub grouped : (q a k b r rest : Bytes) → ((((q ++ a) ++ k) ++ b) ++ r) ++ rest ≡ q ++ (a ++ (k ++ (b ++ (r ++ rest))))
grouped q a k b r rest = simp append_assoc refl

printed : (body : Bytes) (quoted : Bool) (rest : Bytes)
    → run_text body quoted ++ rest ≡ double_quote quoted ++ (codes "$(" ++ (body ++ (codes " )" ++ (double_quote quoted ++ rest))))
unfolding run_text
printed body quoted rest = grouped (double_quote quoted) (codes "$(") body (codes " )") (double_quote quoted) rest

opens : (t : Bytes) → IsNotNext 40 t → IsSubstitution (36 ∷ 40 ∷ t) t
opens t h = record { stands = (40 ∷ t, refl, (t, skip_first 40 t refl, refl)); single = h }

module _ (outside : SubstitutionsAreSpelled look) (inside : SubstitutionsAreSpelled inner) (deep : ℕ → Bool) (len depth : ℕ) (run body rest : Bytes) (tokens : List Token) (q : Out Read) where
  abbrev IsRead : Bool → Bytes → Type 0
  IsRead quoted text = (at : ℕ) × (notes : List ByteNote) × IsWord deep len depth run text (grown (plain_run run ++ part.Run at tokens quoted ∷ []) notes q)

  run_read : (quoted : Bool) → IsNotNext 40 (body ++ (32 ∷ 41 ∷ (double_quote quoted ++ rest)))
      → ((at : ℕ) → IsSub deep len depth at (body ++ (32 ∷ 41 ∷ (double_quote quoted ++ rest))) (Whole tokens (double_quote quoted ++ rest)))
      → IsWord deep len depth [] rest q
      → IsRead quoted (double_quote quoted ++ (codes "$(" ++ (body ++ (codes " )" ++ (double_quote quoted ++ rest)))))
  run_read false single sub w =
      let begin = body ++ (32 ∷ 41 ∷ rest) in
      let at = offset len (36 ∷ 40 ∷ begin) in
      (at, note.Gap ∷ [], word_run begin tokens rest q ((outside len (36 ∷ 40 ∷ begin) begin).1 (opens begin single)) (sub at) w refl)
  run_read true single sub w =
      let begin = body ++ (32 ∷ 41 ∷ 34 ∷ rest) in
      let text = 36 ∷ 40 ∷ begin in
      let at = offset len text in
      let it = part.Run at tokens true in
      let from = offset len (34 ∷ text) in
      let closed : IsInner deep len depth from false [] (34 ∷ rest) (Whole ([], []) rest) = inner_ends rest (ap (λ t. inner_at (place len t) t) (skip_first 34 rest refl)) refl in
      let i : IsInner deep len depth from true [] text (Whole (it ∷ [], note.Gap ∷ []) rest) =
      inner_run begin tokens (34 ∷ rest) (Whole ([], []) rest) ((inside len text begin).1 (opens begin single)) (sub at) closed refl
      in
      (at, note.Gap ∷ note.Gap ∷ [], word_double text (it ∷ [], note.Gap ∷ []) rest q refl i w refl)

pub run_is_one_part : SubstitutionsAreSpelled look → SubstitutionsAreSpelled inner → RunIsOnePart
run_is_one_part outside inside deep len depth run body rest quoted tokens q single sub w =
    subst (IsRead outside inside deep len depth run body rest tokens q quoted) (sym (printed body quoted rest))
    (run_read outside inside deep len depth run body rest tokens q quoted single sub w)
