-- What holds of fields and of patterns: what their definitions must say, if they are those of the standard. Where a
-- word of several pieces is cut, what `?` and a set match, and the shapes that are left out have to be read there.
use Rattle.std.specs.Prelude.{◌≡◌, ◌↔◌, ℕ, true, false, not, List, [], ◌∷◌, ◌++◌, Bool, ◌||◌, All, Result, Ok, Err}
use Rattle.std.specs.List.{filter, list_any, concat}
use Rattle.script_names.specs.Ascii.{bracket_open, question, star}
use Rattle.shell_words.specs.declared.letter.Letter.{Letter}
use Rattle.shell_words.specs.declared.fault.WordFault.{WordFault}
use Rattle.shell_words.specs.Pieces.{PieceParts}
use Rattle.shell_words.specs.Words.{word, is_blank, is_unquoted, bytes_of}
use Rattle.shell_words.specs.Fields.{fields_of, joined, short}
use Rattle.shell_words.specs.Patterns.{pattern_letters, items, Matches, is_left_out, is_split_backslash}

-- one blank more in front of a blank changes no field: a run of blanks cuts once, however long it is
abbrev pub RunCutsOnce : Type 0
RunCutsOnce =
    (front rest : List Letter) (a b : Letter) → is_blank a ≡ true → is_blank b ≡ true
    → fields_of (front ++ a ∷ b ∷ rest) ≡ fields_of (front ++ b ∷ rest)

-- one field alone, or its fault
abbrev pub one_field : Result (List ℕ) WordFault → Result (List (List ℕ)) WordFault
one_field (Ok text) = Ok (text ∷ [])
one_field (Err fault) = Err fault

-- quoted pieces alone, at least one, are one field, which has the bytes of all pieces in order; Long where they are
-- too many
abbrev pub QuotedIsOneField : Type 0
QuotedIsOneField =
    (piece : PieceParts) (others : List PieceParts) → All (λ p. p.quoted ≡ true) (piece ∷ others)
    → fields_of (word (piece ∷ others)) ≡ one_field (short (joined (piece ∷ others)))

-- the bytes of the fields, one field behind another, are the bytes of the word without its blanks
abbrev pub FieldsKeepBytes : Type 0
FieldsKeepBytes =
    (letters : List Letter) (fields : List (List ℕ)) → fields_of letters ≡ Ok fields
    → concat fields ≡ bytes_of (filter (λ x. not (is_blank x)) letters)

-- a pattern of quoted pieces alone has no shape that is left out, and matches the bytes of its pieces and no other
-- string
abbrev pub QuotedMatchesItself : Type 0
QuotedMatchesItself =
    (pieces : List PieceParts) (text : List ℕ) → All (λ p. p.quoted ≡ true) pieces
    → (is_left_out (pattern_letters pieces) ≡ false)
    × (Matches (items (pattern_letters pieces)) text ↔ text ≡ joined pieces)

-- whether a letter is an unquoted `*`, `?` or `[`
abbrev pub is_special : Letter → Bool
is_special x = is_unquoted star x || is_unquoted question x || is_unquoted bracket_open x

-- a pattern without an unquoted `*`, `?` and `[` is left out only for a `\` that an expansion gave, and matches the
-- bytes of its pieces and no other string
abbrev pub PlainMatchesItself : Type 0
PlainMatchesItself =
    (pieces : List PieceParts) (text : List ℕ) → All (λ x. is_special x ≡ false) (pattern_letters pieces)
    → (is_left_out (pattern_letters pieces) ≡ list_any is_split_backslash (pattern_letters pieces))
    × (Matches (items (pattern_letters pieces)) text ↔ text ≡ joined pieces)

-- an unquoted `*` alone has no shape that is left out, and matches every string
abbrev pub StarMatchesAll : Type 0
StarMatchesAll =
    (piece : PieceParts) (text : List ℕ) → piece.quoted ≡ false → piece.text ≡ star ∷ []
    → (is_left_out (pattern_letters (piece ∷ [])) ≡ false) × Matches (items (pattern_letters (piece ∷ []))) text
