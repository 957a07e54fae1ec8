-- What holds of printing and reading: reading inverts printing, and refuses exactly what no value prints.
use Rattle.std.specs.Prelude.{◌≡◌, ℕ, ◌<◌, ◌^◌, Bool, true, IsTrue, List, ◌∷◌, length, nat_le, Option, Some, None}
use Rattle.std.specs.List.{join_with_byte, list_all}
use Rattle.std.specs.Fmt.{decimal}
use Rattle.shown_texts.specs.Parts.{parts, lacks}
use Rattle.shown_texts.specs.Show.{is_shown, show, are_bytes, shown_of}
use Rattle.shown_texts.specs.Numbers.{number_of}
use Rattle.shown_texts.specs.Lines.{lines_text, is_line, lines_of}
use Rattle.shown_texts.specs.Paths.{path_text, path_of, are_names}
use Rattle.shown_texts.specs.Marks.{site_text, mark_text, reason_name, site_of, mark_of, reason_of, is_site, is_mark}

-- each value's text is read as the value, a text is read as a value only where it is the value's,
-- and where a text is refused, no value has it
pub record ReadsBack {X : Type 0} (is_value : X → Bool) (text_of : X → List ℕ) (value_of : List ℕ → Option X)
    : Type 0 where
  pub inverts : (x : X) → IsTrue (is_value x) → value_of (text_of x) ≡ Some x
  pub spelled : (text : List ℕ) (x : X) → value_of text ≡ Some x → text_of x ≡ text
  pub refuses : (text : List ℕ) → value_of text ≡ None → (x : X) → IsTrue (is_value x) → ¬ (text_of x ≡ text)

-- bytes by their one spelling
abbrev pub BytesReadBack : Type 0
BytesReadBack = ReadsBack are_bytes show shown_of

-- numbers up to any that a u64 holds
abbrev pub NumbersReadBack : Type 0
NumbersReadBack = (most : ℕ) → most < 2 ^ 64 → ReadsBack (λ n. nat_le n most) decimal (number_of most)

-- lines
abbrev pub LinesReadBack : Type 0
LinesReadBack = ReadsBack (λ lines. list_all is_line lines) lines_text lines_of

-- paths
abbrev pub PathsReadBack : Type 0
PathsReadBack = ReadsBack are_names path_text path_of

-- sites
abbrev pub SitesReadBack : Type 0
SitesReadBack = ReadsBack is_site site_text site_of

-- marks
abbrev pub MarksReadBack : Type 0
MarksReadBack = ReadsBack is_mark mark_text mark_of

-- reasons
abbrev pub ReasonsReadBack : Type 0
ReasonsReadBack = ReadsBack (λ reason. true) reason_name reason_of

-- a spelling has a byte, and no byte of it is a blank, a newline, a comma, a brace or a parenthesis, so a text can be
-- cut at those
abbrev pub SpellingsStayWhole : Type 0
SpellingsStayWhole =
    (bytes : List ℕ) → IsTrue (are_bytes bytes) → (0 < length (show bytes)) × IsTrue (list_all is_shown (show bytes))

-- different byte strings are spelled differently
abbrev pub ShownApart : Type 0
ShownApart = (bytes others : List ℕ) → show bytes ≡ show others → bytes ≡ others

-- parts without the byte, one at least, that are joined by it are cut apart again
abbrev pub JoinedAreCut : Type 0
JoinedAreCut =
    (at : ℕ) (text : List ℕ) (texts : List (List ℕ)) → IsTrue (list_all (lacks at) (text ∷ texts))
    → parts at (join_with_byte at (text ∷ texts)) ≡ text ∷ texts

-- the parts of a text, joined by the byte at which it was cut, are the text
abbrev pub CutsJoinAgain : Type 0
CutsJoinAgain = (at : ℕ) (text : List ℕ) → join_with_byte at (parts at text) ≡ text
