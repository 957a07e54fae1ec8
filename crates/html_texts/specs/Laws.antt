-- What holds of texts within pages.
use Rattle.std.specs.Prelude.{◌≡◌, ℕ, IsTrue, List}
use Rattle.html_texts.specs.Visible.{visible, is_visible}
use Rattle.html_texts.specs.Escaped.{escaped, is_escaped, read_html}

-- what a browser reads of an escaped text is the text
abbrev pub EscapedReadBack : Type 0
EscapedReadBack = (text : List ℕ) → read_html (escaped text) ≡ text

-- in an escaped text no `<`, `>`, `&`, `"` and `'` stands bare
abbrev pub NothingBare : Type 0
NothingBare = (text : List ℕ) → IsTrue (is_escaped (escaped text))

-- a text whose characters stand as they are is shown as it is
abbrev pub VisibleStays : Type 0
VisibleStays = (text : List ℕ) → IsTrue (is_visible text) → visible text ≡ text
