-- A text within a page of HTML, and what a browser reads of it (HTML Standard, 13.5, named character references).
use Rattle.std.specs.Prelude.{ℕ, zero, suc, Bool, true, false, not, ◌&&◌, ◌||◌, ◌==◌, ◌-◌, is_some, List, [], ◌∷◌, ◌++◌}
use Rattle.std.specs.Prelude.{length, codes, Option, Some, None, if◌then◌else◌}
use Rattle.std.specs.List.{find, flat_map, list_all}
use Rattle.std.specs.Option.{unwrap_or}
use Rattle.script_names.specs.Ascii.{less, greater, ampersand, double_quote, single_quote}
use Rattle.html_texts.specs.Visible.{visible}

-- ---- what is written

-- the bytes that have a meaning of their own in a page: `<`, `>`, `&`, `"` and `'`
abbrev pub is_special : ℕ → Bool
is_special b =
    (b == less) || (b == greater) || (b == ampersand) || (b == double_quote) || (b == single_quote)

-- what stands for one of them, behind a `&`
abbrev pub reference : ℕ → List ℕ
reference b =
    if b == less then codes "lt;"
    else (if b == greater then codes "gt;"
    else (if b == ampersand then codes "amp;"
    else (if b == double_quote then codes "quot;" else codes "#39;")))

-- a byte in a page
abbrev pub escaped_byte : ℕ → List ℕ
escaped_byte b = if is_special b then ampersand ∷ reference b else b ∷ []

-- a text in a page
abbrev pub escaped : List ℕ → List ℕ
escaped text = flat_map escaped_byte text

-- the text that is shown for bytes, in a page
unfoldable pub html_text : List ℕ → List ℕ
html_text bytes = escaped (visible bytes)

-- ---- what a browser reads

-- a text begins with these bytes
abbrev pub begins : List ℕ → List ℕ → Bool
begins [] text = true
begins (b ∷ bs) [] = false
begins (b ∷ bs) (c ∷ text) = (b == c) && begins bs text

-- the byte that is meant by what stands behind a `&`, where it is one of the five
abbrev pub meant : List ℕ → Option ℕ
meant text =
    find (λ b. begins (reference b) text)
    (less ∷ greater ∷ ampersand ∷ double_quote ∷ single_quote ∷ [])

-- how many bytes its reference has behind the `&`
abbrev pub meant_size : Option ℕ → ℕ
meant_size None = 0
meant_size (Some b) = length (reference b)

-- what is read, but for so many first bytes
abbrev pub read_from : ℕ → List ℕ → List ℕ
read_from passed [] = []
read_from zero (b ∷ text) =
    if b == ampersand then unwrap_or (meant text) ampersand ∷ read_from (meant_size (meant text)) text
    else b ∷ read_from 0 text
read_from (suc passed) (b ∷ text) = read_from passed text

-- what a browser reads of a text that stands in an element or in an attribute's quotes, whose character references are
-- among the five
abbrev pub read_html : List ℕ → List ℕ
read_html text = read_from 0 text

-- ---- what stands bare

-- a byte that neither begins nor ends a tag, nor ends an attribute
abbrev pub is_inert : ℕ → Bool
is_inert b = not (b == less) && not (b == greater) && not (b == double_quote) && not (b == single_quote)

-- each `&` begins one of the five references
abbrev pub refers : List ℕ → Bool
refers [] = true
refers (b ∷ text) = (not (b == ampersand) || is_some (meant text)) && refers text

-- no byte of the five stands bare
abbrev pub is_escaped : List ℕ → Bool
is_escaped text = list_all is_inert text && refers text
