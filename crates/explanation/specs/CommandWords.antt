-- Words in the texts of scripts: the first of a command, and whether a name stands in a text as a word.
use Rattle.std.specs.Prelude.{ℕ, Bool, true, false, not, ◌&&◌, ◌||◌, ◌==◌, nat_le, List, [], ◌∷◌, length, take, drop}
use Rattle.std.specs.List.{filter, list_all}
use Rattle.std.specs.Str.{bytes_eq}
use Rattle.script_names.specs.Ascii.{double_quote, single_quote, backslash}
use Rattle.utility_calls.specs.StatedNames.{can_be_stated}
use Rattle.checker_input.specs.declared.sources.Sources.{Sources}
use Rattle.script_places.specs.Unreached.{joined}
use Rattle.script_places.specs.WordPlaces.{ends_word, first_word}
use Rattle.explanation.specs.declared.spots.Spot.{Spot}
use Rattle.explanation.specs.declared.spots.Spot.TheVariants.{InScript, InFiles, Nowhere}
use Rattle.explanation.specs.Scripts.{script_text}

-- the first word of the command at a place, as it is written; no bytes, where the place is in no script
abbrev pub word_at : Sources → Spot → List ℕ
word_at sources (InScript side script at) = first_word (drop at (script_text sources side script))
word_at sources (InFiles work at) = []
word_at sources Nowhere = []

-- ---- names that can be stated as they are written

-- a letter, a digit, or `+`, `-`, `.`, `/` or `_`
abbrev pub is_plain_byte : ℕ → Bool
is_plain_byte b =
    (nat_le 97 b && nat_le b 122)
    || ((nat_le 65 b && nat_le b 90) || ((nat_le 45 b && nat_le b 57) || (b == 43 || b == 95)))

-- a word that is the name of a command of which a base can state how its calls end
abbrev pub is_plain_name : List ℕ → Bool
is_plain_name word = can_be_stated word && list_all is_plain_byte word

-- a word that is the name of a command of which no base can state it
abbrev pub is_kept_word : List ℕ → Bool
is_kept_word word = not (length word == 0) && not (can_be_stated word)

-- ---- names in a text

-- a byte that quotes others (XCU 2.2)
abbrev pub is_quote : ℕ → Bool
is_quote b = b == double_quote || (b == single_quote || b == backslash)

-- a text without its joined lines and the bytes that quote others, so that each word of letters is written as it is
abbrev pub unquoted : List ℕ → List ℕ
unquoted text = filter (λ b. not (is_quote b)) (joined text)

-- nothing stands there, or a byte that ends a word
abbrev pub at_end : List ℕ → Bool
at_end [] = true
at_end (b ∷ text) = ends_word b

-- the text begins with the name as a word
abbrev pub begins_with : List ℕ → List ℕ → Bool
begins_with name text = bytes_eq (take (length name) text) name && at_end (drop (length name) text)

-- the name stands in the text as a word, where a word may begin at its first byte or not
abbrev pub named_from : Bool → List ℕ → List ℕ → Bool
named_from may name [] = false
named_from may name (b ∷ text) = (may && begins_with name (b ∷ text)) || named_from (ends_word b) name text

-- the name stands in a script as a word, quoted or not
abbrev pub names : List ℕ → List ℕ → Bool
names script name = named_from true name (unquoted script)
