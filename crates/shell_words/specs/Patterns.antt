-- Patterns (POSIX.1-2017, XCU 2.13 Pattern Matching Notation).
use Rattle.std.specs.Prelude.{◌≡◌, ◌↔◌, ℕ, suc, zero, ◌+◌, nat_eq, nat_le, nat_lt, List, [], ◌∷◌, ◌++◌, take, drop}
use Rattle.std.specs.Prelude.{map}
use Rattle.std.specs.Prelude.{Bool, true, false, not, ◌||◌, ◌&&◌, IsTrue, if◌then◌else◌}
use Rattle.std.specs.Prelude.{Option, Some, None, option_map, Result, Ok, Err}
use Rattle.std.specs.List.{list_any}
use Rattle.script_names.specs.Ascii.{backslash, bracket_close, bracket_open, circumflex, colon, equals, exclamation}
use Rattle.script_names.specs.Ascii.{full_stop, hyphen, question, star}
use Rattle.shell_words.specs.declared.letter.Letter.{Letter}
use Rattle.shell_words.specs.declared.letter.Letter.TheVariants.{Quote, Quoted, Plain, Split}
use Rattle.shell_words.specs.declared.pattern.Item.{Item}
use Rattle.shell_words.specs.declared.pattern.Item.TheVariants.{Byte, Any, Star, Set}
use Rattle.shell_words.specs.declared.fault.WordFault.{WordFault}
use Rattle.shell_words.specs.declared.fault.WordFault.TheVariants.{Long, Glob, Pattern, Memory}
use Rattle.shell_words.specs.Pieces.{PieceParts}
use Rattle.shell_words.specs.Words.{marked, is_unquoted}

-- the letters of a pattern: the bytes of its pieces with their marks, in order. An empty quoted piece gives none
abbrev pub pattern_letters : List PieceParts → List Letter
pattern_letters [] = []
pattern_letters (p ∷ pieces) = map (marked p.quoted p.split) p.text ++ pattern_letters pieces

-- the byte of a letter
abbrev pub code : Letter → ℕ
code Quote = 0
code (Quoted b) = b
code (Plain b) = b
code (Split b) = b

-- where the first unquoted `]` stands, counted from 0
abbrev pub closes_at : List Letter → Option ℕ
closes_at [] = None
closes_at (x ∷ rest) = if is_unquoted bracket_close x then Some 0 else option_map suc (closes_at rest)

-- whether an unquoted byte comes first
abbrev pub begins_with : ℕ → List Letter → Bool
begins_with byte [] = false
begins_with byte (x ∷ rest) = is_unquoted byte x

-- how many letters the `!` of a negated set takes behind its `[`: an unquoted `!` that comes first is one
abbrev pub negation_size : List Letter → ℕ
negation_size rest = if begins_with exclamation rest then 1 else 0

-- how many letters the set has that begins with these: the first is one whatever it is, a `]` too, and then all before
-- the next unquoted `]`
abbrev pub set_size : List Letter → Option ℕ
set_size [] = None
set_size (x ∷ rest) = option_map suc (closes_at rest)

-- the set behind a `[`, and how many letters it takes behind the `[`; a `[` that no `]` closes stands for itself
abbrev pub set_of : List Letter → Option ℕ → Item × ℕ
set_of rest None = (Byte bracket_open, 0)
set_of rest (Some n) =
    (Set (begins_with exclamation rest) (take n (drop (negation_size rest) rest)), negation_size rest + suc n)

-- the item that a letter begins, by the letters behind it, and how many of those it takes
abbrev pub item_at : Letter → List Letter → Item × ℕ
item_at x rest =
    if is_unquoted star x
    then (Star, 0)
    else (if is_unquoted question x
    then (Any, 0)
    else (if is_unquoted bracket_open x then set_of rest (set_size (drop (negation_size rest) rest))
    else (Byte (code x), 0)))

-- the items of a pattern from left to right, behind letters that the item before has taken
abbrev pub items_behind : ℕ → List Letter → List Item
items_behind n [] = []
items_behind zero (x ∷ rest) = (item_at x rest).0 ∷ items_behind (item_at x rest).1 rest
items_behind (suc n) (x ∷ rest) = items_behind n rest

-- the items of a pattern
abbrev pub items : List Letter → List Item
items letters = items_behind 0 letters

-- the ranges that a set's letters spell: a letter, an unquoted `-` and a letter are one, any other letter is one of
-- its own
abbrev pub ranges : List Letter → List (ℕ × ℕ)
ranges [] = []
ranges (x ∷ []) = (code x, code x) ∷ []
ranges (x ∷ y ∷ []) = (code x, code x) ∷ (code y, code y) ∷ []
ranges (x ∷ y ∷ z ∷ rest) =
    if is_unquoted hyphen y then (code x, code z) ∷ ranges rest else (code x, code x) ∷ ranges (y ∷ z ∷ rest)

-- whether a byte is in a range
abbrev pub is_within : ℕ → ℕ × ℕ → Bool
is_within b range = nat_le range.0 b && nat_le b range.1

-- whether an item stands for a byte
abbrev pub allows : Item → ℕ → Bool
allows (Byte c) b = nat_eq c b
allows Any b = true
allows Star b = false
allows (Set negated letters) b =
    if negated then not (list_any (is_within b) (ranges letters)) else list_any (is_within b) (ranges letters)

-- which strings some items match: none is left on both sides; or the first item stands for the first byte, and the
-- others match the rest; or `*` stands for some bytes, and the others match the rest
pub data Matches : List Item → List ℕ → Type 0 where
  matches_end : Matches [] []
  matches_byte : {item : Item} {others : List Item} {b : ℕ} {rest : List ℕ}
      → allows item b ≡ true → Matches others rest → Matches (item ∷ others) (b ∷ rest)
  matches_star : {others : List Item} {text : List ℕ} (skipped rest : List ℕ)
      → text ≡ skipped ++ rest → Matches others rest → Matches (Star ∷ others) text

-- whether two unquoted bytes stand side by side somewhere
abbrev pub has_pair : ℕ → ℕ → List Letter → Bool
has_pair a b [] = false
has_pair a b (x ∷ rest) = (is_unquoted a x && begins_with b rest) || has_pair a b rest

-- a `\` that an expansion gave
abbrev pub is_split_backslash : Letter → Bool
is_split_backslash Quote = false
is_split_backslash (Quoted b) = false
is_split_backslash (Plain b) = false
is_split_backslash (Split b) = nat_eq b backslash

-- a range whose end comes before its begin
abbrev pub is_falling : ℕ × ℕ → Bool
is_falling range = nat_lt range.1 range.0

-- a set with a class, a collating symbol or an equivalence class (`[:`, `[.`, `[=`), or with a falling range
abbrev pub is_left_out_item : Item → Bool
is_left_out_item (Byte c) = false
is_left_out_item Any = false
is_left_out_item Star = false
is_left_out_item (Set negated letters) =
    has_pair bracket_open colon letters || has_pair bracket_open full_stop letters
    || has_pair bracket_open equals letters || list_any is_falling (ranges letters)

-- a pattern with a shape that is left out, because shells read it differently: `[^` anywhere, a `\` that an expansion
-- gave, or such a set
abbrev pub is_left_out : List Letter → Bool
is_left_out letters =
    has_pair bracket_open circumflex letters || list_any is_split_backslash letters
    || list_any is_left_out_item (items letters)

-- the answer on a pattern and a string: Pattern exactly where a shape is left out, else whether the pattern matches
abbrev pub Decides : Result Bool WordFault → List Letter → List ℕ → Type 0
Decides (Ok answer) letters text = (is_left_out letters ≡ false) × (IsTrue answer ↔ Matches (items letters) text)
Decides (Err Pattern) letters text = is_left_out letters ≡ true
Decides (Err Memory) letters text = Unit {0}
Decides (Err Long) letters text = ⊥
Decides (Err Glob) letters text = ⊥
