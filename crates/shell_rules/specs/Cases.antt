-- `case` (POSIX.1-2017, XCU 2.9.4.3 Case Conditional Construct, 2.13 Pattern Matching Notation).
use Rattle.std.specs.Prelude.{ℕ, Bool, true, false, ◌&&◌, List, [], ◌∷◌, if◌then◌else◌}
use Rattle.std.specs.List.{list_any}
use Rattle.script_names.specs.declared.reason.Reason.TheVariants as reason
use Rattle.shell_words.specs.declared.letter.Letter.{Letter}
use Rattle.shell_words.specs.declared.pattern.Item.{Item}
use Rattle.shell_words.specs.declared.pattern.Item.TheVariants.{Byte, Any, Star, Set}
use Rattle.shell_words.specs.Pieces.{PieceParts}
use Rattle.shell_words.specs.Patterns.{pattern_letters, items, allows, is_left_out}
use Rattle.shell_rules.specs.State.{Text, Go, then_do, Place, at_command, stopped, Doing, Action}
use Rattle.shell_rules.specs.State.{with_status}
use Rattle.shell_rules.specs.Expansion.{do_pieces, do_short}

-- a text without its first bytes, for each count of them from none to all
abbrev pub tails : Text → List Text
tails [] = [] ∷ []
tails (b ∷ rest) = (b ∷ rest) ∷ tails rest

-- whether the first byte is one that the item allows, and the others match the rest
abbrev pub byte_matches : Item → (Text → Bool) → Text → Bool
byte_matches item others [] = false
byte_matches item others (b ∷ rest) = allows item b && others rest

-- an item and the others behind it: `*` stands for some bytes, any other item for one
abbrev pub item_matches : Item → (Text → Bool) → Text → Bool
item_matches (Byte c) others text = byte_matches (Byte c) others text
item_matches Any others text = byte_matches Any others text
item_matches Star others text = list_any others (tails text)
item_matches (Set negated letters) others text = byte_matches (Set negated letters) others text

-- a text without bytes
abbrev pub is_empty : Text → Bool
is_empty [] = true
is_empty (b ∷ rest) = false

-- whether the items of a pattern match a text
abbrev pub matches : List Item → Text → Bool
matches [] text = is_empty text
matches (item ∷ others) text = item_matches item (matches others) text

-- whether a pattern of these letters matches the subject; one with a shape that shells read differently stops the run
abbrev pub pattern_answer : Text → List Letter → Doing Bool
pattern_answer subject letters p s =
    if is_left_out letters then stopped reason.Pattern p s else Go (matches (items letters) subject) s

-- whether one of the patterns matches; each is expanded when its turn comes
abbrev pub some_pattern : Text → List (List (Doing PieceParts)) → Doing Bool
some_pattern subject [] p s = Go false s
some_pattern subject (pattern ∷ patterns) p s =
    then_do (do_pieces pattern p s) (λ parts s.
    then_do (pattern_answer subject (pattern_letters parts) p s) (λ fits s.
    if fits then Go true s else some_pattern subject patterns p s))

-- the body of the first arm with a pattern that matches; where none does, success
abbrev pub first_arm : Text → List (List (List (Doing PieceParts)) × Action) → Action
first_arm subject [] p s = Go tt (with_status true s)
first_arm subject ((patterns, body) ∷ arms) p s =
    then_do (some_pattern subject patterns p s) (λ fits s. if fits then body p s else first_arm subject arms p s)

-- a `case` (XCU 2.9.4.3): the subject is expanded to one string, which is not split
abbrev pub do_case : ℕ → Doing Text → List (List (List (Doing PieceParts)) × Action) → Action
do_case at subject arms p s =
    let q : Place = at_command at p in then_do (do_short subject q s) (λ text s. first_arm text arms q s)
