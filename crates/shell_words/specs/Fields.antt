-- The fields of a word, and its string (POSIX.1-2017, XCU 2.6.5 Field Splitting; 2.6.6 on active glob bytes).
use Rattle.std.specs.Prelude.{◌≡◌, ℕ, Bool, true, false, List, [], ◌∷◌, ◌++◌, length, nat_lt}
use Rattle.std.specs.Prelude.{Result, Ok, Err, if◌then◌else◌}
use Rattle.std.specs.List.{filter}
use Rattle.shell_words.specs.declared.letter.Letter.{Letter}
use Rattle.shell_words.specs.declared.fault.WordFault.{WordFault}
use Rattle.shell_words.specs.declared.field.TheConstants.{STRING_LIMIT}
use Rattle.shell_words.specs.declared.fault.WordFault.TheVariants.{Long, Glob, Pattern, Memory}
use Rattle.shell_words.specs.Pieces.{PieceParts}
use Rattle.shell_words.specs.Words.{is_blank, bytes_of, has_glob}

-- some letters, and then a word that is cut already: they come before its first part
abbrev pub onto : List Letter → List (List Letter) → List (List Letter)
onto front [] = front ∷ []
onto front (part ∷ parts) = (front ++ part) ∷ parts

-- a word cut at its blanks: the parts before, between and behind them
abbrev pub parts : List Letter → List (List Letter)
parts [] = [] ∷ []
parts (x ∷ rest) = if is_blank x then [] ∷ parts rest else onto (x ∷ []) (parts rest)

-- whether a part has a byte or a quoted piece. What stands between two blanks of one run has neither
abbrev pub has_letter : List Letter → Bool
has_letter [] = false
has_letter (x ∷ rest) = true

-- a string, or Long where it has more than 65,536 bytes
abbrev pub short : List ℕ → Result (List ℕ) WordFault
short text = if nat_lt STRING_LIMIT (length text) then Err Long else Ok text

-- the bytes of a field, or its fault; that it is too long comes before its glob byte
abbrev pub field_value : List Letter → Result (List ℕ) WordFault
field_value part =
    if nat_lt STRING_LIMIT (length (bytes_of part))
    then Err Long
    else (if has_glob part then Err Glob else Ok (bytes_of part))

-- a value, and then those of a list that is collected already; a fault of the first comes first
abbrev pub then_all : Result (List ℕ) WordFault → Result (List (List ℕ)) WordFault → Result (List (List ℕ)) WordFault
then_all (Ok text) (Ok rest) = Ok (text ∷ rest)
then_all (Ok text) (Err fault) = Err fault
then_all (Err fault) rest = Err fault

-- the fields' bytes in order, or the fault of the first field that has one
abbrev pub collected : List (List Letter) → Result (List (List ℕ)) WordFault
collected [] = Ok []
collected (part ∷ rest) = then_all (field_value part) (collected rest)

-- the fields of a word: the parts between its runs of blanks, without those that have no byte and no quoted piece
abbrev pub fields_of : List Letter → Result (List (List ℕ)) WordFault
fields_of letters = collected (filter has_letter (parts letters))

-- the bytes of all pieces, in order
abbrev pub joined : List PieceParts → List ℕ
joined [] = []
joined (p ∷ pieces) = p.text ++ joined pieces

-- an answer is the one wanted, but for want of memory
abbrev pub Gives : {A : Type 0} → Result A WordFault → Result A WordFault → Type 0
Gives (Ok value) wanted = wanted ≡ Ok value
Gives (Err Long) wanted = wanted ≡ Err Long
Gives (Err Glob) wanted = wanted ≡ Err Glob
Gives (Err Pattern) wanted = wanted ≡ Err Pattern
Gives (Err Memory) wanted = Unit {0}

-- fields that are there already, and then those that are wanted
abbrev pub behind : List (List ℕ) → Result (List (List ℕ)) WordFault → Result (List (List ℕ)) WordFault
behind fields (Ok rest) = Ok (fields ++ rest)
behind fields (Err fault) = Err fault

-- one more part was taken: the fields that are wanted from there on stay the same, whatever parts follow
abbrev pub Adds : List (List ℕ) → List (List ℕ) → List Letter → Result (Unit {0}) WordFault → Type 0
Adds old new part (Ok _) =
    (rest : List (List Letter))
    → behind old (collected (filter has_letter (part ∷ rest))) ≡ behind new (collected (filter has_letter rest))
Adds old new part (Err Long) =
    (rest : List (List Letter)) → collected (filter has_letter (part ∷ rest)) ≡ Err Long
Adds old new part (Err Glob) =
    (rest : List (List Letter)) → collected (filter has_letter (part ∷ rest)) ≡ Err Glob
Adds old new part (Err Pattern) =
    (rest : List (List Letter)) → collected (filter has_letter (part ∷ rest)) ≡ Err Pattern
Adds old new part (Err Memory) = Unit {0}
