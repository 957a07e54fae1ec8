-- The words of a script that stand where a command can begin: behind an operator that parts commands, a parenthesis or a
-- reserved word, and behind assignments and redirections that stand there first (POSIX.1-2017, XCU 2.4 Reserved Words,
-- 2.7 Redirection, 2.9.1 Simple Commands, 2.10.2 rules 1 and 7). None that a command begins with is missed; of other
-- words there are some, as the patterns of a `case`.
use Rattle.std.specs.Prelude.{ℕ, Bool, true, false, not, ◌&&◌, ◌||◌, ◌==◌, suc, List, [], ◌∷◌, take, codes, if◌then◌else◌}
use Rattle.std.specs.Option.{is_some}
use Rattle.script_names.specs.Ascii.{tab, newline, space, ampersand, paren_open, paren_close, semicolon, less, greater, equals}
use Rattle.script_names.specs.Ascii.{bar}
use Rattle.script_names.specs.CommandNames.{is_one_of}
use Rattle.script_names.specs.ShellNames.{is_digit, is_letter, is_name_byte}
use Rattle.script_places.specs.declared.command_ends.Within.{Within}
use Rattle.script_places.specs.declared.command_ends.Within.TheVariants.{Gap, Arrow, GapEscape, WordEscape, ArrowEscape}
use Rattle.script_places.specs.declared.command_ends.Within.TheVariants.{Comment, Word}
use Rattle.script_places.specs.declared.word_places.Role.{Role}
use Rattle.script_places.specs.declared.word_places.Role.TheVariants.{Next, Closed, File, Name, Other, Unsure}
use Rattle.script_places.specs.CommandEnds.{is_arrow, is_arrow_place, is_end, is_text, opened, Scan, scan_of, scanned}

-- ---- words

-- a byte that ends a word where it stands in no quotes: a blank, a newline, or one that begins an operator (XCU 2.3)
abbrev pub ends_word : ℕ → Bool
ends_word b =
    (b == space || (b == tab || b == newline))
    || ((b == semicolon || (b == ampersand || b == bar)) || ((b == less || b == greater) || (b == paren_open || b == paren_close)))

-- how many bytes stand before the first that ends a word
abbrev pub word_length : List ℕ → ℕ
word_length [] = 0
word_length (b ∷ text) = if ends_word b then 0 else suc (word_length text)

-- what stands before it
abbrev pub first_word : List ℕ → List ℕ
first_word text = take (word_length text) text

-- the reserved words behind which a command can begin, or which end one that others can follow
abbrev pub opening_words : List (List ℕ)
opening_words =
    codes "if" ∷ codes "then" ∷ codes "elif" ∷ codes "else" ∷ codes "fi" ∷ codes "while" ∷ codes "until" ∷ codes "do"
    ∷ codes "done" ∷ codes "esac" ∷ codes "{" ∷ codes "}" ∷ codes "!" ∷ []

-- a text begins with such a word
abbrev pub opens : List ℕ → Bool
opens text = is_one_of (first_word text) opening_words

-- bytes of a name, with an equals sign behind them
abbrev pub has_value : List ℕ → Bool
has_value [] = false
has_value (b ∷ text) = b == equals || (is_name_byte b && has_value text)

-- a text begins with an assignment: a name, and an equals sign
abbrev pub is_assignment : List ℕ → Bool
is_assignment [] = false
is_assignment (b ∷ text) = is_letter b && has_value text

-- a text begins with the arrow of a redirection, perhaps behind the number of a descriptor
abbrev pub is_redirection : List ℕ → Bool
is_redirection [] = false
is_redirection (b ∷ text) = is_arrow b || (is_digit b && is_redirection text)

-- a text begins with a word behind which a command can begin
abbrev pub goes_on : List ℕ → Bool
goes_on text = opens text || (is_assignment text || is_redirection text)

-- ---- where words begin and end

-- outside words and comments
abbrev pub is_outside : Within → Bool
is_outside Gap = true
is_outside Arrow = true
is_outside GapEscape = true
is_outside ArrowEscape = true
is_outside w = false

-- in a comment
abbrev pub is_comment : Within → Bool
is_comment Comment = true
is_comment w = false

-- in a word, outside quotes
abbrev pub is_word : Within → Bool
is_word Word = true
is_word w = false

-- directly behind a parenthesis that was closed
abbrev pub is_behind_paren : Role → Bool
is_behind_paren Closed = true
is_behind_paren role = false

-- a word begins with a byte, by what stands before it and behind it
abbrev pub begins_word : Role → Within → Within → Bool
begins_word role w v =
    (is_outside w || (is_behind_paren role && is_word w)) && (not (is_outside v) && not (is_comment v))

-- the byte of an operator that parts commands
abbrev pub is_parting : ℕ → Bool
is_parting b = is_end b || (b == ampersand || b == paren_open)

-- a byte parts commands: it is such an operator's, a parenthesis that opens a substitution, or the newline behind a comment
abbrev pub parts : Within → ℕ → Bool
parts w b =
    is_some (opened w b)
    || ((is_text w && (not (is_arrow_place w) && is_parting b)) || (is_comment w && b == newline))

-- a word goes on in the next line
abbrev pub is_broken : Within → ℕ → Bool
is_broken WordEscape b = b == newline
is_broken w b = false

-- ---- what a word is

-- at the begin of a word: the first of a command, or one behind which that can come
abbrev pub at_word : Role → List ℕ → Role
at_word Next text = if goes_on text then Next else Name
at_word Closed text = if goes_on text then Next else Name
at_word File text = Next
at_word Name text = Other
at_word Other text = if opens text then Next else Other
at_word Unsure text = Unsure

-- behind an arrow
abbrev pub at_arrow : Role → Role
at_arrow Next = File
at_arrow Closed = File
at_arrow File = File
at_arrow Name = Other
at_arrow Other = Other
at_arrow Unsure = Unsure

-- behind a blank
abbrev pub at_gap : Role → Role
at_gap Next = Next
at_gap Closed = Next
at_gap File = File
at_gap Name = Other
at_gap Other = Other
at_gap Unsure = Unsure

-- behind a further byte of a word or of a comment
abbrev pub at_rest : Role → Role
at_rest role = if is_behind_paren role then Next else role

-- behind a byte that parts no commands and breaks no word
abbrev pub within_command : Role → Within → Within → List ℕ → Role
within_command role w v text =
    if begins_word role w v then at_word role text
    else (if is_arrow_place v then at_arrow role else (if is_outside v then at_gap role else at_rest role))

-- behind a byte that parts commands
abbrev pub at_parting : ℕ → Role
at_parting b = if b == paren_close then Closed else Next

-- it is not known from there on which words are which
abbrev pub is_unsure : Role → Bool
is_unsure Unsure = true
is_unsure role = false

-- behind the first byte of a text, by what stands before it and behind it
abbrev pub role_behind : Role → Within → Within → List ℕ → Role
role_behind role w v [] = role
role_behind role w v (b ∷ text) =
    if is_unsure role || is_broken w b then Unsure
    else (if parts w b then at_parting b else within_command role w v (b ∷ text))

-- a byte of the first word of a command, as far as is known
abbrev pub is_named : Role → Bool
is_named Name = true
is_named Unsure = true
is_named role = false

-- that byte, or a newline in place of any other
abbrev pub named_byte : Role → ℕ → ℕ
named_byte role b = if is_named role then b else newline

-- the rest of a script
abbrev pub words_from : Scan → Role → List ℕ → List ℕ
words_from s role [] = []
words_from s role (b ∷ text) =
    let next = scanned s b in
    let behind = role_behind role s.within next.within (b ∷ text) in
    named_byte behind b ∷ words_from next behind text

-- a script with a newline in place of each byte that stands in no such word
abbrev pub first_words : List ℕ → List ℕ
first_words script = words_from (scan_of Gap []) Next script
