-- Strings and fields: the expansion of words (POSIX.1-2017, XCU 2.6 Word Expansions). Where an expansion is not
-- specified, the run stops at the command whose words are expanded.
use Rattle.std.specs.Prelude.{ℕ, ◌-◌, true, false, List, [], ◌∷◌, ◌++◌, length, nat_eq, slice_get}
use Rattle.std.specs.Prelude.{Option, Some, None, Result, Ok, Err, if◌then◌else◌}
use Rattle.std.specs.Fmt.{decimal}
use Rattle.std.specs.FinMap as map
use Rattle.script_names.specs.Ascii.{newline}
use Rattle.script_names.specs.declared.reason.Reason.{Reason}
use Rattle.script_names.specs.declared.reason.Reason.TheVariants as reason
use Rattle.shell_words.specs.declared.fault.WordFault.{WordFault}
use Rattle.shell_words.specs.declared.fault.WordFault.TheVariants.{Long, Glob, Pattern, Memory}
use Rattle.shell_words.specs.Pieces.{PieceParts}
use Rattle.shell_words.specs.Words.{word}
use Rattle.shell_words.specs.Fields.{fields_of, short}
use Rattle.shell_rules.specs.OwnNames.{is_shells_own}
use Rattle.shell_rules.specs.State.{Text, State, Go, then_do, closed_off, by_exit, in_substitution}
use Rattle.shell_rules.specs.State.{stopped, Doing, Action}

-- ---- what an expansion stops for

-- the reason of a fault. No word has the fault Memory
abbrev pub reason_of : WordFault → Reason
reason_of Long = reason.Long
reason_of Glob = reason.Glob
reason_of Pattern = reason.Pattern
reason_of Memory = reason.Call

-- a value, or a stop for its fault
abbrev pub given : {A : Type 0} → Result A WordFault → Doing A
given (Ok value) p s = Go value s
given (Err fault) p s = stopped (reason_of fault) p s

-- ---- strings

-- bytes that stand for themselves (XCU 2.6, behind the removal of quotes, 2.6.7)
abbrev pub do_literal : Text → Doing Text
do_literal text p s = Go text s

-- a text, or none
abbrev pub or_empty : Option Text → Text
or_empty None = []
or_empty (Some text) = text

-- The value of a variable, which has no bytes where it is not set (XCU 2.5.3 Shell Variables). The value of a variable
-- of the shell's own is not specified here, whether or not it was assigned.
abbrev pub do_variable : Text → Doing Text
do_variable name p s =
    if is_shells_own name then stopped reason.Call p s else Go (or_empty (map.get s.conc.vars name)) s

-- the argument with this number, counted from 1, which has no bytes where it is not set
-- (XCU 2.5.1 Positional Parameters)
abbrev pub do_argument : ℕ → Doing Text
do_argument number p s = Go (or_empty (slice_get s.conc.args (number - 1))) s

-- how many arguments there are, in decimal (XCU 2.5.2 Special Parameters)
abbrev pub do_count : Doing Text
do_count p s = Go (decimal (length s.conc.args)) s

-- a text, or another where it is empty
abbrev pub unless_empty : Text → Text → Text
unless_empty [] other = other
unless_empty (b ∷ rest) other = b ∷ rest

-- a string, or these bytes where it is empty (XCU 2.6.2 Parameter Expansion, `${name:-word}`)
abbrev pub do_default : Doing Text → Text → Doing Text
do_default string other p s = then_do (string p s) (λ text s. Go (unless_empty text other) s)

-- strings, one behind another, behind a text that is there
abbrev pub join_behind : Text → List (Doing Text) → Doing Text
join_behind before [] p s = Go before s
join_behind before (string ∷ strings) p s =
    then_do (string p s) (λ text s. join_behind (before ++ text) strings p s)

-- strings, one behind another, expanded from left to right (XCU 2.6: beginning to end)
abbrev pub do_join : List (Doing Text) → Doing Text
do_join strings = join_behind [] strings

-- a string that may have at most 65,536 bytes: an assigned value (XCU 2.9.1), or the subject of a `case` (2.9.4.3)
abbrev pub do_short : Doing Text → Doing Text
do_short string p s = then_do (string p s) (λ text s. given (short text) p s)

-- ---- command substitution (XCU 2.6.3 Command Substitution)

-- a byte before a text; a newline is dropped where nothing stands behind it
abbrev pub before_trimmed : ℕ → Text → Text
before_trimmed b [] = if nat_eq b newline then [] else b ∷ []
before_trimmed b (c ∷ rest) = b ∷ c ∷ rest

-- a text without the newlines at its end
abbrev pub trimmed : Text → Text
trimmed [] = []
trimmed (b ∷ rest) = before_trimmed b (trimmed rest)

-- the state in which a substitution begins: nothing is captured so far
abbrev pub capturing : State → State
capturing s = record s { conc = record s.conc { captured = Some [] } }

-- what a substitution captured, without the newlines at its end
abbrev pub output_of : State → Text
output_of s = trimmed (or_empty s.conc.captured)

-- the state behind a substitution: the variables, the arguments, the strict flag, the status and the output are those
-- before it; the tree, the trace, the acts and the turns go on; and its own status is kept aside
abbrev pub after_output : State → State → State
after_output outer s = record {
  conc = record outer.conc { turns = s.conc.turns };
  tree = s.tree;
  trace = s.trace;
  acts = s.acts;
  substituted = s.conc.status;
}

-- what a command writes, without the newlines at its end. It runs with a copy of the variables, the arguments, the
-- strict flag and the status; nothing outside excepts its failures; `exit` ends it
abbrev pub do_output : Action → Doing Text
do_output body p s = closed_off by_exit output_of (after_output s) (body (in_substitution p) (capturing s))

-- ---- fields (XCU 2.6.5 Field Splitting)

-- a plain piece of a word
abbrev pub plain_piece : Text → PieceParts
plain_piece text = record { text = text; split = false; quoted = false }

-- a piece in quotes
abbrev pub quoted_piece : Text → PieceParts
quoted_piece text = record { text = text; split = false; quoted = true }

-- a piece that is cut at blanks
abbrev pub split_piece : Text → PieceParts
split_piece text = record { text = text; split = true; quoted = false }

-- plain text of the script
abbrev pub do_plain : Doing Text → Doing PieceParts
do_plain string p s = then_do (string p s) (λ text s. Go (plain_piece text) s)

-- what was quoted
abbrev pub do_quoted : Doing Text → Doing PieceParts
do_quoted string p s = then_do (string p s) (λ text s. Go (quoted_piece text) s)

-- what an expansion gives that was not quoted
abbrev pub do_split : Doing Text → Doing PieceParts
do_split string p s = then_do (string p s) (λ text s. Go (split_piece text) s)

-- pieces in order, behind those that are there
abbrev pub pieces_behind : List PieceParts → List (Doing PieceParts) → Doing (List PieceParts)
pieces_behind before [] p s = Go before s
pieces_behind before (piece ∷ pieces) p s =
    then_do (piece p s) (λ parts s. pieces_behind (before ++ parts ∷ []) pieces p s)

-- the pieces of a word, expanded from left to right
abbrev pub do_pieces : List (Doing PieceParts) → Doing (List PieceParts)
do_pieces pieces = pieces_behind [] pieces

-- the fields of a word in a command or a `for` list: it is expanded, and then cut where what was split has blanks. The
-- first field that is too long or has an active `*`, `?` or `[` stops the run
abbrev pub do_word : List (Doing PieceParts) → Doing (List Text)
do_word pieces p s = then_do (do_pieces pieces p s) (λ parts s. given (fields_of (word parts)) p s)

-- all arguments, each a field of its own (XCU 2.5.2 Special Parameters, `"$@"`)
abbrev pub do_arguments : Doing (List Text)
do_arguments p s = Go s.conc.args s

-- the fields of several words, behind those that are there
abbrev pub fields_behind : List Text → List (Doing (List Text)) → Doing (List Text)
fields_behind before [] p s = Go before s
fields_behind before (words ∷ more) p s =
    then_do (words p s) (λ fields s. fields_behind (before ++ fields) more p s)

-- the fields of a command, word by word from left to right: each word is cut into its fields before the next one is
-- expanded
abbrev pub do_fields : List (Doing (List Text)) → Doing (List Text)
do_fields words = fields_behind [] words
