-- A tree from its text: what a line says, and the tree of lines of which each stands behind its parent's.
use Rattle.std.specs.Prelude.{◌≡◌, ℕ, ◌+◌, Bool, true, false, ◌&&◌, nat_lt, nat_le, List, [], ◌∷◌, length, codes}
use Rattle.std.specs.Prelude.{Option, Some, None, Result, Ok, Err, if◌then◌else◌}
use Rattle.std.specs.Option.{option_map, option_and_then}
use Rattle.std.specs.Str.{bytes_eq}
use Rattle.script_names.specs.Ascii.{newline, space}
use Rattle.script_names.specs.Paths.{is_filled}
use Rattle.shown_texts.specs.Parts.{parts}
use Rattle.shown_texts.specs.Paths.{path_of}
use Rattle.shown_texts.specs.Show.{shown_of}
use Rattle.feature_trees.specs.declared.value.Value.{Value}
use Rattle.feature_trees.specs.declared.value.Value.TheVariants as V
use Rattle.feature_trees.specs.declared.value.Value.TheVariants.{Absent, Reg, Link, Dir}
use Rattle.feature_trees.specs.declared.kind.Special.{Special}
use Rattle.feature_trees.specs.declared.kind.Special.TheVariants.{Fifo, Socket, Block, Char}
use Rattle.feature_trees.specs.declared.read.TheConstants.{MOST_NAMES}
use Rattle.feature_trees.specs.declared.read.TreeFault.{TreeFault}
use Rattle.feature_trees.specs.declared.read.TreeFault.TheVariants.{Line, Memory}
use Rattle.feature_trees.specs.declared.read.TreeLine.{TreeLine}
use Rattle.feature_trees.specs.Tree.{at, put, has_parents}

-- the parts of a text between its newlines without the one behind a last newline
abbrev pub whole_lines : List (List ℕ) → List (List ℕ)
whole_lines [] = []
whole_lines (last ∷ []) = if is_filled last then last ∷ [] else []
whole_lines (part ∷ next ∷ texts) = part ∷ whole_lines (next ∷ texts)

-- the lines of a text, of which the last may lack its newline
abbrev pub text_lines : List ℕ → List (List ℕ)
text_lines text = whole_lines (parts newline text)

-- the special thing of a letter: `p` a pipe, `s` a socket, `b` a block device, `c` a character device, and `o`, which
-- once stood for each of the four, a pipe
abbrev pub special_of : List ℕ → Option Special
special_of letter =
    if bytes_eq letter (codes "p") then Some Fifo
    else (if bytes_eq letter (codes "s") then Some Socket
    else (if bytes_eq letter (codes "b") then Some Block
    else (if bytes_eq letter (codes "c") then Some Char else (if bytes_eq letter (codes "o") then Some Fifo else None))))

-- what stands at the path of a line without a target: `d` a directory, empty as yet, `f` a file, or a special thing
abbrev pub letter_value : List ℕ → Option Value
letter_value letter =
    if bytes_eq letter (codes "d") then Some (Dir [])
    else (if bytes_eq letter (codes "f") then Some Reg else option_map (λ s. V.Special s) (special_of letter))

-- what stands at the path of a line with a target: `l` a link
abbrev pub link_value : List ℕ → List ℕ → Option Value
link_value letter target =
    if bytes_eq letter (codes "l") then option_map (λ bytes. Link bytes) (shown_of target) else None

-- an entry's names, of which there is one at least, and 4,096 at most
abbrev pub line_of_names : Value → List (List ℕ) → Option TreeLine
line_of_names value names =
    if nat_lt 0 (length names) && nat_le (length names) MOST_NAMES then Some (record { names = names; value = value })
    else None

-- what a line says, from its path and what stands there
abbrev pub line_at : List ℕ → Value → Option TreeLine
line_at path value = option_and_then (line_of_names value) (path_of path)

-- what a line says that is cut into these words
abbrev pub line_of_words : List (List ℕ) → Option TreeLine
line_of_words [] = None
line_of_words (letter ∷ []) = None
line_of_words (letter ∷ path ∷ []) = option_and_then (line_at path) (letter_value letter)
line_of_words (letter ∷ path ∷ target ∷ []) = option_and_then (line_at path) (link_value letter target)
line_of_words (letter ∷ path ∷ target ∷ word ∷ words) = None

-- what a line says; nothing, where it is not of the form
abbrev pub line_says : List ℕ → Option TreeLine
line_says line = line_of_words (parts space line)

-- something stands there
abbrev pub is_there : Value → Bool
is_there Absent = false
is_there Reg = true
is_there (Link target) = true
is_there (V.Special s) = true
is_there (Dir es) = true

-- the tree with what line n says, or why it cannot stand there: 1, it is not of the form; 2, its path is named
-- already; 3, its parent is no directory
abbrev pub with_line : ℕ → Value → Option TreeLine → Result Value TreeFault
with_line n tree None = Err (Line n 1)
with_line n tree (Some line) =
    if is_there (at tree line.names) then Err (Line n 2)
    else (if has_parents tree line.names then Ok (put tree line.names line.value) else Err (Line n 3))

-- what follows a tree; a fault stays
abbrev pub and_then : (Value → Result Value TreeFault) → Result Value TreeFault → Result Value TreeFault
and_then next (Ok tree) = next tree
and_then next (Err fault) = Err fault

-- the tree with lines from line n on, each in its turn, or the first fault
abbrev pub with_lines : ℕ → Value → List (List ℕ) → Result Value TreeFault
with_lines n tree [] = Ok tree
with_lines n tree (line ∷ lines) = and_then (λ more. with_lines (n + 1) more lines) (with_line n tree (line_says line))

-- the tree of a text, or its least line that is at fault, and why
abbrev pub tree_of : List ℕ → Result Value TreeFault
tree_of text = with_lines 1 (Dir []) (text_lines text)

-- what was wanted is answered, but for want of memory
abbrev pub IsAnswer : Result Value TreeFault → Result Value TreeFault → Type 0
IsAnswer wanted (Ok tree) = wanted ≡ Ok tree
IsAnswer wanted (Err (Line n why)) = wanted ≡ Err (Line n why)
IsAnswer wanted (Err Memory) = Unit {0}

-- what was wanted is answered, with the tree left in place, but for want of memory
abbrev pub IsLeft : Result Value TreeFault → Value → Result (Unit {0}) TreeFault → Type 0
IsLeft wanted tree (Ok done) = wanted ≡ Ok tree
IsLeft wanted tree (Err (Line n why)) = wanted ≡ Err (Line n why)
IsLeft wanted tree (Err Memory) = Unit {0}
