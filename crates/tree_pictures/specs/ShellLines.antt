-- Shell lines (POSIX) that make a tree below a folder that is empty, whose path is in `root`: directories first, then
-- what stands in them. A path or target of printable ASCII without single quotes is quoted by these; of any other one
-- the bytes are spelled for printf and go to the command through a pipe to `xargs -0`, so each byte comes through.
use Rattle.std.specs.Prelude.{ℕ, Bool, true, false, not, ◌&&◌, ◌==◌, ◌+◌, ◌/◌, ◌%◌, nat_le, nat_lt, List, [], ◌∷◌, ◌++◌, codes}
use Rattle.std.specs.Prelude.{if◌then◌else◌}
use Rattle.std.specs.List.{flat_map, list_all, list_any}
use Rattle.shown_texts.specs.Lines.{line}
use Rattle.shown_texts.specs.Show.{show}
use Rattle.feature_trees.specs.declared.kind.Special.{Special}
use Rattle.feature_trees.specs.declared.kind.Special.TheVariants.{Fifo, Socket, Block, Char}
use Rattle.feature_trees.specs.declared.value.Value.{Value}
use Rattle.tree_pictures.specs.declared.placed.Placed.{Placed}
use Rattle.tree_pictures.specs.declared.placed.Standing.{Standing}
use Rattle.tree_pictures.specs.declared.placed.Standing.TheVariants as standing
use Rattle.tree_pictures.specs.Placed.{tree_places}
use Rattle.tree_pictures.specs.Pictures.{is_below, special_words}

-- ---- words

-- a byte that may stand between single quotes: printable ASCII but the quote
abbrev pub is_plain : ℕ → Bool
is_plain b = nat_le 32 b && (nat_le b 126 && not (b == 39))

-- all bytes of a word are such
abbrev pub are_plain : List ℕ → Bool
are_plain word = list_all is_plain word

-- the word between single quotes
unfoldable pub quoted : List ℕ → List ℕ
quoted word = codes "'" ++ word ++ codes "'"

-- a byte that printf takes as it is: a plain one but `%` and the backslash
abbrev pub is_printed : ℕ → Bool
is_printed b = is_plain b && (not (b == 37) && not (b == 92))

-- a byte for printf: as it is, or a backslash and three octal digits
abbrev pub spelled_byte : ℕ → List ℕ
spelled_byte b =
    if is_printed b then b ∷ [] else 92 ∷ (48 + b / 64) ∷ (48 + b / 8 % 8) ∷ (48 + b % 8) ∷ []

-- the word for printf
abbrev pub spelled : List ℕ → List ℕ
spelled word = flat_map spelled_byte word

-- ---- lines

-- a plain path below the folder, and the end of the line
unfoldable pub rooted : List ℕ → List ℕ
rooted path = codes " \"$root\"" ++ quoted path ++ line []

-- a line that gives the path to a command
unfoldable pub plain_line : List ℕ → List ℕ → List ℕ
plain_line command path = codes "      " ++ command ++ rooted path

-- the end of what printf is given, with the folder, and the command to which it goes
unfoldable pub piped : List ℕ → List ℕ
piped command = codes "\\000' \"$root\" | xargs -0 " ++ command ++ line []

-- a text, a word for printf and another text
unfoldable pub spelled_between : List ℕ → List ℕ → List ℕ → List ℕ
spelled_between before word behind = before ++ spelled word ++ behind

abbrev pub spelled_line : List ℕ → List ℕ → List ℕ
spelled_line command path = spelled_between (codes "      printf '%s") path [] ++ piped command

abbrev pub path_line : List ℕ → List ℕ → List ℕ
path_line command path = if are_plain path then plain_line command path else spelled_line command path

-- a line that makes a link
unfoldable pub quoted_behind : List ℕ → List ℕ → List ℕ
quoted_behind before word = before ++ quoted word

abbrev pub plain_link : List ℕ → List ℕ → List ℕ
plain_link target path = quoted_behind (codes "      ln -s -- ") target ++ rooted path

-- the target of a link, as the first that printf is given
abbrev pub spelled_target : List ℕ → List ℕ
spelled_target target = spelled_between (codes "      printf -- '") target (codes "\\000%s")

abbrev pub spelled_link : List ℕ → List ℕ → List ℕ
spelled_link target path = spelled_target target ++ (spelled path ++ piped (codes "ln -s --"))

abbrev pub link_line : List ℕ → List ℕ → List ℕ
link_line target path = if are_plain target && are_plain path then plain_link target path else spelled_link target path

-- what no standard command makes, or root alone
unfoldable pub remark_line : Special → List ℕ → List ℕ
remark_line s path = codes "      # " ++ special_words s ++ codes " stands at " ++ show path ++ line []

-- ---- a tree

-- a directory stands there
abbrev pub is_dir_standing : Standing → Bool
is_dir_standing standing.Reg = false
is_dir_standing (standing.Link target) = false
is_dir_standing (standing.Special s) = false
is_dir_standing standing.Dir = true

abbrev pub is_dir : Placed → Bool
is_dir p = is_dir_standing p.standing

-- a directory is below a path
abbrev pub has_dir_below : List Placed → List ℕ → Bool
has_dir_below places path = list_any (λ q. is_dir q && is_below path q) places

-- a directory in which there is none: all others are made on the way to these
abbrev pub is_last_dir : List Placed → Placed → Bool
is_last_dir places p = is_dir p && not (has_dir_below places p.path)

-- the line of such a directory
abbrev pub dir_line : List Placed → Placed → List ℕ
dir_line places p = if is_last_dir places p then path_line (codes "mkdir -p") p.path else []

-- the line of a special thing
abbrev pub special_line : Special → List ℕ → List ℕ
special_line Fifo path = path_line (codes "mkfifo") path
special_line Socket path = remark_line Socket path
special_line Block path = remark_line Block path
special_line Char path = remark_line Char path

-- the line of what is no directory
abbrev pub standing_line : Standing → List ℕ → List ℕ
standing_line standing.Reg path = path_line (codes "touch") path
standing_line (standing.Link target) path = link_line target path
standing_line (standing.Special s) path = special_line s path
standing_line standing.Dir path = []

abbrev pub entry_line : Placed → List ℕ
entry_line p = standing_line p.standing p.path

-- the lines of places
unfoldable pub making_lines : List Placed → List ℕ
making_lines places = flat_map (dir_line places) places ++ flat_map entry_line places

-- the lines that make a tree
abbrev pub shell_lines : Value → List ℕ
shell_lines tree = making_lines (tree_places tree)
