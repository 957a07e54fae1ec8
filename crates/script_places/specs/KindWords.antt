-- A set of kinds in words for people, to be read behind "is". Each set in which the four special kinds are alike has
-- words of its own; of every other one the kinds are told one by one.
use Rattle.std.specs.Prelude.{ℕ, Bool, true, false, not, ◌&&◌, ◌||◌, List, [], ◌++◌, codes}
use Rattle.std.specs.Prelude.{if◌then◌else◌}
use Rattle.feature_trees.specs.declared.kind.Kinds.{Kinds}

-- the words of a set without what is missing: whether a file, a link, each special kind, a directory may be there
abbrev pub there_words : Bool → Bool → Bool → Bool → List ℕ
there_words false false false false = codes "nothing that can be"
there_words false false false true = codes "a directory"
there_words false false true false = codes "a pipe, socket or device"
there_words false false true true = codes "a directory, pipe, socket or device"
there_words false true false false = codes "a link"
there_words false true false true = codes "a link or a directory"
there_words false true true false = codes "a link, pipe, socket or device"
there_words false true true true = codes "there, and no file"
there_words true false false false = codes "a file"
there_words true false false true = codes "a file or a directory"
there_words true false true false = codes "a file, pipe, socket or device"
there_words true false true true = codes "there, and no link"
there_words true true false false = codes "a file or a link"
there_words true true false true = codes "a file, a link or a directory"
there_words true true true false = codes "there, and no directory"
there_words true true true true = codes "there"

-- the words of a set with what is missing
abbrev pub or_missing_words : Bool → Bool → Bool → Bool → List ℕ
or_missing_words false false false false = codes "missing"
or_missing_words false false false true = codes "missing or a directory"
or_missing_words false false true false = codes "missing, or a pipe, socket or device"
or_missing_words false false true true = codes "missing, or a directory, pipe, socket or device"
or_missing_words false true false false = codes "missing or a link"
or_missing_words false true false true = codes "missing, a link or a directory"
or_missing_words false true true false = codes "missing, or a link, pipe, socket or device"
or_missing_words false true true true = codes "no file"
or_missing_words true false false false = codes "missing or a file"
or_missing_words true false false true = codes "missing, a file or a directory"
or_missing_words true false true false = codes "missing, or a file, pipe, socket or device"
or_missing_words true false true true = codes "no link"
or_missing_words true true false false = codes "missing, a file or a link"
or_missing_words true true false true = codes "no pipe, socket or device"
or_missing_words true true true false = codes "no directory"
or_missing_words true true true true = codes "anything, or missing"

-- whether all four special kinds are in the set
abbrev pub all_four : Kinds → Bool
all_four kinds = kinds.fifo && (kinds.socket && (kinds.block && kinds.char))

-- whether none of them is
abbrev pub none_of_four : Kinds → Bool
none_of_four kinds = not kinds.fifo && (not kinds.socket && (not kinds.block && not kinds.char))

-- the words of a set in which the four are alike
abbrev pub alike_words : Kinds → Bool → List ℕ
alike_words kinds special =
    if kinds.absent then or_missing_words kinds.reg kinds.link special kinds.dir
    else there_words kinds.reg kinds.link special kinds.dir

-- what separates a name from earlier ones
abbrev pub separator : Bool → List ℕ
separator begun = if begun then codes " or " else []

-- the words of one kind, if it is in the set
unfoldable pub one_word : Bool → Bool → List ℕ → List ℕ
one_word begun here name = if here then separator begun ++ name else []

-- whether a special kind is in the set
abbrev pub is_special : Kinds → Bool
is_special kinds = kinds.fifo || (kinds.socket || (kinds.block || kinds.char))

-- the words of the special kinds in a set, one by one
abbrev pub special_words : Bool → Kinds → List ℕ
special_words begun kinds =
    one_word begun kinds.fifo (codes "a pipe")
    ++ (one_word (begun || kinds.fifo) kinds.socket (codes "a socket")
    ++ (one_word ((begun || kinds.fifo) || kinds.socket) kinds.block (codes "a block device")
    ++ one_word (((begun || kinds.fifo) || kinds.socket) || kinds.block) kinds.char (codes "a character device")))

-- the words of the kinds in a set, one by one
abbrev pub each_word : Kinds → List ℕ
each_word kinds =
    one_word false kinds.absent (codes "missing")
    ++ (one_word kinds.absent kinds.reg (codes "a file")
    ++ (one_word (kinds.absent || kinds.reg) kinds.link (codes "a link")
    ++ (special_words ((kinds.absent || kinds.reg) || kinds.link) kinds
    ++ one_word (((kinds.absent || kinds.reg) || kinds.link) || is_special kinds) kinds.dir (codes "a directory"))))

-- a set of kinds in words
abbrev pub kinds_words : Kinds → List ℕ
kinds_words kinds =
    if all_four kinds then alike_words kinds true
    else (if none_of_four kinds then alike_words kinds false else each_word kinds)
