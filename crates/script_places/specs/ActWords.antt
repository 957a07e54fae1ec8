-- What each act is called, and what each row of it says, in words for people. "There" is the path of the act. To be
-- read beside the table of the rows (utility_calls, specs/Table.antt).
use Rattle.std.specs.Prelude.{ℕ, Bool, true, false, ◌&&◌, ◌==◌, nat_le, nat_lt, List, [], ◌∷◌, codes, if◌then◌else◌}
use Rattle.feature_trees.specs.declared.kind.Special.{Special}
use Rattle.feature_trees.specs.declared.kind.Special.TheVariants.{Fifo, Socket, Block, Char}
use Rattle.utility_calls.specs.declared.acts.Act.{Act}
use Rattle.utility_calls.specs.declared.acts.Act.TheVariants.{Exists, IsReg, IsDir, IsLink, CanRun, IsSpecial}
use Rattle.utility_calls.specs.declared.acts.Act.TheVariants.{MakeDir, EnsureDir, RemoveDir, Remove, Touch, Symlink}
use Rattle.utility_calls.specs.declared.acts.Act.TheVariants.{Move, Attr, Copy, PlaceFile, PlaceLink, PlaceConf}
use Rattle.utility_calls.specs.declared.acts.Act.TheVariants.{Discard, DiscardDir}
use Rattle.utility_calls.specs.Acts.{is_below}

-- ---- names

-- the name of a question for one special kind
abbrev pub special_name : Special → List ℕ
special_name Fifo = codes "test -p"
special_name Socket = codes "test -S"
special_name Block = codes "test -b"
special_name Char = codes "test -c"

-- the name of a removal by its options
abbrev pub remove_name : Bool → Bool → List ℕ
remove_name false false = codes "rm"
remove_name false true = codes "rm -r"
remove_name true false = codes "rm -f"
remove_name true true = codes "rm -rf"

-- the name of the making of a link
abbrev pub symlink_name : Bool → List ℕ
symlink_name force = if force then codes "ln -sf" else codes "ln -s"

-- the name of a copying
abbrev pub copy_name : Bool → List ℕ
copy_name deep = if deep then codes "cp -r" else codes "cp"

-- the name of an act: the utility, with the options that matter, or what a package manager does
abbrev pub act_name : Act → List ℕ
act_name (Exists p) = codes "test -e"
act_name (IsReg p) = codes "test -f"
act_name (IsDir p) = codes "test -d"
act_name (IsLink p) = codes "test -h"
act_name (CanRun p runs) = codes "test -x"
act_name (IsSpecial p kind) = special_name kind
act_name (MakeDir p) = codes "mkdir"
act_name (EnsureDir p) = codes "mkdir -p"
act_name (RemoveDir p) = codes "rmdir"
act_name (Remove p force deep) = remove_name force deep
act_name (Touch p) = codes "touch"
act_name (Symlink p target last force) = symlink_name force
act_name (Move a b) = codes "mv"
act_name (Attr p) = codes "chmod, chown or chgrp"
act_name (Copy a b deep) = copy_name deep
act_name (PlaceFile p) = codes "placing a file"
act_name (PlaceLink p target) = codes "placing a link"
act_name (PlaceConf p) = codes "placing a conffile"
act_name (Discard p) = codes "removing a file"
act_name (DiscardDir p) = codes "removing a folder"

-- ---- rows

-- `test -e`
abbrev pub exists_words : ℕ → List ℕ
exists_words row =
    if row == 66 then codes "nothing there"
    else (if row == 67 then codes "something there"
    else [])

-- `test -f`
abbrev pub is_reg_words : ℕ → List ℕ
is_reg_words row =
    if row == 66 then codes "no file there"
    else (if row == 67 then codes "a file there"
    else [])

-- `test -d`
abbrev pub is_dir_words : ℕ → List ℕ
is_dir_words row =
    if row == 66 then codes "no directory there"
    else (if row == 67 then codes "a directory there"
    else [])

-- `test -h`
abbrev pub is_link_words : ℕ → List ℕ
is_link_words row =
    if row == 66 then codes "no link there"
    else (if row == 67 then codes "a link there"
    else [])

-- `test -x`
abbrev pub can_run_words : ℕ → List ℕ
can_run_words row =
    if row == 66 then codes "nothing there"
    else (if row == 67 then codes "it may be run, or is a directory"
    else (if row == 68 then codes "whether it may be run is not known"
    else []))

-- `test -p`, `-S`, `-b` and `-c`
abbrev pub is_special_words : ℕ → List ℕ
is_special_words row =
    if row == 66 then codes "nothing of this kind there"
    else (if row == 67 then codes "one there"
    else [])

-- `mkdir`
abbrev pub make_dir_words : ℕ → List ℕ
make_dir_words row =
    if row == 66 then codes "fails: the directory above is missing or is none"
    else (if row == 67 then codes "fails: something stands there"
    else (if row == 68 then codes "made"
    else []))

-- one directory of `mkdir -p`
abbrev pub ensure_dir_words : ℕ → List ℕ
ensure_dir_words row =
    if row == 66 then codes "fails: the directory above is missing or is none"
    else (if row == 67 then codes "fails: a file, pipe, socket or device stands there"
    else (if row == 68 then codes "made, or there already"
    else []))

-- `rmdir`
abbrev pub remove_dir_words : ℕ → List ℕ
remove_dir_words row =
    if row == 66 then codes "fails: no directory stands there"
    else (if row == 67 then codes "fails: the directory has an entry"
    else (if row == 68 then codes "taken away"
    else []))

-- `rm`, with its options
abbrev pub remove_words : ℕ → List ℕ
remove_words row =
    if row == 66 then codes "fails: nothing stands there"
    else (if row == 67 then codes "fails: a directory stands there"
    else (if row == 68 then codes "taken away"
    else (if row == 69 then codes "taken away, with all below it"
    else (if row == 70 then codes "nothing to do: the directory above is missing or is none"
    else (if row == 71 then codes "taken away, or not there"
    else (if row == 72 then codes "taken away with all below it, or not there"
    else []))))))

-- `touch`
abbrev pub touch_words : ℕ → List ℕ
touch_words row =
    if row == 66 then codes "fails: the directory above is missing or is none"
    else (if row == 67 then codes "made, or a file already"
    else (if row == 68 then codes "there already"
    else []))

-- `ln -s`, with `-f` or without
abbrev pub symlink_words : ℕ → List ℕ
symlink_words row =
    if row == 66 then codes "fails: the directory above is missing or is none"
    else (if row == 67 then codes "fails: a file, pipe, socket or device stands there"
    else (if row == 68 then codes "made"
    else (if row == 69 then codes "made, perhaps in place of what stood there"
    else (if row == 70 then codes "fails: the directory there has an entry of this name"
    else (if row == 71 then codes "made in the directory there"
    else (if row == 72 then codes "fails: the directory there has a directory of this name"
    else (if row == 73 then codes "made in the directory there, perhaps in place of an entry"
    else [])))))))

-- `mv` to a path below the first one
abbrev pub move_below_words : ℕ → List ℕ
move_below_words row =
    if row == 65 then codes "a link stands at the second path"
    else (if row == 66 then codes "fails: the second path is below the first"
    else [])

-- `mv`
abbrev pub move_words : ℕ → List ℕ
move_words row =
    if row == 65 then codes "a link stands at the second path"
    else (if row == 66 then codes "fails: nothing stands at the first path"
    else (if row == 67 then codes "fails: the directory above the second path is missing or is none"
    else (if row == 68 then codes "moved"
    else (if row == 69 then codes "moved, with all below it"
    else (if row == 70 then codes "fails: a directory cannot take the place of what stands at the second path"
    else (if row == 71 then codes "moved into the directory at the second path"
    else (if row == 72 then codes "fails: in the directory at the second path a directory has this name"
    else (if row == 73 then codes "moved, with all below it, into the directory at the second path"
    else (if row == 74 then codes "fails: the directory at the second path has an entry of this name, which is no directory"
    else (if row == 75 then codes "fails: the directory at the second path has a directory of this name, which has an entry"
    else (if row == 76 then codes "moved into the directory at the second path, in place of an empty one"
    else (if row == 77 then codes "moved, in place of what stood there"
    else (if row == 78 then codes "a link would take the place of what it may lead to"
    else (if row == 79 then codes "moved into the directory at the second path, in place of an entry"
    else (if row == 80 then codes "a link would take the place of an entry that it may lead to"
    else (if row == 81 then codes "it would take the place of a link that may lead to it"
    else []))))))))))))))))

-- `chmod`, `chown`, `chgrp`
abbrev pub attr_words : ℕ → List ℕ
attr_words row =
    if row == 66 then codes "fails: nothing stands there"
    else (if row == 67 then codes "set"
    else [])

-- `cp` of what is no directory, and of any with a fault at the first path
abbrev pub copy_words : ℕ → List ℕ
copy_words row =
    if row == 65 then codes "a link stands at the first path"
    else (if row == 66 then codes "fails: nothing stands at the first path"
    else (if row == 67 then codes "fails: a directory stands at the first path"
    else (if row == 68 then codes "fails: the directory above the second path is missing or is none"
    else (if row == 69 then codes "copied"
    else (if row == 70 then codes "a link stands at the second path"
    else (if row == 71 then codes "a pipe, socket or device stands at the second path"
    else (if row == 72 then codes "copied into the directory at the second path"
    else (if row == 73 then codes "a link has this name in the directory at the second path"
    else (if row == 74 then codes "a pipe, socket or device has this name in the directory at the second path"
    else (if row == 75 then codes "fails: in the directory at the second path a directory has this name"
    else (if row == 82 then codes "a pipe, socket or device stands at the first path"
    else [])))))))))))

-- `cp -r` of a directory
abbrev pub copy_dir_words : ℕ → List ℕ
copy_dir_words row =
    if row == 76 then codes "fails: the directory above the second path is missing or is none"
    else (if row == 77 then codes "copied, with all below it"
    else (if row == 78 then codes "fails: a directory cannot take the place of what stands at the second path"
    else (if row == 79 then codes "a link stands at the second path"
    else (if row == 80 then codes "copied, with all below it, into the directory at the second path"
    else (if row == 81 then codes "the directory at the second path has a directory of this name already"
    else (if row == 83 then codes "fails: the directory at the second path has an entry of this name, which is no directory"
    else (if row == 84 then codes "a link has this name in the directory at the second path"
    else [])))))))

-- a file of a package is placed
abbrev pub place_file_words : ℕ → List ℕ
place_file_words row =
    if row == 66 then codes "fails: the directory above is missing or is none"
    else (if row == 67 then codes "fails: a directory stands there"
    else (if row == 68 then codes "put in place"
    else []))

-- a link of a package is placed
abbrev pub place_link_words : ℕ → List ℕ
place_link_words row =
    if row == 66 then codes "fails: the directory above is missing or is none"
    else (if row == 67 then codes "a directory stands there"
    else (if row == 68 then codes "put in place"
    else []))

-- a configuration file of a package is placed
abbrev pub place_conf_words : ℕ → List ℕ
place_conf_words row =
    if row == 66 then codes "fails: the directory above is missing or is none"
    else (if row == 67 then codes "fails: a directory stands there"
    else (if row == 68 then codes "put in place"
    else (if row == 69 then codes "a link, pipe, socket or device stands there"
    else [])))

-- what is no directory is discarded
abbrev pub discard_words : ℕ → List ℕ
discard_words row =
    if row == 66 then codes "nothing to do: the directory above is missing or is none"
    else (if row == 67 then codes "a directory stands there, and stays"
    else (if row == 68 then codes "taken away, or not there"
    else []))

-- an empty directory is discarded
abbrev pub discard_dir_words : ℕ → List ℕ
discard_dir_words row =
    if row == 66 then codes "no directory stands there"
    else (if row == 67 then codes "it has an entry, and stays"
    else (if row == 68 then codes "taken away"
    else []))

-- `cp`, with `-r` or without
abbrev pub both_copy_words : ℕ → List ℕ
both_copy_words row = if nat_lt 75 row && nat_lt row 82 then copy_dir_words row
    else (if nat_lt 82 row then copy_dir_words row else copy_words row)

-- `mv`, by whether its second path is below the first
abbrev pub either_move_words : Bool → ℕ → List ℕ
either_move_words below row = if below then move_below_words row else move_words row

-- the rows of an act's own table
abbrev pub own_words : Act → ℕ → List ℕ
own_words (Exists p) row = exists_words row
own_words (IsReg p) row = is_reg_words row
own_words (IsDir p) row = is_dir_words row
own_words (IsLink p) row = is_link_words row
own_words (CanRun p runs) row = can_run_words row
own_words (IsSpecial p kind) row = is_special_words row
own_words (MakeDir p) row = make_dir_words row
own_words (EnsureDir p) row = ensure_dir_words row
own_words (RemoveDir p) row = remove_dir_words row
own_words (Remove p force deep) row = remove_words row
own_words (Touch p) row = touch_words row
own_words (Symlink p target last force) row = symlink_words row
own_words (Move a b) row = either_move_words (is_below (Move a b)) row
own_words (Attr p) row = attr_words row
own_words (Copy a b deep) row = both_copy_words row
own_words (PlaceFile p) row = place_file_words row
own_words (PlaceLink p target) row = place_link_words row
own_words (PlaceConf p) row = place_conf_words row
own_words (Discard p) row = discard_words row
own_words (DiscardDir p) row = discard_dir_words row

-- a number from a to b
abbrev pub is_from_to : ℕ → ℕ → ℕ → Bool
is_from_to a b n = nat_le a n && nat_le n b

-- whether the row is for a link at the path of an act that has no row of its own for it, since the link is stated
abbrev pub or_link : List ℕ → List ℕ
or_link [] = codes "a link stands there"
or_link (b ∷ words) = b ∷ words

-- What a row says by what the act's own table has for it. The rows of a link on the way and of a slash behind a path
-- are those of every act; one that stops at a stated link has the row of a link there.
abbrev pub words_by : ℕ → List ℕ → List ℕ
words_by row own =
    if is_from_to 1 63 row then codes "a link stands on the way"
    else (if row == 64 then codes "a slash stands behind what is no directory"
    else (if is_from_to 129 192 row then codes "a link stands on the way to the second path"
    else (if row == 65 then or_link own else own)))

-- what a row of an act says
abbrev pub row_words : Act → ℕ → List ℕ
row_words act row = words_by row (own_words act row)
