-- The table of the acts: for each act its rows, with number, condition, answer and effect (POSIX.1-2017, XCU; a link
-- is followed nowhere). Below 64 a row is for a link on the way; row 64 is for a slash behind a file, a link or
-- a special file.
use Rattle.std.specs.Prelude.{ℕ, Bool, true, false, ◌&&◌, List, [], ◌∷◌, ◌++◌, Option, Some, None, if◌then◌else◌}
use Rattle.script_names.specs.declared.reason.Reason.TheVariants as reason
use Rattle.script_names.specs.declared.reason.Done.{Done}
use Rattle.script_names.specs.declared.reason.Done.TheVariants.{Ok, Failed, Stopped}
use Rattle.feature_trees.specs.declared.kind.Kind.{Kind}
use Rattle.feature_trees.specs.declared.kind.Kind.TheVariants.{Absent, Reg, Link, Dir}
use Rattle.feature_trees.specs.declared.kind.Kind.TheVariants as kind
use Rattle.feature_trees.specs.declared.kind.Special.{Special}
use Rattle.feature_trees.specs.declared.kind.Kinds.{Kinds}
use Rattle.feature_trees.specs.Kinds.{has, of, but, both, either, two, special}
use Rattle.utility_calls.specs.declared.acts.Act.{Act}
use Rattle.utility_calls.specs.declared.acts.Act.TheVariants.{Exists, IsReg, IsDir, IsLink, CanRun, IsSpecial}
use Rattle.utility_calls.specs.declared.acts.Act.TheVariants.{MakeDir, EnsureDir, RemoveDir, Remove, Touch, Symlink}
use Rattle.utility_calls.specs.declared.acts.Act.TheVariants.{Move, Attr, Copy, PlaceFile, PlaceLink, PlaceConf}
use Rattle.utility_calls.specs.declared.acts.Act.TheVariants.{Discard, DiscardDir}
use Rattle.utility_calls.specs.declared.sights.Sight.{Sight}
use Rattle.utility_calls.specs.declared.sights.Effect.{Effect}
use Rattle.utility_calls.specs.declared.sights.Effect.TheVariants.{Nothing, MakesDir, KeepsDir, MakesFile, MakesLink}
use Rattle.utility_calls.specs.declared.sights.Effect.TheVariants.{LinksInside, TakesAway, Moves, MovesInside, Copies}
use Rattle.utility_calls.specs.declared.sights.Effect.TheVariants.{CopiesInside}
use Rattle.utility_calls.specs.declared.sights.Row.{Row}
use Rattle.utility_calls.specs.declared.sights.Rule.{Rule}
use Rattle.utility_calls.specs.declared.sights.Where.{Where}
use Rattle.utility_calls.specs.declared.sights.Where.TheVariants.{Anything, Is, Within, Inside, Outside, Empty, Full}
use Rattle.utility_calls.specs.declared.sights.Where.TheVariants.{Into, IntoEmpty, IntoFull}
use Rattle.utility_calls.specs.Sights.{holds}

-- a row that changes nothing
abbrev pub leaves : ℕ → Where → Done → Rule
leaves n place answer = record { number = n; source = None; place = place; answer = answer; effect = Nothing }

-- a row that succeeds and changes the tree
abbrev pub does : ℕ → Where → Effect → Rule
does n place effect = record { number = n; source = None; place = place; answer = Ok; effect = effect }

-- a row that changes nothing, for the kinds of what is moved or copied, or was kept
abbrev pub leaves_from : ℕ → Kinds → Where → Done → Rule
leaves_from n source place answer =
    record { number = n; source = Some source; place = place; answer = answer; effect = Nothing }

-- a row that succeeds and changes the tree, for the kinds of what is moved or copied, or was kept
abbrev pub does_from : ℕ → Kinds → Where → Effect → Rule
does_from n source place effect =
    record { number = n; source = Some source; place = place; answer = Ok; effect = effect }

-- anything that is there
abbrev pub some : Kinds
some = but Absent

-- a regular file, or one of the four special kinds
abbrev pub file : Kinds
file = either (of Reg) special

-- what is there and no directory
abbrev pub no_dir : Kinds
no_dir = either (of Link) file

-- where an act does not follow a link
abbrev pub stop : Done
stop = Stopped reason.Link

-- the row of an act that meets a link at its path
abbrev pub stops : Rule
stops = leaves 65 (Is (of Link)) stop

-- `test -e`
abbrev pub exists_rules : List Rule
exists_rules =
    stops
    ∷ leaves 66 (Is (of Absent)) Failed
    ∷ leaves 67 (Is (either file (of Dir))) Ok
    ∷ []

-- `test -f`
abbrev pub is_reg_rules : List Rule
is_reg_rules =
    stops
    ∷ leaves 66 (Is (either special (two Absent Dir))) Failed
    ∷ leaves 67 (Is (of Reg)) Ok
    ∷ []

-- `test -d`
abbrev pub is_dir_rules : List Rule
is_dir_rules =
    stops
    ∷ leaves 66 (Is (either (of Absent) file)) Failed
    ∷ leaves 67 (Is (of Dir)) Ok
    ∷ []

-- `test -h`
abbrev pub is_link_rules : List Rule
is_link_rules =
    leaves 66 (Is (but Link)) Failed
    ∷ leaves 67 (Is (of Link)) Ok
    ∷ []

-- `test -x`; nothing says whether a file may be run
abbrev pub can_run_rules : List Rule
can_run_rules =
    stops
    ∷ leaves 66 (Is (of Absent)) Failed
    ∷ leaves 67 (Is (of Dir)) Ok
    ∷ leaves 68 (Is file) (Stopped reason.Run)
    ∷ []

-- `test -x` where a regular file may be run; nothing says whether a special file may
abbrev pub can_run_file_rules : List Rule
can_run_file_rules =
    stops
    ∷ leaves 66 (Is (of Absent)) Failed
    ∷ leaves 67 (Is (two Reg Dir)) Ok
    ∷ leaves 68 (Is special) (Stopped reason.Run)
    ∷ []

-- `test -p`, `-S`, `-b` and `-c`, each for its special kind
abbrev pub is_special_rules : Special → List Rule
is_special_rules s =
    stops
    ∷ leaves 66 (Is (both (but Link) (but (kind.Special s)))) Failed
    ∷ leaves 67 (Is (of (kind.Special s))) Ok
    ∷ []

-- `mkdir`
abbrev pub make_dir_rules : List Rule
make_dir_rules =
    leaves 66 Outside Failed
    ∷ leaves 67 (Is (but Absent)) Failed
    ∷ does 68 (Inside (of Absent)) MakesDir
    ∷ []

-- one directory of `mkdir -p`
abbrev pub ensure_dir_rules : List Rule
ensure_dir_rules =
    stops
    ∷ leaves 66 Outside Failed
    ∷ leaves 67 (Is file) Failed
    ∷ does 68 (Inside (two Absent Dir)) KeepsDir
    ∷ []

-- `rmdir`
abbrev pub remove_dir_rules : List Rule
remove_dir_rules =
    leaves 66 (Is (but Dir)) Failed
    ∷ leaves 67 Full Failed
    ∷ does 68 Empty TakesAway
    ∷ []

-- `rm`
abbrev pub remove_rules : List Rule
remove_rules =
    leaves 66 (Is (of Absent)) Failed
    ∷ leaves 67 (Is (of Dir)) Failed
    ∷ does 68 (Is no_dir) TakesAway
    ∷ []

-- `rm -r`
abbrev pub remove_deep_rules : List Rule
remove_deep_rules =
    leaves 66 (Is (of Absent)) Failed
    ∷ does 69 (Is (but Absent)) TakesAway
    ∷ []

-- `rm -f`
abbrev pub remove_force_rules : List Rule
remove_force_rules =
    leaves 67 (Is (of Dir)) Failed
    ∷ leaves 70 Outside Ok
    ∷ does 71 (Inside (but Dir)) TakesAway
    ∷ []

-- `rm -rf`
abbrev pub remove_force_deep_rules : List Rule
remove_force_deep_rules =
    leaves 70 Outside Ok
    ∷ does 72 Within TakesAway
    ∷ []

-- `touch`
abbrev pub touch_rules : List Rule
touch_rules =
    stops
    ∷ leaves 66 Outside Failed
    ∷ does 67 (Inside (two Absent Reg)) MakesFile
    ∷ leaves 68 (Is (either special (of Dir))) Ok
    ∷ []

-- a regular file of a package is placed
abbrev pub place_file_rules : List Rule
place_file_rules =
    leaves 66 Outside Failed
    ∷ leaves 67 (Is (of Dir)) Failed
    ∷ does 68 (Inside (but Dir)) MakesFile
    ∷ []

-- a link of a package is placed
abbrev pub place_link_rules : List Rule
place_link_rules =
    leaves 66 Outside Failed
    ∷ leaves 67 (Is (of Dir)) stop
    ∷ does 68 (Inside (but Dir)) MakesLink
    ∷ []

-- a configuration file of a package is placed
abbrev pub place_conf_rules : List Rule
place_conf_rules =
    leaves 66 Outside Failed
    ∷ leaves 67 (Is (of Dir)) Failed
    ∷ does 68 (Inside (two Absent Reg)) MakesFile
    ∷ leaves 69 (Is (either (of Link) special)) (Stopped reason.Conffile)
    ∷ []

-- what is no directory is discarded
abbrev pub discard_rules : List Rule
discard_rules =
    leaves 66 Outside Ok
    ∷ leaves 67 (Is (of Dir)) Ok
    ∷ does 68 (Inside (but Dir)) TakesAway
    ∷ []

-- an empty directory is discarded
abbrev pub discard_dir_rules : List Rule
discard_dir_rules =
    leaves 66 (Is (but Dir)) Ok
    ∷ leaves 67 Full Ok
    ∷ does 68 Empty TakesAway
    ∷ []

-- `ln -s`; W is what stands under the target's last name
abbrev pub symlink_rules : List Rule
symlink_rules =
    stops
    ∷ leaves 66 Outside Failed
    ∷ leaves 67 (Is file) Failed
    ∷ does 68 (Inside (of Absent)) MakesLink
    ∷ leaves 70 (Into (but Absent)) Failed
    ∷ does 71 (Into (of Absent)) LinksInside
    ∷ []

-- `ln -sf`
abbrev pub symlink_force_rules : List Rule
symlink_force_rules =
    stops
    ∷ leaves 66 Outside Failed
    ∷ does 69 (Inside (either (of Absent) file)) MakesLink
    ∷ leaves 72 (Into (of Dir)) Failed
    ∷ does 73 (Into (but Dir)) LinksInside
    ∷ []

-- `mv` to a path below the moved one
abbrev pub move_below_rules : List Rule
move_below_rules =
    stops
    ∷ leaves 66 (Is (but Link)) Failed
    ∷ []

-- `mv` to another path; W is what stands there under the moved path's last name
abbrev pub move_rules : List Rule
move_rules =
    leaves_from 65 some (Is (of Link)) stop
    ∷ leaves_from 66 (of Absent) Anything Failed
    ∷ leaves_from 67 some Outside Failed
    ∷ does_from 68 no_dir (Inside (of Absent)) Moves
    ∷ does_from 69 (of Dir) (Inside (of Absent)) Moves
    ∷ leaves_from 70 (of Dir) (Is file) Failed
    ∷ does_from 71 no_dir (Into (of Absent)) MovesInside
    ∷ leaves_from 72 no_dir (Into (of Dir)) Failed
    ∷ does_from 73 (of Dir) (Into (of Absent)) MovesInside
    ∷ leaves_from 74 (of Dir) (Into no_dir) Failed
    ∷ leaves_from 75 (of Dir) IntoFull Failed
    ∷ does_from 76 (of Dir) IntoEmpty MovesInside
    ∷ does_from 77 file (Is file) Moves
    ∷ leaves_from 78 (of Link) (Is file) (Stopped reason.Same)
    ∷ does_from 79 file (Into file) MovesInside
    ∷ leaves_from 80 (of Link) (Into no_dir) (Stopped reason.Same)
    ∷ leaves_from 81 file (Into (of Link)) (Stopped reason.Same)
    ∷ []

-- `chmod`, `chown`, `chgrp`
abbrev pub attr_rules : List Rule
attr_rules =
    stops
    ∷ leaves 66 (Is (of Absent)) Failed
    ∷ leaves 67 (Is (either file (of Dir))) Ok
    ∷ []

-- `cp` of a regular file; W is what stands at the second path under the first path's last name
abbrev pub copy_file_rules : List Rule
copy_file_rules =
    leaves_from 68 (of Reg) Outside Failed
    ∷ does_from 69 (of Reg) (Inside (two Absent Reg)) Copies
    ∷ leaves_from 70 (of Reg) (Is (of Link)) stop
    ∷ leaves_from 71 (of Reg) (Is special) (Stopped reason.Run)
    ∷ does_from 72 (of Reg) (Into (two Absent Reg)) CopiesInside
    ∷ leaves_from 73 (of Reg) (Into (of Link)) stop
    ∷ leaves_from 74 (of Reg) (Into special) (Stopped reason.Run)
    ∷ leaves_from 75 (of Reg) (Into (of Dir)) Failed
    ∷ []

-- a special file is not copied
abbrev pub copies_no_special : Rule
copies_no_special = leaves_from 82 special Anything (Stopped reason.Run)

-- `cp -r` of a directory, and of a special file
abbrev pub copy_dir_rules : List Rule
copy_dir_rules =
    leaves_from 76 (of Dir) Outside Failed
    ∷ does_from 77 (of Dir) (Inside (of Absent)) Copies
    ∷ leaves_from 78 (of Dir) (Is file) Failed
    ∷ leaves_from 79 (of Dir) (Is (of Link)) stop
    ∷ does_from 80 (of Dir) (Into (of Absent)) CopiesInside
    ∷ leaves_from 81 (of Dir) (Into (of Dir)) (Stopped reason.Call)
    ∷ copies_no_special
    ∷ leaves_from 83 (of Dir) (Into file) Failed
    ∷ leaves_from 84 (of Dir) (Into (of Link)) stop
    ∷ []

-- `cp`
abbrev pub copy_rules : List Rule
copy_rules =
    leaves_from 65 (of Link) Anything stop
    ∷ leaves_from 66 (of Absent) Anything Failed
    ∷ leaves_from 67 (of Dir) Anything Failed
    ∷ (copy_file_rules ++ copies_no_special ∷ [])

-- `cp -r`
abbrev pub copy_deep_rules : List Rule
copy_deep_rules =
    leaves_from 65 (of Link) Anything stop
    ∷ leaves_from 66 (of Absent) Anything Failed
    ∷ (copy_file_rules ++ copy_dir_rules)

-- the rows of `test -x` by whether a regular file may be run
abbrev pub can_run_by : Bool → List Rule
can_run_by false = can_run_rules
can_run_by true = can_run_file_rules

-- the rows of `rm` by its options
abbrev pub remove_by : Bool → Bool → List Rule
remove_by false false = remove_rules
remove_by false true = remove_deep_rules
remove_by true false = remove_force_rules
remove_by true true = remove_force_deep_rules

-- the rows of `ln -s` by its option
abbrev pub symlink_by : Bool → List Rule
symlink_by false = symlink_rules
symlink_by true = symlink_force_rules

-- the rows of `mv` by whether its second path is below its first
abbrev pub move_by : Bool → List Rule
move_by false = move_rules
move_by true = move_below_rules

-- the rows of `cp` by its option
abbrev pub copy_by : Bool → List Rule
copy_by false = copy_rules
copy_by true = copy_deep_rules

-- the rows of an act; those of `mv` by whether its second path is below the first
abbrev pub rules : Bool → Act → List Rule
rules below (Exists p) = exists_rules
rules below (IsReg p) = is_reg_rules
rules below (IsDir p) = is_dir_rules
rules below (IsLink p) = is_link_rules
rules below (CanRun p runs) = can_run_by runs
rules below (IsSpecial p kind) = is_special_rules kind
rules below (MakeDir p) = make_dir_rules
rules below (EnsureDir p) = ensure_dir_rules
rules below (RemoveDir p) = remove_dir_rules
rules below (Remove p force deep) = remove_by force deep
rules below (Touch p) = touch_rules
rules below (Symlink p target last force) = symlink_by force
rules below (Move a b) = move_by below
rules below (Attr p) = attr_rules
rules below (Copy a b deep) = copy_by deep
rules below (PlaceFile p) = place_file_rules
rules below (PlaceLink p target) = place_link_rules
rules below (PlaceConf p) = place_conf_rules
rules below (Discard p) = discard_rules
rules below (DiscardDir p) = discard_dir_rules

-- whether what is moved or copied, or was kept, is of one of these kinds, where they matter
abbrev pub is_source : Option Kinds → Kind → Bool
is_source None k = true
is_source (Some kinds) k = has kinds k

-- whether a row applies to what is moved or copied, or was kept, and to what is seen
abbrev pub rule_holds : Kind → Sight → Rule → Bool
rule_holds source s r = is_source r.source source && holds r.place s

-- what a row comes to
abbrev pub row_of : Rule → Row
row_of r = record { number = r.number; answer = r.answer; effect = r.effect }

-- the row that applies, of which there is one
abbrev pub first_row : List Rule → Kind → Sight → Row
first_row [] source s = record { number = 0; answer = Failed; effect = Nothing }
first_row (r ∷ rs) source s = if rule_holds source s r then row_of r else first_row rs source s
