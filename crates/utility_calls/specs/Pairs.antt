-- `ln`, `mv` and `cp`, which have two operands, and `unlink`, which has one (POSIX.1-2017, XCU `ln`, `mv`, `cp`,
-- `unlink`).
use Rattle.std.specs.Prelude.{ℕ, Bool, true, false, not, ◌&&◌, ◌||◌, List, [], ◌∷◌, ◌++◌, ◌-◌, length, take, filter}
use Rattle.std.specs.Prelude.{nat_le, Option, Some, None, if◌then◌else◌}
use Rattle.std.specs.Str.{bytes_eq}
use Rattle.std.specs.List.{last_or}
use Rattle.std.specs.Option.{option_map_or}
use Rattle.script_names.specs.declared.path.TheConstants.{MAX_NAMES}
use Rattle.script_names.specs.declared.path.PathFault.{PathFault}
use Rattle.script_names.specs.declared.reason.Reason.{Reason}
use Rattle.script_names.specs.declared.reason.Reason.TheVariants as reason
use Rattle.script_names.specs.Names.{is_name}
use Rattle.script_names.specs.Paths.{PathParts, is_filled, components, path_fault, spelled_names, path_of}
use Rattle.utility_calls.specs.declared.acts.Act.{Act}
use Rattle.utility_calls.specs.declared.acts.Act.TheVariants.{Symlink, Move, Copy, Remove}
use Rattle.utility_calls.specs.Acts.{is_prefix}
use Rattle.utility_calls.specs.Operands.{first_of, operand_reason, file_reason, slash_reason}

-- whether two lists of names are the same
abbrev pub same_names : List (List ℕ) → List (List ℕ) → Bool
same_names [] [] = true
same_names [] (g ∷ q) = false
same_names (f ∷ p) [] = false
same_names (f ∷ p) (g ∷ q) = bytes_eq f g && same_names p q

-- a path of 64 names, which can have no name more
abbrev pub full_reason : PathParts → Option Reason
full_reason path = if nat_le MAX_NAMES (length path.names) then Some reason.Long else None

-- the last component of a target that isn't empty; none is empty
abbrev pub last_component : List ℕ → List ℕ
last_component target = option_map_or (λ part. part) (last_or None (filter is_filled (components target))) []

-- why a word is no target of `ln`, by whether `-s` is among the options
abbrev pub target_reason : Bool → List ℕ → Option Reason
target_reason symbolic target =
    if not symbolic then Some reason.Call
    else (if not (is_filled target) then Some reason.Empty
    else (if not (is_name (last_component target)) then Some reason.Call
    else None))

-- whether a target that is read from the root on is this path, or stands in it under the target's last name
abbrev pub reaches : Option PathFault → List (List ℕ) → List (List ℕ) → List ℕ → Bool
reaches (Some fault) target names last = false
reaches None target names last = same_names target names || same_names target (names ++ last ∷ [])

-- with `-f`, a link in place of its own target
abbrev pub self_reason : Bool → List ℕ → PathParts → Option Reason
self_reason force target path =
    if force && reaches (path_fault target) (spelled_names target) path.names (last_component target)
    then Some reason.Same else None

-- why a path is no place for a link to the target
abbrev pub place_reason : Bool → List ℕ → PathParts → Option Reason
place_reason force target path =
    first_of (full_reason path) (first_of (slash_reason path) (self_reason force target path))

-- there is no further word
abbrev pub end_reason : List (List ℕ) → Option Reason
end_reason [] = None
end_reason (word ∷ words) = Some reason.Call

-- why a word, with those behind it, is no place for a link to the target
abbrev pub link_reason : Bool → Bool → List ℕ → List ℕ → List (List ℕ) → Option Reason
link_reason force ended target word more =
    first_of (operand_reason ended word) (first_of (place_reason force target (path_of word)) (end_reason more))

-- why words are no operands of `ln`
abbrev pub ln_reason : Bool → Bool → Bool → List (List ℕ) → Option Reason
ln_reason symbolic force ended [] = Some reason.Call
ln_reason symbolic force ended (target ∷ []) = first_of (target_reason symbolic target) (Some reason.Call)
ln_reason symbolic force ended (target ∷ word ∷ more) =
    first_of (target_reason symbolic target) (link_reason force ended target word more)

-- the first word, or no bytes
abbrev pub first_word : List (List ℕ) → List ℕ
first_word [] = []
first_word (word ∷ words) = word

-- the second word, or no bytes
abbrev pub second_word : List (List ℕ) → List ℕ
second_word [] = []
second_word (word ∷ words) = first_word words

-- the act of `ln` with these operands
abbrev pub ln_act : Bool → List (List ℕ) → Act
ln_act force words =
    Symlink (path_of (second_word words)) (first_word words) (last_component (first_word words)) force

-- whether names are those of the directory that holds what the others name
abbrev pub is_parent : List (List ℕ) → List (List ℕ) → Bool
is_parent above names = same_names above (take (length names - 1) names)

-- a move of a path to itself, or into the directory that it is in
abbrev pub still_reason : List (List ℕ) → List (List ℕ) → Option Reason
still_reason a b = if same_names a b || is_parent b a then Some reason.Same else None

-- why a word, with those behind it, is no place to move a path to
abbrev pub to_reason : Bool → PathParts → List ℕ → List (List ℕ) → Option Reason
to_reason ended a word more =
    first_of (file_reason ended word)
    (first_of (still_reason a.names (spelled_names word))
    (first_of (full_reason (path_of word)) (end_reason more)))

-- why words are no operands of `mv`
abbrev pub mv_reason : Bool → List (List ℕ) → Option Reason
mv_reason ended [] = Some reason.Call
mv_reason ended (a ∷ []) = first_of (file_reason ended a) (Some reason.Call)
mv_reason ended (a ∷ b ∷ more) = first_of (file_reason ended a) (to_reason ended (path_of a) b more)

-- the act of `mv` with these operands
abbrev pub mv_act : List (List ℕ) → Act
mv_act words = Move (path_of (first_word words)) (path_of (second_word words))

-- a copy of a path to itself, or into the directory that it is in, or with `deep` to below itself
abbrev pub copies_itself : Bool → List (List ℕ) → List (List ℕ) → Bool
copies_itself deep a b = same_names a b || (is_parent b a || (deep && is_prefix a b))

-- such a copy has no specified meaning
abbrev pub self_copy_reason : Bool → List (List ℕ) → List (List ℕ) → Option Reason
self_copy_reason deep a b = if copies_itself deep a b then Some reason.Same else None

-- why a word, with those behind it, is no place to copy a path to
abbrev pub copy_to_reason : Bool → Bool → PathParts → List ℕ → List (List ℕ) → Option Reason
copy_to_reason deep ended a word more =
    first_of (file_reason ended word)
    (first_of (self_copy_reason deep a.names (spelled_names word))
    (first_of (full_reason (path_of word)) (end_reason more)))

-- why words are no operands of `cp`, by whether a directory is copied with all below it
abbrev pub cp_reason : Bool → Bool → List (List ℕ) → Option Reason
cp_reason deep ended [] = Some reason.Call
cp_reason deep ended (a ∷ []) = first_of (file_reason ended a) (Some reason.Call)
cp_reason deep ended (a ∷ b ∷ more) = first_of (file_reason ended a) (copy_to_reason deep ended (path_of a) b more)

-- the act of `cp` with these operands
abbrev pub cp_act : Bool → List (List ℕ) → Act
cp_act deep words = Copy (path_of (first_word words)) (path_of (second_word words)) deep

-- why words are no operand of `unlink`
abbrev pub unlink_reason : Bool → List (List ℕ) → Option Reason
unlink_reason ended [] = Some reason.Call
unlink_reason ended (word ∷ more) = first_of (operand_reason ended word) (end_reason more)

-- the act of `unlink` with this operand
abbrev pub unlink_act : List (List ℕ) → Act
unlink_act words = Remove (path_of (first_word words)) false false
