-- What stands where a settled command names a path, if it is of the sort that the command takes: no directory where it
-- names a file, and no file where it names a directory.
use Rattle.std.specs.Prelude.{ℕ, zero, suc, ◌-◌, false, List, [], ◌∷◌, ◌++◌, length, take}
use Rattle.std.specs.Prelude.{Option, Some, None, if◌then◌else◌}
use Rattle.std.specs.List.{find, flat_map}
use Rattle.script_names.specs.Paths.{PathParts}
use Rattle.feature_trees.specs.declared.kind.Kind.TheVariants.{Absent, Reg, Link, Dir}
use Rattle.feature_trees.specs.declared.kind.Kinds.{Kinds}
use Rattle.feature_trees.specs.Kinds.{but, three}
use Rattle.utility_calls.specs.declared.acts.Act.{Act}
use Rattle.utility_calls.specs.declared.acts.Act.TheVariants.{MakeDir, EnsureDir, RemoveDir, Remove, Touch, Move, Copy}
use Rattle.utility_calls.specs.declared.planned.Planned.{Planned}
use Rattle.utility_calls.specs.declared.planned.Planned.TheVariants.{Known, Ask, Print, Change, Unspecified}
use Rattle.utility_calls.specs.declared.stated_call.StatedCall.{StatedCall}
use Rattle.utility_calls.specs.Acts.{path_of}
use Rattle.utility_calls.specs.Calls.{call}
use Rattle.utility_calls.specs.StatedCalls.{has_name}
use Rattle.link_walks.specs.declared.walks.Reached.{Reached}
use Rattle.link_walks.specs.declared.walks.Reached.TheVariants.{At, Blocked}
use Rattle.link_walks.specs.Links.{LinkParts}
use Rattle.link_walks.specs.Reaching.{reach}
use Rattle.package_lists.specs.Paths.{plain_path}
use Rattle.system_base.specs.declared.base.Base.{Base}
use Rattle.system_base.specs.declared.base.KnownPath.{KnownPath}

-- ---- the changes among commands

-- the acts of a planned call, if it is a change
abbrev pub changed : Planned → List Act
changed (Known status) = []
changed (Ask act negate) = []
changed (Print text) = []
changed (Change lists) = flat_map (λ acts. acts) lists
changed (Unspecified why) = []

-- the acts, unless it is stated how the call ends: a stated call changes nothing
abbrev pub unless_stated : Option StatedCall → List Act → List Act
unless_stated None acts = acts
unless_stated (Some stated) acts = []

-- the acts of a command with these fields, if it is a change
abbrev pub changes : List StatedCall → List (List ℕ) → List Act
changes calls [] = []
changes calls (name ∷ operands) =
    unless_stated (find (has_name name) calls) (changed (call (name ∷ operands)))

-- ---- the kinds that an act takes

-- a path of a directory: neither a regular file nor one of the special kinds stands there
abbrev pub no_file : Kinds
no_file = three Absent Link Dir

-- a path of a file that may be made: neither a directory nor one of the special kinds stands there
abbrev pub no_folder : Kinds
no_folder = three Absent Reg Link

-- what an act takes at its path, beside what it takes on the way there; nothing more is said of the other acts
abbrev pub kinds_taken : Act → Option Kinds
kinds_taken (MakeDir p) = Some no_file
kinds_taken (EnsureDir p) = Some no_file
kinds_taken (RemoveDir p) = Some no_file
kinds_taken (Remove p force deep) = if deep then None else Some (but Dir)
kinds_taken (Touch p) = Some no_folder
kinds_taken act = None

-- the second path of an act that has one
abbrev pub second_path : Act → Option PathParts
second_path (Move a b) = Some b
second_path (Copy a b deep) = Some b
second_path act = None

-- ---- what is known

-- these kinds at a path
abbrev pub known_at : Kinds → PathParts → KnownPath
known_at kinds p = record { path = p; kinds = kinds }

-- a directory may stand at each path on the way to one, up to so many names
abbrev pub ways_to : List (List ℕ) → ℕ → List KnownPath
ways_to names zero = []
ways_to names (suc count) = ways_to names count ++ known_at no_file (plain_path (take (suc count) names)) ∷ []

-- a directory may stand at each path on the way to one that is reached; of one that is blocked nothing is said
abbrev pub way_known : Reached → List KnownPath
way_known (At p) = ways_to p.names (length p.names - 1)
way_known (Blocked link) = []

-- what is known at a path that is reached
abbrev pub end_known : Option Kinds → Reached → List KnownPath
end_known None reached = []
end_known (Some kinds) (At p) = known_at kinds p ∷ []
end_known (Some kinds) (Blocked link) = []

-- what is known on the way to the second path of an act, where it has one
abbrev pub second_known : List LinkParts → Option PathParts → List KnownPath
second_known links None = []
second_known links (Some p) = way_known (reach links false p)

-- what is known by an act: on the way to its paths, and at its path; a link at the last name is not followed
abbrev pub act_known : List LinkParts → Act → List KnownPath
act_known links act =
    way_known (reach links false (path_of act))
    ++ (end_known (kinds_taken act) (reach links false (path_of act)) ++ second_known links (second_path act))

-- what is known by a command with these fields
abbrev pub command_known : Base → List (List ℕ) → List KnownPath
command_known base fields = flat_map (act_known base.links) (changes base.calls fields)

-- what is known by commands, each with its fields
abbrev pub sorts_known : Base → List (List (List ℕ)) → List KnownPath
sorts_known base commands = flat_map (command_known base) commands
