-- What is needed of a start tree, path by path.
use Rattle.std.specs.Prelude.{ℕ, true, not, List, [], ◌∷◌, ◌++◌, map, if◌then◌else◌}
use Rattle.std.specs.List.{flat_map}
use Rattle.feature_trees.specs.declared.kind.Kind.{Kind}
use Rattle.feature_trees.specs.declared.kind.Kind.TheVariants.{Absent, Reg, Dir}
use Rattle.feature_trees.specs.declared.kind.Kinds.{Kinds}
use Rattle.feature_trees.specs.Kinds.{none, of, but, two}
use Rattle.script_names.specs.Paths.{PathParts}
use Rattle.link_walks.specs.declared.walks.Reached.{Reached}
use Rattle.link_walks.specs.declared.walks.Reached.TheVariants.{At, Blocked}
use Rattle.link_walks.specs.Links.{LinkParts}
use Rattle.link_walks.specs.Reaching.{reach}
use Rattle.dpkg_scenarios.specs.declared.columns.Before.{Before}
use Rattle.dpkg_scenarios.specs.declared.columns.Before.TheVariants as before
use Rattle.dpkg_scenarios.specs.declared.columns.Columns.{Columns}
use Rattle.dpkg_scenarios.specs.declared.columns.NewEntries.{NewEntries}
use Rattle.dpkg_scenarios.specs.declared.columns.OwnFolders.{OwnFolders}
use Rattle.dpkg_scenarios.specs.declared.columns.OwnFolders.TheVariants.{NoFolder, Dropped, Standing, Left}
use Rattle.dpkg_scenarios.specs.declared.scenario.Scenario.{Scenario}
use Rattle.dpkg_scenarios.specs.Scenarios.{columns_of}
use Rattle.start_trees.specs.declared.need.Need.{Need}
use Rattle.start_trees.specs.declared.need.Wanted.TheVariants as wanted
use Rattle.system_base.specs.declared.base.Base.{Base}
use Rattle.system_base.specs.declared.base.KnownPath.{KnownPath}
use Rattle.package_lists.specs.declared.kind.EntryKind.{EntryKind}
use Rattle.package_lists.specs.declared.kind.EntryKind.TheVariants.{Folder, File, Conf, LinkTo}
use Rattle.system_base.specs.Bases.{is_base}
use Rattle.package_lists.specs.Entries.{EntryParts, is_any, is_conf, has_at, has_conf_below}
use Rattle.package_lists.specs.Below.{names_below}
use Rattle.package_lists.specs.Paths.{Paths, path_text}
use Rattle.checker_input.specs.declared.package.Packages.{Packages}
use Rattle.package_jobs.specs.declared.needs.Asked.{Asked}
use Rattle.package_jobs.specs.declared.needs.Asked.TheVariants.{Placed, Fit}
use Rattle.package_jobs.specs.Plain.{known_by_scripts}
use Rattle.package_jobs.specs.Sides.{old_of}
use Rattle.package_jobs.specs.StartTrees.{Entries, Links, IsPlaced, IsFit, is_to_fit, place_of, entry_places}
use Rattle.package_jobs.specs.StartTrees.{owner, own_paths, is_to_own, is_left}

-- ---- the base

-- what is needed where something is known of a path
abbrev pub known_need : KnownPath → Need
known_need known = record { path = known.path; wanted = wanted.Kinds known.kinds }

-- the need of these kinds where a path leads; where it is blocked no kind is left at the link that blocks it
abbrev pub need_at : Reached → Kinds → Need
need_at (At p) kinds = record { path = p; wanted = wanted.Kinds kinds }
need_at (Blocked p) kinds = record { path = p; wanted = wanted.Kinds none }

-- what is needed of a known link: it stands at its path, and a directory where that leads
abbrev pub link_needs : Links → LinkParts → List Need
link_needs links link =
    record { path = link.at; wanted = wanted.Target link.target }
    ∷ need_at (reach links true link.at) (of Dir) ∷ []

-- ---- entries

-- what is asked of what stands where an entry is
abbrev pub Holds : Asked → EntryKind → Kind → Type 0
Holds Placed = IsPlaced
Holds Fit = IsFit

-- the kinds that may stand where an entry of this kind is
abbrev pub kinds_asked : Asked → EntryKind → Kinds
kinds_asked Placed Folder = of Dir
kinds_asked Placed File = but Dir
kinds_asked Placed Conf = but Dir
kinds_asked Placed (LinkTo target) = but Dir
kinds_asked Fit Folder = two Absent Dir
kinds_asked Fit File = but Dir
kinds_asked Fit Conf = two Absent Reg
kinds_asked Fit (LinkTo target) = but Dir

-- what an entry needs
abbrev pub entry_need : Asked → Links → EntryParts → Need
entry_need asked links entry = need_at (place_of links entry) (kinds_asked asked entry.kind)

-- what an entry needs to be placed, if it is a configuration file
abbrev pub kept_needs : Links → EntryParts → List Need
kept_needs links entry = if is_conf entry.kind then entry_need Placed links entry ∷ [] else []

-- what is needed of the files that are there before a scenario, by the new and the old package's entries
abbrev pub needs_before : Before → Links → Entries → Entries → List Need
needs_before before.NotInstalled links new old = []
needs_before before.ConfigFiles links new old = flat_map (kept_needs links) new
needs_before before.Installed links new old = map (entry_need Placed links) new
needs_before before.OldInstalled links new old = map (entry_need Placed links) old

-- what an entry of the new package needs to fit, if it has to
abbrev pub fit_needs : NewEntries → Paths → Links → EntryParts → List Need
fit_needs which listed links entry = if is_to_fit which listed entry then entry_need Fit links entry ∷ [] else []

-- what is needed where the base says `fits`
abbrev pub needs_to_fit : NewEntries → Base → Entries → Entries → List Need
needs_to_fit which base new old =
    if base.fits then flat_map (fit_needs which (has_at is_any old) base.links) new else []

-- ---- `own`

-- the needs of the kinds that may stand at a path where a folder of the package is that holds no foreign entry
abbrev pub kinds_owned : OwnFolders → PathParts → List Need
kinds_owned NoFolder p = []
kinds_owned Dropped p = []
kinds_owned Standing p = []
kinds_owned Left p = record { path = p; wanted = wanted.Kinds (two Absent Dir) } ∷ []

-- the need of entries under these names alone
abbrev pub names_need : PathParts → List (List ℕ) → Need
names_need p below = record { path = p; wanted = wanted.Names below }

-- what is needed where a folder leads that holds no foreign entry, by the names below each path
abbrev pub folder_needs : OwnFolders → Paths → (List ℕ → List (List ℕ)) → Reached → List Need
folder_needs own based below (Blocked link) = []
folder_needs own based below (At p) =
    if not (based (path_text p.names)) then kinds_owned own p ++ names_need p (below (path_text p.names)) ∷ [] else []

-- what an entry needs by `own`, if it speaks of it
abbrev pub own_needs : OwnFolders → Paths → Paths → Paths → (List ℕ → List (List ℕ)) → Links → EntryParts → List Need
own_needs own paths listed based below links entry =
    if is_to_own own paths listed entry then folder_needs own based below (place_of links entry) else []

-- what is needed where the base says `own`
abbrev pub needs_to_own : OwnFolders → Base → Entries → Entries → List Need
needs_to_own own base new old =
    let entries = owner own new old in
    let below = names_below (entry_places base.links entries) in
    flat_map (own_needs own (own_paths base) (has_at is_any new) (is_base base) below base.links) entries

-- ---- `removed`

-- what an entry needs that a removal took away, unless it leaves it
abbrev pub gone_needs : Base → Paths → EntryParts → List Need
gone_needs base above entry =
    if not (is_left base above entry) then need_at (place_of base.links entry) (of Absent) ∷ [] else []

-- what is needed of a package that an earlier removal took away, if one did
abbrev pub needs_gone : OwnFolders → Base → Entries → List Need
needs_gone NoFolder base new = []
needs_gone Dropped base new = []
needs_gone Standing base new = []
needs_gone Left base new = flat_map (gone_needs base (has_conf_below new)) new

-- what is needed where the base says `removed`
abbrev pub needs_removed : OwnFolders → Base → Entries → List Need
needs_removed own base new = if base.removed then needs_gone own base new else []

-- ---- `plain`

-- what is needed where the base says `plain`
abbrev pub needs_plain : Columns → Packages → List Need
needs_plain columns packages =
    if packages.base.plain then map known_need (known_by_scripts columns packages) else []

-- ---- start trees

-- what is needed of a start tree
abbrev pub needs_in : Scenario → Packages → List Need
needs_in scenario packages =
    let new = packages.new_package.entries in
    let old = (old_of packages).entries in
    let base = packages.base in
    let columns = columns_of scenario in
    map known_need base.known
    ++ (flat_map (link_needs base.links) base.links
    ++ (needs_before columns.before base.links new old
    ++ (needs_to_fit columns.fits base new old
    ++ (needs_to_own columns.own base new old
    ++ (needs_removed columns.own base new ++ needs_plain columns packages)))))
