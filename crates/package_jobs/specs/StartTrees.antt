-- The trees that a scenario may begin from: what is known of the system stands there, and so do the files of a package
-- that is installed already, with no foreign entry in its folders where the base says so. What is asked where an entry
-- is, is asked of where its path leads along the known links.
use Rattle.std.specs.Prelude.{◌≡◌, ◌≢◌, ◌⊎◌, ℕ, zero, suc, Bool, true, false, not, ◌&&◌, ◌||◌, IsTrue, List, [], ◌∷◌, ◌++◌}
use Rattle.std.specs.Prelude.{length, take, All}
use Rattle.std.specs.List.{flat_map}
use Rattle.feature_trees.specs.declared.value.Value.{Value}
use Rattle.feature_trees.specs.declared.value.Value.TheVariants as value
use Rattle.feature_trees.specs.declared.kind.Kind.{Kind}
use Rattle.feature_trees.specs.declared.kind.Kind.TheVariants.{Absent, Reg, Dir}
use Rattle.feature_trees.specs.Kinds.{has}
use Rattle.feature_trees.specs.Sound.{IsTree}
use Rattle.feature_trees.specs.Tree.{at, kind_of}
use Rattle.clause_solver.specs.Stands.{IsFenced}
use Rattle.script_names.specs.Paths.{PathParts}
use Rattle.link_walks.specs.declared.walks.Reached.{Reached}
use Rattle.link_walks.specs.declared.walks.Reached.TheVariants.{At, Blocked}
use Rattle.link_walks.specs.Links.{LinkParts}
use Rattle.link_walks.specs.Reaching.{reach}
use Rattle.dpkg_scenarios.specs.declared.columns.Before.{Before}
use Rattle.dpkg_scenarios.specs.declared.columns.Before.TheVariants as before
use Rattle.dpkg_scenarios.specs.declared.columns.NewEntries.{NewEntries}
use Rattle.dpkg_scenarios.specs.declared.columns.OwnFolders.{OwnFolders}
use Rattle.dpkg_scenarios.specs.declared.columns.OwnFolders.TheVariants.{NoFolder, Dropped, Standing, Left}
use Rattle.dpkg_scenarios.specs.declared.scenario.Scenario.{Scenario}
use Rattle.dpkg_scenarios.specs.Scenarios.{columns_of}
use Rattle.system_base.specs.declared.base.Base.{Base}
use Rattle.system_base.specs.declared.base.KnownPath.{KnownPath}
use Rattle.package_lists.specs.declared.kind.EntryKind.{EntryKind}
use Rattle.package_lists.specs.declared.kind.EntryKind.TheVariants.{Folder, File, Conf, LinkTo}
use Rattle.system_base.specs.Bases.{is_base}
use Rattle.package_lists.specs.Entries.{EntryParts, is_any, is_conf, is_folder, has_at, has_conf_below}
use Rattle.package_lists.specs.EntrySets.{is_one_of}
use Rattle.package_lists.specs.Below.{names_below}
use Rattle.package_lists.specs.Paths.{Paths, path_text, path_texts, plain_path, is_among, is_within}
use Rattle.checker_input.specs.declared.package.Packages.{Packages}
use Rattle.package_jobs.specs.Plain.{known_by_scripts}
use Rattle.package_jobs.specs.Sides.{old_of}

-- the entries of a package
abbrev pub Entries : Type 0
Entries = List EntryParts

-- known links
abbrev pub Links : Type 0
Links = List LinkParts

-- ---- where paths lead

-- what stands where a path leads is of such a kind; a path that is blocked leads nowhere, so no tree has that
abbrev pub StandsAt : Reached → (Kind → Type 0) → Value → Type 0
StandsAt (At p) Holds tree = Holds (kind_of (at tree p.names))
StandsAt (Blocked link) Holds tree = ⊥

-- where the path of an entry leads: that of a folder along a link at its last name too, any other not
abbrev pub place_of : Links → EntryParts → Reached
place_of links entry = reach links (is_folder entry.kind) (plain_path entry.names)

-- ---- the base

-- what is known of a path: what stands there is of one of these kinds. What `fits`, `own`, `removed` and `plain` ask
-- is said below, and the other lines speak of the scripts
abbrev pub IsKnown : Value → KnownPath → Type 0
IsKnown tree known = IsTrue (has known.kinds (kind_of (at tree known.path.names)))

-- a known link stands at its path, and leads to a directory
abbrev pub IsLinked : Links → Value → LinkParts → Type 0
IsLinked links tree link =
    (at tree link.at.names ≡ value.Link link.target) × StandsAt (reach links true link.at) (λ k. k ≡ Dir) tree

-- ---- the files of a package that is there

-- what stands where an entry is: a directory for a folder, and no directory for each other
abbrev pub IsPlaced : EntryKind → Kind → Type 0
IsPlaced Folder k = k ≡ Dir
IsPlaced File k = k ≢ Dir
IsPlaced Conf k = k ≢ Dir
IsPlaced (LinkTo target) k = k ≢ Dir

-- the relation holds of the kind of an entry and the kind of what stands where its path leads
abbrev pub Stands : (EntryKind → Kind → Type 0) → Links → Value → EntryParts → Type 0
Stands Holds links tree entry = StandsAt (place_of links entry) (Holds entry.kind) tree

-- the entry is placed, if it is a configuration file
abbrev pub IsKept : Links → Value → EntryParts → Type 0
IsKept links tree entry = IsTrue (is_conf entry.kind) → Stands IsPlaced links tree entry

-- What is there before a scenario, by the new and the old package's entries: nothing is known, or the configuration
-- files of the package stayed, or it is placed, or the old package is.
abbrev pub AreBefore : Before → Links → Entries → Entries → Value → Type 0
AreBefore before.NotInstalled links new old tree = Unit {0}
AreBefore before.ConfigFiles links new old tree = All (IsKept links tree) new
AreBefore before.Installed links new old tree = All (Stands IsPlaced links tree) new
AreBefore before.OldInstalled links new old tree = All (Stands IsPlaced links tree) old

-- ---- `fits`

-- what stands where an entry fits: nothing or a directory for a folder, nothing or a regular file for a configuration
-- file, and no directory for each other
abbrev pub IsFit : EntryKind → Kind → Type 0
IsFit Folder k = (k ≡ Absent) ⊎ (k ≡ Dir)
IsFit File k = k ≢ Dir
IsFit Conf k = (k ≡ Absent) ⊎ (k ≡ Reg)
IsFit (LinkTo target) k = k ≢ Dir

-- whether an entry of the new package has to fit: it is one of these, by the paths that the old package lists
abbrev pub is_to_fit : NewEntries → Paths → EntryParts → Bool
is_to_fit which listed entry = is_one_of which listed (path_text entry.names)

-- an entry of the new package fits, if it has to
abbrev pub Fits : NewEntries → Paths → Links → Value → EntryParts → Type 0
Fits which listed links tree entry = IsTrue (is_to_fit which listed entry) → Stands IsFit links tree entry

-- ---- `own`

-- the entries of the package that `own` speaks of: the old one, where its folders are taken away, else the new one
abbrev pub owner : OwnFolders → Entries → Entries → Entries
owner NoFolder new old = new
owner Dropped new old = old
owner Standing new old = new
owner Left new old = new

-- the paths that `own` lines name; `own` alone names the root
abbrev pub own_paths : Base → Paths
own_paths base = is_among (path_texts base.own)

-- whether an entry is a folder at one of these paths, or below one
abbrev pub is_own_folder : Paths → EntryParts → Bool
is_own_folder own entry = is_folder entry.kind && is_within own entry.names

-- whether `own` speaks of an entry, by the paths that `own` lines name and those that the new package lists: it is a
-- folder within one of them, and of the old package's one that the new package does not list
abbrev pub is_to_own : OwnFolders → Paths → Paths → EntryParts → Bool
is_to_own NoFolder own listed entry = false
is_to_own Dropped own listed entry = is_own_folder own entry && not (listed (path_text entry.names))
is_to_own Standing own listed entry = is_own_folder own entry
is_to_own Left own listed entry = is_own_folder own entry

-- what may stand where such a folder is: nothing or a directory, where an earlier removal may have taken it away; else
-- what is there before the scenario says more
abbrev pub MayStand : OwnFolders → Kind → Type 0
MayStand NoFolder k = Unit {0}
MayStand Dropped k = Unit {0}
MayStand Standing k = Unit {0}
MayStand Left k = (k ≡ Absent) ⊎ (k ≡ Dir)

-- the path that is reached, if one is
abbrev pub reached_path : Reached → List PathParts
reached_path (At p) = p ∷ []
reached_path (Blocked link) = []

-- where the first of these names leads, the first two, and so on to so many, each followed along no link at its last
abbrev pub places_to : Links → List (List ℕ) → ℕ → List PathParts
places_to links names zero = []
places_to links names (suc count) =
    places_to links names count ++ reached_path (reach links false (plain_path (take (suc count) names)))

-- where the paths of entries lead, and those of the folders on the way to them, whether these are entries or not
abbrev pub entry_places : Links → Entries → List PathParts
entry_places links entries = flat_map (λ entry. places_to links entry.names (length entry.names)) entries

-- Where a folder leads that holds no foreign entry stands what has entries under the names alone that the package's
-- entries have below that path. Of a directory of the base nothing is said, nor of a folder whose path is blocked.
abbrev pub HoldsOwn : OwnFolders → Paths → (List ℕ → List (List ℕ)) → Reached → Value → Type 0
HoldsOwn own based below (Blocked link) tree = Unit {0}
HoldsOwn own based below (At p) tree =
    IsTrue (not (based (path_text p.names)))
    → MayStand own (kind_of (at tree p.names)) × IsFenced (at tree p.names) (below (path_text p.names))

-- the entry, if `own` speaks of it, is a folder that holds no foreign entry
abbrev pub Owns : OwnFolders → Base → Paths → Entries → Value → EntryParts → Type 0
Owns own base listed entries tree entry =
    IsTrue (is_to_own own (own_paths base) listed entry)
    → HoldsOwn own (is_base base) (names_below (entry_places base.links entries)) (place_of base.links entry) tree

-- each entry of the package of which `own` speaks is a folder that holds no foreign entry
abbrev pub AreOwned : OwnFolders → Base → Entries → Entries → Value → Type 0
AreOwned own base new old tree =
    let entries = owner own new old in
    All (Owns own base (has_at is_any new) entries tree) entries

-- ---- `removed`

-- whether the path that is reached is one of these
abbrev pub reaches_one : Paths → Reached → Bool
reaches_one paths (At p) = paths (path_text p.names)
reaches_one paths (Blocked link) = false

-- whether a path is, or leads to, a directory of the base
abbrev pub leads_to_base : Base → List (List ℕ) → Bool
leads_to_base base names =
    is_base base (path_text names) || reaches_one (is_base base) (reach base.links true (plain_path names))

-- whether a removal leaves an entry of the package, by the paths that have a configuration file of it below them: a
-- configuration file, a folder with one below it, and what is, or leads to, a directory of the base
abbrev pub is_left : Base → Paths → EntryParts → Bool
is_left base above entry =
    is_conf entry.kind
    || ((is_folder entry.kind && above (path_text entry.names)) || leads_to_base base entry.names)

-- nothing stands where an entry is, unless a removal leaves it
abbrev pub IsGone : Base → Paths → Value → EntryParts → Type 0
IsGone base above tree entry =
    IsTrue (not (is_left base above entry)) → StandsAt (place_of base.links entry) (λ k. k ≡ Absent) tree

-- Of a package of which an earlier removal may have taken folders, it has taken each entry but those that it leaves. Of
-- others nothing is said.
abbrev pub AreGone : OwnFolders → Base → Entries → Value → Type 0
AreGone NoFolder base new tree = Unit {0}
AreGone Dropped base new tree = Unit {0}
AreGone Standing base new tree = Unit {0}
AreGone Left base new tree = All (IsGone base (has_conf_below new) tree) new

-- ---- start trees

-- A tree that the scenario may begin from: a tree of files in which stands what the base knows of paths and links, the
-- files are there that the scenario begins with, the new package's entries fit where the base says `fits`, the package's
-- folders hold no foreign entry where it says `own`, a removed package is gone where it says `removed`, and what stands
-- where the scripts name a path is of the sort that their command takes where it says `plain`. Which files, entries,
-- folders and scripts these are the scenario's record says.
pub record IsStartTree (scenario : Scenario) (packages : Packages) (tree : Value) : Type 0 where
  pub is_tree : IsTree tree
  pub base : All (IsKnown tree) packages.base.known
  pub links : All (IsLinked packages.base.links tree) packages.base.links
  pub before : AreBefore (columns_of scenario).before packages.base.links packages.new_package.entries
      (old_of packages).entries tree
  pub fits : IsTrue packages.base.fits
      → All (Fits (columns_of scenario).fits (has_at is_any (old_of packages).entries) packages.base.links tree)
      packages.new_package.entries
  pub own : AreOwned (columns_of scenario).own packages.base packages.new_package.entries
      (old_of packages).entries tree
  pub removed : IsTrue packages.base.removed
      → AreGone (columns_of scenario).own packages.base packages.new_package.entries tree
  pub plain : IsTrue packages.base.plain → All (IsKnown tree) (known_by_scripts (columns_of scenario) packages)
