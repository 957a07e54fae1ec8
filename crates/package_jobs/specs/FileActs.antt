-- The acts of a step that places or takes away files (Debian Policy, 6.6 and 6.8), at the paths that are listed.
use Rattle.std.specs.Prelude.{◌≡◌, ◌<◌, ◌≤◌, ℕ, Bool, true, List, [], ◌∷◌, ◌++◌, length, reverse, All, if◌then◌else◌}
use Rattle.std.specs.List.{flat_map}
use Rattle.dpkg_scenarios.specs.declared.columns.NewEntries.{NewEntries}
use Rattle.dpkg_scenarios.specs.declared.scenario.Scenario.{Scenario}
use Rattle.dpkg_scenarios.specs.declared.scenario.StepWork.{StepWork}
use Rattle.dpkg_scenarios.specs.declared.scenario.StepWork.TheVariants.{Script, Unpack, RemoveFiles}
use Rattle.dpkg_scenarios.specs.declared.scenario.StepWork.TheVariants.{RemoveOld, RemoveConf, Restore}
use Rattle.dpkg_scenarios.specs.Scenarios.{columns_of}
use Rattle.utility_calls.specs.declared.acts.Act.{Act}
use Rattle.utility_calls.specs.declared.acts.Act.TheVariants.{EnsureDir, PlaceFile, PlaceLink, PlaceConf, Discard}
use Rattle.utility_calls.specs.declared.acts.Act.TheVariants.{DiscardDir}
use Rattle.link_walks.specs.Links.{LinkParts}
use Rattle.link_walks.specs.Performing.{is_of_package}
use Rattle.scenario_runs.specs.Acts.{HasName}
use Rattle.package_lists.specs.declared.kind.EntryKind.{EntryKind}
use Rattle.package_lists.specs.declared.kind.EntryKind.TheVariants.{Folder, File, Conf, LinkTo}
use Rattle.system_base.specs.Bases.{is_base}
use Rattle.system_base.specs.declared.base.Base.{Base}
use Rattle.package_lists.specs.Entries.{EntryParts, is_any, is_conf, has_at, is_folder}
use Rattle.package_lists.specs.EntrySets.{is_one_of}
use Rattle.package_lists.specs.Paths.{Paths, path_text, plain_path}

-- the act that places an entry, by its kind, its path, and whether a configuration file is placed
abbrev pub placing : EntryKind → List (List ℕ) → Bool → List Act
placing Folder names conf = EnsureDir (plain_path names) ∷ []
placing File names conf = PlaceFile (plain_path names) ∷ []
placing (LinkTo target) names conf = PlaceLink (plain_path names) target ∷ []
placing Conf names conf = if conf then PlaceConf (plain_path names) ∷ [] else []

-- the act that places an entry, where these configuration files are placed, from those of the old package
abbrev pub unpacked : NewEntries → Paths → EntryParts → List Act
unpacked conffiles old entry = placing entry.kind entry.names (is_one_of conffiles old (path_text entry.names))

-- the act that takes a directory away, unless it is one of the base
abbrev pub folder_gone : Bool → List (List ℕ) → List Act
folder_gone base names = if base then [] else DiscardDir (plain_path names) ∷ []

-- the act that takes an entry away that is no configuration file, by its kind, its path, and whether that is a base
-- directory
abbrev pub removing : EntryKind → List (List ℕ) → Bool → List Act
removing Folder names base = folder_gone base names
removing File names base = Discard (plain_path names) ∷ []
removing (LinkTo target) names base = Discard (plain_path names) ∷ []
removing Conf names base = []

-- the act that takes an entry away, from the directories of the base
abbrev pub removed : Paths → EntryParts → List Act
removed base entry = removing entry.kind entry.names (base (path_text entry.names))

-- the act that takes an entry of the old package away, where the new package does not list its path
abbrev pub removed_old : Paths → Paths → EntryParts → List Act
removed_old listed base entry = if listed (path_text entry.names) then [] else removed base entry

-- the act that takes a configuration file away
abbrev pub conf_gone : EntryParts → List Act
conf_gone entry = if is_conf entry.kind then Discard (plain_path entry.names) ∷ [] else []

-- the act that takes a directory of the package away
abbrev pub dir_gone : Paths → EntryParts → List Act
dir_gone base entry =
    if is_folder entry.kind then folder_gone (base (path_text entry.names)) entry.names else []

-- the acts of a step, from the entries of the new and of the old package and the base: placing goes in the order of the
-- list, with the configuration files of the scenario's record, taking away from its last entry to its first; a script
-- has no acts of its own, nor has what puts back what was placed
abbrev pub acts_of : Scenario → StepWork → List EntryParts → List EntryParts → Base → List Act
acts_of scenario (Script side script) new before base = []
acts_of scenario Unpack new before base =
    flat_map (unpacked (columns_of scenario).conffiles (has_at is_conf before)) new
acts_of scenario RemoveFiles new before base = flat_map (removed (is_base base)) (reverse new)
acts_of scenario RemoveOld new before base =
    flat_map (removed_old (has_at is_any new) (is_base base)) (reverse before)
acts_of scenario RemoveConf new before base =
    flat_map conf_gone (reverse new) ++ flat_map (dir_gone (is_base base)) (reverse new)
acts_of scenario Restore new before base = []

-- an act by which a package manager makes, places or discards a file of a package
abbrev pub IsOfPackage : Act → Type 0
IsOfPackage act = is_of_package act ≡ true

-- each is such an act at a path with a name, and there are no more of them than a site can number
pub record AreListed (acts : List Act) : Type 0 where
  pub of_package : All IsOfPackage acts
  pub named : All HasName acts
  pub few : length acts ≤ 4294967295

-- the path of a known link has a name
abbrev pub StandsSomewhere : LinkParts → Type 0
StandsSomewhere link = 0 < length link.at.names
