-- A step that places or takes away files has at most two acts for each entry, so that each act has a number.
use Rattle.std.proofs.Common.{◌≡◌, ℕ, ◌+◌, ◌*◌, ◌≤◌, Bool, true, false, List, [], ◌∷◌, length, arith, length-append}
use Rattle.std.specs.Prelude.{Some, None, nat_le, reverse, if◌then◌else◌}
use Rattle.std.specs.List.{flat_map}
use Rattle.std.proofs.lemmas.Bool.{le-leb}
use Rattle.std.proofs.lemmas.List.{length-reverse}
use Rattle.utility_calls.specs.declared.acts.Act.{Act}
use Rattle.dpkg_scenarios.specs.declared.scenario.Scenario.{Scenario}
use Rattle.dpkg_scenarios.specs.declared.scenario.StepWork.{StepWork}
use Rattle.dpkg_scenarios.specs.declared.scenario.StepWork.TheVariants.{Script, Unpack, RemoveFiles, RemoveOld, RemoveConf, Restore}
use Rattle.dpkg_scenarios.specs.Scenarios.{columns_of}
use Rattle.system_base.specs.declared.base.Base.{Base}
use Rattle.package_lists.specs.declared.kind.EntryKind.{EntryKind}
use Rattle.package_lists.specs.declared.kind.EntryKind.TheVariants.{Folder, File, Conf, LinkTo}
use Rattle.system_base.specs.Bases.{is_base}
use Rattle.package_lists.specs.Entries.{EntryParts, is_any, is_conf, has_at, is_folder}
use Rattle.package_lists.specs.EntrySets.{is_one_of}
use Rattle.package_lists.specs.FileLists.{MOST_ENTRIES}
use Rattle.package_lists.specs.Paths.{Paths, path_text}
use Rattle.scenario_runs.specs.Acts.{numbered}
use Rattle.package_jobs.specs.FileActs.{placing, unpacked, folder_gone, removing, removed, removed_old, conf_gone, dir_gone, acts_of}

abbrev One : List Act → Type 0
One acts = length acts ≤ 1

either_one : (b : Bool) (acts others : List Act) → One acts → One others → One (if b then acts else others)
either_one true acts others h k = h
either_one false acts others h k = k

placing_one : (kind : EntryKind) (names : List (List ℕ)) (conf : Bool) → One (placing kind names conf)
placing_one Folder names conf = omega (arith)
placing_one File names conf = omega (arith)
placing_one (LinkTo target) names conf = omega (arith)
placing_one Conf names true = omega (arith)
placing_one Conf names false = omega (arith)

folder_one : (base : Bool) (names : List (List ℕ)) → One (folder_gone base names)
folder_one true names = omega (arith)
folder_one false names = omega (arith)

removing_one : (kind : EntryKind) (names : List (List ℕ)) (base : Bool) → One (removing kind names base)
removing_one Folder names base = folder_one base names
removing_one File names base = omega (arith)
removing_one (LinkTo target) names base = omega (arith)
removing_one Conf names base = omega (arith)

conf_one : (entry : EntryParts) → One (conf_gone entry)
conf_one entry = either_one (is_conf entry.kind) _ [] (omega (arith)) (omega (arith))

dir_one : (base : Paths) (entry : EntryParts) → One (dir_gone base entry)
dir_one base entry =
    either_one (is_folder entry.kind) _ [] (folder_one (base (path_text entry.names)) entry.names) (omega (arith))

flat_few : (f : EntryParts → List Act) → ((entry : EntryParts) → One (f entry)) → (entries : List EntryParts)
    → length (flat_map f entries) ≤ length entries
flat_few f one [] = omega (arith)
flat_few f one (entry ∷ entries) =
    omega (arith, length-append (f entry) (flat_map f entries), one entry, flat_few f one entries)

pub acts_few : (s : Scenario) (work : StepWork) (new old : List EntryParts) (base : Base)
    → length (acts_of s work new old base) ≤ 2 * (length new + length old)
acts_few s (Script side script) new old base = omega (arith)
acts_few s Restore new old base = omega (arith)
acts_few s Unpack new old base =
    let placed = (columns_of s).conffiles in
    omega (
      arith,
      flat_few (unpacked placed (has_at is_conf old))
          (λ entry. placing_one entry.kind entry.names (is_one_of placed (has_at is_conf old) (path_text entry.names))) new,
    )
acts_few s RemoveFiles new old base =
    omega (
      arith,
      length-reverse new,
      flat_few (removed (is_base base))
          (λ entry. removing_one entry.kind entry.names (is_base base (path_text entry.names))) (reverse new),
    )
acts_few s RemoveOld new old base =
    omega (
      arith,
      length-reverse old,
      flat_few (removed_old (has_at is_any new) (is_base base))
          (λ entry. either_one (has_at is_any new (path_text entry.names)) [] _ (omega (arith))
          (removing_one entry.kind entry.names (is_base base (path_text entry.names)))) (reverse old),
    )
acts_few s RemoveConf new old base =
    omega (
      arith,
      length-reverse new,
      flat_few conf_gone conf_one (reverse new),
      flat_few (dir_gone (is_base base)) (dir_one (is_base base)) (reverse new),
      length-append (flat_map conf_gone (reverse new)) (flat_map (dir_gone (is_base base)) (reverse new)),
    )

within : (b : Bool) (acts : List Act) → b ≡ true → (if b then Some acts else None) ≡ None → ⊥
within true acts e none = cc
within false acts e none = cc

pub acts_few_enough : (acts : List Act) (new old : List EntryParts) → length acts ≤ 2 * (length new + length old)
    → length new ≤ MOST_ENTRIES → length old ≤ MOST_ENTRIES → length acts ≤ 4294967295
acts_few_enough acts new old few n o = omega (arith, few, n, o)

pub acts_numbered : (acts : List Act) → length acts ≤ 4294967295 → numbered acts ≡ None → ⊥
acts_numbered acts few none = within (nat_le (length acts) 4294967295) acts (le-leb (length acts) 4294967295 few) none
