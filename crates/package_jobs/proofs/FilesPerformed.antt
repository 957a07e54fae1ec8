-- The acts on files of a step can be done on every tree, are acts on files of a package, and their paths have names, where
-- the path of each entry has one.
use Rattle.std.proofs.Common.{◌≢◌, ℕ, ◌-◌, ◌<◌, Bool, true, false, List, [], ◌∷◌, length, All, refl, sym, subst, arith}
use Rattle.std.specs.Prelude.{reverse, if◌then◌else◌}
use Rattle.std.specs.List.{flat_map}
use Rattle.std.proofs.lemmas.List.{length-reverse, get_or-reverse}
use Rattle.std.proofs.lemmas.List.Elements.{All-nil, All-cons, All-head, All-tail, All-append, All-weaker}
use Rattle.utility_calls.specs.declared.acts.Act.{Act}
use Rattle.utility_calls.specs.declared.acts.Act.TheVariants.{EnsureDir, PlaceFile, PlaceLink, PlaceConf, Discard}
use Rattle.utility_calls.specs.Acts.{IsPerformed}
use Rattle.dpkg_scenarios.specs.declared.scenario.Scenario.{Scenario}
use Rattle.dpkg_scenarios.specs.declared.scenario.StepWork.{StepWork}
use Rattle.dpkg_scenarios.specs.declared.scenario.StepWork.TheVariants.{Script, Unpack, RemoveFiles, RemoveOld, RemoveConf, Restore}
use Rattle.dpkg_scenarios.specs.Scenarios.{columns_of}
use Rattle.system_base.specs.declared.base.Base.{Base}
use Rattle.package_lists.specs.declared.kind.EntryKind.{EntryKind}
use Rattle.package_lists.specs.declared.kind.EntryKind.TheVariants.{Folder, File, Conf, LinkTo}
use Rattle.system_base.specs.Bases.{is_base}
use Rattle.package_lists.specs.Entries.{EntryParts, HasName, is_any, is_conf, has_at, is_folder}
use Rattle.package_lists.specs.EntrySets.{is_one_of}
use Rattle.package_jobs.specs.FileActs.{placing, unpacked, folder_gone, removing, removed, removed_old, conf_gone, dir_gone, acts_of, IsOfPackage}
use Rattle.package_lists.specs.Paths.{Paths, path_text, plain_path}
use Rattle.scenario_runs.specs.Acts.{HasName as IsNamed}

-- an act can be done on every tree, its path has a name, and it is one on a file of a package
abbrev IsFine : Act → Type 0
IsFine act = IsPerformed act × (IsNamed act × IsOfPackage act)

abbrev Done : List Act → Type 0
Done acts = All IsFine acts

none_done : Done []
none_done = All-nil IsFine

one_done : (act : Act) → IsFine act → Done (act ∷ [])
one_done act h = All-cons IsFine act [] h none_done

filled : (names : List (List ℕ)) → 0 < length names → names ≢ []
filled [] lt = absurd (omega (arith, lt))
filled (name ∷ names) lt = λ e. cc

module _ (names : List (List ℕ)) (lt : 0 < length names) where
  abbrev is_filled : names ≢ []
  is_filled = filled names lt

  ensure_dir : Done (EnsureDir (plain_path names) ∷ [])
  ensure_dir = one_done _ (((λ e. (is_filled, is_filled)), tt), (is_filled, refl))

  place_file : Done (PlaceFile (plain_path names) ∷ [])
  place_file = one_done _ (((λ e. (is_filled, is_filled)), tt), (is_filled, refl))

  place_link : (target : List ℕ) → Done (PlaceLink (plain_path names) target ∷ [])
  place_link target = one_done _ (((λ e. (is_filled, is_filled)), tt), (is_filled, refl))

  place_conf : (b : Bool) → Done (if b then PlaceConf (plain_path names) ∷ [] else [])
  place_conf true = one_done _ (((λ e. (is_filled, is_filled)), tt), (is_filled, refl))
  place_conf false = none_done

  discard : Done (Discard (plain_path names) ∷ [])
  discard = one_done _ (((λ e. (is_filled, is_filled)), tt), (is_filled, refl))

  folder_done : (b : Bool) → Done (folder_gone b names)
  folder_done true = none_done
  folder_done false = one_done _ (((λ e. (is_filled, is_filled)), tt), (is_filled, refl))

  placing_done : (kind : EntryKind) (conf : Bool) → Done (placing kind names conf)
  placing_done Folder conf = ensure_dir
  placing_done File conf = place_file
  placing_done (LinkTo target) conf = place_link target
  placing_done Conf conf = place_conf conf

  removing_done : (kind : EntryKind) (base : Bool) → Done (removing kind names base)
  removing_done Folder base = folder_done base
  removing_done File base = discard
  removing_done (LinkTo target) base = discard
  removing_done Conf base = none_done

either_done : (b : Bool) (acts others : List Act) → Done acts → Done others → Done (if b then acts else others)
either_done true acts others h k = h
either_done false acts others h k = k

each_done : (f : EntryParts → List Act) → ((e : EntryParts) → HasName e → Done (f e)) → (es : List EntryParts) → All HasName es → Done (flat_map f es)
each_done f h [] all = none_done
each_done f h (e ∷ es) all =
    All-append IsFine (f e) (flat_map f es) (h e (All-head HasName e es all)) (each_done f h es (All-tail HasName e es all))

named_back : (es : List EntryParts) → All HasName es → All HasName (reverse es)
named_back es all k d lt =
    let within : k < length es = omega (arith, lt, length-reverse es) in
    subst HasName (sym (get_or-reverse es k d within)) (all (length es - 1 - k) d (omega (arith, within)))

module _ (base : Paths) where
  removed_done : (e : EntryParts) → HasName e → Done (removed base e)
  removed_done e named = removing_done e.names named e.kind (base (path_text e.names))

  dir_done : (e : EntryParts) → HasName e → Done (dir_gone base e)
  dir_done e named =
      either_done (is_folder e.kind) _ [] (folder_done e.names named (base (path_text e.names))) none_done

conf_done : (e : EntryParts) → HasName e → Done (conf_gone e)
conf_done e named = either_done (is_conf e.kind) _ [] (discard e.names named) none_done

pub acts_done : (s : Scenario) (work : StepWork) (new old : List EntryParts) (base : Base)
    → All HasName new → All HasName old → Done (acts_of s work new old base)
acts_done s (Script side k) new old base n m = none_done
acts_done s Restore new old base n m = none_done
acts_done s Unpack new old base n m =
    let placed = (columns_of s).conffiles in
    each_done (unpacked placed (has_at is_conf old)) (λ e named. placing_done e.names named e.kind (is_one_of placed (has_at is_conf old) (path_text e.names))) new n
acts_done s RemoveFiles new old base n m =
    each_done (removed (is_base base)) (removed_done (is_base base)) (reverse new) (named_back new n)
acts_done s RemoveOld new old base n m =
    each_done (removed_old (has_at is_any new) (is_base base))
    (λ e named. either_done (has_at is_any new (path_text e.names)) [] _ none_done (removed_done (is_base base) e named)) (reverse old) (named_back old m)
acts_done s RemoveConf new old base n m =
    All-append IsFine _ _
    (each_done conf_gone conf_done (reverse new) (named_back new n))
    (each_done (dir_gone (is_base base)) (dir_done (is_base base)) (reverse new) (named_back new n))

pub acts_performed : (s : Scenario) (work : StepWork) (new old : List EntryParts) (base : Base)
    → All HasName new → All HasName old → All IsPerformed (acts_of s work new old base)
acts_performed s work new old base n m =
    All-weaker IsFine IsPerformed (λ act h. h.0) (acts_of s work new old base) (acts_done s work new old base n m)

pub acts_named : (s : Scenario) (work : StepWork) (new old : List EntryParts) (base : Base)
    → All HasName new → All HasName old → All IsNamed (acts_of s work new old base)
acts_named s work new old base n m =
    All-weaker IsFine IsNamed (λ act h. h.1.0) (acts_of s work new old base) (acts_done s work new old base n m)

pub acts_of_package : (s : Scenario) (work : StepWork) (new old : List EntryParts) (base : Base)
    → All HasName new → All HasName old → All IsOfPackage (acts_of s work new old base)
acts_of_package s work new old base n m =
    All-weaker IsFine IsOfPackage (λ act h. h.1.1) (acts_of s work new old base) (acts_done s work new old base n m)
