-- The acts of entries, by what two sets have.
use Rattle.std.proofs.Common.{◌≡◌, ℕ, Bool, List, [], ◌∷◌, ◌++◌, refl, sym, ap, ◌∙◌}
use Rattle.std.specs.Prelude.{not, reverse, Result, Ok, Err, IfOk, if◌then◌else◌}
use Rattle.std.specs.List.{flat_map}
use Rattle.utility_calls.specs.declared.acts.Act.{Act}
use Rattle.dpkg_scenarios.specs.declared.scenario.Scenario.{Scenario}
use Rattle.dpkg_scenarios.specs.declared.columns.NewEntries.{NewEntries}
use Rattle.dpkg_scenarios.specs.declared.columns.NewEntries.TheVariants.{Every, Added, NoEntry}
use Rattle.dpkg_scenarios.specs.declared.scenario.StepWork.{StepWork}
use Rattle.dpkg_scenarios.specs.declared.scenario.StepWork.TheVariants.{RemoveConf}
use Rattle.system_base.specs.declared.base.Base.{Base}
use Rattle.system_base.specs.Bases.{is_base}
use Rattle.package_lists.specs.Entries.{EntryParts, is_folder}
use Rattle.package_lists.specs.EntrySets.{is_one_of}
use Rattle.package_jobs.specs.FileActs.{placing, unpacked, removing, removed, removed_old, conf_gone, dir_gone, folder_gone, acts_of}
use Rattle.package_lists.specs.Paths.{Paths, path_text}

abbrev Acts : Type 0
Acts = EntryParts → List Act

pub each_same : (f g : Acts) → ((e : EntryParts) → f e ≡ g e) → (es : List EntryParts) → flat_map f es ≡ flat_map g es
each_same f g same [] = refl
each_same f g same (e ∷ es) = ap (λ l. l ++ flat_map f es) (same e) ∙ ap (λ l. g e ++ l) (each_same f g same es)

module _ (f g : Paths) (same : (p : List ℕ) → f p ≡ g p) where
  pub one_of_same : (which : NewEntries) (p : List ℕ) → is_one_of which f p ≡ is_one_of which g p
  one_of_same Every p = refl
  one_of_same Added p = ap not (same p)
  one_of_same NoEntry p = refl

  pub unpacked_same : (which : NewEntries) (es : List EntryParts) → flat_map (unpacked which f) es ≡ flat_map (unpacked which g) es
  unpacked_same which es = each_same (unpacked which f) (unpacked which g) (λ e. ap (placing e.kind e.names) (one_of_same which (path_text e.names))) es

  removed_one : (e : EntryParts) → removed f e ≡ removed g e
  removed_one e = ap (removing e.kind e.names) (same (path_text e.names))

  pub removed_same : (es : List EntryParts) → flat_map (removed f) es ≡ flat_map (removed g) es
  removed_same es = each_same (removed f) (removed g) removed_one es

  pub dirs_same : (es : List EntryParts) → flat_map (dir_gone f) es ≡ flat_map (dir_gone g) es
  dirs_same es = each_same (dir_gone f) (dir_gone g) (λ e. ap (λ (b : Bool). if is_folder e.kind then folder_gone b e.names else []) (same (path_text e.names))) es

  pub old_same : (h k : Paths) → ((p : List ℕ) → h p ≡ k p) → (es : List EntryParts) → flat_map (removed_old h f) es ≡ flat_map (removed_old k g) es
  old_same h k other es =
      each_same (removed_old h f) (removed_old k g)
      (λ e. ap (λ (b : Bool). if b then [] else removed f e) (other (path_text e.names)) ∙ ap (λ (l : List Act). if k (path_text e.names) then [] else l) (removed_one e)) es

-- what the removal of configuration files and directories answers
pub conf_answer : {E : Type 0} (s : Scenario) (work : StepWork) (new old : List EntryParts) (base : Base) (all : List EntryParts) (kept : Paths)
    → work ≡ RemoveConf → all ≡ reverse new → ((p : List ℕ) → kept p ≡ is_base base p) → (r : Result (List Act) E)
    → IfOk r (λ acts. acts ≡ flat_map conf_gone all ++ flat_map (dir_gone kept) all)
    → IfOk r (λ acts. acts ≡ acts_of s work new old base)
conf_answer s work new old base all kept w a k (Ok acts) e =
    e ∙ ap (λ l. flat_map conf_gone l ++ flat_map (dir_gone kept) l) a
    ∙ ap (λ l. flat_map conf_gone (reverse new) ++ l) (dirs_same kept (is_base base) k (reverse new))
    ∙ sym (ap (λ w. acts_of s w new old base) w)
conf_answer s work new old base all kept w a k (Err f) e = tt
