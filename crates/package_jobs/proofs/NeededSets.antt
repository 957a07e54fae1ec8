-- What is needed, by sets that have the same paths and names.
use Rattle.std.proofs.Common.{◌≡◌, ℕ, ◌+◌, ◌<◌, Bool, true, false, List, [], ◌∷◌, ◌++◌, length, take, get_or, refl, sym, ap, ◌∙◌, arith}
use Rattle.std.specs.Prelude.{not, ◌&&◌, ◌||◌, if◌then◌else◌}
use Rattle.std.specs.List.{flat_map, list_any}
use Rattle.std.proofs.lemmas.List.{take_more, flat_map_more}
use Rattle.script_names.specs.Paths.{PathParts}
use Rattle.start_trees.specs.declared.need.Need.{Need}
use Rattle.link_walks.specs.declared.walks.Reached.TheVariants.{At}
use Rattle.dpkg_scenarios.specs.declared.columns.NewEntries.{NewEntries}
use Rattle.dpkg_scenarios.specs.declared.columns.OwnFolders.{OwnFolders}
use Rattle.dpkg_scenarios.specs.declared.columns.OwnFolders.TheVariants.{NoFolder, Dropped, Standing, Left}
use Rattle.system_base.specs.declared.base.Base.{Base}
use Rattle.system_base.specs.Bases.{is_base}
use Rattle.package_lists.specs.Entries.{EntryParts, is_any, is_folder, has_at}
use Rattle.package_lists.specs.Below.{names_below}
use Rattle.package_lists.specs.FolderNames.{names_at}
use Rattle.package_lists.specs.PathSets.{has}
use Rattle.package_lists.specs.Paths.{Paths, is_among, is_within, path_text, path_texts, folders}
use Rattle.package_jobs.specs.declared.own_needs.Owning.{Owning}
use Rattle.package_jobs.specs.StartTrees.{Entries, Links, owner, own_paths, is_own_folder, is_to_own, entry_places, place_of}
use Rattle.package_jobs.specs.Needed.{fit_needs, kinds_owned, names_need, folder_needs, own_needs, needs_to_own, gone_needs}
use Rattle.package_jobs.specs.Owning.{GoesBy}

-- which entries have to fit
pub fit_needs_same : (which : NewEntries) (f g : Paths) → ((path : List ℕ) → f path ≡ g path) → (links : Links) (es : Entries)
    → flat_map (fit_needs which f links) es ≡ flat_map (fit_needs which g links) es
fit_needs_same which f g same links es = λ i. flat_map (fit_needs which (λ path. same path i) links) es

-- what a removal took away
pub gone_needs_same : (base : Base) (f g : Paths) → ((path : List ℕ) → f path ≡ g path) → (es : Entries)
    → flat_map (gone_needs base f) es ≡ flat_map (gone_needs base g) es
gone_needs_same base f g same es = λ i. flat_map (gone_needs base (λ path. same path i)) es

-- which folders hold no foreign entry
pub own_needs_are : (own : OwnFolders) (base : Base) (new old entries : Entries) (links : Links) (owning : Owning)
    → GoesBy base new entries owning → entries ≡ owner own new old → links ≡ base.links
    → flat_map (own_needs own (has owning.paths) (has owning.listed) (has owning.based) (names_at owning.names) links) entries
    ≡ needs_to_own own base new old
own_needs_are own base new old entries links owning by is_owner is_links =
    (λ i. flat_map (own_needs own (λ path. by.paths path i) (λ path. by.listed path i) (λ path. by.based path i) (λ path. by.names path i) links) entries)
    ∙ (λ i. flat_map (own_needs own (own_paths base) (has_at is_any new) (is_base base) (names_below (entry_places base.links (is_owner i))) (is_links i)) (is_owner i))

-- where a folder leads that is a directory of the base, or none
pub folder_based : (own : OwnFolders) (based : Paths) (below : List ℕ → List (List ℕ)) (p : PathParts) → based (path_text p.names) ≡ true
    → folder_needs own based below (At p) ≡ []
folder_based own based below p e =
    ap (λ (b : Bool). if not b then kinds_owned own p ++ names_need p (below (path_text p.names)) ∷ [] else []) e

pub folder_free : (own : OwnFolders) (based : Paths) (below : List ℕ → List (List ℕ)) (p : PathParts) → based (path_text p.names) ≡ false
    → folder_needs own based below (At p) ≡ kinds_owned own p ++ names_need p (below (path_text p.names)) ∷ []
folder_free own based below p e =
    ap (λ (b : Bool). if not b then kinds_owned own p ++ names_need p (below (path_text p.names)) ∷ [] else []) e

-- what one entry more needs
pub one_more : (f : EntryParts → List Need) (es : Entries) (k : ℕ) (d : EntryParts) → k < length es → (begun now next : List Need)
    → now ≡ begun ++ flat_map f (take k es) → next ≡ now ++ f (get_or es k d) → next ≡ begun ++ flat_map f (take (k + 1) es)
one_more f es k d lt begun now next is more =
    more ∙ ap (λ l. l ++ f (get_or es k d)) is ∙ flat_map_more f begun (take k es) (get_or es k d)
    ∙ ap (λ l. begun ++ flat_map f l) (sym (take_more es k d lt))

-- ---- where no line says `own`

pub none_there : {X : Type 0} (xs : List X) → length xs ≡ 0 → xs ≡ []
none_there [] e = refl
none_there (x ∷ xs) e = absurd (omega (arith, e))

none_of : (xs : List (List ℕ)) → list_any (λ x. false) xs ≡ false
none_of [] = refl
none_of (x ∷ xs) = none_of xs

within_none : (names : List (List ℕ)) → is_within (λ path. false) names ≡ false
within_none names = ap (λ b. b || false) (none_of (folders names))

and_false : (b : Bool) → (b && false) ≡ false
and_false true = refl
and_false false = refl

no_own_folder : (e : EntryParts) → is_own_folder (λ path. false) e ≡ false
no_own_folder e = ap (λ b. is_folder e.kind && b) (within_none e.names) ∙ and_false (is_folder e.kind)

none_to_own : (own : OwnFolders) (listed : Paths) (e : EntryParts) → is_to_own own (λ path. false) listed e ≡ false
none_to_own NoFolder listed e = refl
none_to_own Dropped listed e = ap (λ b. b && not (listed (path_text e.names))) (no_own_folder e)
none_to_own Standing listed e = no_own_folder e
none_to_own Left listed e = no_own_folder e

none_needed : (own : OwnFolders) (listed based : Paths) (below : List ℕ → List (List ℕ)) (links : Links) (es : Entries)
    → flat_map (own_needs own (λ path. false) listed based below links) es ≡ []
none_needed own listed based below links [] = refl
none_needed own listed based below links (e ∷ es) =
    ap (λ (b : Bool). (if b then folder_needs own based below (place_of links e) else []) ++ flat_map (own_needs own (λ path. false) listed based below links) es)
    (none_to_own own listed e)
    ∙ none_needed own listed based below links es

pub nothing_to_own : (own : OwnFolders) (base : Base) (new old : Entries) → base.own ≡ [] → needs_to_own own base new old ≡ []
nothing_to_own own base new old none =
    let entries = owner own new old in
    (λ i. flat_map (own_needs own (is_among (path_texts (none i))) (has_at is_any new) (is_base base) (names_below (entry_places base.links entries)) base.links) entries)
    ∙ none_needed own (has_at is_any new) (is_base base) (names_below (entry_places base.links entries)) base.links entries
