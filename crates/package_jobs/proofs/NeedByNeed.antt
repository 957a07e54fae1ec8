-- What is needed, need by need, is what a start tree has.
use Rattle.std.proofs.Common.{◌≡◌, ◌≢◌, ◌⊎◌, ◌↔◌, ℕ, Bool, true, false, List, [], ◌∷◌, ◌++◌, map, All, inl, inr, refl, sym, ap, subst, ◌∙◌}
use Rattle.std.specs.Prelude.{IsTrue, not, if◌then◌else◌}
use Rattle.std.specs.List.{flat_map}
use Rattle.std.proofs.lemmas.List.{append_assoc}
use Rattle.std.proofs.lemmas.List.Elements.{All-nil, All-cons, All-head, All-tail}
use Rattle.feature_trees.specs.declared.value.Value.{Value}
use Rattle.script_names.specs.Paths.{PathParts}
use Rattle.feature_trees.specs.declared.kind.Kind.{Kind}
use Rattle.feature_trees.specs.declared.kind.Kinds.{Kinds}
use Rattle.feature_trees.specs.declared.kind.Kind.TheVariants.{Absent, Reg, Link, Special, Dir}
use Rattle.feature_trees.specs.declared.kind.Special.TheVariants.{Fifo, Socket, Block, Char}
use Rattle.feature_trees.specs.Kinds.{has, none, of, but, two}
use Rattle.feature_trees.specs.Tree.{at, kind_of}
use Rattle.start_trees.specs.declared.need.Need.{Need}
use Rattle.clause_solver.specs.Stands.{IsFenced}
use Rattle.start_trees.specs.declared.need.Wanted.TheVariants as wanted
use Rattle.start_trees.specs.Needs.{MeetsNeed, MeetsNeeds, IsStart}
use Rattle.link_walks.specs.declared.walks.Reached.{Reached}
use Rattle.link_walks.specs.declared.walks.Reached.TheVariants.{At, Blocked}
use Rattle.link_walks.specs.Links.{LinkParts}
use Rattle.link_walks.specs.Reaching.{reach}
use Rattle.dpkg_scenarios.specs.declared.columns.Before.{Before}
use Rattle.dpkg_scenarios.specs.declared.columns.Before.TheVariants as before
use Rattle.dpkg_scenarios.specs.declared.columns.Columns.{Columns}
use Rattle.dpkg_scenarios.specs.declared.columns.NewEntries.{NewEntries}
use Rattle.dpkg_scenarios.specs.declared.columns.OwnFolders.{OwnFolders}
use Rattle.dpkg_scenarios.specs.declared.columns.OwnFolders.TheVariants.{NoFolder, Dropped, Standing, Left}
use Rattle.dpkg_scenarios.specs.declared.scenario.Scenario.{Scenario}
use Rattle.dpkg_scenarios.specs.Scenarios.{columns_of}
use Rattle.system_base.specs.declared.base.Base.{Base}
use Rattle.system_base.specs.declared.base.KnownPath.{KnownPath}
use Rattle.package_lists.specs.declared.kind.EntryKind.{EntryKind}
use Rattle.package_lists.specs.declared.kind.EntryKind.TheVariants.{Folder, File, Conf, LinkTo}
use Rattle.system_base.specs.Bases.{is_base}
use Rattle.package_lists.specs.Entries.{EntryParts, is_any, is_conf, has_at, has_conf_below}
use Rattle.package_lists.specs.Below.{names_below}
use Rattle.package_lists.specs.Paths.{Paths, path_text}
use Rattle.checker_input.specs.declared.package.Packages.{Packages}
use Rattle.package_jobs.specs.declared.needs.Asked.{Asked}
use Rattle.package_jobs.specs.declared.needs.Asked.TheVariants.{Placed, Fit}
use Rattle.package_jobs.specs.Plain.{known_by_scripts}
use Rattle.package_jobs.specs.Sides.{old_of}
use Rattle.package_jobs.specs.StartTrees.{Entries, Links, StandsAt, place_of, IsKnown, IsLinked, Stands, IsPlaced, IsKept, AreBefore, IsFit, Fits, is_to_fit}
use Rattle.package_jobs.specs.StartTrees.{owner, own_paths, is_to_own, entry_places, MayStand, HoldsOwn, Owns, AreOwned, is_left, IsGone, AreGone, IsStartTree}
use Rattle.package_jobs.specs.Needed.{Holds, kinds_asked, need_at, entry_need, known_need, link_needs, kept_needs, needs_before, fit_needs, needs_to_fit, needs_in}
use Rattle.package_jobs.specs.Needed.{kinds_owned, names_need, folder_needs, own_needs, needs_to_own, gone_needs, needs_gone, needs_removed, needs_plain}

-- ---- sets of kinds

of_dir : (k : Kind) → IsTrue (has (of Dir) k) ↔ (k ≡ Dir)
of_dir Absent = ((λ e. cc), (λ e. cc))
of_dir Reg = ((λ e. cc), (λ e. cc))
of_dir Link = ((λ e. cc), (λ e. cc))
of_dir (Special Fifo) = ((λ e. cc), (λ e. cc))
of_dir (Special Socket) = ((λ e. cc), (λ e. cc))
of_dir (Special Block) = ((λ e. cc), (λ e. cc))
of_dir (Special Char) = ((λ e. cc), (λ e. cc))
of_dir Dir = ((λ e. refl), (λ e. refl))

but_dir : (k : Kind) → IsTrue (has (but Dir) k) ↔ (k ≢ Dir)
but_dir Absent = ((λ e f. cc), (λ e. refl))
but_dir Reg = ((λ e f. cc), (λ e. refl))
but_dir Link = ((λ e f. cc), (λ e. refl))
but_dir (Special Fifo) = ((λ e f. cc), (λ e. refl))
but_dir (Special Socket) = ((λ e f. cc), (λ e. refl))
but_dir (Special Block) = ((λ e f. cc), (λ e. refl))
but_dir (Special Char) = ((λ e f. cc), (λ e. refl))
but_dir Dir = ((λ e. cc), (λ e. absurd (e refl)))

absent_or_dir : (k : Kind) → IsTrue (has (two Absent Dir) k) ↔ ((k ≡ Absent) ⊎ (k ≡ Dir))
absent_or_dir Absent = ((λ e. inl refl), (λ e. refl))
absent_or_dir Reg = ((λ e. cc), (λ s. elim s [ inl e ↦ cc | inr e ↦ cc ]))
absent_or_dir Link = ((λ e. cc), (λ s. elim s [ inl e ↦ cc | inr e ↦ cc ]))
absent_or_dir (Special Fifo) = ((λ e. cc), (λ s. elim s [ inl e ↦ cc | inr e ↦ cc ]))
absent_or_dir (Special Socket) = ((λ e. cc), (λ s. elim s [ inl e ↦ cc | inr e ↦ cc ]))
absent_or_dir (Special Block) = ((λ e. cc), (λ s. elim s [ inl e ↦ cc | inr e ↦ cc ]))
absent_or_dir (Special Char) = ((λ e. cc), (λ s. elim s [ inl e ↦ cc | inr e ↦ cc ]))
absent_or_dir Dir = ((λ e. inr refl), (λ e. refl))

absent_or_reg : (k : Kind) → IsTrue (has (two Absent Reg) k) ↔ ((k ≡ Absent) ⊎ (k ≡ Reg))
absent_or_reg Absent = ((λ e. inl refl), (λ e. refl))
absent_or_reg Reg = ((λ e. inr refl), (λ e. refl))
absent_or_reg Link = ((λ e. cc), (λ s. elim s [ inl e ↦ cc | inr e ↦ cc ]))
absent_or_reg (Special Fifo) = ((λ e. cc), (λ s. elim s [ inl e ↦ cc | inr e ↦ cc ]))
absent_or_reg (Special Socket) = ((λ e. cc), (λ s. elim s [ inl e ↦ cc | inr e ↦ cc ]))
absent_or_reg (Special Block) = ((λ e. cc), (λ s. elim s [ inl e ↦ cc | inr e ↦ cc ]))
absent_or_reg (Special Char) = ((λ e. cc), (λ s. elim s [ inl e ↦ cc | inr e ↦ cc ]))
absent_or_reg Dir = ((λ e. cc), (λ s. elim s [ inl e ↦ cc | inr e ↦ cc ]))

of_absent : (k : Kind) → IsTrue (has (of Absent) k) ↔ (k ≡ Absent)
of_absent Absent = ((λ e. refl), (λ e. refl))
of_absent Reg = ((λ e. cc), (λ e. cc))
of_absent Link = ((λ e. cc), (λ e. cc))
of_absent (Special Fifo) = ((λ e. cc), (λ e. cc))
of_absent (Special Socket) = ((λ e. cc), (λ e. cc))
of_absent (Special Block) = ((λ e. cc), (λ e. cc))
of_absent (Special Char) = ((λ e. cc), (λ e. cc))
of_absent Dir = ((λ e. cc), (λ e. cc))

of_none : (k : Kind) → IsTrue (has none k) → ⊥
of_none Absent e = cc
of_none Reg e = cc
of_none Link e = cc
of_none (Special Fifo) e = cc
of_none (Special Socket) e = cc
of_none (Special Block) e = cc
of_none (Special Char) e = cc
of_none Dir e = cc

-- the kinds that are asked for
kinds_are : (asked : Asked) (kind : EntryKind) (k : Kind) → IsTrue (has (kinds_asked asked kind) k) ↔ Holds asked kind k
kinds_are Placed Folder k = of_dir k
kinds_are Placed File k = but_dir k
kinds_are Placed Conf k = but_dir k
kinds_are Placed (LinkTo target) k = but_dir k
kinds_are Fit Folder k = absent_or_dir k
kinds_are Fit File k = but_dir k
kinds_are Fit Conf k = absent_or_reg k
kinds_are Fit (LinkTo target) k = but_dir k

-- ---- needs

module _ (tree : Value) where
  both_met : (xs ys : List Need) → MeetsNeeds tree (xs ++ ys) ↔ (MeetsNeeds tree xs × MeetsNeeds tree ys)
  both_met [] ys = ((λ m. (tt, m)), (λ m. m.1))
  both_met (x ∷ xs) ys =
      let rest = both_met xs ys in
      ((λ m. ((m.0, (rest.0 m.1).0), (rest.0 m.1).1)), (λ m. (m.0.0, rest.1 (m.0.1, m.1))))

  nothing_met : MeetsNeeds tree [] ↔ Unit {0}
  nothing_met = ((λ m. tt), (λ m. tt))

  one_met : (need : Need) (P : Type 0) → (MeetsNeed tree need ↔ P) → MeetsNeeds tree (need ∷ []) ↔ P
  one_met need P so = ((λ m. so.0 m.0), (λ p. (so.1 p, tt)))

  if_met : (b : Bool) (needs : List Need) (P : Type 0) → (MeetsNeeds tree needs ↔ P)
      → MeetsNeeds tree (if b then needs else []) ↔ (IsTrue b → P)
  if_met true needs P so = ((λ m e. so.0 m), (λ h. so.1 (h refl)))
  if_met false needs P so = ((λ m e. cc), (λ h. tt))

  each_met : {X : Type 0} (f : X → List Need) (P : X → Type 0) → ((x : X) → MeetsNeeds tree (f x) ↔ P x) → (xs : List X)
      → MeetsNeeds tree (flat_map f xs) ↔ All P xs
  each_met f P so [] = ((λ m. All-nil P), (λ a. tt))
  each_met f P so (x ∷ xs) =
      let both = both_met (f x) (flat_map f xs) in
      let rest = each_met f P so xs in (
        (λ m. All-cons P x xs ((so x).0 (both.0 m).0) (rest.0 (both.0 m).1)),
        (λ a. both.1 ((so x).1 (All-head P x xs a), rest.1 (All-tail P x xs a))),
      )

  all_met : {X : Type 0} (f : X → Need) (P : X → Type 0) → ((x : X) → MeetsNeed tree (f x) ↔ P x) → (xs : List X)
      → MeetsNeeds tree (map f xs) ↔ All P xs
  all_met f P so [] = ((λ m. All-nil P), (λ a. tt))
  all_met f P so (x ∷ xs) =
      let rest = all_met f P so xs in (
        (λ m. All-cons P x xs ((so x).0 m.0) (rest.0 m.1)),
        (λ a. ((so x).1 (All-head P x xs a), rest.1 (All-tail P x xs a))),
      )

  -- kinds that are needed where a path leads
  place_met : (place : Reached) (kinds : Kinds) (P : Kind → Type 0) → ((k : Kind) → IsTrue (has kinds k) ↔ P k)
      → MeetsNeed tree (need_at place kinds) ↔ StandsAt place P tree
  place_met (At p) kinds P so = so (kind_of (at tree p.names))
  place_met (Blocked p) kinds P so = ((λ m. of_none (kind_of (at tree p.names)) m), (λ no. absurd no))

  -- ---- the base

  known_met : (ks : List KnownPath) → MeetsNeeds tree (map known_need ks) ↔ All (IsKnown tree) ks
  known_met ks = all_met known_need (IsKnown tree) (λ k. ((λ m. m), (λ m. m))) ks

  link_met : (links : Links) (link : LinkParts) → MeetsNeeds tree (link_needs links link) ↔ IsLinked links tree link
  link_met links link =
      let end = place_met (reach links true link.at) (of Dir) (λ k. k ≡ Dir) of_dir in
      ((λ m. (m.0, end.0 m.1.0)), (λ h. (h.0, (end.1 h.1, tt))))

  links_met : (links : Links) → MeetsNeeds tree (flat_map (link_needs links) links) ↔ All (IsLinked links tree) links
  links_met links = each_met (link_needs links) (IsLinked links tree) (link_met links) links

  -- ---- entries

  entry_met : (asked : Asked) (links : Links) (e : EntryParts)
      → MeetsNeed tree (entry_need asked links e) ↔ Stands (Holds asked) links tree e
  entry_met asked links e =
      place_met (place_of links e) (kinds_asked asked e.kind) (Holds asked e.kind) (kinds_are asked e.kind)

  kept_met : (links : Links) (e : EntryParts) → MeetsNeeds tree (kept_needs links e) ↔ IsKept links tree e
  kept_met links e =
      if_met (is_conf e.kind) (entry_need Placed links e ∷ []) (Stands IsPlaced links tree e)
      (one_met (entry_need Placed links e) (Stands IsPlaced links tree e) (entry_met Placed links e))

  placed_met : (links : Links) (es : Entries)
      → MeetsNeeds tree (map (entry_need Placed links) es) ↔ All (Stands IsPlaced links tree) es
  placed_met links es = all_met (entry_need Placed links) (Stands IsPlaced links tree) (entry_met Placed links) es

  before_met : (b : Before) (links : Links) (new old : Entries)
      → MeetsNeeds tree (needs_before b links new old) ↔ AreBefore b links new old tree
  before_met before.NotInstalled links new old = nothing_met
  before_met before.ConfigFiles links new old = each_met (kept_needs links) (IsKept links tree) (kept_met links) new
  before_met before.Installed links new old = placed_met links new
  before_met before.OldInstalled links new old = placed_met links old

  fit_met : (which : NewEntries) (listed : Paths) (links : Links) (e : EntryParts)
      → MeetsNeeds tree (fit_needs which listed links e) ↔ Fits which listed links tree e
  fit_met which listed links e =
      if_met (is_to_fit which listed e) (entry_need Fit links e ∷ []) (Stands IsFit links tree e)
      (one_met (entry_need Fit links e) (Stands IsFit links tree e) (entry_met Fit links e))

  fits_met : (which : NewEntries) (base : Base) (new old : Entries)
      → MeetsNeeds tree (needs_to_fit which base new old)
      ↔ (IsTrue base.fits → All (Fits which (has_at is_any old) base.links tree) new)
  fits_met which base new old =
      let listed = has_at is_any old in
      if_met base.fits (flat_map (fit_needs which listed base.links) new) _
      (each_met (fit_needs which listed base.links) (Fits which listed base.links tree) (fit_met which listed base.links) new)

  -- ---- folders that hold no foreign entry

  kinds_met : (own : OwnFolders) (p : PathParts)
      → MeetsNeeds tree (kinds_owned own p) ↔ MayStand own (kind_of (at tree p.names))
  kinds_met NoFolder p = nothing_met
  kinds_met Dropped p = nothing_met
  kinds_met Standing p = nothing_met
  kinds_met Left p =
      one_met (record { path = p; wanted = wanted.Kinds (two Absent Dir) }) (MayStand Left (kind_of (at tree p.names)))
      (absent_or_dir (kind_of (at tree p.names)))

  path_met : (own : OwnFolders) (p : PathParts) (names : List (List ℕ))
      → MeetsNeeds tree (kinds_owned own p ++ names_need p names ∷ [])
      ↔ (MayStand own (kind_of (at tree p.names)) × IsFenced (at tree p.names) names)
  path_met own p names =
      let both = both_met (kinds_owned own p) (names_need p names ∷ []) in
      let kinds = kinds_met own p in
      ((λ m. (kinds.0 (both.0 m).0, (both.0 m).1.0)), (λ h. both.1 (kinds.1 h.0, (h.1, tt))))

  folder_met : (own : OwnFolders) (based : Paths) (below : List ℕ → List (List ℕ)) (place : Reached)
      → MeetsNeeds tree (folder_needs own based below place) ↔ HoldsOwn own based below place tree
  folder_met own based below (Blocked p) = nothing_met
  folder_met own based below (At p) =
      if_met (not (based (path_text p.names))) (kinds_owned own p ++ names_need p (below (path_text p.names)) ∷ []) _
      (path_met own p (below (path_text p.names)))

  owns_met : (own : OwnFolders) (base : Base) (new old : Entries)
      → MeetsNeeds tree (needs_to_own own base new old) ↔ AreOwned own base new old tree
  owns_met own base new old =
      let entries = owner own new old in
      let paths = own_paths base in
      let listed = has_at is_any new in
      let based = is_base base in
      let below = names_below (entry_places base.links entries) in
      each_met (own_needs own paths listed based below base.links) (Owns own base listed entries tree)
      (λ e. if_met (is_to_own own paths listed e) (folder_needs own based below (place_of base.links e)) _
      (folder_met own based below (place_of base.links e))) entries

  -- ---- what a removal took away

  gone_met : (base : Base) (above : Paths) (e : EntryParts) → MeetsNeeds tree (gone_needs base above e) ↔ IsGone base above tree e
  gone_met base above e =
      let place = place_of base.links e in
      let need = need_at place (of Absent) in
      if_met (not (is_left base above e)) (need ∷ []) (StandsAt place (λ k. k ≡ Absent) tree)
      (one_met need _ (place_met place (of Absent) (λ k. k ≡ Absent) of_absent))

  all_gone_met : (own : OwnFolders) (base : Base) (new : Entries) → MeetsNeeds tree (needs_gone own base new) ↔ AreGone own base new tree
  all_gone_met NoFolder base new = nothing_met
  all_gone_met Dropped base new = nothing_met
  all_gone_met Standing base new = nothing_met
  all_gone_met Left base new =
      each_met (gone_needs base (has_conf_below new)) (IsGone base (has_conf_below new) tree) (gone_met base (has_conf_below new)) new

  removed_met : (own : OwnFolders) (base : Base) (new : Entries)
      → MeetsNeeds tree (needs_removed own base new) ↔ (IsTrue base.removed → AreGone own base new tree)
  removed_met own base new = if_met base.removed (needs_gone own base new) (AreGone own base new tree) (all_gone_met own base new)

  -- ---- what the scripts name

  plain_met : (columns : Columns) (p : Packages)
      → MeetsNeeds tree (needs_plain columns p) ↔ (IsTrue p.base.plain → All (IsKnown tree) (known_by_scripts columns p))
  plain_met columns p =
      let known = known_by_scripts columns p in
      if_met p.base.plain (map known_need known) (All (IsKnown tree) known) (known_met known)

-- ---- start trees

pub starts_met : (s : Scenario) (p : Packages) (tree : Value) → IsStart (needs_in s p) tree ↔ IsStartTree s p tree
starts_met s p tree =
    let new = p.new_package.entries in
    let old = (old_of p).entries in
    let base = p.base in
    let columns : Columns = columns_of s in
    let known = map known_need base.known in
    let links = flat_map (link_needs base.links) base.links in
    let before = needs_before columns.before base.links new old in
    let fit = needs_to_fit columns.fits base new old in
    let own = needs_to_own columns.own base new old in
    let gone = needs_removed columns.own base new in
    let plain = needs_plain columns p in
    let of_known = known_met tree base.known in
    let of_links = links_met tree base.links in
    let of_before = before_met tree columns.before base.links new old in
    let of_fits = fits_met tree columns.fits base new old in
    let of_own = owns_met tree columns.own base new old in
    let of_gone = removed_met tree columns.own base new in
    let of_plain = plain_met tree columns p in
    let first = both_met tree known (links ++ (before ++ (fit ++ (own ++ (gone ++ plain))))) in
    let second = both_met tree links (before ++ (fit ++ (own ++ (gone ++ plain)))) in
    let third = both_met tree before (fit ++ (own ++ (gone ++ plain))) in
    let fourth = both_met tree fit (own ++ (gone ++ plain)) in
    let fifth = both_met tree own (gone ++ plain) in
    let last = both_met tree gone plain in (
      (λ start.
          let m1 = first.0 start.met in
          let m2 = second.0 m1.1 in
          let m3 = third.0 m2.1 in
          let m4 = fourth.0 m3.1 in
          let m5 = fifth.0 m4.1 in
          let m6 = last.0 m5.1 in record {
            is_tree = start.is_tree;
            base = of_known.0 m1.0;
            links = of_links.0 m2.0;
            before = of_before.0 m3.0;
            fits = of_fits.0 m4.0;
            own = of_own.0 m5.0;
            removed = of_gone.0 m6.0;
            plain = of_plain.0 m6.1;
          }),
      (λ start. record {
        is_tree = start.is_tree;
        met = first.1 (
          of_known.1 start.base,
          second.1 (
            of_links.1 start.links,
            third.1 (
              of_before.1 start.before,
              fourth.1 (
                of_fits.1 start.fits,
                fifth.1 (of_own.1 start.own, last.1 (of_gone.1 start.removed, of_plain.1 start.plain)),
              ),
            ),
          ),
        );
      }),
    )

-- what is needed, by a record, a base and entries, before what the scripts name
abbrev all_needs : Columns → Base → Entries → Entries → List Need → List Need
all_needs columns base new old plain =
    map known_need base.known
    ++ (flat_map (link_needs base.links) base.links
    ++ (needs_before columns.before base.links new old
    ++ (needs_to_fit columns.fits base new old
    ++ (needs_to_own columns.own base new old ++ (needs_removed columns.own base new ++ plain)))))

joined : (a b c d e f g : List Need)
    → (((((a ++ b) ++ c) ++ d) ++ e) ++ f) ++ g ≡ a ++ (b ++ (c ++ (d ++ (e ++ (f ++ g)))))
joined a b c d e f g =
    append_assoc ((((a ++ b) ++ c) ++ d) ++ e) f g ∙ append_assoc (((a ++ b) ++ c) ++ d) e (f ++ g)
    ∙ append_assoc ((a ++ b) ++ c) d (e ++ (f ++ g)) ∙ append_assoc (a ++ b) c (d ++ (e ++ (f ++ g)))
    ∙ append_assoc a b (c ++ (d ++ (e ++ (f ++ g))))

-- needs that were added one behind another
pub needs_are : (s : Scenario) (columns : Columns) (p : Packages) (links : Links) (new old : Entries) (none first more most owned gone all : List Need)
    → columns ≡ columns_of s → links ≡ p.base.links → new ≡ p.new_package.entries → old ≡ (old_of p).entries
    → none ≡ [] → first ≡ none ++ (map known_need p.base.known ++ flat_map (link_needs p.base.links) p.base.links)
    → more ≡ first ++ needs_before columns.before links new old
    → most ≡ more ++ needs_to_fit columns.fits p.base new old → owned ≡ most ++ needs_to_own columns.own p.base new old
    → gone ≡ owned ++ needs_removed columns.own p.base new
    → all ≡ gone ++ needs_plain columns p
    → all ≡ needs_in s p
needs_are s columns p links new old none first more most owned behind all is_columns is_links is_new is_old e0 e1 e2 e3 e4 e5 e6 =
    let known = map known_need p.base.known in
    let of_links = flat_map (link_needs p.base.links) p.base.links in
    let before = needs_before columns.before p.base.links new old in
    let fit = needs_to_fit columns.fits p.base new old in
    let own = needs_to_own columns.own p.base new old in
    let gone = needs_removed columns.own p.base new in
    let plain = needs_plain columns p in
    let e2 : more ≡ first ++ before = e2 ∙ ap (λ l. first ++ needs_before columns.before l new old) is_links in
    e6 ∙ ap (λ l. l ++ plain) (e5 ∙ ap (λ l. l ++ gone) (e4 ∙ ap (λ l. l ++ own) (e3 ∙ ap (λ l. l ++ fit) (e2 ∙ ap (λ l. l ++ before) (e1 ∙ ap (λ l. l ++ (known ++ of_links)) e0)))))
    ∙ joined known of_links before fit own gone plain
    ∙ ap (λ c. all_needs c p.base new old (needs_plain c p)) is_columns
    ∙ ap (λ n. all_needs (columns_of s) p.base n old (needs_plain (columns_of s) p)) is_new
    ∙ ap (λ o. all_needs (columns_of s) p.base p.new_package.entries o (needs_plain (columns_of s) p)) is_old

-- needs that are these
pub needs_met : (s : Scenario) (p : Packages) (needs : List Need) → needs ≡ needs_in s p → (tree : Value) → IsStart needs tree ↔ IsStartTree s p tree
needs_met s p needs e tree = subst (λ ns. IsStart ns tree ↔ IsStartTree s p tree) (sym e) (starts_met s p tree)
