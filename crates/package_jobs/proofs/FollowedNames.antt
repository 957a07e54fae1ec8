-- The acts on files, taken along known links, can be done on every tree, and their paths have names.
use Rattle.std.proofs.Common.{◌≡◌, ◌≢◌, ℕ, zero, suc, ◌<◌, ◌≤◌, Bool, true, false, List, [], ◌∷◌, ◌++◌, length, map, All, Option, Some, None, refl, sym, ap, subst, ◌∙◌, arith, if◌then◌else◌}
use Rattle.std.specs.List.{find}
use Rattle.std.specs.Option.{option_map, option_or}
use Rattle.std.proofs.lemmas.Option.{same_Some}
use Rattle.std.proofs.lemmas.List.Elements.{All-nil, All-cons, All-head, All-tail}
use Rattle.script_names.specs.Paths.{PathParts}
use Rattle.utility_calls.specs.declared.acts.Act.{Act}
use Rattle.utility_calls.specs.declared.acts.Act.TheVariants.{Exists, IsReg, IsDir, IsLink, CanRun, IsSpecial, MakeDir}
use Rattle.utility_calls.specs.declared.acts.Act.TheVariants.{EnsureDir, RemoveDir, Remove, Touch, Symlink, Attr, Move}
use Rattle.utility_calls.specs.declared.acts.Act.TheVariants.{Copy, PlaceFile, PlaceLink, PlaceConf, Discard}
use Rattle.utility_calls.specs.declared.acts.Act.TheVariants.{DiscardDir}
use Rattle.utility_calls.specs.Acts.{path_of, IsPerformed}
use Rattle.utility_calls.specs.Pairs.{same_names}
use Rattle.link_walks.specs.declared.walks.Reached.{Reached}
use Rattle.link_walks.specs.declared.walks.Reached.TheVariants.{At, Blocked}
use Rattle.link_walks.specs.declared.walks.TheConstants.{MOST_LINKS}
use Rattle.link_walks.specs.Links.{LinkParts}
use Rattle.link_walks.specs.Reaching.{Met, link_at, met_here, met, led, led_path, is_length, stays, goes_on, reach_in, reach}
use Rattle.link_walks.specs.Following.{follows_last, with_path, at_reached, second_along, along, changes_link, takes_end, asked_at, follow_act}
use Rattle.link_walks.specs.Performing.{is_of_package, FollowedFilesArePerformed}
use Rattle.scenario_runs.specs.Acts.{HasName}
use Rattle.package_jobs.specs.FileActs.{AreListed, IsOfPackage, StandsSomewhere}

filled : (names : List (List ℕ)) → 0 < length names → names ≢ []
filled [] lt = absurd (omega (arith, lt))
filled (name ∷ names) lt = λ e. cc

-- what holds of all holds of the one that is found
found : (P : LinkParts → Type 0) (p : LinkParts → Bool) (links : List LinkParts) (link : LinkParts) → All P links
    → find p links ≡ Some link → P link
found P p [] link all e = absurd (cc)
found P p (x ∷ xs) link all e =
    by (p x) e (λ rest. found P p xs link (All-tail P x xs all) rest)
  where
    by : (b : Bool) → (if b then Some x else find p xs) ≡ Some link → (find p xs ≡ Some link → P link) → P link
    by true e later = subst P (same_Some x link e) (All-head P x xs all)
    by false e later = later e

same_blocked : (p q : PathParts) → Blocked p ≡ Blocked q → p ≡ q
same_blocked p q e = ap (λ r. elim r [ At x ↦ x | Blocked x ↦ x ]) e

module _ (links : List LinkParts) (all : All StandsSomewhere links) where
  -- the link that a path meets
  met_named : (last : Bool) (before names : List (List ℕ)) (m : Met) → met links last before names ≡ Some m
      → StandsSomewhere m.link
  met_named last before [] m e = absurd (cc)
  met_named true before (f ∷ []) m e = by (link_at links (before ++ f ∷ [])) refl e
    where
      by : (o : Option LinkParts) → link_at links (before ++ f ∷ []) ≡ o → met_here [] o None ≡ Some m → StandsSomewhere m.link
      by None is e = absurd (cc)
      by (Some link) is e =
          subst (λ (x : Met). StandsSomewhere x.link) (same_Some _ m e)
          (found StandsSomewhere (λ link. same_names link.at.names (before ++ f ∷ [])) links link all is)
  met_named false before (f ∷ []) m e = absurd (cc)
  met_named last before (f ∷ g ∷ rest) m e =
      by (link_at links (before ++ f ∷ [])) refl e (met_named last (before ++ f ∷ []) (g ∷ rest) m)
    where
      by : (o : Option LinkParts) → link_at links (before ++ f ∷ []) ≡ o
          → met_here (g ∷ rest) o (met links last (before ++ f ∷ []) (g ∷ rest)) ≡ Some m
          → (met links last (before ++ f ∷ []) (g ∷ rest) ≡ Some m → StandsSomewhere m.link) → StandsSomewhere m.link
      by None is e later = later e
      by (Some link) is e later =
          subst (λ (x : Met). StandsSomewhere x.link) (same_Some _ m e)
          (found StandsSomewhere (λ link. same_names link.at.names (before ++ f ∷ [])) links link all is)

  -- the path of the link that blocks one
  blocked_in : (n : ℕ) (last : Bool) (p q : PathParts) → reach_in n links last p ≡ Blocked q → 0 < length q.names
  blocked_in zero last p q e = by (met links last [] p.names) refl e
    where
      by : (o : Option Met) → met links last [] p.names ≡ o → stays o p ≡ Blocked q → 0 < length q.names
      by None is e = absurd (cc)
      by (Some m) is e =
          subst (λ (x : PathParts). 0 < length x.names) (same_blocked m.link.at q e) (met_named last [] p.names m is)
  blocked_in (suc n) last p q e =
      by (met links last [] p.names) refl e (λ m e. blocked_in n last (led_path m p.slash) q e)
    where
      room : (m : Met) → met links last [] p.names ≡ Some m → (b : Bool)
          → (if b then reach_in n links last (led_path m p.slash) else Blocked m.link.at) ≡ Blocked q
          → (reach_in n links last (led_path m p.slash) ≡ Blocked q → 0 < length q.names) → 0 < length q.names
      room m is true e next = next e
      room m is false e next =
          subst (λ (x : PathParts). 0 < length x.names) (same_blocked m.link.at q e) (met_named last [] p.names m is)

      by : (o : Option Met) → met links last [] p.names ≡ o → goes_on o p (reach_in n links last) ≡ Blocked q
          → ((m : Met) → reach_in n links last (led_path m p.slash) ≡ Blocked q → 0 < length q.names) → 0 < length q.names
      by None is e next = absurd (cc)
      by (Some m) is e next = room m is (is_length (led m)) e (next m)

  placed : (act : Act) (q : PathParts) → is_of_package act ≡ true → IsPerformed (second_along links (with_path act q))
      → HasName (second_along links (with_path act q))
  placed (Exists p) q h w = absurd (cc)
  placed (IsReg p) q h w = absurd (cc)
  placed (IsDir p) q h w = absurd (cc)
  placed (IsLink p) q h w = absurd (cc)
  placed (CanRun p runs) q h w = absurd (cc)
  placed (IsSpecial p kind) q h w = absurd (cc)
  placed (MakeDir p) q h w = absurd (cc)
  placed (EnsureDir p) q h w = (w.0 refl).0
  placed (RemoveDir p) q h w = absurd (cc)
  placed (Remove p force deep) q h w = absurd (cc)
  placed (Touch p) q h w = absurd (cc)
  placed (Symlink p target last force) q h w = absurd (cc)
  placed (Attr p) q h w = absurd (cc)
  placed (Move a b) q h w = absurd (cc)
  placed (Copy a b deep) q h w = absurd (cc)
  placed (PlaceFile p) q h w = (w.0 refl).0
  placed (PlaceLink p target) q h w = (w.0 refl).0
  placed (PlaceConf p) q h w = (w.0 refl).0
  placed (Discard p) q h w = (w.0 refl).0
  placed (DiscardDir p) q h w = (w.0 refl).0

  along_named : (act : Act) → is_of_package act ≡ true → IsPerformed (along links act) → HasName (along links act)
  along_named act h w = by (reach links (follows_last act) (path_of act)) refl w
    where
      by : (r : Reached) → reach links (follows_last act) (path_of act) ≡ r
          → IsPerformed (at_reached r (λ q. second_along links (with_path act q)))
          → HasName (at_reached r (λ q. second_along links (with_path act q)))
      by (At q) is w = placed act q h w
      by (Blocked p) is w = filled p.names (blocked_in MOST_LINKS (follows_last act) (path_of act) p is)

  pub followed_named : (act : Act) → is_of_package act ≡ true → IsPerformed (follow_act links act) → HasName (follow_act links act)
  followed_named act h w = by (find (changes_link there) links) refl (find (takes_end links there) links) refl w
    where
      there : Act
      there = along links act

      at_link : Option LinkParts → Act
      at_link o = asked_at (option_map (λ link. link.at) o) there

      by : (o : Option LinkParts) → find (changes_link there) links ≡ o → (k : Option LinkParts)
          → find (takes_end links there) links ≡ k → IsPerformed (at_link (option_or o k)) → HasName (at_link (option_or o k))
      by (Some link) e k f w = filled link.at.names (found StandsSomewhere (changes_link there) links link all e)
      by None e (Some link) f w = filled link.at.names (found StandsSomewhere (takes_end links there) links link all f)
      by None e None f w = along_named act h w

  pub all_performed : FollowedFilesArePerformed → (acts : List Act) → All IsOfPackage acts → All HasName acts
      → All IsPerformed (map (follow_act links) acts)
  all_performed law [] of_package named = All-nil IsPerformed
  all_performed law (act ∷ acts) of_package named =
      All-cons IsPerformed (follow_act links act) (map (follow_act links) acts)
      (law links act (All-head IsOfPackage act acts of_package) (All-head HasName act acts named))
      (all_performed law acts (All-tail IsOfPackage act acts of_package) (All-tail HasName act acts named))

  pub all_named : FollowedFilesArePerformed → (acts : List Act) → All IsOfPackage acts → All HasName acts
      → All HasName (map (follow_act links) acts)
  all_named law [] of_package named = All-nil HasName
  all_named law (act ∷ acts) of_package named =
      let is = All-head IsOfPackage act acts of_package in
      All-cons HasName (follow_act links act) (map (follow_act links) acts)
      (followed_named act is (law links act is (All-head HasName act acts named)))
      (all_named law acts (All-tail IsOfPackage act acts of_package) (All-tail HasName act acts named))

pub as_many : (links : List LinkParts) (acts : List Act) → length (map (follow_act links) acts) ≡ length acts
as_many links [] = refl
as_many links (act ∷ acts) = ap suc (as_many links acts)
