-- A known link that stands at a path.
use Rattle.std.proofs.Common.{◌≡◌, ◌≢◌, ℕ, ◌==◌, Bool, true, false, List, [], ◌∷◌, ◌++◌, length, Some, refl, sym, ap, subst, ◌∙◌, arith, if◌then◌else◌}
use Rattle.std.proofs.lemmas.Option.{same_Some}
use Rattle.std.proofs.lemmas.List.Splits.{length-slice_split}
use Rattle.script_names.specs.Ascii.{slash}
use Rattle.feature_trees.specs.declared.value.Value.{Value}
use Rattle.feature_trees.specs.declared.value.Value.TheVariants as value
use Rattle.feature_trees.specs.declared.kind.Kind.TheVariants as kind
use Rattle.feature_trees.specs.Tree.{entry, at, kind_of}
use Rattle.utility_calls.specs.Pairs.{same_names}
use Rattle.utility_calls.proofs.Ways.{at_absent}
use Rattle.link_walks.specs.Links.{LinkParts, IsKnownLink, AreLinks, target_names, behind_root, above, base_of}
use Rattle.link_walks.specs.Links.{place_names}
use Rattle.link_walks.specs.Reaching.{link_at}
use Rattle.link_walks.specs.Resolving.{AreStated}
use Rattle.link_walks.proofs.SameNames.{same_equal}

-- what is known of the link that was found at these names
pub record IsFound (tree : Value) (names : List (List ℕ)) (link : LinkParts) : Type 0 where
  pub is_link : IsKnownLink link
  pub at_names : link.at.names ≡ names
  pub stands : at tree names ≡ value.Link link.target

pub found : (links : List LinkParts) (tree : Value) (names : List (List ℕ)) (link : LinkParts) → AreLinks links
    → AreStated links tree → link_at links names ≡ Some link → IsFound tree names link
found [] tree names link a s e = absurd (cc)
found (x ∷ xs) tree names link a s e =
    by (same_names x.at.names names) refl e (λ rest. found xs tree names link a.1 s.1 rest)
  where
    by : (b : Bool) → same_names x.at.names names ≡ b → (if b then Some x else link_at xs names) ≡ Some link
        → (link_at xs names ≡ Some link → IsFound tree names link) → IsFound tree names link
    by true h e later =
        let same = same_equal x.at.names names h in
        subst (IsFound tree names) (same_Some x link e)
        (record {
          is_link = a.0;
          at_names = same;
          stands = subst (λ n. at tree n ≡ value.Link x.target) same s.0;
        })
    by false h e later = later e

-- a target has a name
pub some_names : (target : List ℕ) → target_names target ≢ []
some_names target e =
    let count = length-slice_split (λ b. b == slash) (behind_root target) in
    let none : length (target_names target) ≡ 0 = ap length e in omega (arith, count, none)

-- names behind others are some, where they are
pub behind_some : (p q : List (List ℕ)) → q ≢ [] → p ++ q ≢ []
behind_some [] q some = some
behind_some (f ∷ p) q some = λ e. cc

-- the place of a link has a name
pub place_some : (names : List (List ℕ)) (target : List ℕ) → place_names names target ≢ []
place_some names target = behind_some (base_of target (above names)) (target_names target) (some_names target)

-- what stands at a path goes on from what stands at its beginning
pub at_append : (v : Value) (p q : List (List ℕ)) → at v (p ++ q) ≡ at (at v p) q
at_append v [] q = refl
at_append v (f ∷ p) q = at_append (entry v f) p q

-- where something stands below, a directory stands
pub holds_dir : (v : Value) (f : List ℕ) (rest : List (List ℕ)) (b : List ℕ) → at v (f ∷ rest) ≡ value.Link b
    → kind_of v ≡ kind.Dir
holds_dir value.Absent f rest b e = absurd (let x : value.Absent ≡ value.Link b = sym (at_absent rest) ∙ e in cc)
holds_dir value.Reg f rest b e = absurd (let x : value.Absent ≡ value.Link b = sym (at_absent rest) ∙ e in cc)
holds_dir (value.Link c) f rest b e = absurd (let x : value.Absent ≡ value.Link b = sym (at_absent rest) ∙ e in cc)
holds_dir (value.Special k) f rest b e = absurd (let x : value.Absent ≡ value.Link b = sym (at_absent rest) ∙ e in cc)
holds_dir (value.Dir es) f rest b e = refl
