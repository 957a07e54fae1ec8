-- Acts that are followed meet their conditions: the path that is reached has a name where the path has one, and a move
-- to itself is told apart.
use Rattle.std.proofs.Common.{◌≡◌, ◌≢◌, ℕ, zero, suc, Bool, true, false, ◌||◌, List, [], ◌∷◌, map, All, Option, Some, None, refl, sym, ap, subst, ◌∙◌, arith, if◌then◌else◌}
use Rattle.std.specs.List.{list_any}
use Rattle.std.specs.Option.{option_map}
use Rattle.std.proofs.lemmas.List.Elements.{All-nil, All-cons}
use Rattle.script_names.specs.Paths.{PathParts}
use Rattle.utility_calls.specs.declared.acts.Act.{Act}
use Rattle.utility_calls.specs.declared.acts.Act.TheVariants.{Exists, IsReg, IsDir, IsLink, CanRun, IsSpecial, MakeDir}
use Rattle.utility_calls.specs.declared.acts.Act.TheVariants.{EnsureDir, RemoveDir, Remove, Touch, Symlink, Attr, Move}
use Rattle.utility_calls.specs.declared.acts.Act.TheVariants.{Copy, PlaceFile, PlaceLink, PlaceConf, Discard, DiscardDir}
use Rattle.utility_calls.specs.declared.planned.Planned.{Planned}
use Rattle.utility_calls.specs.declared.planned.Planned.TheVariants.{Known, Ask, Print, Change, Unspecified}
use Rattle.utility_calls.specs.Acts.{path_of, place_of, is_question, IsMove, IsPerformed}
use Rattle.utility_calls.specs.Pairs.{same_names, is_parent}
use Rattle.utility_calls.specs.Performed.{HasPerformedActs}
use Rattle.link_walks.specs.declared.walks.Reached.{Reached}
use Rattle.link_walks.specs.declared.walks.Reached.TheVariants.{At, Blocked}
use Rattle.link_walks.specs.declared.walks.TheConstants.{MOST_LINKS}
use Rattle.link_walks.specs.Links.{LinkParts}
use Rattle.link_walks.specs.Reaching.{Met, met, led, led_path, is_length, stays, goes_on, reach_in, reach}
use Rattle.link_walks.specs.Following.{follows_last, with_path, at_reached, second_along, along, endangered, asked_at}
use Rattle.link_walks.specs.Following.{follow_act, is_same, unless_same}
use Rattle.link_walks.specs.Performing.{FollowedPerformed, is_of_package, FollowedFilesArePerformed}
use Rattle.link_walks.proofs.SameNames.{differ}

-- ---- the path that is reached

same_at : (p q : PathParts) → At p ≡ At q → p.names ≡ q.names
same_at p q e = ap (λ r. elim r [ At x ↦ x.names | Blocked x ↦ x.names ]) e

some_names : (names : List (List ℕ)) → is_length names ≡ true → names ≢ []
some_names [] h e = absurd (cc)
some_names (f ∷ names) h e = absurd (cc)

-- it has a name where the path has one
reached_in : (n : ℕ) (links : List LinkParts) (last : Bool) (p q : PathParts) → reach_in n links last p ≡ At q
    → p.names ≢ [] → q.names ≢ []
reached_in zero links last p q e some = by (met links last [] p.names) e
  where
    by : (o : Option Met) → stays o p ≡ At q → q.names ≢ []
    by None e = subst (λ names. names ≢ []) (same_at p q e) some
    by (Some m) e = absurd (cc)
reached_in (suc n) links last p q e some =
    by (met links last [] p.names) e (λ m e ne. reached_in n links last (led_path m p.slash) q e ne)
  where
    room : (m : Met) (b : Bool) → is_length (led m) ≡ b
        → (if b then reach_in n links last (led_path m p.slash) else Blocked m.link.at) ≡ At q
        → (reach_in n links last (led_path m p.slash) ≡ At q → led m ≢ [] → q.names ≢ []) → q.names ≢ []
    room m true h e next = next e (some_names (led m) h)
    room m false h e next = absurd (cc)

    by : (o : Option Met) → goes_on o p (reach_in n links last) ≡ At q
        → ((m : Met) → reach_in n links last (led_path m p.slash) ≡ At q → led m ≢ [] → q.names ≢ []) → q.names ≢ []
    by None e next = subst (λ names. names ≢ []) (same_at p q e) some
    by (Some m) e next = room m (is_length (led m)) refl e (next m)

reached_some : (links : List LinkParts) (last : Bool) (p q : PathParts) → reach links last p ≡ At q → p.names ≢ []
    → q.names ≢ []
reached_some links last p q e some = reached_in MOST_LINKS links last p q e some

-- ---- the paths of a followed act

-- the paths of an act that changes the tree have names
abbrev IsNamed : Act → Type 0
IsNamed act = is_question act ≡ false → ((path_of act).names ≢ []) × (place_of act ≢ [])

question_named : (act : Act) → is_question act ≡ true → IsNamed act
question_named act h = λ e. absurd (let x : true ≡ false = sym h ∙ e in cc)

second_named : (links : List LinkParts) (a b : PathParts) → a.names ≢ [] → b.names ≢ []
    → IsNamed (second_along links (Move a b))
second_named links a b some other = by (reach links true b) refl
  where
    by : (r : Reached) → reach links true b ≡ r → IsNamed (at_reached r (λ q. Move a q))
    by (At q) e = λ no. (some, reached_some links true b q e other)
    by (Blocked p) e = question_named (Exists p) refl

copied_named : (links : List LinkParts) (a b : PathParts) (deep : Bool) → a.names ≢ [] → b.names ≢ []
    → IsNamed (second_along links (Copy a b deep))
copied_named links a b deep some other = by (reach links true b) refl
  where
    by : (r : Reached) → reach links true b ≡ r → IsNamed (at_reached r (λ q. Copy a q deep))
    by (At q) e = λ no. (some, reached_some links true b q e other)
    by (Blocked p) e = question_named (Exists p) refl

with_named : (links : List LinkParts) (act : Act) (q : PathParts) → IsNamed act
    → ((path_of act).names ≢ [] → q.names ≢ []) → IsNamed (second_along links (with_path act q))
with_named links (Exists p) q h w = question_named (Exists q) refl
with_named links (IsReg p) q h w = question_named (IsReg q) refl
with_named links (IsDir p) q h w = question_named (IsDir q) refl
with_named links (IsLink p) q h w = question_named (IsLink q) refl
with_named links (CanRun p runs) q h w = question_named (CanRun q runs) refl
with_named links (IsSpecial p kind) q h w = question_named (IsSpecial q kind) refl
with_named links (MakeDir p) q h w = λ e. let n = w (h refl).0 in (n, n)
with_named links (EnsureDir p) q h w = λ e. let n = w (h refl).0 in (n, n)
with_named links (RemoveDir p) q h w = λ e. let n = w (h refl).0 in (n, n)
with_named links (Remove p force deep) q h w = λ e. let n = w (h refl).0 in (n, n)
with_named links (Touch p) q h w = λ e. let n = w (h refl).0 in (n, n)
with_named links (Symlink p target last force) q h w = λ e. let n = w (h refl).0 in (n, n)
with_named links (Attr p) q h w = question_named (Attr q) refl
with_named links (Move a b) q h w = second_named links q b (w (h refl).0) (h refl).1
with_named links (Copy a b deep) q h w = copied_named links q b deep (w (h refl).0) (h refl).1
with_named links (PlaceFile p) q h w = λ e. let n = w (h refl).0 in (n, n)
with_named links (PlaceLink p target) q h w = λ e. let n = w (h refl).0 in (n, n)
with_named links (PlaceConf p) q h w = λ e. let n = w (h refl).0 in (n, n)
with_named links (Discard p) q h w = λ e. let n = w (h refl).0 in (n, n)
with_named links (DiscardDir p) q h w = λ e. let n = w (h refl).0 in (n, n)

along_named : (links : List LinkParts) (act : Act) → IsNamed act → IsNamed (along links act)
along_named links act h = by (reach links (follows_last act) (path_of act)) refl
  where
    by : (r : Reached) → reach links (follows_last act) (path_of act) ≡ r
        → IsNamed (at_reached r (λ q. second_along links (with_path act q)))
    by (At q) e = with_named links act q h (reached_some links (follows_last act) (path_of act) q e)
    by (Blocked p) e = question_named (Exists p) refl

asked_named : (o : Option PathParts) (act : Act) → IsNamed act → IsNamed (asked_at o act)
asked_named None act h = h
asked_named (Some p) act h = question_named (Exists p) refl

followed_named : (links : List LinkParts) (act : Act) → IsNamed act → IsNamed (follow_act links act)
followed_named links act h =
    asked_named (option_map (λ link. link.at) (endangered links (along links act))) (along links act)
    (along_named links act h)

-- ---- moves

first_false : (a b : Bool) → (a || b) ≡ false → a ≡ false
first_false true b h = absurd (cc)
first_false false b h = refl

-- a move that is not to the same place is to another path
apart : (links : List LinkParts) (act : Act) → is_same links act ≡ false → IsMove act
apart links (Exists p) h = tt
apart links (IsReg p) h = tt
apart links (IsDir p) h = tt
apart links (IsLink p) h = tt
apart links (CanRun p runs) h = tt
apart links (IsSpecial p kind) h = tt
apart links (MakeDir p) h = tt
apart links (EnsureDir p) h = tt
apart links (RemoveDir p) h = tt
apart links (Remove p force deep) h = tt
apart links (Touch p) h = tt
apart links (Symlink p target last force) h = tt
apart links (Attr p) h = tt
apart links (Move a b) h =
    differ a.names b.names (first_false (same_names a.names b.names) (is_parent b.names a.names) h)
apart links (Copy a b deep) h = tt
apart links (PlaceFile p) h = tt
apart links (PlaceLink p target) h = tt
apart links (PlaceConf p) h = tt
apart links (Discard p) h = tt
apart links (DiscardDir p) h = tt

act_performed : (links : List LinkParts) (act : Act) → IsPerformed act → is_same links (follow_act links act) ≡ false
    → IsPerformed (follow_act links act)
act_performed links act h s = (followed_named links act h.0, apart links (follow_act links act) s)

-- ---- plans

parts_false : (a b : Bool) → (a || b) ≡ false → (a ≡ false) × (b ≡ false)
parts_false true b h = absurd (cc)
parts_false false b h = (refl, h)

acts_performed : (links : List LinkParts) (acts : List Act) → All IsPerformed acts
    → list_any (is_same links) (map (follow_act links) acts) ≡ false → All IsPerformed (map (follow_act links) acts)
acts_performed links [] h s = All-nil IsPerformed
acts_performed links (act ∷ acts) h s =
    let two = parts_false (is_same links (follow_act links act)) (list_any (is_same links) (map (follow_act links) acts)) s in
    All-cons IsPerformed (follow_act links act) (map (follow_act links) acts)
    (act_performed links act (h 0 act (omega arith)) two.0)
    (acts_performed links acts (λ k d lt. h (suc k) d (omega arith)) two.1)

lists_performed : (links : List LinkParts) (lists : List (List Act)) → All (λ acts. All IsPerformed acts) lists
    → list_any (list_any (is_same links)) (map (map (follow_act links)) lists) ≡ false
    → All (λ acts. All IsPerformed acts) (map (map (follow_act links)) lists)
lists_performed links [] h s = All-nil (λ acts. All IsPerformed acts)
lists_performed links (acts ∷ lists) h s =
    let there : List (List Act) = map (map (follow_act links)) lists in
    let two =
    parts_false (list_any (is_same links) (map (follow_act links) acts)) (list_any (list_any (is_same links)) there) s in
    All-cons (λ acts. All IsPerformed acts) (map (follow_act links) acts) there
    (acts_performed links acts (h 0 acts (omega arith)) two.0)
    (lists_performed links lists (λ k d lt. h (suc k) d (omega arith)) two.1)

unless_performed : (b : Bool) (planned : Planned) → (b ≡ false → HasPerformedActs planned)
    → HasPerformedActs (unless_same b planned)
unless_performed true planned h = tt
unless_performed false planned h = h refl

pub followed_performed : FollowedPerformed
followed_performed [] planned h = h
followed_performed (link ∷ more) (Known ok) h = tt
followed_performed (link ∷ more) (Ask act negate) h =
    unless_performed (is_same (link ∷ more) (follow_act (link ∷ more) act)) (Ask (follow_act (link ∷ more) act) negate)
    (λ s. act_performed (link ∷ more) act h s)
followed_performed (link ∷ more) (Print text) h = tt
followed_performed (link ∷ more) (Change lists) h =
    unless_performed (list_any (list_any (is_same (link ∷ more))) (map (map (follow_act (link ∷ more))) lists))
    (Change (map (map (follow_act (link ∷ more))) lists))
    (λ s. lists_performed (link ∷ more) lists h s)
followed_performed (link ∷ more) (Unspecified why) h = tt

-- ---- acts on files of a package

reached_unmoved : (r : Reached) (of : PathParts → Act) → ((q : PathParts) → IsMove (of q)) → IsMove (at_reached r of)
reached_unmoved (At q) of h = h q
reached_unmoved (Blocked p) of h = tt

asked_unmoved : (o : Option PathParts) (act : Act) → IsMove act → IsMove (asked_at o act)
asked_unmoved None act h = h
asked_unmoved (Some p) act h = tt

package_unmoved : (links : List LinkParts) (act : Act) → is_of_package act ≡ true → IsMove (along links act)
package_unmoved links (Exists p) h = absurd (cc)
package_unmoved links (IsReg p) h = absurd (cc)
package_unmoved links (IsDir p) h = absurd (cc)
package_unmoved links (IsLink p) h = absurd (cc)
package_unmoved links (CanRun p runs) h = absurd (cc)
package_unmoved links (IsSpecial p kind) h = absurd (cc)
package_unmoved links (MakeDir p) h = absurd (cc)
package_unmoved links (EnsureDir p) h = reached_unmoved (reach links true p) (λ q. EnsureDir q) (λ q. tt)
package_unmoved links (RemoveDir p) h = absurd (cc)
package_unmoved links (Remove p force deep) h = absurd (cc)
package_unmoved links (Touch p) h = absurd (cc)
package_unmoved links (Symlink p target last force) h = absurd (cc)
package_unmoved links (Attr p) h = absurd (cc)
package_unmoved links (Move a b) h = absurd (cc)
package_unmoved links (Copy a b deep) h = absurd (cc)
package_unmoved links (PlaceFile p) h = reached_unmoved (reach links false p) (λ q. PlaceFile q) (λ q. tt)
package_unmoved links (PlaceLink p target) h = reached_unmoved (reach links false p) (λ q. PlaceLink q target) (λ q. tt)
package_unmoved links (PlaceConf p) h = reached_unmoved (reach links false p) (λ q. PlaceConf q) (λ q. tt)
package_unmoved links (Discard p) h = reached_unmoved (reach links false p) (λ q. Discard q) (λ q. tt)
package_unmoved links (DiscardDir p) h = reached_unmoved (reach links false p) (λ q. DiscardDir q) (λ q. tt)

package_named : (act : Act) → is_of_package act ≡ true → (path_of act).names ≢ [] → IsNamed act
package_named (Exists p) h some = absurd (cc)
package_named (IsReg p) h some = absurd (cc)
package_named (IsDir p) h some = absurd (cc)
package_named (IsLink p) h some = absurd (cc)
package_named (CanRun p runs) h some = absurd (cc)
package_named (IsSpecial p kind) h some = absurd (cc)
package_named (MakeDir p) h some = absurd (cc)
package_named (EnsureDir p) h some = λ e. (some, some)
package_named (RemoveDir p) h some = absurd (cc)
package_named (Remove p force deep) h some = absurd (cc)
package_named (Touch p) h some = absurd (cc)
package_named (Symlink p target last force) h some = absurd (cc)
package_named (Attr p) h some = absurd (cc)
package_named (Move a b) h some = absurd (cc)
package_named (Copy a b deep) h some = absurd (cc)
package_named (PlaceFile p) h some = λ e. (some, some)
package_named (PlaceLink p target) h some = λ e. (some, some)
package_named (PlaceConf p) h some = λ e. (some, some)
package_named (Discard p) h some = λ e. (some, some)
package_named (DiscardDir p) h some = λ e. (some, some)

pub files_performed : FollowedFilesArePerformed
files_performed links act h some =
    let there : Act = along links act in (
      followed_named links act (package_named act h some),
      asked_unmoved (option_map (λ link. link.at) (endangered links there)) there (package_unmoved links act h),
    )
