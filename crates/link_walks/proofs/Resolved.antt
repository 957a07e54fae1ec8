-- The path that is reached along known links is where a path resolves to, name by name.
use Rattle.std.proofs.Common.{◌≡◌, ◌≢◌, ℕ, zero, suc, ◌+◌, ◌<◌, ◌⊎◌, inl, inr, Bool, true, false, IsTrue, List, [], ◌∷◌, ◌++◌, length, take, Option, Some, None, refl, sym, ap, subst, ◌∙◌, append_assoc, append-nil, length-append, arith, if◌then◌else◌}
use Rattle.script_names.specs.Paths.{PathParts}
use Rattle.feature_trees.specs.declared.value.Value.{Value}
use Rattle.feature_trees.specs.declared.value.Value.TheVariants as value
use Rattle.feature_trees.specs.declared.kind.Kind.TheVariants as kind
use Rattle.feature_trees.specs.Tree.{at, kind_of}
use Rattle.utility_calls.specs.Ways.{NoLinkOnWay}
use Rattle.link_walks.specs.declared.walks.Reached.{Reached}
use Rattle.link_walks.specs.declared.walks.Reached.TheVariants.{At, Blocked}
use Rattle.link_walks.specs.declared.walks.TheConstants.{MOST_LINKS}
use Rattle.link_walks.specs.Links.{LinkParts, AreLinks, base_of, target_names, is_rooted, above}
use Rattle.link_walks.specs.Reaching.{link_at, Met, met_here, met, is_length, stays, goes_on, reach_in}
use Rattle.link_walks.specs.Resolving.{AreStated, Resolves, ends, passes, stands, leads, ReachResolves, NoLinksNoWalk}
use Rattle.link_walks.proofs.Found.{IsFound, found, some_names, at_append, holds_dir}

-- what is reached from what is met
abbrev taken : ℕ → List LinkParts → Bool → Option Met → PathParts → Reached
taken zero links last m p = stays m p
taken (suc n) links last m p = goes_on m p (reach_in n links last)

taken_is : (n : ℕ) (links : List LinkParts) (last : Bool) (p : PathParts)
    → reach_in n links last p ≡ taken n links last (met links last [] p.names) p
taken_is zero links last p = refl
taken_is (suc n) links last p = refl

-- with nothing met the path is reached
none_taken : (n : ℕ) (links : List LinkParts) (last : Bool) (p : PathParts) → taken n links last None p ≡ At p
none_taken zero links last p = refl
none_taken (suc n) links last p = refl

same_at : (p q : PathParts) → At p ≡ At q → p.names ≡ q.names
same_at p q e = ap (λ r. elim r [ At x ↦ x.names | Blocked x ↦ x.names ]) e

-- a kind that is a directory's is no link's
no_link : (v : Value) → kind_of v ≡ kind.Dir → kind_of v ≢ kind.Link
no_link v d l = let x : kind.Dir ≡ kind.Link = sym d ∙ l in cc

append_some : (xs : List (List ℕ)) (f : List ℕ) (rest : List (List ℕ)) → (xs ++ f ∷ []) ++ rest ≡ xs ++ f ∷ rest
append_some xs f rest = append_assoc xs (f ∷ []) rest

not_nil : (xs ys : List (List ℕ)) → xs ≢ [] → xs ++ ys ≢ []
not_nil [] ys ne = absurd (ne refl)
not_nil (x ∷ xs) ys ne = λ e. cc

take_front : (xs ys : List (List ℕ)) → take (length xs) (xs ++ ys) ≡ xs
take_front [] ys = refl
take_front (x ∷ xs) ys = ap (λ l. x ∷ l) (take_front xs ys)

-- the directory that holds what these names name
above_last : (xs : List (List ℕ)) (f : List ℕ) → above (xs ++ f ∷ []) ≡ xs
above_last xs f =
    let n : length (xs ++ f ∷ []) ≡ length xs + 1 = length-append xs (f ∷ []) in
    ap (λ k. take k (xs ++ f ∷ [])) (omega (arith, n)) ∙ take_front xs (f ∷ [])

module _ (links : List LinkParts) (tree : Value) (last : Bool) (are : AreLinks links) (st : AreStated links tree) where
  -- no link is met on the way so far
  abbrev Passed : List (List ℕ) → Type 0
  Passed before = (q : List (List ℕ)) → q ≢ [] → met links last [] (before ++ q) ≡ met links last before q

  passed_more : (before : List (List ℕ)) (f : List ℕ) → Passed before → link_at links (before ++ f ∷ []) ≡ None
      → Passed (before ++ f ∷ [])
  passed_more before f p none [] ne = absurd (ne refl)
  passed_more before f p none (g ∷ q) ne =
      ap (met links last []) (append_some before f (g ∷ q)) ∙ p (f ∷ g ∷ q) (λ e. cc)
      ∙ ap (λ o. met_here (g ∷ q) o (met links last (before ++ f ∷ []) (g ∷ q))) none

  -- a link that is met stands below what was gone along
  met_dir : (q before : List (List ℕ)) (m : Met) → met links last before q ≡ Some m
      → kind_of (at tree before) ≡ kind.Dir
  met_dir [] before m e = absurd (cc)
  met_dir (f ∷ []) before m e = by last (link_at links (before ++ f ∷ [])) refl e
    where
      by : (b : Bool) (o : Option LinkParts) → link_at links (before ++ f ∷ []) ≡ o
          → (if b then met_here [] o None else None) ≡ Some m → kind_of (at tree before) ≡ kind.Dir
      by false o h e = absurd (cc)
      by true None h e = absurd (cc)
      by true (Some link) h e =
          let w = found links tree (before ++ f ∷ []) link are st h in
          holds_dir (at tree before) f [] link.target (sym (at_append tree before (f ∷ [])) ∙ w.stands)
  met_dir (f ∷ g ∷ rest) before m e =
      by (link_at links (before ++ f ∷ [])) refl e (λ h. met_dir (g ∷ rest) (before ++ f ∷ []) m h)
    where
      up : (v : Value) → kind_of (at v (f ∷ [])) ≡ kind.Dir → kind_of v ≡ kind.Dir
      up value.Absent h = cc
      up value.Reg h = cc
      up (value.Link b) h = cc
      up (value.Special s) h = cc
      up (value.Dir es) h = refl

      by : (o : Option LinkParts) → link_at links (before ++ f ∷ []) ≡ o
          → met_here (g ∷ rest) o (met links last (before ++ f ∷ []) (g ∷ rest)) ≡ Some m
          → (met links last (before ++ f ∷ []) (g ∷ rest) ≡ Some m → kind_of (at tree (before ++ f ∷ [])) ≡ kind.Dir)
          → kind_of (at tree before) ≡ kind.Dir
      by None h e later =
          up (at tree before) (sym (ap kind_of (at_append tree before (f ∷ []))) ∙ later e)
      by (Some link) h e later =
          let w = found links tree (before ++ f ∷ []) link are st h in
          holds_dir (at tree before) f [] link.target (sym (at_append tree before (f ∷ [])) ∙ w.stands)

  -- what is claimed of so many links that may be followed
  abbrev Claim : ℕ → Type 0
  Claim n =
      (before q : List (List ℕ)) (slash : Bool) (r : PathParts) → q ≢ [] → Passed before
      → reach_in n links last (record { names = before ++ q; slash = slash }) ≡ At r → NoLinkOnWay tree r.names
      → Resolves links tree last before q r.names

  module _ (n : ℕ) (again : (m : ℕ) → n ≡ suc m → Claim m) where
    -- a link is met here
    follows : (before rest : List (List ℕ)) (f : List ℕ) (slash : Bool) (r : PathParts) (link : LinkParts)
        → Passed before → link_at links (before ++ f ∷ []) ≡ Some link → (rest ≢ []) ⊎ IsTrue last
        → taken n links last (Some (record { link = link; behind = rest })) (record { names = before ++ f ∷ rest; slash = slash }) ≡ At r
        → NoLinkOnWay tree r.names → Resolves links tree last before (f ∷ rest) r.names
    follows before rest f slash r link p h more e way = by n refl e
      where
        w : IsFound tree (before ++ f ∷ []) link
        w = found links tree (before ++ f ∷ []) link are st h

        base : List (List ℕ)
        base = base_of link.target before

        place : link.place.names ≡ base_of link.target before ++ target_names link.target
        place =
            ap (λ p. p.names) w.is_link.place
            ∙ ap (λ a. base_of link.target a ++ target_names link.target) (ap above w.at_names ∙ above_last before f)

        led_names : link.place.names ++ rest ≡ base_of link.target before ++ (target_names link.target ++ rest)
        led_names =
            ap (λ a. a ++ rest) place ∙ append_assoc (base_of link.target before) (target_names link.target) rest

        based : (b : Bool) → is_rooted link.target ≡ b → Passed (if b then [] else before)
        based true h = λ q ne. refl
        based false h = p

        by : (k : ℕ) → n ≡ k
            → taken k links last (Some (record { link = link; behind = rest })) (record { names = before ++ f ∷ rest; slash = slash }) ≡ At r
            → Resolves links tree last before (f ∷ rest) r.names
        by zero is e = absurd (cc)
        by (suc m) is e = room (is_length (link.place.names ++ rest)) e
          where
            room : (b : Bool)
                → (if b then reach_in m links last (record { names = link.place.names ++ rest; slash = slash }) else Blocked link.at) ≡ At r
                → Resolves links tree last before (f ∷ rest) r.names
            room false e = absurd (cc)
            room true e =
                leads link f h w.stands more
                (again m is (base_of link.target before) (target_names link.target ++ rest) slash r (not_nil (target_names link.target) rest (some_names link.target)) (based (is_rooted link.target) refl)
                (ap (λ names. reach_in m links last (record { names = names; slash = slash })) (sym led_names) ∙ e) way)

    -- no link is followed at the last name
    at_last : (before : List (List ℕ)) (f : List ℕ) (slash : Bool) (r : PathParts) (b : Bool) (o : Option LinkParts)
        → last ≡ b → Passed before → link_at links (before ++ f ∷ []) ≡ o
        → taken n links last (if b then met_here [] o None else None) (record { names = before ++ f ∷ []; slash = slash }) ≡ At r
        → NoLinkOnWay tree r.names → Resolves links tree last before (f ∷ []) r.names
    at_last before f slash r false o l p h e way =
        subst (Resolves links tree last before (f ∷ []))
        (same_at (record { names = before ++ f ∷ []; slash = slash }) r
        (sym (none_taken n links last (record { names = before ++ f ∷ []; slash = slash })) ∙ e))
        (stands f (λ t. absurd (let x : true ≡ false = sym t ∙ l in cc)))
    at_last before f slash r true None l p h e way =
        subst (Resolves links tree last before (f ∷ []))
        (same_at (record { names = before ++ f ∷ []; slash = slash }) r
        (sym (none_taken n links last (record { names = before ++ f ∷ []; slash = slash })) ∙ e))
        (stands f (λ t. h))
    at_last before f slash r true (Some link) l p h e way = follows before [] f slash r link p h (inr l) e way

    -- no link stands at a name that others follow
    not_link : (before rest : List (List ℕ)) (f g : List ℕ) (slash : Bool) (r : PathParts) (o : Option Met)
        → met links last (before ++ f ∷ []) (g ∷ rest) ≡ o
        → taken n links last o (record { names = before ++ f ∷ g ∷ rest; slash = slash }) ≡ At r
        → NoLinkOnWay tree r.names → kind_of (at tree (before ++ f ∷ [])) ≢ kind.Link
    not_link before rest f g slash r (Some m) h e way =
        no_link (at tree (before ++ f ∷ [])) (met_dir (g ∷ rest) (before ++ f ∷ []) m h)
    not_link before rest f g slash r None h e way =
        λ l. way (length (before ++ f ∷ [])) less (ap (λ names. kind_of (at tree names)) front ∙ l)
      where
        here : before ++ f ∷ g ∷ rest ≡ r.names
        here =
            same_at (record { names = before ++ f ∷ g ∷ rest; slash = slash }) r
            (sym (none_taken n links last (record { names = before ++ f ∷ g ∷ rest; slash = slash })) ∙ e)

        less : length (before ++ f ∷ []) < length r.names
        less =
            let count : length (before ++ f ∷ []) ≡ length before + 1 = length-append before (f ∷ []) in
            let all : length (before ++ f ∷ g ∷ rest) ≡ length before + length (f ∷ g ∷ rest) =
            length-append before (f ∷ g ∷ rest) in
            subst (λ k. length (before ++ f ∷ []) < length k) here (omega (arith, count, all))

        front : take (length (before ++ f ∷ [])) r.names ≡ before ++ f ∷ []
        front =
            ap (take (length (before ++ f ∷ []))) (sym here ∙ sym (append_some before f (g ∷ rest)))
            ∙ take_front (before ++ f ∷ []) (g ∷ rest)

    walk : (q before : List (List ℕ)) (slash : Bool) (r : PathParts) → Passed before
        → taken n links last (met links last before q) (record { names = before ++ q; slash = slash }) ≡ At r
        → NoLinkOnWay tree r.names → Resolves links tree last before q r.names
    walk [] before slash r p e way =
        subst (Resolves links tree last before [])
        (sym (append-nil before) ∙ same_at (record { names = before ++ []; slash = slash }) r
        (sym (none_taken n links last (record { names = before ++ []; slash = slash })) ∙ e))
        ends
    walk (f ∷ []) before slash r p e way =
        at_last before f slash r last (link_at links (before ++ f ∷ [])) refl p refl e way
    walk (f ∷ g ∷ rest) before slash r p e way =
        by (link_at links (before ++ f ∷ [])) refl e
        (λ none e. walk (g ∷ rest) (before ++ f ∷ []) slash r (passed_more before f p none)
        (ap (λ names. taken n links last (met links last (before ++ f ∷ []) (g ∷ rest)) (record { names = names; slash = slash })) (append_some before f (g ∷ rest)) ∙ e) way)
      where
        by : (o : Option LinkParts) → link_at links (before ++ f ∷ []) ≡ o
            → taken n links last (met_here (g ∷ rest) o (met links last (before ++ f ∷ []) (g ∷ rest))) (record { names = before ++ f ∷ g ∷ rest; slash = slash }) ≡ At r
            → (link_at links (before ++ f ∷ []) ≡ None
            → taken n links last (met links last (before ++ f ∷ []) (g ∷ rest)) (record { names = before ++ f ∷ g ∷ rest; slash = slash }) ≡ At r
            → Resolves links tree last (before ++ f ∷ []) (g ∷ rest) r.names)
            → Resolves links tree last before (f ∷ g ∷ rest) r.names
        by None h e later =
            passes f g (not_link before rest f g slash r (met links last (before ++ f ∷ []) (g ∷ rest)) refl e way)
            (later h e)
        by (Some link) h e later = follows before (g ∷ rest) f slash r link p h (inl (λ x. cc)) e way

    claimed : Claim n
    claimed before [] slash r some p e way = absurd (some refl)
    claimed before (f ∷ q) slash r some p e way =
        walk (f ∷ q) before slash r p
        (ap (λ m. taken n links last m (record { names = before ++ f ∷ q; slash = slash })) (sym (p (f ∷ q) (λ x. cc)))
        ∙ (sym (taken_is n links last (record { names = before ++ f ∷ q; slash = slash })) ∙ e))
        way

  suc_same : (m k : ℕ) → suc m ≡ suc k → m ≡ k
  suc_same m k e = omega (arith, e)

  all_claimed : (n : ℕ) → Claim n
  all_claimed zero = claimed zero (λ m e. absurd (cc))
  all_claimed (suc n) = claimed (suc n) (λ m e. subst Claim (suc_same n m e) (all_claimed n))

pub resolves : ReachResolves
resolves links tree last p q are st e way = by p.names refl
  where
    by : (names : List (List ℕ)) → p.names ≡ names → Resolves links tree last [] p.names q.names
    by [] h =
        subst (λ names. Resolves links tree last [] names q.names) (sym h)
        (subst (Resolves links tree last [] []) (sym h ∙ same_at p q (sym (none_taken MOST_LINKS links last p) ∙ (ap (λ names. taken MOST_LINKS links last (met links last [] names) p) (sym h) ∙ (sym (taken_is MOST_LINKS links last p) ∙ e)))) ends)
    by (f ∷ rest) h =
        subst (λ names. Resolves links tree last [] names q.names) (sym h)
        (all_claimed links tree last are st MOST_LINKS [] (f ∷ rest) p.slash q (λ x. cc) (λ x ne. refl) (ap (λ names. reach_in MOST_LINKS links last (record { names = names; slash = p.slash })) (sym h) ∙ e) way)

link_none : (last : Bool) (before names : List (List ℕ)) → met [] last before names ≡ None
link_none last before [] = refl
link_none true before (f ∷ []) = refl
link_none false before (f ∷ []) = refl
link_none last before (f ∷ g ∷ rest) = link_none last (before ++ f ∷ []) (g ∷ rest)

pub no_walk : NoLinksNoWalk
no_walk last p =
    taken_is MOST_LINKS [] last p
    ∙ (ap (λ m. taken MOST_LINKS [] last m p) (link_none last [] p.names) ∙ none_taken MOST_LINKS [] last p)
