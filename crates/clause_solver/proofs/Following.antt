-- An entry is followed along the directories that one is derived from, and the links of a further directory are those
-- that they have to be.
use Rattle.std.proofs.Common.{◌≡◌, ◌≢◌, ℕ, suc, ◌+◌, ◌<◌, ◌≤◌, inl, inr, true, false, nat_lt, Option, None, Some, List, [], ◌∷◌, ◌++◌, length, refl, sym, ap, ◌∙◌, subst, arith}
use Rattle.std.specs.Prelude.{nat_eq}
use Rattle.std.proofs.lemmas.Bool.Decides.{nat_tests}
use Rattle.feature_trees.specs.Tree.{entry}
use Rattle.clause_solver.specs.declared.appended.Found.{Found}
use Rattle.clause_solver.specs.declared.appended.Found.TheVariants.{Known, Nothing, At}
use Rattle.clause_solver.specs.declared.kin.Kin.{Kin}
use Rattle.clause_solver.specs.declared.kin.Link.{Link}
use Rattle.clause_solver.specs.declared.variable.Definition.TheVariants.{Derived}
use Rattle.clause_solver.specs.declared.variable.Variable.{Variable}
use Rattle.tree_clauses.specs.Literals.{value_of_variable}
use Rattle.clause_solver.specs.Appends.{SameEntry, LeadsTo}
use Rattle.clause_solver.specs.Differences.{difference}
use Rattle.clause_solver.specs.Linked.{kin_at, link_at, between, more_links, more_places, PassesTo, LeadsDown, or_end, AreLinksDown, AreLinked}
use Rattle.clause_solver.specs.Variables.{var_at, defined, Earlier, Ordered}
use Rattle.tree_clauses.proofs.Values.{derived_same, derived_other}
use Rattle.clause_solver.proofs.Differences.{differs_below, differs_past, differs_most}
use Rattle.clause_solver.proofs.Downward.{moved_down}
use Rattle.clause_solver.proofs.Indexing.{option_cases, at_first, at_next, between_at, not_between}
use Rattle.clause_solver.proofs.Links.{below_or, left_of}
use Rattle.clause_solver.proofs.Names.{nat_cases, eq_cases, same_yes}
use Rattle.clause_solver.proofs.Pairs.{sound_at}

-- ---- an entry is followed

down_falls : (vars : List Variable) (kin : List Kin) (end m : ℕ) (o : Option ℕ) → LeadsDown vars kin end m o → left_of o < suc m
down_falls vars kin end m None d = omega arith
down_falls vars kin end m (Some k) d = let w = d.0 in omega (arith, w)

-- what the entry f of n leads to, that of x does
pub leads_same : (vars : List Variable) (x n : ℕ) (f : List ℕ) (found : Found) → SameEntry vars x f n → LeadsTo vars n f found → LeadsTo vars x f found
leads_same vars x n f (Known y) same leads = (leads.0, λ g s fits. same g s fits ∙ leads.1 g s fits)
leads_same vars x n f Nothing same leads = λ g s fits. same g s fits ∙ leads g s fits
leads_same vars x n f (At p) same leads = (leads.0, leads.1, λ g s fits. same g s fits ∙ leads.2 g s fits)

-- the entry f of x is that of this directory, and where there is none, that of the end
pub record IsFollowed (vars : List Variable) (kin : List Kin) (x : ℕ) (f : List ℕ) (here : Option ℕ) : Type 0 where
  pub down : LeadsDown vars kin (kin_at kin x).end (length vars) here
  pub passes : PassesTo vars x f (or_end here (kin_at kin x).end)

module _ (vars : List Variable) (kin : List Kin) (linked : AreLinked vars kin) (x : ℕ) (f : List ℕ) where
  pub followed_first : x < length vars → IsFollowed vars kin x f (kin_at kin x).top
  followed_first w = record { down = linked.below.down x w; passes = linked.below.passes x f w }

  pub followed_last : (found : Found) → IsFollowed vars kin x f None → LeadsTo vars (kin_at kin x).end f found → LeadsTo vars x f found
  followed_last found here leads = leads_same vars x (kin_at kin x).end f found (λ g s fits. here.passes g s (λ i w. (fits i w).is)) leads

  module _ (m : ℕ) (here : IsFollowed vars kin x f (Some m)) where
    pub followed_inside : m < length vars
    followed_inside = here.down.0

    pub followed_known : (y : ℕ) → Ordered vars → ((z : ℕ) × ((var_at vars m).definition ≡ Derived z f y)) → LeadsTo vars x f (Known y)
    followed_known y order is =
        let before : Earlier vars m (Derived is.0 f y) = rw is.1 at (order.earlier m here.down.0) in
        let w = here.down.0 in
        let low = before.1 in (
          omega (arith, low, w),
          λ g s fits.
              here.passes g s (λ i b. (fits i b).is)
              ∙ ap (λ v. entry v f) ((fits m here.down.0).is ∙ ap (defined g) is.1)
              ∙ derived_same (value_of_variable g is.0) (value_of_variable g y) f (sound_at g s is.0),
        )

    -- the directory at m is derived from this one, with another value under this name
    abbrev from_followed : ℕ
    from_followed = here.down.1.0

    abbrev value_followed : ℕ
    value_followed = here.down.1.1

    abbrev pub name_followed : List ℕ
    name_followed = here.down.1.2

    pub is_followed : (var_at vars m).definition ≡ Derived from_followed name_followed value_followed
    is_followed = here.down.1.3

    own_links : AreLinksDown vars kin from_followed name_followed (kin_at kin m).end m (kin_at kin m).links
    own_links = linked.below.links m from_followed value_followed name_followed here.down.0 is_followed

    pub followed_on : f ≢ name_followed → IsFollowed vars kin x f (link_at (kin_at kin m).links (difference name_followed f))
    followed_on ne = record {
      down = let w = here.down.0 in moved_down vars kin (kin_at kin m).end (kin_at kin x).end m (length vars) _ _ here.down.2 refl (omega (arith, w)) (own_links.down (difference name_followed f));
      passes = λ g s all.
          here.passes g s all
          ∙ ap (λ v. entry v f) (all m here.down.0 ∙ ap (defined g) is_followed)
          ∙ derived_other (value_of_variable g from_followed) (value_of_variable g value_followed) name_followed f (sound_at g s from_followed) (λ q. ne (sym q))
          ∙ subst (λ n. PassesTo vars from_followed f (or_end (link_at (kin_at kin m).links (difference name_followed f)) n)) here.down.2 (own_links.passes f ne) g s all;
    }

    pub followed_falls : left_of (link_at (kin_at kin m).links (difference name_followed f)) < suc m
    followed_falls = down_falls vars kin (kin_at kin m).end m _ (own_links.down (difference name_followed f))

-- ---- links that are added

-- where the links lead, with those for the places from one up to another, of which none was known
module _ (links own : List Link) (from high : ℕ) (none : (place : ℕ) → from ≤ place → link_at links place ≡ None) where
  low_known : (place : ℕ) → place < from → link_at (links ++ between from high own) place ≡ link_at links place
  low_known place low = elim (option_cases (link_at links place)) [
    | inl some ↦ at_first links (between from high own) place some.0 some.1 ∙ sym some.1
    | inr not ↦ at_next links (between from high own) place not ∙ not_between from high place own (inl low) ∙ sym not
  ]

  mid_known : (place : ℕ) → from ≤ place → place < high → link_at (links ++ between from high own) place ≡ link_at own place
  mid_known place le less = at_next links (between from high own) place (none place le) ∙ between_at from high place own le less

  past_known : (place : ℕ) → from ≤ place → high ≤ place → link_at (links ++ between from high own) place ≡ None
  past_known place le past = at_next links (between from high own) place (none place le) ∙ not_between from high place own (inr past)

one_other : (at m place : ℕ) → at ≢ place → link_at (record { place = at; to = m } ∷ []) place ≡ None
one_other at m place ne = elim (eq_cases at place) [ inl e ↦ absurd (ne e.0) | inr other ↦ rw other.1 refl ]

one_same : (at m : ℕ) → link_at (record { place = at; to = m } ∷ []) at ≡ Some m
one_same at m = let test : nat_eq at at ≡ true = same_yes at at refl in rw test refl

-- a link more changes nothing at another place
one_more : (links : List Link) (at m place : ℕ) → at ≢ place → link_at (links ++ record { place = at; to = m } ∷ []) place ≡ link_at links place
one_more links at m place ne = elim (option_cases (link_at links place)) [
  | inl some ↦ at_first links _ place some.0 some.1 ∙ sym some.1
  | inr not ↦ at_next links _ place not ∙ one_other at m place ne ∙ sym not
]

-- ---- the links of a further directory, which is derived from x with another value under f

-- the links are known for the places below `from`; each entry of x whose name differs first from f at another place is
-- that of this directory, and where there is none, that of the end
pub record AreKnownDown (vars : List Variable) (kin : List Kin) (x : ℕ) (f : List ℕ) (links : List Link) (from : ℕ) (here : Option ℕ) : Type 0 where
  pub entry : LeadsDown vars kin (kin_at kin x).end (length vars) here
  pub down : (place : ℕ) → LeadsDown vars kin (kin_at kin x).end (length vars) (link_at links place)
  pub none : (place : ℕ) → from ≤ place → link_at links place ≡ None
  pub known : (g : List ℕ) → g ≢ f → difference f g < from → PassesTo vars x g (or_end (link_at links (difference f g)) (kin_at kin x).end)
  pub rest : (g : List ℕ) → g ≢ f → from ≤ difference f g → PassesTo vars x g (or_end here (kin_at kin x).end)

pub known_down_first : (vars : List Variable) (kin : List Kin) (x : ℕ) (f : List ℕ) → AreLinked vars kin → x < length vars → AreKnownDown vars kin x f [] 0 (kin_at kin x).top
known_down_first vars kin x f linked w = record {
  entry = linked.below.down x w;
  down = λ place. tt;
  none = λ place le. refl;
  known = λ g ne less. absurd (omega (arith, less));
  rest = λ g ne le. linked.below.passes x g w;
}

pub known_down_last : (vars : List Variable) (kin : List Kin) (x : ℕ) (f : List ℕ) (links : List Link) (from : ℕ) → AreKnownDown vars kin x f links from None → AreLinksDown vars kin x f (kin_at kin x).end (length vars) links
known_down_last vars kin x f links from k = record {
  down = k.down;
  passes = λ g ne. elim (below_or (difference f g) from) [
    | inl less ↦ k.known g ne less
    | inr le ↦ subst (λ o. PassesTo vars x g (or_end o (kin_at kin x).end)) (sym (k.none (difference f g) le)) (k.rest g ne le)
  ];
}

module _ (vars : List Variable) (kin : List Kin) (x : ℕ) (f : List ℕ) (linked : AreLinked vars kin) (links : List Link) (from m : ℕ) (k : AreKnownDown vars kin x f links from (Some m)) where
  abbrev end : ℕ
  end = (kin_at kin x).end

  pub known_inside : m < length vars
  known_inside = k.entry.0

  abbrev from_known : ℕ
  from_known = k.entry.1.0

  abbrev value_known : ℕ
  value_known = k.entry.1.1

  abbrev pub name_known : List ℕ
  name_known = k.entry.1.2

  pub is_known : (var_at vars m).definition ≡ Derived from_known name_known value_known
  is_known = k.entry.1.3

  abbrev own : List Link
  own = (kin_at kin m).links

  abbrev at : ℕ
  at = difference f name_known

  known_links : AreLinksDown vars kin from_known name_known (kin_at kin m).end m own
  known_links = linked.below.links m from_known value_known name_known k.entry.0 is_known

  own_down : (place : ℕ) → LeadsDown vars kin end (length vars) (link_at own place)
  own_down place = let w = k.entry.0 in moved_down vars kin (kin_at kin m).end end m (length vars) _ _ k.entry.2 refl (omega (arith, w)) (known_links.down place)

  -- an entry of another name than that of m
  on : (g : List ℕ) → g ≢ f → from ≤ difference f g → g ≢ name_known → PassesTo vars x g (or_end (link_at own (difference name_known g)) end)
  on g ne le other = λ v s all.
      k.rest g ne le v s all
      ∙ ap (λ u. entry u g) (all m k.entry.0 ∙ ap (defined v) is_known)
      ∙ derived_other (value_of_variable v from_known) (value_of_variable v value_known) name_known g (sound_at v s from_known) (λ q. other (sym q))
      ∙ subst (λ n. PassesTo vars from_known g (or_end (link_at own (difference name_known g)) n)) k.entry.2 (known_links.passes g other) v s all

  apart : (g : List ℕ) → difference f g ≢ at → g ≢ name_known
  apart g ne q = ne (ap (difference f) q)

  past : (g : List ℕ) → g ≢ f → from ≤ difference f g → at < difference f g → PassesTo vars x g (or_end (link_at own at) end)
  past g ne le less =
      subst (λ n. PassesTo vars x g (or_end (link_at own n) end)) (differs_past f name_known g less)
      (on g ne le (apart g (λ q. let less' : at < at = rw q at less in omega (arith, less'))))

  few : (g : List ℕ) → g ≢ f → from ≤ difference f g → difference f g < at → PassesTo vars x g (or_end (link_at own (difference f g)) end)
  few g ne le less =
      subst (λ n. PassesTo vars x g (or_end (link_at own n) end)) (differs_below f name_known g less)
      (on g ne le (apart g (λ q. let less' : at < at = rw q at less in omega (arith, less'))))

  known_on : at < from → AreKnownDown vars kin x f links from (link_at own at)
  known_on low = record {
    entry = own_down at;
    down = k.down;
    none = k.none;
    known = k.known;
    rest = λ g ne le. past g ne le (omega (arith, low, le));
  }

  abbrev added : List Link
  added = (links ++ between from at own) ++ record { place = at; to = m } ∷ []

  added_low : (place : ℕ) → from ≤ at → place < from → link_at added place ≡ link_at links place
  added_low place le low = one_more (links ++ between from at own) at m place (λ q. omega (arith, le, low, q)) ∙ low_known links own from at k.none place low

  added_mid : (place : ℕ) → from ≤ place → place < at → link_at added place ≡ link_at own place
  added_mid place le low = one_more (links ++ between from at own) at m place (λ q. omega (arith, low, q)) ∙ mid_known links own from at k.none place le low

  added_at : from ≤ at → link_at added at ≡ Some m
  added_at le = at_next (links ++ between from at own) _ at (past_known links own from at k.none at le (omega arith)) ∙ one_same at m

  added_past : (place : ℕ) → from ≤ at → at < place → link_at added place ≡ None
  added_past place le past =
      one_more (links ++ between from at own) at m place (λ q. omega (arith, past, q))
      ∙ past_known links own from at k.none place (omega (arith, le, past)) (omega (arith, past))

  added_down : (place : ℕ) → from ≤ at → LeadsDown vars kin end (length vars) (link_at added place)
  added_down place le = elim (below_or place from) [
    | inl low ↦ subst (LeadsDown vars kin end (length vars)) (sym (added_low place le low)) (k.down place)
    | inr high ↦ elim (below_or place at) [
      | inl low ↦ subst (LeadsDown vars kin end (length vars)) (sym (added_mid place high low)) (own_down place)
      | inr past ↦ elim (nat_cases place at) [
        | inl e ↦ subst (LeadsDown vars kin end (length vars)) (sym (ap (link_at added) e ∙ added_at le)) k.entry
        | inr ne ↦ subst (LeadsDown vars kin end (length vars)) (sym (added_past place le (omega (arith, past, ne)))) tt
      ]
    ]
  ]

  known_more : from ≤ at → AreKnownDown vars kin x f added (at + 1) (link_at own at)
  known_more le = record {
    entry = own_down at;
    down = λ place. added_down place le;
    none = λ place high. added_past place le (omega (arith, high));
    known = λ g ne low. elim (below_or (difference f g) from) [
      | inl b ↦ subst (λ o. PassesTo vars x g (or_end o end)) (sym (added_low (difference f g) le b)) (k.known g ne b)
      | inr high ↦ elim (below_or (difference f g) at) [
        | inl b ↦ subst (λ o. PassesTo vars x g (or_end o end)) (sym (added_mid (difference f g) high b)) (few g ne high b)
        | inr up ↦
            let q : difference f g ≡ at = omega (arith, low, up) in
            subst (λ o. PassesTo vars x g (or_end o end)) (sym (ap (link_at added) q ∙ added_at le)) (k.rest g ne high)
      ]
    ];
    rest = λ g ne up. past g ne (omega (arith, le, up)) (omega (arith, up));
  }

  pub known_down_next : AreKnownDown vars kin x f (more_links links from at m own) (more_places from at) (link_at own at)
  known_down_next = elim (below_or at from) [
    | inl low ↦ let test : nat_lt at from ≡ true = grind (arith, nat_tests, low) in rw test (known_on low)
    | inr high ↦ let test : nat_lt at from ≡ false = grind (arith, nat_tests, high) in rw test (known_more high)
  ]

  pub known_down_falls : left_of (link_at own at) < suc m
  known_down_falls = down_falls vars kin (kin_at kin m).end m _ (known_links.down at)

  -- all that is left has the links of a directory with another value under the same name
  pub known_same : name_known ≡ f → AreLinksDown vars kin x f end (length vars) (links ++ between from (at + 1) own)
  known_same same = record {
    down = λ place. elim (below_or place from) [
      | inl low ↦ subst (LeadsDown vars kin end (length vars)) (sym (low_known links own from (at + 1) k.none place low)) (k.down place)
      | inr high ↦ elim (below_or place (at + 1)) [
        | inl low ↦ subst (LeadsDown vars kin end (length vars)) (sym (mid_known links own from (at + 1) k.none place high low)) (own_down place)
        | inr past ↦ subst (LeadsDown vars kin end (length vars)) (sym (past_known links own from (at + 1) k.none place high past)) tt
      ]
    ];
    passes = λ g ne. elim (below_or (difference f g) from) [
      | inl low ↦ subst (λ o. PassesTo vars x g (or_end o end)) (sym (low_known links own from (at + 1) k.none (difference f g) low)) (k.known g ne low)
      | inr high ↦
          let most : difference f g ≤ at = subst (λ h. difference f g ≤ difference f h) (sym same) (differs_most f g) in
          let b : difference f g < at + 1 = omega (arith, most) in
          subst (λ o. PassesTo vars x g (or_end o end)) (sym (mid_known links own from (at + 1) k.none (difference f g) high b))
          (subst (λ h. PassesTo vars x g (or_end (link_at own (difference h g)) end)) same (on g ne high (λ q. ne (q ∙ same))))
    ];
  }
