-- An entry is found by the links, and the links of a further entry are those that they have to be.
use Rattle.std.proofs.Common.{◌≡◌, ◌≢◌, ◌⊎◌, ℕ, suc, ◌+◌, ◌<◌, ◌≤◌, ◌&&◌, inl, inr, true, false, nat_le, nat_lt, Option, None, Some, List, [], ◌∷◌, ◌++◌, length, refl, sym, ap, ◌∙◌, subst, arith}
use Rattle.std.specs.Prelude.{nat_eq}
use Rattle.std.proofs.lemmas.Bool.Decides.{nat_tests}
use Rattle.clause_solver.specs.declared.kin.Kin.{Kin}
use Rattle.clause_solver.specs.declared.kin.Link.{Link}
use Rattle.clause_solver.specs.declared.variable.Definition.TheVariants.{Child}
use Rattle.clause_solver.specs.declared.variable.Variable.{Variable}
use Rattle.clause_solver.specs.Differences.{difference}
use Rattle.clause_solver.specs.Linked.{link_at, between, more_links, more_places, Reaches, LeadsToEntry, IsLastChild, AreLinks, AreLinked, kin_at}
use Rattle.clause_solver.specs.Variables.{var_at, IsChild}
use Rattle.clause_solver.proofs.Differences.{differs_below, differs_past}
use Rattle.clause_solver.proofs.Links.{below_or, left_of}
use Rattle.clause_solver.proofs.Names.{nat_cases, bool_cases, eq_cases, same_yes}

pub option_cases : (o : Option ℕ) → ((m : ℕ) × (o ≡ Some m)) ⊎ (o ≡ None)
option_cases None = inr refl
option_cases (Some m) = inl (m, refl)

-- ---- links for a place of difference

pub at_first : (some more : List Link) (place m : ℕ) → link_at some place ≡ Some m → link_at (some ++ more) place ≡ Some m
at_first [] more place m e = cc
at_first (link ∷ some) more place m e = elim (eq_cases link.place place) [
  | inl is ↦ rw is.1 (rw is.1 at e)
  | inr other ↦ rw other.1 (at_first some more place m (rw other.1 at e))
]

pub at_next : (some more : List Link) (place : ℕ) → link_at some place ≡ None → link_at (some ++ more) place ≡ link_at more place
at_next [] more place e = refl
at_next (link ∷ some) more place e = elim (eq_cases link.place place) [
  | inl is ↦ let bad : Some link.to ≡ None = rw is.1 at e in cc
  | inr other ↦ rw other.1 (at_next some more place (rw other.1 at e))
]

inside : (low high place : ℕ) → low ≤ place → place < high → (nat_le low place && nat_lt place high) ≡ true
inside low high place l h =
    let a : nat_le low place ≡ true = grind (arith, nat_tests, l) in
    let b : nat_lt place high ≡ true = grind (arith, nat_tests, h) in
    rw (a, b) refl

outside : (low high place : ℕ) → (place < low) ⊎ (high ≤ place) → (nat_le low place && nat_lt place high) ≡ false
outside low high place out = elim out [
  | inl w ↦ let a : nat_le low place ≡ false = grind (arith, nat_tests, w) in rw a refl
  | inr w ↦ let b : nat_lt place high ≡ false = grind (arith, nat_tests, w) in elim (bool_cases (nat_le low place)) [ inl t ↦ rw (t, b) refl | inr t ↦ rw t refl ]
]

pub between_at : (low high place : ℕ) (links : List Link) → low ≤ place → place < high → link_at (between low high links) place ≡ link_at links place
between_at low high place [] l h = refl
between_at low high place (link ∷ links) l h = elim (eq_cases link.place place) [
  | inl e ↦
      let test : (nat_le low link.place && nat_lt link.place high) ≡ true = rw e.0 (inside low high place l h) in
      rw (test, e.1) refl
  | inr other ↦ elim (bool_cases (nat_le low link.place && nat_lt link.place high)) [
    | inl t ↦ rw (t, other.1) (between_at low high place links l h)
    | inr t ↦ rw (t, other.1) (between_at low high place links l h)
  ]
]

pub not_between : (low high place : ℕ) (links : List Link) → (place < low) ⊎ (high ≤ place) → link_at (between low high links) place ≡ None
not_between low high place [] out = refl
not_between low high place (link ∷ links) out = elim (eq_cases link.place place) [
  | inl e ↦
      let test : (nat_le low link.place && nat_lt link.place high) ≡ false = rw e.0 (outside low high place out) in
      rw test (not_between low high place links out)
  | inr other ↦ elim (bool_cases (nat_le low link.place && nat_lt link.place high)) [
    | inl t ↦ rw (t, other.1) (not_between low high place links out)
    | inr t ↦ rw t (not_between low high place links out)
  ]
]

-- ---- an entry is looked for

-- the entry f of p, where there is one, is this entry of p or stands before it
pub record IsSought (vars : List Variable) (p : ℕ) (f : List ℕ) (here : Option ℕ) : Type 0 where
  pub entry : LeadsToEntry vars p (length vars) here
  pub all : (i : ℕ) → i < length vars → (var_at vars i).definition ≡ Child p f → Reaches i here

first_entry : (vars : List Variable) (p : ℕ) (o : Option ℕ) → IsLastChild vars p (length vars) o → LeadsToEntry vars p (length vars) o
first_entry vars p None last = tt
first_entry vars p (Some m) last = (last.0, last.1)

first_reaches : (vars : List Variable) (p i : ℕ) (f : List ℕ) (o : Option ℕ) → IsLastChild vars p (length vars) o → i < length vars → (var_at vars i).definition ≡ Child p f → Reaches i o
first_reaches vars p i f None last w e = last i w (f, e)
first_reaches vars p i f (Some m) last w e = elim (below_or m i) [
  | inl past ↦ absurd (last.2 i past w (f, e))
  | inr le ↦ le
]

-- entries among fewer variables
fewer_entry : (vars : List Variable) (p m n : ℕ) (o : Option ℕ) → m ≤ n → LeadsToEntry vars p m o → LeadsToEntry vars p n o
fewer_entry vars p m n None le e = tt
fewer_entry vars p m n (Some k) le e = let w = e.0 in (omega (arith, w, le), e.1)

fewer_left : (vars : List Variable) (p m : ℕ) (o : Option ℕ) → LeadsToEntry vars p m o → left_of o < suc m
fewer_left vars p m None e = omega arith
fewer_left vars p m (Some k) e = let w = e.0 in omega (arith, w)

module _ (vars : List Variable) (kin : List Kin) (p : ℕ) (f : List ℕ) (linked : AreLinked vars kin) where
  pub first_sought : p < length vars → IsSought vars p f (kin_at kin p).youngest
  first_sought inside = record {
    entry = first_entry vars p _ (linked.youngest p inside);
    all = λ i w e. first_reaches vars p i f _ (linked.youngest p inside) w e;
  }

  module _ (m : ℕ) (here : IsSought vars p f (Some m)) where
    -- the name of the entry that is looked at
    abbrev pub name_here : List ℕ
    name_here = here.entry.1.0

    pub links_here : AreLinks vars p name_here m (kin_at kin m).links
    links_here = linked.links m p name_here here.entry.0 here.entry.1.1

    pub behind_sought : ((var_at vars m).definition ≡ Child p f → ⊥) → IsSought vars p f (link_at (kin_at kin m).links (difference name_here f))
    behind_sought other = record {
      entry = let w = here.entry.0 in fewer_entry vars p m (length vars) _ (omega (arith, w)) (links_here.entries (difference name_here f));
      all = λ i w e.
          let le : i ≤ m = here.all i w e in
          elim (nat_cases i m) [
            | inl q ↦ absurd (other (subst (λ n. (var_at vars n).definition ≡ Child p f) q e))
            | inr ne ↦ links_here.all i f (omega (arith, le, ne)) e
          ];
    }

    pub behind_falls : left_of (link_at (kin_at kin m).links (difference name_here f)) < suc m
    behind_falls = fewer_left vars p m _ (links_here.entries (difference name_here f))

pub none_sought : (vars : List Variable) (p : ℕ) (f : List ℕ) → IsSought vars p f None → (i : ℕ) → ¬ (IsChild vars p f i)
none_sought vars p f here i child = here.all i child.0 child.1

-- ---- the links of a further entry

-- the links are known for the places below `from`; each entry whose name differs first from f at another place is this
-- entry of p or stands before it
pub record AreKnown (vars : List Variable) (p : ℕ) (f : List ℕ) (links : List Link) (from : ℕ) (here : Option ℕ) : Type 0 where
  pub entry : LeadsToEntry vars p (length vars) here
  pub entries : (place : ℕ) → LeadsToEntry vars p (length vars) (link_at links place)
  pub none : (place : ℕ) → from ≤ place → link_at links place ≡ None
  pub known : (i : ℕ) (g : List ℕ) → i < length vars → (var_at vars i).definition ≡ Child p g → difference f g < from → Reaches i (link_at links (difference f g))
  pub rest : (i : ℕ) (g : List ℕ) → i < length vars → (var_at vars i).definition ≡ Child p g → from ≤ difference f g → Reaches i here

pub known_first : (vars : List Variable) (kin : List Kin) (p : ℕ) (f : List ℕ) → AreLinked vars kin → p < length vars → AreKnown vars p f [] 0 (kin_at kin p).youngest
known_first vars kin p f linked inside = record {
  entry = first_entry vars p _ (linked.youngest p inside);
  entries = λ place. tt;
  none = λ place le. refl;
  known = λ i g w e less. absurd (omega (arith, less));
  rest = λ i g w e le. first_reaches vars p i g _ (linked.youngest p inside) w e;
}

pub known_last : (vars : List Variable) (p : ℕ) (f : List ℕ) (links : List Link) (from : ℕ) → AreKnown vars p f links from None → AreLinks vars p f (length vars) links
known_last vars p f links from k = record {
  entries = k.entries;
  all = λ i g w e. elim (below_or (difference f g) from) [
    | inl less ↦ k.known i g w e less
    | inr le ↦ absurd (k.rest i g w e le)
  ];
}

reaches_first : (some more : List Link) (place i : ℕ) → Reaches i (link_at some place) → Reaches i (link_at (some ++ more) place)
reaches_first some more place i r = elim (option_cases (link_at some place)) [
  | inl m ↦ rw (at_first some more place m.0 m.1) (rw m.1 at r)
  | inr none ↦ absurd (rw none at r)
]

module _ (vars : List Variable) (kin : List Kin) (p : ℕ) (f : List ℕ) (linked : AreLinked vars kin) (links : List Link) (from m : ℕ) (k : AreKnown vars p f links from (Some m)) where
  abbrev pub name_known : List ℕ
  name_known = k.entry.1.0

  abbrev own : List Link
  own = (kin_at kin m).links

  abbrev at : ℕ
  at = difference f name_known

  own_links : AreLinks vars p name_known m own
  own_links = linked.links m p name_known k.entry.0 k.entry.1.1

  -- an entry at another place of difference stands before m
  before : (i : ℕ) (g : List ℕ) → i < length vars → (var_at vars i).definition ≡ Child p g → from ≤ difference f g → difference f g ≢ at → i < m
  before i g w e le ne =
      let up : i ≤ m = k.rest i g w e le in
      elim (nat_cases i m) [
        | inl q ↦
            let same : Child p g ≡ Child p name_known = sym e ∙ subst (λ n. (var_at vars n).definition ≡ Child p name_known) (sym q) k.entry.1.1 in
            let names : g ≡ name_known = cc in
            absurd (ne (ap (difference f) names))
        | inr other ↦ omega (arith, up, other)
      ]

  -- an entry whose name differs from f behind where that of m does
  past : (i : ℕ) (g : List ℕ) → i < length vars → (var_at vars i).definition ≡ Child p g → from ≤ difference f g → at < difference f g → Reaches i (link_at own at)
  past i g w e le less =
      let low = before i g w e le (λ q. let less' : at < at = rw q at less in omega (arith, less')) in
      subst (λ n. Reaches i (link_at own n)) (differs_past f name_known g less) (own_links.all i g low e)

  -- and before
  less : (i : ℕ) (g : List ℕ) → i < length vars → (var_at vars i).definition ≡ Child p g → from ≤ difference f g → difference f g < at → Reaches i (link_at own (difference f g))
  less i g w e le few =
      let low = before i g w e le (λ q. let few' : at < at = rw q at few in omega (arith, few')) in
      subst (λ n. Reaches i (link_at own n)) (differs_below f name_known g few) (own_links.all i g low e)

  own_entry : (place : ℕ) → LeadsToEntry vars p (length vars) (link_at own place)
  own_entry place = let w = k.entry.0 in fewer_entry vars p m (length vars) _ (omega (arith, w)) (own_links.entries place)

  known_on : at < from → AreKnown vars p f links from (link_at own at)
  known_on low = record {
    entry = own_entry at;
    entries = k.entries;
    none = k.none;
    known = k.known;
    rest = λ i g w e le. past i g w e le (omega (arith, low, le));
  }

  abbrev added : List Link
  added = (links ++ between from at own) ++ record { place = at; to = m } ∷ []

  -- where the link for a place leads then
  added_known : (place : ℕ) (i : ℕ) → Reaches i (link_at links place) → Reaches i (link_at added place)
  added_known place i r = reaches_first (links ++ between from at own) _ place i (reaches_first links (between from at own) place i r)

  added_between : (place : ℕ) → from ≤ place → place < at → link_at (links ++ between from at own) place ≡ link_at own place
  added_between place le less = at_next links (between from at own) place (k.none place le) ∙ between_at from at place own le less

  added_none : (place : ℕ) → from ≤ place → at ≤ place → link_at (links ++ between from at own) place ≡ None
  added_none place le past = at_next links (between from at own) place (k.none place le) ∙ not_between from at place own (inr past)

  added_at : from ≤ at → link_at added at ≡ Some m
  added_at le = at_next (links ++ between from at own) _ at (added_none at le (omega arith)) ∙ (let test : nat_eq at at ≡ true = same_yes at at refl in rw test refl)

  added_past : (place : ℕ) → from ≤ place → at < place → link_at added place ≡ None
  added_past place le past = at_next (links ++ between from at own) _ place (added_none place le (omega (arith, past))) ∙ (elim (eq_cases at place) [
    | inl e ↦ let w = e.0 in absurd (omega (arith, past, w))
    | inr ne ↦ rw ne.1 refl
  ])

  added_entry : (place : ℕ) → from ≤ at → LeadsToEntry vars p (length vars) (link_at added place)
  added_entry place le = elim (below_or place from) [
    | inl low ↦ elim (option_cases (link_at links place)) [
      | inl some ↦ rw (at_first (links ++ between from at own) _ place some.0 (at_first links (between from at own) place some.0 some.1)) (rw some.1 at (k.entries place))
      | inr none ↦ rw (at_next (links ++ between from at own) _ place (at_next links (between from at own) place none ∙ not_between from at place own (inl low))) (
          elim (eq_cases at place) [
            | inl e ↦ let w = e.0 in absurd (omega (arith, le, low, w))
            | inr ne ↦ rw ne.1 tt
          ])
    ]
    | inr high ↦ elim (below_or place at) [
      | inl low ↦ elim (option_cases (link_at own place)) [
        | inl some ↦ rw (at_first (links ++ between from at own) _ place some.0 (added_between place high low ∙ some.1)) (rw some.1 at (own_entry place))
        | inr none ↦ rw (at_next (links ++ between from at own) _ place (added_between place high low ∙ none)) (
            elim (eq_cases at place) [
              | inl e ↦ let w = e.0 in absurd (omega (arith, low, w))
              | inr ne ↦ rw ne.1 tt
            ])
      ]
      | inr past ↦ elim (nat_cases place at) [
        | inl e ↦ rw (e, added_at le) k.entry
        | inr ne ↦ rw (added_past place high (omega (arith, past, ne))) tt
      ]
    ]
  ]

  added_less : (place i : ℕ) → from ≤ place → place < at → Reaches i (link_at own place) → Reaches i (link_at added place)
  added_less place i le low r = reaches_first (links ++ between from at own) _ place i (rw (added_between place le low) r)

  known_more : from ≤ at → AreKnown vars p f added (at + 1) (link_at own at)
  known_more le = record {
    entry = own_entry at;
    entries = λ place. added_entry place le;
    none = λ place past. added_past place (omega (arith, le, past)) (omega (arith, past));
    known = λ i g w e low. elim (below_or (difference f g) from) [
      | inl b ↦ added_known (difference f g) i (k.known i g w e b)
      | inr high ↦ elim (below_or (difference f g) at) [
        | inl b ↦ added_less (difference f g) i high b (less i g w e high b)
        | inr up ↦
            let q : difference f g ≡ at = omega (arith, low, up) in
            rw (q, added_at le) (k.rest i g w e high)
      ]
    ];
    rest = λ i g w e up. past i g w e (omega (arith, le, up)) (omega (arith, up));
  }

  pub known_next : AreKnown vars p f (more_links links from at m own) (more_places from at) (link_at own at)
  known_next = elim (below_or at from) [
    | inl low ↦ let test : nat_lt at from ≡ true = grind (arith, nat_tests, low) in rw test (known_on low)
    | inr high ↦ let test : nat_lt at from ≡ false = grind (arith, nat_tests, high) in rw test (known_more high)
  ]

  pub known_falls : left_of (link_at own at) < suc m
  known_falls = fewer_left vars p m _ (own_links.entries at)
