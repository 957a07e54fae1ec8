-- The cases of a variable that has an entry, and the way over the entries of a place.
use Rattle.std.proofs.Common.{◌≡◌, ◌≢◌, ℕ, ◌<◌, ◌≤◌, ◌⊎◌, inl, inr, ◌||◌, ◌↔◌, Bool, true, false, IsTrue, Option, None, Some, List, [], ◌∷◌, length, refl, sym, ap, subst, ◌∙◌, arith}
use Rattle.feature_trees.specs.declared.kind.Kind.{Kind}
use Rattle.feature_trees.specs.declared.kind.Kind.TheVariants.{Absent, Dir}
use Rattle.clause_solver.specs.declared.greatest.ReplacedNames.{fold-roll-ReplacedNames}
use Rattle.clause_solver.specs.declared.greatest.ReplacedNames.TheVariants.{Also, Nothing, rolls-Also, rolls-Nothing}
use Rattle.clause_solver.specs.declared.greatest.ReplacedNames.TheOpen.{Also as an_also, Nothing as a_nothing}
use Rattle.clause_solver.specs.declared.variable.MadeValue.{MadeValue}
use Rattle.clause_solver.specs.declared.variable.Definition.TheVariants.{Child, Derived, Ensured, Made}
use Rattle.clause_solver.specs.declared.variable.Variable.{Variable}
use Rattle.clause_solver.specs.declared.kin.Kin.{Kin}
use Rattle.clause_solver.specs.Linked.{kin_at, IsLastChild, AreLinked}
use Rattle.clause_solver.specs.ReplacedNames.{names, layer}
use Rattle.clause_solver.specs.Variables.{var_at, Listed, is_node, Ordered}
use Rattle.clause_solver.specs.Greatest.{kind_at, name_in, HasEntryOutside, free, child_present, here, below, kept, IsOpen, IsPresentChild}
use Rattle.clause_solver.proofs.Links.{below_or, left_of, left_falls}
use Rattle.clause_solver.proofs.Names.{nat_cases}
use Rattle.std.proofs.lemmas.Bool.{or_cases, or_left, or_right}

pub node_parent : (vars : List Variable) → Ordered vars → (m n : ℕ) (f : List ℕ) → m < length vars → (var_at vars m).definition ≡ Child n f → IsTrue (is_node (var_at vars n).definition)
node_parent vars order m n f w e = (rw e at (order.earlier m w)).1

module _ (vars : List Variable) (best : List Kind) (open_at : ℕ → Bool) where
  pub has_entry_node : (n : ℕ) (ds : List (List ℕ)) → IsTrue (is_node (var_at vars n).definition) → HasEntryOutside vars best open_at n ds → ((kind_at best n ≡ Dir) × IsTrue (open_at n)) ⊎ ((m : ℕ) × (m < length vars) × IsPresentChild vars best n ds m)
  has_entry_node n ds node (free a b c) = inl (b, c)
  has_entry_node n ds node (child_present m f w e some out) =
      let name : name_in (var_at vars m).definition ≡ f = ap name_in e in
      inr (m, w, rw name (e, some, out))
  has_entry_node n ds node (here x f y e some out) = let bad : false ≡ true = rw e at node in absurd (cc)
  has_entry_node n ds node (below x f y e rest1) = let bad : false ≡ true = rw e at node in absurd (cc)
  has_entry_node n ds node (kept x e rest1) = let bad : false ≡ true = rw e at node in absurd (cc)

  pub has_entry_derived : Ordered vars → (n x : ℕ) (f : List ℕ) (y : ℕ) (ds : List (List ℕ)) → (var_at vars n).definition ≡ Derived x f y → HasEntryOutside vars best open_at n ds → ((kind_at best y ≢ Absent) × (¬ (Listed f ds))) ⊎ HasEntryOutside vars best open_at x (f ∷ ds)
  has_entry_derived order n x f y ds e (free a b c) = let bad : false ≡ true = rw e at a in absurd (cc)
  has_entry_derived order n x f y ds e (child_present m g w e' some out) = let bad : false ≡ true = rw e at (node_parent vars order m n g w e') in absurd (cc)
  has_entry_derived order n x f y ds e (here x' f' y' e' some out) =
      let same : Derived x' f' y' ≡ Derived x f y = sym e' ∙ e in
      let ey : y' ≡ y = cc in
      let ef : f' ≡ f = cc in
      inl (rw ey at some, rw ef at out)
  has_entry_derived order n x f y ds e (below x' f' y' e' rest1) =
      let same : Derived x' f' y' ≡ Derived x f y = sym e' ∙ e in
      let ex : x' ≡ x = cc in
      let ef : f' ≡ f = cc in
      inr (rw (ex, ef) at rest1)
  has_entry_derived order n x f y ds e (kept x' e' rest1) = let bad : Derived x f y ≡ Ensured x' = sym e ∙ e' in absurd (cc)

  pub has_entry_ensured : Ordered vars → (n x : ℕ) (ds : List (List ℕ)) → (var_at vars n).definition ≡ Ensured x → HasEntryOutside vars best open_at n ds → HasEntryOutside vars best open_at x ds
  has_entry_ensured order n x ds e (free a b c) = let bad : false ≡ true = rw e at a in absurd (cc)
  has_entry_ensured order n x ds e (child_present m g w e' some out) = let bad : false ≡ true = rw e at (node_parent vars order m n g w e') in absurd (cc)
  has_entry_ensured order n x ds e (here x' f' y' e' some out) = let bad : Ensured x ≡ Derived x' f' y' = sym e ∙ e' in absurd (cc)
  has_entry_ensured order n x ds e (below x' f' y' e' rest1) = let bad : Ensured x ≡ Derived x' f' y' = sym e ∙ e' in absurd (cc)
  has_entry_ensured order n x ds e (kept x' e' rest1) =
      let same : Ensured x' ≡ Ensured x = sym e' ∙ e in
      let ex : x' ≡ x = cc in
      rw ex at rest1

  pub has_entry_made : Ordered vars → (n : ℕ) (k : MadeValue) (ds : List (List ℕ)) → (var_at vars n).definition ≡ Made k → HasEntryOutside vars best open_at n ds → ⊥
  has_entry_made order n k ds e (free a b c) = let bad : false ≡ true = rw e at a in absurd (cc)
  has_entry_made order n k ds e (child_present m g w e' some out) = let bad : false ≡ true = rw e at (node_parent vars order m n g w e') in absurd (cc)
  has_entry_made order n k ds e (here x' f' y' e' some out) = let bad : Made k ≡ Derived x' f' y' = sym e ∙ e' in absurd (cc)
  has_entry_made order n k ds e (below x' f' y' e' rest1) = let bad : Made k ≡ Derived x' f' y' = sym e ∙ e' in absurd (cc)
  has_entry_made order n k ds e (kept x' e' rest1) = let bad : Made k ≡ Ensured x' = sym e ∙ e' in absurd (cc)

pub node_iff : (vars : List Variable) (best : List Kind) (open_at : ℕ → Bool) (n : ℕ) (ds : List (List ℕ)) (a b : Bool) → IsTrue (is_node (var_at vars n).definition) → (IsTrue a ↔ IsOpen best open_at n) → (IsTrue b ↔ ((m : ℕ) × (m < length vars) × IsPresentChild vars best n ds m)) → IsTrue (a || b) ↔ HasEntryOutside vars best open_at n ds
node_iff vars best open_at n ds a b node ia ib = (
  λ t. elim (or_cases a b t) [
    | inl u ↦ let q = ia.0 u in free node q.0 q.1
    | inr u ↦ let q = ib.0 u in child_present q.0 (name_in (var_at vars q.0).definition) q.1 q.2.0 q.2.1 q.2.2
  ],
  λ l. elim (has_entry_node vars best open_at n ds node l) [
    | inl q ↦ or_left a b (ia.1 q)
    | inr q ↦ or_right a b (ib.1 q)
  ],
)

-- where it is open, nothing else is asked; else whether an entry is there is all
pub node_open : (vars : List Variable) (best : List Kind) (open_at : ℕ → Bool) (n : ℕ) (ds : List (List ℕ)) (a : Bool) → a ≡ true → IsTrue (is_node (var_at vars n).definition) → (IsTrue a ↔ IsOpen best open_at n) → IsTrue true ↔ HasEntryOutside vars best open_at n ds
node_open vars best open_at n ds a e node ia = (λ t. let q = ia.0 e in free node q.0 q.1, λ l. refl)

pub node_closed : (vars : List Variable) (best : List Kind) (open_at : ℕ → Bool) (n : ℕ) (ds : List (List ℕ)) (a b : Bool) → a ≡ false → IsTrue (is_node (var_at vars n).definition) → (IsTrue a ↔ IsOpen best open_at n) → (IsTrue b ↔ ((m : ℕ) × (m < length vars) × IsPresentChild vars best n ds m)) → IsTrue b ↔ HasEntryOutside vars best open_at n ds
node_closed vars best open_at n ds a b e node ia ib = subst (λ (x : Bool). IsTrue (x || b) ↔ HasEntryOutside vars best open_at n ds) e (node_iff vars best open_at n ds a b node ia ib)

-- where no entry is there under any name, none is there outside some names
pub node_bare : (vars : List Variable) (best : List Kind) (open_at : ℕ → Bool) (n : ℕ) (ds : List (List ℕ)) (a any : Bool) → a ≡ false → any ≡ false → IsTrue (is_node (var_at vars n).definition) → (IsTrue a ↔ IsOpen best open_at n) → (IsTrue any ↔ ((m : ℕ) × (m < length vars) × IsPresentChild vars best n [] m)) → IsTrue false ↔ HasEntryOutside vars best open_at n ds
node_bare vars best open_at n ds a any e none node ia iany =
    node_closed vars best open_at n ds a false e node ia (
      λ t. let bad : false ≡ true = t in absurd (cc),
      λ child. sym none ∙ iany.1 (child.0, child.1, (child.2.0, child.2.1, λ l. l)),
    )

pub derived_iff : (vars : List Variable) (best : List Kind) (open_at : ℕ → Bool) → Ordered vars → (n x : ℕ) (f : List ℕ) (y : ℕ) (ds : List (List ℕ)) (a b : Bool) → (var_at vars n).definition ≡ Derived x f y → (IsTrue a ↔ ((kind_at best y ≢ Absent) × (¬ (Listed f ds)))) → (IsTrue b ↔ HasEntryOutside vars best open_at x (f ∷ ds)) → IsTrue (a || b) ↔ HasEntryOutside vars best open_at n ds
derived_iff vars best open_at order n x f y ds a b e ia ib = (
  λ t. elim (or_cases a b t) [
    | inl u ↦ let q = ia.0 u in here x f y e q.0 q.1
    | inr u ↦ below x f y e (ib.0 u)
  ],
  λ l. elim (has_entry_derived vars best open_at order n x f y ds e l) [
    | inl q ↦ or_left a b (ia.1 q)
    | inr q ↦ or_right a b (ib.1 q)
  ],
)

pub derived_shown : (vars : List Variable) (best : List Kind) (open_at : ℕ → Bool) (n x : ℕ) (f : List ℕ) (y : ℕ) (ds : List (List ℕ)) (a : Bool) → a ≡ true → (var_at vars n).definition ≡ Derived x f y → (IsTrue a ↔ ((kind_at best y ≢ Absent) × (¬ (Listed f ds)))) → IsTrue true ↔ HasEntryOutside vars best open_at n ds
derived_shown vars best open_at n x f y ds a is e ia = (λ t. let q = ia.0 is in here x f y e q.0 q.1, λ l. refl)

pub derived_hidden : (vars : List Variable) (best : List Kind) (open_at : ℕ → Bool) → Ordered vars → (n x : ℕ) (f : List ℕ) (y : ℕ) (ds : List (List ℕ)) (a b : Bool) → a ≡ false → (var_at vars n).definition ≡ Derived x f y → (IsTrue a ↔ ((kind_at best y ≢ Absent) × (¬ (Listed f ds)))) → (IsTrue b ↔ HasEntryOutside vars best open_at x (f ∷ ds)) → IsTrue b ↔ HasEntryOutside vars best open_at n ds
derived_hidden vars best open_at order n x f y ds a b is e ia ib = subst (λ (c : Bool). IsTrue (c || b) ↔ HasEntryOutside vars best open_at n ds) is (derived_iff vars best open_at order n x f y ds a b e ia ib)

pub replaced_also : (f : _) (p : _) → names (Also f p) ≡ f.now ∷ names p.now
replaced_also f p = ap names (sym (rolls-Also f p)) ∙ fold-roll-ReplacedNames (List (List ℕ)) layer (an_also f p)

pub replaced_nothing : names Nothing ≡ []
replaced_nothing = ap names (sym rolls-Nothing) ∙ fold-roll-ReplacedNames (List (List ℕ)) layer a_nothing

-- on the way from the last entry of a place to the first: none that is there stands behind what is left
pub record NonePresent (vars : List Variable) (best : List Kind) (x : ℕ) (ds : List (List ℕ)) (rest : Option ℕ) : Type 0 where
  pub bound : ℕ
  pub low : bound ≤ length vars
  pub last : IsLastChild vars x bound rest
  pub none : (i : ℕ) → bound ≤ i → i < length vars → ¬ (IsPresentChild vars best x ds i)

module _ (vars : List Variable) (best : List Kind) (kin : List Kin) (x : ℕ) (ds : List (List ℕ)) (linked : AreLinked vars kin) where
  pub none_first : x < length vars → NonePresent vars best x ds (kin_at kin x).youngest
  none_first inside = record {
    bound = length vars;
    low = omega arith;
    last = linked.youngest x inside;
    none = λ i le w. absurd (omega (arith, le, w));
  }

  pub none_last : NonePresent vars best x ds None → ¬ ((m : ℕ) × (m < length vars) × IsPresentChild vars best x ds m)
  none_last n child = elim (below_or child.0 n.bound) [
    | inl low ↦ n.last child.0 low (name_in (var_at vars child.0).definition, child.2.0)
    | inr le ↦ n.none child.0 le child.1 child.2
  ]

  module _ (m : ℕ) (n : NonePresent vars best x ds (Some m)) where
    pub present_inside : m < length vars
    present_inside = let low = n.low in let below = n.last.0 in omega (arith, low, below)

    pub present_falls : left_of (kin_at kin m).older < left_of (Some m)
    present_falls = left_falls vars x m (kin_at kin m).older (linked.older m x present_inside n.last.1)

    pub none_next : ¬ (IsPresentChild vars best x ds m) → NonePresent vars best x ds (kin_at kin m).older
    none_next absent = record {
      bound = m;
      low = let w = present_inside in omega (arith, w);
      last = linked.older m x present_inside n.last.1;
      none = λ i le w child. elim (nat_cases i m) [
        | inl e ↦ absent (subst (IsPresentChild vars best x ds) e child)
        | inr ne ↦ elim (below_or i n.bound) [
          | inl low ↦ n.last.2 i (omega (arith, le, ne)) low (name_in (var_at vars i).definition, child.0)
          | inr past ↦ n.none i past w child
        ]
      ];
    }
