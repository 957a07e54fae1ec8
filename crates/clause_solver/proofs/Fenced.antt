-- What a fence leaves.
use Rattle.std.proofs.Common.{◌≡◌, ◌≢◌, ℕ, ◌<◌, inl, inr, IsTrue, Bool, true, false, if◌then◌else◌, Option, Some, filter, List, [], ◌∷◌, length, refl, sym, ap, ◌∙◌, length-set, get_or-set_other, get_or-set_same}
use Rattle.feature_trees.specs.declared.value.Value.TheVariants as value
use Rattle.feature_trees.specs.Tree.{entry}
use Rattle.tree_clauses.specs.Literals.{Valuation, value_of_variable}
use Rattle.tree_clauses.proofs.Values.{absent_or_not}
use Rattle.clause_solver.specs.declared.kin.Kin.{Kin}
use Rattle.clause_solver.specs.declared.variable.Definition.{Definition}
use Rattle.clause_solver.specs.declared.variable.Definition.TheVariants.{Start, Child, Derived, Ensured, Made}
use Rattle.clause_solver.specs.declared.variable.Variable.{Variable}
use Rattle.clause_solver.specs.Linked.{AreLinked}
use Rattle.clause_solver.specs.Variables.{var_at, Listed, member, allowed, Fits, AllFit, Earlier, Ordered, IsChild, AlwaysDir, OnlyDir, is_node}
use Rattle.clause_solver.specs.Emptied.{HasNoneOutside, let_in, fenced}
use Rattle.clause_solver.proofs.Names.{nat_cases, bool_cases, listed_from_member, member_from_listed}
use Rattle.clause_solver.proofs.Links.{same_linked}

-- the names that a test keeps
kept_by : (p : List ℕ → Bool) (x : List ℕ) (xs : List (List ℕ)) (b : Bool) → p x ≡ b → (f : List ℕ) → (Listed f (filter p xs) → Listed f xs × IsTrue (p f)) → Listed f (if b then (x ∷ filter p xs) else filter p xs) → Listed f (x ∷ xs) × IsTrue (p f)
kept_by p x xs true e f more l = elim l [
  | inl q ↦ (inl q, rw q e)
  | inr r ↦ let m = more r in (inr m.0, m.1)
]
kept_by p x xs false e f more l = let m = more l in (inr m.0, m.1)

pub kept_of : (p : List ℕ → Bool) (xs : List (List ℕ)) (f : List ℕ) → Listed f (filter p xs) → Listed f xs × IsTrue (p f)
kept_of p [] f l = absurd l
kept_of p (x ∷ xs) f l = kept_by p x xs (p x) refl f (kept_of p xs f) l

keeps_by : (p : List ℕ → Bool) (x : List ℕ) (xs : List (List ℕ)) (b : Bool) → p x ≡ b → (f : List ℕ) → IsTrue (p f) → (Listed f xs → Listed f (filter p xs)) → Listed f (x ∷ xs) → Listed f (if b then (x ∷ filter p xs) else filter p xs)
keeps_by p x xs true e f t more l = elim l [ inl q ↦ inl q | inr r ↦ inr (more r) ]
keeps_by p x xs false e f t more l = elim l [
  | inl q ↦ let bad : p x ≡ true = rw (← q) t in let worse : true ≡ false = sym bad ∙ e in absurd (cc)
  | inr r ↦ more r
]

pub keeps : (p : List ℕ → Bool) (xs : List (List ℕ)) (f : List ℕ) → IsTrue (p f) → Listed f xs → Listed f (filter p xs)
keeps p [] f t l = absurd l
keeps p (x ∷ xs) f t l = keeps_by p x xs (p x) refl f t (keeps p xs f t) l

module _ (vars : List Variable) (n : ℕ) (names : List (List ℕ)) (inside : n < length vars) where
  abbrev fence : Option (List (List ℕ))
  fence = Some (let_in (var_at vars n).fence names)

  abbrev here_now : Variable
  here_now = record (var_at vars n) { fence = fence }

  pub fenced_definition : (i : ℕ) → (var_at (fenced vars n names) i).definition ≡ (var_at vars i).definition
  fenced_definition i = elim (nat_cases i n) [
    | inl e ↦ rw (e, get_or-set_same) refl
    | inr ne ↦ rw get_or-set_other refl
  ]

  pub fenced_kinds : (i : ℕ) → (var_at (fenced vars n names) i).kinds ≡ (var_at vars i).kinds
  fenced_kinds i = elim (nat_cases i n) [
    | inl e ↦ rw (e, get_or-set_same) refl
    | inr ne ↦ rw get_or-set_other refl
  ]

  fenced_target : (i : ℕ) → (var_at (fenced vars n names) i).target ≡ (var_at vars i).target
  fenced_target i = elim (nat_cases i n) [
    | inl e ↦ rw (e, get_or-set_same) refl
    | inr ne ↦ rw get_or-set_other refl
  ]

  -- both fences let a name in, or the new one does not
  pub let_in_both : (f : List ℕ) → IsTrue (allowed fence f) → Listed f names × IsTrue (allowed (var_at vars n).fence f)
  let_in_both f t = kept_of (allowed (var_at vars n).fence) names f (listed_from_member f (let_in (var_at vars n).fence names) t)

  both_let_in : (f : List ℕ) → Listed f names → IsTrue (allowed (var_at vars n).fence f) → IsTrue (allowed fence f)
  both_let_in f l t = member_from_listed f (let_in (var_at vars n).fence names) (keeps (allowed (var_at vars n).fence) names f t l)

  pub fenced_fits : (g : Valuation) → AllFit (fenced vars n names) g → AllFit vars g × HasNoneOutside (value_of_variable g n) names
  fenced_fits g h =
      let longer : n < length (fenced vars n names) = rw length-set inside in
      let here : Fits g n here_now = rw get_or-set_same at (h n longer) in (
        λ i w. elim (nat_cases i n) [
          | inl e ↦ rw e (record { is = here.is; kind = here.kind; fenced = λ f some. (let_in_both f (here.fenced f some)).1; filled = here.filled; aimed = here.aimed })
          | inr ne ↦ let w' : i < length (fenced vars n names) = rw length-set w in rw get_or-set_other at (h i w')
        ],
        λ f out. elim (absent_or_not (entry (value_of_variable g n) f)) [
          | inl a ↦ a
          | inr some ↦ absurd (out (let_in_both f (here.fenced f some)).0)
        ],
      )

  -- an entry that is there is one of the names
  listed_there : (g : Valuation) → HasNoneOutside (value_of_variable g n) names → (f : List ℕ) → entry (value_of_variable g n) f ≢ value.Absent → Listed f names
  listed_there g none f some = elim (bool_cases (member f names)) [
    | inl t ↦ listed_from_member f names t
    | inr m ↦ absurd (some (none f (λ l. let t : member f names ≡ true = member_from_listed f names l in let bad : true ≡ false = sym t ∙ m in cc)))
  ]

  pub fits_fenced : (g : Valuation) → AllFit vars g → HasNoneOutside (value_of_variable g n) names → AllFit (fenced vars n names) g
  fits_fenced g h none i w' =
      let w : i < length vars = rw length-set at w' in
      elim (nat_cases i n) [
        | inl e ↦
            let here = h n inside in
            rw e (rw get_or-set_same (record { is = here.is; kind = here.kind; fenced = λ f some. both_let_in f (listed_there g none f some) (here.fenced f some); filled = here.filled; aimed = here.aimed }))
        | inr ne ↦ rw get_or-set_other (h i w)
      ]

  pub fenced_only : (i : ℕ) → OnlyDir vars i → OnlyDir (fenced vars n names) i
  fenced_only i h q w = h q (rw fenced_kinds at w)

  pub fenced_always : (i : ℕ) → AlwaysDir vars i → AlwaysDir (fenced vars n names) i
  fenced_always i h g l s f = h g (rw length-set at l) s (fenced_fits g f).0

  earlier_by : (i : ℕ) (d : Definition) → Earlier vars i d → Earlier (fenced vars n names) i d
  earlier_by i Start q = q
  earlier_by i (Child p f) q = (q.0, rw (fenced_definition p) q.1, q.2)
  earlier_by i (Derived a f b) q = q
  earlier_by i (Ensured a) q = q
  earlier_by i (Made m) q = q

  -- each name has its variable
  abbrev AreKnown : Type 0
  AreKnown = (f : List ℕ) → Listed f names → (m : ℕ) × IsChild vars n f m

  listed_of : (f : List ℕ) (these : List (List ℕ)) → fence ≡ Some these → IsTrue (member f these) → Listed f names
  listed_of f these e t =
      let same : let_in (var_at vars n).fence names ≡ these = cc in
      (kept_of (allowed (var_at vars n).fence) names f (listed_from_member f (let_in (var_at vars n).fence names) (rw same t))).0

  pub fenced_order : IsTrue (is_node (var_at vars n).definition) → AreKnown → Ordered vars → Ordered (fenced vars n names)
  fenced_order node known order = record {
    some = rw length-set order.some;
    first = fenced_definition 0 ∙ order.first;
    earlier = λ i w. rw (fenced_definition i) (earlier_by i (var_at vars i).definition (order.earlier i (rw length-set at w)));
    single = λ i j p f h w at_i at_j. order.single i j p f h (rw length-set at w) (sym (fenced_definition i) ∙ at_i) (sym (fenced_definition j) ∙ at_j);
    known = λ i these f w is listed. elim (nat_cases i n) [
      | inl e ↦
          let is' : fence ≡ Some these = rw (e, get_or-set_same) at is in
          let m = known f (listed_of f these is' listed) in
          (m.0, rw length-set m.1.0, fenced_definition m.0 ∙ m.1.1 ∙ ap (λ k. Child k f) (sym e))
      | inr ne ↦
          let m = order.known i these f (rw length-set at w) (rw get_or-set_other at is) listed in
          (m.0, rw length-set m.1, fenced_definition m.0 ∙ m.2)
    ];
    nodes = λ i w no_node. elim (nat_cases i n) [
      | inl e ↦
          let here : is_node (var_at vars n).definition ≡ false = ap (λ k. is_node (var_at vars k).definition) (sym e) ∙ ap is_node (sym (fenced_definition i)) ∙ no_node in
          let bad : true ≡ false = sym node ∙ here in absurd (cc)
      | inr ne ↦ rw get_or-set_other (order.nodes i (rw length-set at w) (ap is_node (sym (fenced_definition i)) ∙ no_node))
    ];
    aims = λ i b w t.
        let place = order.aims i b (rw length-set at w) (sym (fenced_target i) ∙ t) in
        (ap is_node (fenced_definition i) ∙ place.0, λ q h. place.1 q (rw fenced_kinds at h));
  }

  pub fenced_linked : (kin : List Kin) → AreLinked vars kin → AreLinked (fenced vars n names) kin
  fenced_linked kin linked = same_linked vars (fenced vars n names) kin (length-set vars n _) fenced_definition linked
