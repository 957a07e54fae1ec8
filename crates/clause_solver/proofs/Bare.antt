-- The start tree that is shown holds nothing but what variables stand for and what is owed.
use Rattle.std.proofs.Common.{◌≡◌, ◌≢◌, ℕ, zero, suc, ◌+◌, ◌<◌, inl, inr, Bool, IsTrue, None, List, [], ◌∷◌, ◌++◌, length, refl, sym, ap, ◌∙◌, arith}
use Rattle.std.specs.Prelude.{Contains}
use Rattle.std.proofs.lemmas.Bool.{and_parts}
use Rattle.std.proofs.lemmas.List.Elements.{Contains-append_left, Contains-append_right}
use Rattle.feature_trees.specs.declared.kind.Kind.{Kind}
use Rattle.feature_trees.specs.declared.value.Value.{Value}
use Rattle.feature_trees.specs.declared.value.Value.TheVariants.{Absent, Reg}
use Rattle.feature_trees.specs.Tree.{at, entry}
use Rattle.tree_clauses.specs.declared.clause.Literal.{Literal}
use Rattle.tree_clauses.specs.declared.clause.Literal.TheVariants as L
use Rattle.tree_clauses.specs.Literals.{Valuation, value_of_variable}
use Rattle.tree_clauses.proofs.Orders.{contains_head}
use Rattle.clause_solver.specs.declared.variable.Definition.{Definition}
use Rattle.clause_solver.specs.declared.variable.Definition.TheVariants.{Child, Derived, Ensured}
use Rattle.clause_solver.specs.declared.variable.Variable.{Variable}
use Rattle.clause_solver.specs.Bare.{IsMadeFrom, same, similar, IsOwed, IsOwedBelow, IsAccounted, IsBare}
use Rattle.clause_solver.specs.Greatest.{IsBest, IsSatisfied, unfenced}
use Rattle.clause_solver.specs.Grown.{values}
use Rattle.clause_solver.specs.NewNames.{IsNew}
use Rattle.clause_solver.specs.Opens.{mark_at, opened, IsRoot, itself, derived, ensured, AreReasoned}
use Rattle.clause_solver.specs.Stands.{Seen, Stands}
use Rattle.clause_solver.specs.Variables.{var_at, is_node, Ordered}
use Rattle.clause_solver.specs.Written.{var, definition_literals, kinds_literals, fence_literals, filled_literals, target_literals, literals_of, literals_from}
use Rattle.clause_solver.proofs.Alive.{opened_none}
use Rattle.clause_solver.proofs.Grown.{evals, evals_length, all_fit, node_is, child_is, place_entry, place_new, only_new}
use Rattle.clause_solver.proofs.OneMore.{seen_of}
use Rattle.clause_solver.proofs.Pairs.{fits_from}
use Rattle.clause_solver.proofs.Unique.{one_valuation}

-- ---- the literals of a variable are among those of the store

literal_from : (k : ℕ) (vs : List Variable) (i : ℕ) (l : Literal) → i < length vs → Contains (literals_of (k + i) (var_at vs i)) l → Contains (literals_from k vs) l
literal_from k [] i l w c = absurd (omega arith)
literal_from k (v ∷ vs) zero l w c =
    let zz : k + 0 ≡ k = omega arith in
    Contains-append_left (literals_of k v) (literals_from (suc k) vs) l (rw zz at c)
literal_from k (v ∷ vs) (suc i) l w c =
    let shift : k + suc i ≡ suc k + i = omega arith in
    Contains-append_right (literals_of k v) (literals_from (suc k) vs) l (literal_from (suc k) vs i l (omega arith) (rw shift at c))

literal_of : (vars : List Variable) (i : ℕ) (l : Literal) → i < length vars → Contains (literals_of i (var_at vars i)) l → Contains (literals_from 0 vars) l
literal_of vars i l w c = let zz : 0 + i ≡ i = omega arith in literal_from 0 vars i l w (rw zz c)

definition_literal : (vars : List Variable) (i : ℕ) (d : Definition) (l : Literal) → i < length vars → (var_at vars i).definition ≡ d → Contains (definition_literals i d) l → Contains (literals_from 0 vars) l
definition_literal vars i d l w e c =
    let v = var_at vars i in
    literal_of vars i l w
    (Contains-append_left (definition_literals i v.definition) (kinds_literals i v.kinds ++ (fence_literals i v.fence ++ (filled_literals i v.not_empty ++ target_literals i v.target))) l (rw e c))

pub filled_literal : (vars : List Variable) (i : ℕ) → i < length vars → IsTrue (var_at vars i).not_empty → Contains (literals_from 0 vars) (L.NotEmpty (var i))
filled_literal vars i w t =
    let v = var_at vars i in
    let l = L.NotEmpty (var i) in
    let more = filled_literals i v.not_empty ++ target_literals i v.target in
    let last : Contains (filled_literals i v.not_empty) l = rw t (contains_head l []) in
    literal_of vars i l w
    (Contains-append_right (definition_literals i v.definition) (kinds_literals i v.kinds ++ (fence_literals i v.fence ++ more)) l
    (Contains-append_right (kinds_literals i v.kinds) (fence_literals i v.fence ++ more) l
    (Contains-append_right (fence_literals i v.fence) more l
    (Contains-append_left (filled_literals i v.not_empty) (target_literals i v.target) l last))))

made_from : (vars : List Variable) → Ordered vars → {x n : ℕ} → IsRoot vars x n → x < length vars → IsMadeFrom (literals_from 0 vars) x n
made_from vars order (itself node) w = same
made_from vars order {x} (derived y f z e root) w =
    let before = rw e at (order.earlier x w) in
    similar y (f ∷ []) (definition_literal vars x (Derived y f z) (L.Similar (var x) (f ∷ []) (var y)) w e (contains_head (L.Similar (var x) (f ∷ []) (var y)) (L.Entry (var x) f (var z) ∷ []))) (made_from vars order root (omega (arith, before.0)))
made_from vars order {x} (ensured y e root) w =
    let before = rw e at (order.earlier x w) in
    similar y [] (definition_literal vars x (Ensured y) (L.Similar (var x) [] (var y)) w e (contains_head (L.Similar (var x) [] (var y)) [])) (made_from vars order root (omega (arith, before)))

-- ---- paths

at_absent : (p : List (List ℕ)) → at Absent p ≡ Absent
at_absent [] = refl
at_absent (f ∷ p) = at_absent p

-- what is accounted for below an entry is so below its directory
accounted_below : (s : Seen) (g : Valuation) (x m : ℕ) (f : List ℕ) (p : List (List ℕ)) → Contains s.literals (L.Entry (var x) f (var m)) → IsAccounted s g m p → IsAccounted s g x (f ∷ p)
accounted_below s g x m f p c a = elim a [
  | inl y ↦ inl (y.0, (m, c, y.1))
  | inr o ↦ inr (record {
    directory = f ∷ o.directory;
    name = o.name;
    is = ap (λ q. f ∷ q) o.is;
    n = o.n;
    stands = (m, c, o.stands);
    owed = o.owed;
  })
]

module _ (vars : List Variable) (best : List Kind) (now : ℕ) (marks : List Bool) (z : List ℕ) (new : IsNew vars z) (order : Ordered vars) (is : IsBest vars best) (reasoned : AreReasoned vars best marks) where
  free_at : (i : ℕ) → i < length vars → IsTrue (opened vars marks i) → (var_at vars i).fence ≡ None
  free_at i w = opened_none vars marks i

  abbrev tree : Valuation
  tree = values best (opened vars marks) z 0 vars

  abbrev g : Valuation
  g = evals vars tree (length vars)

  abbrev s : Seen
  s = seen_of vars now

  owed : (x : ℕ) (f : List ℕ) → IsTrue (opened vars marks x) → f ≡ z → IsOwed s g x f
  owed x f wide e =
      let reason = reasoned x (and_parts (mark_at marks x) (unfenced vars x) wide).0 in
      let why = reason.1 in
      record {
        x = reason.0;
        made = made_from vars order why.root why.known;
        filled = filled_literal vars reason.0 why.known why.filled;
        only = λ h there. only_new vars best (opened vars marks) z new.name order is free_at new.child new.derived why.root [] why.known why.none h (λ l. l) there ∙ sym e;
      }

  -- nothing stands below the new entry
  last : (x : ℕ) (f : List ℕ) (p : List (List ℕ)) → x < length vars → IsTrue (is_node (var_at vars x).definition) → IsTrue (opened vars marks x) → f ≡ z → entry (value_of_variable g x) f ≢ Absent → at (entry (value_of_variable g x) f) p ≢ Absent → IsOwedBelow s g x (f ∷ p)
  last x f [] w node wide e there some = record {
    directory = [];
    name = f;
    is = refl;
    n = x;
    stands = refl;
    owed = owed x f wide e;
  }
  last x f (h ∷ p) w node wide e there some =
      let here : entry (value_of_variable g x) z ≢ Absent = rw e at there in
      let file : entry (value_of_variable g x) f ≡ Reg = rw e (place_new vars best (opened vars marks) z new.name order is free_at new.child new.derived x w node wide here) in
      absurd (some (ap (λ v. at v (h ∷ p)) file ∙ at_absent p))

  accounted : (x : ℕ) (p : List (List ℕ)) → x < length vars → IsTrue (is_node (var_at vars x).definition) → at (value_of_variable g x) p ≢ Absent → IsAccounted s g x p
  accounted x [] w node some = inl (x, refl)
  accounted x (f ∷ p) w node some =
      let there : entry (value_of_variable g x) f ≢ Absent = λ q. some (ap (λ v. at v p) q ∙ at_absent p) in
      elim (place_entry vars best (opened vars marks) z new.name order is free_at new.child new.derived x f w node there) [
        | inl r ↦
            let value : value_of_variable g r.0 ≡ entry (value_of_variable g x) f = child_is vars best (opened vars marks) z new.name order is free_at new.child new.derived x r.0 f r.1 r.2 in
            let inner : IsTrue (is_node (var_at vars r.0).definition) = rw r.2 refl in
            accounted_below s g x r.0 f p
            (definition_literal vars r.0 (Child x f) (L.Entry (var x) f (var r.0)) r.1 r.2 (contains_head (L.Entry (var x) f (var r.0)) []))
            (accounted r.0 p r.1 inner (λ q. some (ap (λ v. at v p) (sym value) ∙ q)))
        | inr r ↦ inr (last x f p w node r.0 r.1 there some)
      ]

  begins : IsTrue (is_node (var_at vars 0).definition)
  begins = rw order.first refl

  root_is : value_of_variable g 0 ≡ value_of_variable tree 0
  root_is = node_is vars best (opened vars marks) z new.name order is free_at new.child new.derived 0 order.some begins

  bare_shown : IsBare s (value_of_variable tree 0) g
  bare_shown path some = accounted 0 path order.some begins (λ q. some (ap (λ v. at v path) (sym root_is) ∙ q))

  pub bare_always : IsSatisfied vars best (opened vars marks) → (t : Value) → t ≡ value_of_variable tree 0 → (h : Valuation) → Stands s t h → IsBare s t h
  bare_always satisfied t e h stands =
      let fits = all_fit vars best (opened vars marks) z new.name order is free_at new.child new.derived satisfied in
      let one : h ≡ g = one_valuation vars h g order (fits_from vars h order stands.values stands.met) fits (stands.starts ∙ e ∙ sym root_is) stands.counted (evals_length vars tree (length vars)) in
      rw (e, one) bare_shown
