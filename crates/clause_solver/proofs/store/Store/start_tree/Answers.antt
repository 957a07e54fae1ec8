use Rattle.std.proofs.Common.{◌≡◌, ℕ, Bool, List, subst, sym}
use Rattle.feature_trees.specs.declared.kind.Kind.{Kind}
use Rattle.tree_clauses.specs.Literals.{Valuation, value_of_variable}
use Rattle.clause_solver.specs.declared.variable.Variable.{Variable}
use Rattle.clause_solver.specs.Bare.{IsBare}
use Rattle.clause_solver.specs.Grown.{values}
use Rattle.clause_solver.specs.NewNames.{IsNew}
use Rattle.clause_solver.specs.Opens.{opened}
use Rattle.clause_solver.specs.Stands.{Alive, Stands}
use Rattle.clause_solver.specs.Greatest.{IsSatisfied, unfenced}
use Rattle.clause_solver.proofs.OneMore.{seen_of}
use Rattle.clause_solver.proofs.Alive.{alive_iff, shown_pair}
use Rattle.clause_solver.proofs.Bare.{bare_always}
use Rattle.clause_solver.proofs.store.Store.start_tree.Goals as goal
use Rattle.clause_solver.proofs.store.Store.start_tree.Goals.{In_ok-tree}

pub open_places-requires-clause-satisfied : goal.open_places-requires-clause-satisfied
open_places-requires-clause-satisfied c =
    let vars = c.self.inside.lists.vars in
    let best = c.self.inside.lists.best in
    let now = c.self.inside.current in
    let inv = c.self.invariant in
    let alive : Alive (seen_of vars now) = rw (← c.self.view_is) at c.requires in
    let satisfied : IsSatisfied vars best (unfenced vars) = (alive_iff vars best now inv.decided.small inv.decided.order inv.decided.best inv.now_tree inv.start_tree).1 alive in
    satisfied

module _ (c : In_ok-tree) where
  abbrev vars : List Variable
  vars = c.self.inside.lists.vars

  abbrev best : List Kind
  best = c.self.inside.lists.best

  abbrev now : ℕ
  now = c.self.inside.current

  abbrev marks : List Bool
  marks = c.in_ok-marks.marks.items

  abbrev z : List ℕ
  z = c.in_ok-z.z

  tree_is : c.in_ok-tree.tree ≡ value_of_variable (values best (opened vars marks) z 0 vars) 0
  tree_is = rw c.deref.ensures.value at c.in_ok-tree.ensures

  pair : (g : Valuation) × Stands (seen_of vars now) c.in_ok-tree.tree g
  pair =
      let inv = c.self.invariant in
      let satisfied : IsSatisfied vars best (opened vars marks) = c.in_ok-marks.ensures.satisfied in
      let new : IsNew vars z = c.in_ok-z.ensures in
      subst (λ t. (g : Valuation) × Stands (seen_of vars now) t g) (sym tree_is) (shown_pair vars best now marks z new inv.decided.order inv.decided.best inv.now_tree inv.start_tree satisfied)

  bare : (g : Valuation) → Stands (seen_of vars now) c.in_ok-tree.tree g → IsBare (seen_of vars now) c.in_ok-tree.tree g
  bare =
      let inv = c.self.invariant in
      bare_always vars best now marks z c.in_ok-z.ensures inv.decided.order inv.decided.best c.in_ok-marks.ensures.reasoned c.in_ok-marks.ensures.satisfied c.in_ok-tree.tree tree_is

pub returns-clause-pair : goal.returns-clause-pair
returns-clause-pair c = rw (← c.self.view_is) (pair (goal.at.returns-clause-pair c).In_ok-tree)

pub returns-clause-bare : goal.returns-clause-bare
returns-clause-bare c = rw (← c.self.view_is) (bare (goal.at.returns-clause-bare c).In_ok-tree)
