-- A pair is left exactly where the greatest kinds are satisfied.
use Rattle.std.proofs.Common.{◌≡◌, ℕ, ◌<◌, ◌≤◌, ◌↔◌, Bool, IsTrue, None, Some, Option, List, length, refl}
use Rattle.feature_trees.specs.declared.kind.Kind.{Kind}
use Rattle.feature_trees.specs.Tree.{kind_of}
use Rattle.clause_solver.specs.declared.variable.TheConstants.{MOST_VARIABLES}
use Rattle.clause_solver.specs.declared.variable.Variable.{Variable}
use Rattle.tree_clauses.specs.Literals.{Valuation, value_of_variable, IsSound}
use Rattle.clause_solver.specs.Stands.{Stands, Alive}
use Rattle.clause_solver.specs.Variables.{var_at, AllFit, Ordered, AlwaysDir, OnlyDir, is_node}
use Rattle.clause_solver.specs.Greatest.{IsBest, IsSatisfied, unfenced, is_unfenced}
use Rattle.clause_solver.specs.Grown.{values}
use Rattle.clause_solver.specs.Opens.{mark_at, opened}
use Rattle.std.proofs.lemmas.Bool.{and_parts}
use Rattle.clause_solver.proofs.Pairs.{fits_from, fits_to}
use Rattle.clause_solver.proofs.OneMore.{seen_of}
use Rattle.clause_solver.proofs.Least.{satisfied}
use Rattle.clause_solver.proofs.Grown.{evals, evals_length, whole_sound, all_fit, node_is}
use Rattle.clause_solver.specs.NewNames.{IsNew}
use Rattle.clause_solver.proofs.NewNames.{new_name}

-- what fits stands for its start
pub stands_of : (vars : List Variable) (now : ℕ) → 0 < length vars → AlwaysDir vars now → OnlyDir vars 0 → (g : Valuation) → length g ≡ length vars → IsSound g → AllFit vars g → Stands (seen_of vars now) (value_of_variable g 0) g
stands_of vars now some tree start g l s fits = record {
  counted = l;
  starts = refl;
  tree = start (kind_of (value_of_variable g 0)) (fits 0 some).kind;
  ends = tree g l s fits;
  met = fits_to vars g s fits;
  values = s;
}

no_fence : (fence : Option (List (List ℕ))) → IsTrue (is_unfenced fence) → fence ≡ None
no_fence None h = refl
no_fence (Some names) h = cc

pub unfenced_none : (vars : List Variable) (i : ℕ) → IsTrue (unfenced vars i) → (var_at vars i).fence ≡ None
unfenced_none vars i h = no_fence (var_at vars i).fence h

-- the tree of the greatest kinds is a start tree
pub pair_of : (vars : List Variable) (best : List Kind) (now : ℕ) (open_at : ℕ → Bool) (z : List ℕ) → IsNew vars z → ((i : ℕ) → i < length vars → IsTrue (open_at i) → (var_at vars i).fence ≡ None) → Ordered vars → IsBest vars best → AlwaysDir vars now → OnlyDir vars 0 → IsSatisfied vars best open_at → (g : Valuation) × Stands (seen_of vars now) (value_of_variable (values best open_at z 0 vars) 0) g
pair_of vars best now open_at z new free order is tree start f =
    let g = evals vars (values best open_at z 0 vars) (length vars) in
    let s = whole_sound vars best open_at z new.name order is free new.child new.derived in
    let fits = all_fit vars best open_at z new.name order is free new.child new.derived f in
    let first : IsTrue (is_node (var_at vars 0).definition) = rw order.first refl in
    let same = node_is vars best open_at z new.name order is free new.child new.derived 0 order.some first in
    (g, rw same at (stands_of vars now order.some tree start g (evals_length vars (values best open_at z 0 vars) (length vars)) s fits))

pub alive_iff : (vars : List Variable) (best : List Kind) (now : ℕ) → length vars ≤ MOST_VARIABLES → Ordered vars → IsBest vars best → AlwaysDir vars now → OnlyDir vars 0 → IsSatisfied vars best (unfenced vars) ↔ Alive (seen_of vars now)
alive_iff vars best now small order is tree start = (
  λ f.
      let new = new_name vars small in
      let pair = pair_of vars best now (unfenced vars) new.0 new.1 (λ i w. unfenced_none vars i) order is tree start f in
      (value_of_variable (values best (unfenced vars) new.0 0 vars) 0, pair.0, pair.1),
  λ some. let s = some.2 in satisfied vars best some.1 order is s.values (fits_from vars some.1 order s.values s.met),
)

pub opened_none : (vars : List Variable) (marks : List Bool) (i : ℕ) → IsTrue (opened vars marks i) → (var_at vars i).fence ≡ None
opened_none vars marks i h = unfenced_none vars i (and_parts (mark_at marks i) (unfenced vars i) h).1

-- the tree that is built is a start tree
pub shown_pair : (vars : List Variable) (best : List Kind) (now : ℕ) (marks : List Bool) (z : List ℕ) → IsNew vars z → Ordered vars → IsBest vars best → AlwaysDir vars now → OnlyDir vars 0 → IsSatisfied vars best (opened vars marks) → (g : Valuation) × Stands (seen_of vars now) (value_of_variable (values best (opened vars marks) z 0 vars) 0) g
shown_pair vars best now marks z new order is tree start f = pair_of vars best now (opened vars marks) z new (λ i w. opened_none vars marks i) order is tree start f
