-- Another variable for the tree now.
use Rattle.std.proofs.Common.{ℕ, ◌↔◌, List}
use Rattle.feature_trees.specs.declared.value.Value.{Value}
use Rattle.clause_solver.specs.declared.variable.Variable.{Variable}
use Rattle.tree_clauses.specs.Literals.{Valuation}
use Rattle.clause_solver.specs.Stands.{Stands, IsDirectory}
use Rattle.clause_solver.specs.Variables.{Ordered, AlwaysDir, OnlyDir}
use Rattle.clause_solver.proofs.Pairs.{fits_from}
use Rattle.clause_solver.proofs.OneMore.{seen_of}
use Rattle.clause_solver.proofs.Alive.{stands_of}

-- a directory in every pair is one wherever all is met
pub always_of : (vars : List Variable) (now x : ℕ) → Ordered vars → AlwaysDir vars now → OnlyDir vars 0 → IsDirectory (seen_of vars now) x → AlwaysDir vars x
always_of vars now x order tree start dir g l s fits = dir _ g (stands_of vars now order.some tree start g l s fits)

-- the pairs with their valuations stay
pub moved_same : (vars : List Variable) (now x : ℕ) → Ordered vars → AlwaysDir vars now → AlwaysDir vars x → (t : Value) (g : Valuation) → Stands (seen_of vars x) t g ↔ Stands (seen_of vars now) t g
moved_same vars now x order tree dir t g = (
  λ h. record { counted = h.counted; starts = h.starts; tree = h.tree; ends = tree g h.counted h.values (fits_from vars g order h.values h.met); met = h.met; values = h.values },
  λ h. record { counted = h.counted; starts = h.starts; tree = h.tree; ends = dir g h.counted h.values (fits_from vars g order h.values h.met); met = h.met; values = h.values },
)
