-- For every start tree at most one valuation is left.
use Rattle.std.proofs.Common.{◌≡◌, ℕ, zero, suc, ◌<◌, List, length, sym, ◌∙◌, arith}
use Rattle.std.proofs.lemmas.List.{ext_get_or}
use Rattle.feature_trees.specs.declared.value.Value.{Value}
use Rattle.feature_trees.specs.declared.value.Value.TheVariants as value
use Rattle.clause_solver.specs.declared.variable.Variable.{Variable}
use Rattle.tree_clauses.specs.Literals.{Valuation, value_of_variable}
use Rattle.clause_solver.specs.Stands.{Stands}
use Rattle.clause_solver.specs.Variables.{var_at, AllFit, Ordered}
use Rattle.clause_solver.proofs.Pairs.{fits_from}
use Rattle.clause_solver.proofs.OneMore.{seen_of, defined_same}

module _ (vars : List Variable) (g h : Valuation) (order : Ordered vars) (fg : AllFit vars g) (fh : AllFit vars h) (start : value_of_variable g 0 ≡ value_of_variable h 0) where
  same_below : (n i : ℕ) → i < n → i < length vars → value_of_variable g i ≡ value_of_variable h i
  same_below zero i b w = absurd (omega arith)
  same_below (suc n) zero b w = start
  same_below (suc n) (suc i) b w =
      (fg (suc i) w).is
      ∙ defined_same vars g h (suc i) (λ m q. same_below n m (omega arith) (omega arith)) (suc i) (var_at vars (suc i)).definition (omega arith) (omega arith) (order.earlier (suc i) w)
      ∙ sym (fh (suc i) w).is

  pub one_valuation : length g ≡ length vars → length h ≡ length vars → g ≡ h
  one_valuation lg lh = ext_get_or value.Absent g h (lg ∙ sym lh) (λ i w. same_below (suc i) i (omega arith) (omega arith))

pub unique : (vars : List Variable) (now : ℕ) → Ordered vars → (t : Value) (g h : Valuation) → Stands (seen_of vars now) t g → Stands (seen_of vars now) t h → g ≡ h
unique vars now order t g h a b =
    one_valuation vars g h order (fits_from vars g order a.values a.met) (fits_from vars h order b.values b.met) (a.starts ∙ sym b.starts) a.counted b.counted
