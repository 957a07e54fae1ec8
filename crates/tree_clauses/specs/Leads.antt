-- Where a case leads: from the tree that it stands before to the one behind it.
use Rattle.std.specs.Prelude.{◌≡◌}
use Rattle.feature_trees.specs.declared.value.Value.{Value}
use Rattle.tree_clauses.specs.Literals.{Valuation, value_of_variable, IsSound, MeetsAll}
use Rattle.tree_clauses.specs.declared.case.Case.{Case}

-- the case leads from a tree to a value: some valuation with the one for variable 0 and the other for the root meets
-- its literals
pub record Leads (made : Case) (t u : Value) : Type 0 where
  pub valuation : Valuation
  pub values : IsSound valuation
  pub starts : value_of_variable valuation 0 ≡ t
  pub ends : value_of_variable valuation made.root.0 ≡ u
  pub met : MeetsAll valuation made.literals

-- the back case leads from a tree and a kept tree to a value: some valuation with the one for variable 0, the other for
-- variable 1 and the value for the root meets its literals
pub record LeadsBack (made : Case) (t k u : Value) : Type 0 where
  pub valuation : Valuation
  pub values : IsSound valuation
  pub starts : value_of_variable valuation 0 ≡ t
  pub kept : value_of_variable valuation 1 ≡ k
  pub ends : value_of_variable valuation made.root.0 ≡ u
  pub met : MeetsAll valuation made.literals
