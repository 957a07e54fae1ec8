-- A variable of which only the definition is known.
use Rattle.std.specs.Prelude.{None, false}
use Rattle.feature_trees.specs.Kinds.{all}
use Rattle.clause_solver.specs.declared.variable.Definition.{Definition}
use Rattle.clause_solver.specs.declared.variable.Variable.{Variable}

-- a variable of which only the definition is known
abbrev pub fresh : Definition → Variable
fresh d = record { definition = d; kinds = all; fence = None; not_empty = false; target = None }
