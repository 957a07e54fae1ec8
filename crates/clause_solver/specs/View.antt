-- How callers see a store, and what is true of every store.
use Rattle.std.specs.Prelude.{◌<◌, length}
use Rattle.clause_solver.specs.declared.store.Store.TheInside.{Inside}
use Rattle.clause_solver.specs.Stands.{Seen}
use Rattle.clause_solver.specs.Variables.{AlwaysDir, OnlyDir}
use Rattle.clause_solver.specs.Decided.{AreDecided}
use Rattle.clause_solver.specs.Written.{literals_from}

-- the count of the variables, their literals, and the variable of the tree now
abbrev pub seen : Inside → Seen
seen a =
    record { count = length a.lists.vars; literals = literals_from 0 a.lists.vars; current = a.current }

-- the lists stand, and both the start and the tree now are directories
pub record IsSettled (a : Inside) : Type 0 where
  pub decided : AreDecided a.lists
  pub now_known : a.current < length a.lists.vars
  pub now_tree : AlwaysDir a.lists.vars a.current
  pub start_tree : OnlyDir a.lists.vars 0
