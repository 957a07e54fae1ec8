-- The names that a chain of replaced names holds.
use Rattle.std.specs.Prelude.{ℕ, List, [], ◌∷◌, ◌↔◌, IsTrue}
use Rattle.clause_solver.specs.declared.greatest.ReplacedNames.{ReplacedNames, ReplacedNames-F, fold-ReplacedNames}
use Rattle.clause_solver.specs.declared.greatest.ReplacedNames.TheOpen.{Nothing, Also}
use Rattle.clause_solver.specs.declared.name_set.NameSet.{NameSet}
use Rattle.clause_solver.specs.NameSets.{has}
use Rattle.clause_solver.specs.Variables.{Listed}

-- the names of one link of the chain, from those of the rest
abbrev pub layer : ReplacedNames-F (List (List ℕ)) → List (List ℕ)
layer Nothing = []
layer (Also f below) = f.now ∷ below.now

-- all names of the chain
abbrev pub names : ReplacedNames → List (List ℕ)
names = fold-ReplacedNames (List (List ℕ)) layer

-- the set has these names and no others
abbrev pub HasReplaced : List (List ℕ) → NameSet → Type 0
HasReplaced replaced set = (f : List ℕ) → IsTrue (has set f) ↔ Listed f replaced
