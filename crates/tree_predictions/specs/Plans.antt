-- Clauses in their order, each with what it asks beyond the clause before it.
use Rattle.std.specs.Prelude.{◌≡◌, ◌≤◌, List, [], ◌∷◌, ◌++◌, length, map, take, false}
use Rattle.feature_trees.specs.declared.value.Value.{Value}
use Rattle.tree_clauses.specs.declared.clause.Clause.{Clause}
use Rattle.tree_predictions.specs.declared.looks.Look.{Look}
use Rattle.tree_predictions.specs.declared.plan.TheConstants.{MOST_SHARED}
use Rattle.tree_predictions.specs.declared.plan.Step.{Step}
use Rattle.tree_predictions.specs.declared.picks.Held.{Held}
use Rattle.tree_predictions.specs.Looks.{AreNecessary, AllHold, held_of}

-- the looks of a step's clause: the first ones of the clause before it, and its own
abbrev pub looks_behind : List Look → Step → List Look
looks_behind before step = take step.shared before ++ step.more

-- behind a clause with these looks each step has looks of its clause
abbrev pub ArePlanned : List Look → List Step → Type 0
ArePlanned before [] = Unit {0}
ArePlanned before (step ∷ steps) =
    (step.shared ≤ length before) × (step.shared ≤ MOST_SHARED)
    × AreNecessary step.clause.now (looks_behind before step) × ArePlanned (looks_behind before step) steps

-- the clauses of steps
abbrev pub clauses_of : List Step → List Clause
clauses_of steps = map (λ (step : Step). step.clause.now) steps

-- how many of the looks hold of the tree, from the first on; where it is said that not all do, they don't
pub record IsHeld (tree : Value) (looks : List Look) (held : Held) : Type 0 where
  pub count : held.looks ≡ held_of tree looks
  pub fails : held.all ≡ false → ¬ (AllHold tree looks)
