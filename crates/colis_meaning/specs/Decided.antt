-- What a program does, it does for all trees at once: its strings are the same on each tree, and the tree enters at its
-- acts alone.
use Rattle.std.specs.Prelude.{◌≡◌, ℕ, List, []}
use Rattle.script_names.specs.declared.mark.Mark.{Mark}
use Rattle.feature_trees.specs.declared.value.Value.{Value}
use Rattle.utility_calls.specs.Decisions.{Decision, Played, play, AllPerformed}
use Rattle.shell_rules.specs.declared.state.Conc.{Conc}
use Rattle.shell_rules.specs.declared.run.End.{End}
use Rattle.shell_rules.specs.Whole.{Ended}
use Rattle.colis_syntax.specs.WellFormed.{ProgramParts}
use Rattle.colis_meaning.specs.Meaning.{co_program}

-- what a run comes to whose decision gives an end and the shell's state: the tree, the trace and the acts are those of
-- the play
abbrev pub ended_of : Played (End × Conc) → Ended
ended_of p = record { end = p.value.0; conc = p.value.1; tree = p.tree; trace = p.trace; acts = p.acts }

-- The runs of a program in a step from a state of the shell: one decision is played by all of them, from each tree and
-- behind each trace, and each of its acts can be done on every tree.
pub record IsDecided (program : ProgramParts) (step : ℕ) (conc : Conc) : Type 0 where
  pub decision : Decision (End × Conc)
  pub performed : AllPerformed decision
  pub played : (tree : Value) (trace : List Mark)
      → co_program program step conc tree trace ≡ ended_of (play decision tree trace [])

-- whatever the program, the step and the state
abbrev pub RunsAreDecided : Type 0
RunsAreDecided = (program : ProgramParts) (step : ℕ) (conc : Conc) → IsDecided program step conc
