-- What a script and its program have in common.
use Rattle.std.specs.Prelude.{◌≡◌, ℕ, List}
use Rattle.script_names.specs.declared.mark.Mark.{Mark}
use Rattle.feature_trees.specs.declared.value.Value.{Value}
use Rattle.shell_syntax.specs.declared.script.Script.{Script}
use Rattle.colis_syntax.specs.WellFormed.{ProgramParts}
use Rattle.colis_meaning.specs.Meaning.{co_program}
use Rattle.shell_rules.specs.declared.state.Conc.{Conc}
use Rattle.shell_to_colis.specs.Shell.{sh_script}
use Rattle.shell_to_colis.specs.Translated.{program_of}

-- A program does what a script does: in each step, from each state of the shell, each tree and each trace, both end in
-- the same way and leave the same state, tree and trace.
abbrev pub DoesTheSame : Script → ProgramParts → Type 0
DoesTheSame script program =
    (step : ℕ) (conc : Conc) (tree : Value) (trace : List Mark)
    → sh_script script step conc tree trace ≡ co_program program step conc tree trace

-- the program of each script does what the script does
abbrev pub ProgramsDoTheSame : Type 0
ProgramsDoTheSame = (script : Script) → DoesTheSame script (program_of script)
