-- What holds of every program's runs.
use Rattle.std.specs.Prelude.{◌≡◌, ◌≤◌, ◌⊎◌, ℕ, IsTrue, List, []}
use Rattle.script_names.specs.declared.mark.Mark.{Mark}
use Rattle.feature_trees.specs.declared.value.Value.{Value}
use Rattle.colis_syntax.specs.declared.syntax.Stmt.{Stmt}
use Rattle.colis_syntax.specs.declared.def.Def.{Def}
use Rattle.colis_syntax.specs.WellFormed.{ProgramParts}
use Rattle.shell_rules.specs.declared.state.Conc.{Conc}
use Rattle.shell_rules.specs.Laws.{Extends, IsLawful, conc_with_more, ended_with_more, is_bound_end}
use Rattle.colis_meaning.specs.Meaning.{co_stmt, co_program, funs_of}

-- a run only adds to the trace
abbrev pub RunsOnlyAdd : Type 0
RunsOnlyAdd =
    (program : ProgramParts) (step : ℕ) (conc : Conc) (tree : Value) (trace : List Mark)
    → Extends trace (co_program program step conc tree trace).trace

-- a run has no more turns left than it began with
abbrev pub TurnsNeverRise : Type 0
TurnsNeverRise =
    (program : ProgramParts) (step : ℕ) (conc : Conc) (tree : Value) (trace : List Mark)
    → (co_program program step conc tree trace).conc.turns ≤ conc.turns

-- a run leaves its premises as they are
abbrev pub PremisesStay : Type 0
PremisesStay =
    (program : ProgramParts) (step : ℕ) (conc : Conc) (tree : Value) (trace : List Mark)
    → (co_program program step conc tree trace).conc.premises ≡ conc.premises

-- a run that is not bound is, with more turns, the same run, but for the turns that are left, which are more by as many
abbrev pub MoreTurnsSameRun : Type 0
MoreTurnsSameRun =
    (n : ℕ) (program : ProgramParts) (step : ℕ) (conc : Conc) (tree : Value) (trace : List Mark)
    → IsTrue (is_bound_end (co_program program step conc tree trace).end)
    ⊎ (co_program program step (conc_with_more n conc) tree trace
    ≡ ended_with_more n (co_program program step conc tree trace))

-- the runs of each statement, where functions are defined, keep these four laws, from every state and at every place
abbrev pub StatementsAreLawful : Type 0
StatementsAreLawful = (defs : List Def) (stmt : Stmt) → IsLawful (co_stmt stmt (funs_of defs []))
