-- The text of one run.
use Rattle.std.specs.Prelude.{ℕ, List, ◌++◌, codes}
use Rattle.std.specs.List.{flat_map}
use Rattle.shown_texts.specs.Lines.{line}
use Rattle.feature_trees.specs.TreeText.{tree_text}
use Rattle.dpkg_scenarios.specs.declared.scenario.Ending.{Ending}
use Rattle.scenario_runs.specs.declared.replayed.Replayed.{Replayed}
use Rattle.report_text.specs.ReportText.{result_text, trace_line, call_line}

-- how the run ended
unfoldable pub result_line : Ending → List ℕ
result_line ending = line (codes "result " ++ result_text ending)

-- the text of a run: how it ended, its trace, the calls of scripts, and the tree that it left
unfoldable pub run_text : Replayed → List ℕ
run_text replayed =
    result_line replayed.ending
    ++ trace_line replayed.trace
    ++ flat_map call_line replayed.calls
    ++ line (codes "after")
    ++ tree_text replayed.after
