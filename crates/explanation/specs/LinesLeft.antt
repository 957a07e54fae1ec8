-- The lines of scripts that no outcome of a part reaches, as far as the ways tell in which the scripts' calls end.
use Rattle.std.specs.Prelude.{ℕ, Bool, true, false, ◌&&◌, ◌||◌, ◌==◌, List, [], ◌∷◌, ◌++◌, codes, Option, Some, None}
use Rattle.std.specs.Prelude.{if◌then◌else◌}
use Rattle.std.specs.List.{flat_map}
use Rattle.std.specs.Fmt.{decimal}
use Rattle.shown_texts.specs.Lines.{line}
use Rattle.dpkg_scenarios.specs.declared.scenario.Ending.{Ending}
use Rattle.dpkg_scenarios.specs.declared.scenario.Ending.TheVariants.{Done, Failed, Incomplete, Bound}
use Rattle.dpkg_scenarios.specs.declared.scenario.Scenario.{Scenario}
use Rattle.dpkg_scenarios.specs.declared.scenario.ScriptKind.{ScriptKind}
use Rattle.dpkg_scenarios.specs.declared.scenario.ScriptKind.TheVariants.{Preinst, Postinst, Prerm, Postrm}
use Rattle.dpkg_scenarios.specs.declared.scenario.Side.{Side}
use Rattle.dpkg_scenarios.specs.declared.scenario.Side.TheVariants.{New, Old}
use Rattle.dpkg_scenarios.specs.declared.scripts.Scripts.{Scripts}
use Rattle.dpkg_scenarios.specs.Names.{scenario_name}
use Rattle.checker_input.specs.declared.sources.Sources.{Sources}
use Rattle.scenario_runs.specs.declared.call.ScriptCall.{ScriptCall}
use Rattle.scenario_runs.specs.declared.call.CallEnd.{CallEnd}
use Rattle.scenario_runs.specs.declared.call.CallEnd.TheVariants as how
use Rattle.outcome_report.specs.declared.outcome_report.ReportEntry.{ReportEntry}
use Rattle.outcome_groups.specs.Ends.{same_script, same_side}
use Rattle.script_places.specs.declared.reach.CallLeft.{CallLeft}
use Rattle.script_places.specs.declared.reach.CallLeft.TheVariants.{Through, EndedAt}
use Rattle.script_places.specs.declared.reach.Lines.{Lines}
use Rattle.script_places.specs.Unreached.{unreached}
use Rattle.explanation.specs.Scripts.{script_file, script_text}

-- ---- the calls of a script

-- where a call ended that has no status: where the outcome did
abbrev pub left_at : Ending → CallLeft
left_at (Done state) = Through
left_at (Failed state) = Through
left_at (Incomplete reason site) = EndedAt site.at
left_at (Bound site) = EndedAt site.at

-- How a call ended in an outcome that ends so. One that has a status may have gone through, or have failed anywhere.
abbrev pub left_by : Ending → CallEnd → CallLeft
left_by ending how.Ok = Through
left_by ending how.Failed = Through
left_by ending how.Ended = left_at ending

-- without an old package both packages are the same
abbrev pub is_alone : Option (Scripts (List ℕ)) → Bool
is_alone None = true
is_alone (Some texts) = false

-- the call is one of this script of one of the packages
abbrev pub is_call_of : Sources → Side → ScriptKind → ScriptCall → Bool
is_call_of sources side script call =
    same_script script call.script && (is_alone sources.old_texts || same_side side call.side)

-- how it ended, if it is
abbrev pub call_left : Sources → Side → ScriptKind → Ending → ScriptCall → List CallLeft
call_left sources side script ending call =
    if is_call_of sources side script call then left_by ending call.how ∷ [] else []

-- how the calls of the script ended in an outcome
abbrev pub entry_left : Sources → Side → ScriptKind → ReportEntry → List CallLeft
entry_left sources side script entry =
    flat_map (call_left sources side script entry.outcome.ending) entry.replayed.calls

-- how they ended in all of them
abbrev pub calls_left : Sources → Side → ScriptKind → List ReportEntry → List CallLeft
calls_left sources side script entries = flat_map (entry_left sources side script) entries

-- ---- the lines

-- one line, or several
unfoldable pub lines_words : Lines → List ℕ
lines_words lines =
    if lines.first == lines.last then codes "line " ++ decimal lines.first
    else codes "lines " ++ decimal lines.first ++ codes " to " ++ decimal lines.last

-- a text between two others
unfoldable pub between : List ℕ → List ℕ → List ℕ → List ℕ
between before text behind = before ++ text ++ behind

-- that something is not reached in a scenario
unfoldable pub unreached_head : Scenario → List ℕ
unreached_head scenario = between (codes "Not reached in any outcome of ") (scenario_name scenario) (codes ": ")

-- that they are not reached
unfoldable pub lines_line : Sources → Scenario → Side → ScriptKind → Lines → List ℕ
lines_line sources scenario side script lines =
    line []
    ++ line (unreached_head scenario ++ script_file sources side script ++ codes ", " ++ lines_words lines)

-- the same, where some lines are known to be so
abbrev pub lines_text : Sources → Scenario → Side → ScriptKind → Option Lines → List ℕ
lines_text sources scenario side script None = []
lines_text sources scenario side script (Some lines) = lines_line sources scenario side script lines

-- the lines of one script that no outcome reaches
abbrev pub unreached_lines : Sources → List ReportEntry → Side → ScriptKind → Option Lines
unreached_lines sources entries side script =
    unreached (script_text sources side script) (calls_left sources side script entries)

-- that they are not reached in a scenario
unfoldable pub script_lines : Sources → Scenario → List ReportEntry → Side → ScriptKind → List ℕ
script_lines sources scenario entries side script =
    lines_text sources scenario side script (unreached_lines sources entries side script)

-- the lines of the scripts of a package
unfoldable pub side_lines : Sources → Scenario → List ReportEntry → Side → List ℕ
side_lines sources scenario entries side =
    script_lines sources scenario entries side Preinst
    ++ script_lines sources scenario entries side Postinst
    ++ script_lines sources scenario entries side Prerm
    ++ script_lines sources scenario entries side Postrm

-- the lines of all scripts
unfoldable pub unreached_text : Sources → Scenario → List ReportEntry → List ℕ
unreached_text sources scenario entries =
    if is_alone sources.old_texts then side_lines sources scenario entries New
    else side_lines sources scenario entries New ++ side_lines sources scenario entries Old
