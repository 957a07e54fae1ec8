-- Reading a report from its JSON value, of either version. The reader is loose: it does not look at every member, and
-- what it reads is printed again in the value's version and compared.
use Rattle.std.specs.Prelude.{ℕ, ◌+◌, ◌^◌, ◌==◌, true, ◌&&◌, nat_le, nat_lt, List, [], ◌∷◌, ◌++◌, codes}
use Rattle.std.specs.Prelude.{Option, Some, None, Result, Ok, Err, if◌then◌else◌}
use Rattle.std.specs.Option.{option_map, option_and_then}
use Rattle.serde_json.specs.Data.{Data, Items, no_items, item}
use Rattle.serde_json.specs.Find.{get, as_number, as_u64, as_str, as_array}
use Rattle.script_names.specs.declared.mark.Mark.{Mark}
use Rattle.shown_texts.specs.Lines.{line}
use Rattle.feature_trees.specs.declared.read.TreeFault.{TreeFault}
use Rattle.feature_trees.specs.declared.value.Value.{Value}
use Rattle.feature_trees.specs.declared.version.Version.{Version}
use Rattle.feature_trees.specs.declared.version.Version.TheVariants.{First, Second}
use Rattle.feature_trees.specs.TreeLines.{tree_of}
use Rattle.tree_clauses.specs.declared.clause.Clause.{Clause}
use Rattle.tree_clauses.specs.ClauseRead.{clause_of, is_clause, tells}
use Rattle.tree_clauses.specs.ClauseText.{clause_text}
use Rattle.dpkg_scenarios.specs.declared.scenario.Ending.{Ending}
use Rattle.scenario_runs.specs.declared.call.ScriptCall.{ScriptCall}
use Rattle.scenario_outcomes.specs.declared.outcome.Outcome.{Outcome}
use Rattle.outcome_report.specs.declared.outcome_report.Report.{Report}
use Rattle.outcome_report.specs.declared.outcome_report.ReportEntry.{ReportEntry}
use Rattle.outcome_report.specs.declared.outcome_report.ReportPart.{ReportPart}
use Rattle.outcome_report.specs.declared.replay.Replay.{Replay}
use Rattle.dpkg_scenarios.specs.Names.{scenario_named}
use Rattle.report_text.specs.PieceRead.{result_of, trace_of, call_of}
use Rattle.report_text.specs.Whole.{scenario_place}

-- ---- members

-- the text at a key
abbrev pub text_at : List ℕ → Data → Option (List ℕ)
text_at key d = option_and_then as_str (get key d)

-- the list at a key
abbrev pub list_at : List ℕ → Data → Option Items
list_at key d = option_and_then as_array (get key d)

-- a number below 2 ^ 32
abbrev pub short : ℕ → Option ℕ
short n = if nat_lt n (2 ^ 32) then Some n else None

-- the number below 2 ^ 32 at a key
abbrev pub number_at : List ℕ → Data → Option ℕ
number_at key d = option_and_then short (option_and_then as_u64 (option_and_then as_number (get key d)))

-- the text of lines, each with its newline, behind a text
abbrev pub lines_onto : List ℕ → Items → Option (List ℕ)
lines_onto text no_items = Some text
lines_onto text (item d ds) = option_and_then (λ content. lines_onto (text ++ line content) ds) (as_str d)

-- the text of the lines at a key
abbrev pub lines_at : List ℕ → Data → Option (List ℕ)
lines_at key d = option_and_then (lines_onto []) (list_at key d)

-- ---- pieces

-- a tree, where there is one
abbrev pub tree_found : Result Value TreeFault → Option Value
tree_found (Ok tree) = Some tree
tree_found (Err fault) = None

-- the tree of the lines at a key
abbrev pub tree_at : List ℕ → Data → Option Value
tree_at key d = option_and_then (λ text. tree_found (tree_of text)) (lines_at key d)

-- the calls of lines, behind others
abbrev pub calls_onto : List ScriptCall → Items → Option (List ScriptCall)
calls_onto calls no_items = Some calls
calls_onto calls (item d ds) =
    option_and_then (λ call. calls_onto (calls ++ call ∷ []) ds) (option_and_then call_of (as_str d))

-- the calls of the lines at a key
abbrev pub calls_at : List ℕ → Data → Option (List ScriptCall)
calls_at key d = option_and_then (calls_onto []) (list_at key d)

-- the ending that stands at a key
abbrev pub ending_at : List ℕ → Data → Option Ending
ending_at key d = option_and_then result_of (text_at key d)

-- the trace that stands at a key
abbrev pub trace_at : List ℕ → Data → Option (List Mark)
trace_at key d = option_and_then trace_of (text_at key d)

-- ---- clauses

-- the clause, where this text tells it
abbrev pub if_told : List ℕ → Clause → Option Clause
if_told text clause = if is_clause clause && tells clause text then Some clause else None

-- the clause that this text tells
abbrev pub clause_with : List ℕ → Option Clause
clause_with text = option_and_then (if_told text) (clause_of text)

-- the clause of two variables and the lines of its literals
abbrev pub clause_from : ℕ → ℕ → List ℕ → Option Clause
clause_from start now lines =
    let head : Clause = record { literals = []; start = record { 0 = start }; now = record { 0 = now } } in
    clause_with (clause_text Second head ++ lines)

-- the clause of a value
abbrev pub clause_in : Data → Option Clause
clause_in d =
    option_and_then (λ start. option_and_then (λ now. option_and_then (clause_from start now)
    (lines_at (codes "literals") d)) (number_at (codes "now") d)) (number_at (codes "start") d)

-- ---- outcomes

-- the outcome of a value, with its number
abbrev pub outcome_in : ℕ → Data → Option Outcome
outcome_in number d =
    option_and_then (λ ending. option_and_then (λ trace. option_and_then (λ clause. option_map
    (λ shown. record { number = number; ending = ending; trace = trace; clause = clause; shown = shown })
    (tree_at (codes "shown") d)) (option_and_then clause_in (get (codes "clause") d)))
    (trace_at (codes "trace") d)) (ending_at (codes "result") d)

-- the replay of a value: the ending and the trace are those of its outcome
abbrev pub replay_in : Data → Option Replay
replay_in d =
    option_and_then (λ ending. option_and_then (λ trace. option_and_then (λ after. option_map
    (λ calls. record { ending = ending; trace = trace; after = after; calls = calls })
    (calls_at (codes "calls") d)) (tree_at (codes "after") d))
    (trace_at (codes "trace") d)) (ending_at (codes "result") d)

-- the entry of a value, with its number
abbrev pub entry_in : ℕ → Data → Option ReportEntry
entry_in number d =
    option_and_then (λ outcome. option_map
    (λ replayed. record { outcome = outcome; replayed = replayed; confirmed = true })
    (replay_in d)) (outcome_in number d)

-- the entries of values, numbered from a number on, behind others
abbrev pub entries_onto : ℕ → List ReportEntry → Items → Option (List ReportEntry)
entries_onto number entries no_items = Some entries
entries_onto number entries (item d ds) =
    option_and_then (λ number. option_and_then (λ entry. entries_onto (number + 1) (entries ++ entry ∷ []) ds)
    (entry_in number d)) (short number)

-- ---- the report

-- the version of a number
abbrev pub version_of : ℕ → Option Version
version_of n = if n == 1 then Some First else (if n == 2 then Some Second else None)

-- the version that a value names
abbrev pub version_in : Data → Option Version
version_in d = option_and_then version_of (number_at (codes "colis") d)

-- the part of a value
abbrev pub part_in : Data → Option ReportPart
part_in d =
    option_and_then (λ scenario. option_map (λ entries. record { scenario = scenario; entries = entries })
    (option_and_then (entries_onto 1 []) (list_at (codes "outcomes") d)))
    (option_and_then scenario_named (text_at (codes "name") d))

-- a part whose scenario has this place or a later one
abbrev pub from_place : ℕ → ReportPart → Option ReportPart
from_place least part = if nat_le least (scenario_place part.scenario) then Some part else None

-- the parts of values, whose scenarios are in their order from a place on, behind others
abbrev pub parts_onto : ℕ → List ReportPart → Items → Option (List ReportPart)
parts_onto least parts no_items = Some parts
parts_onto least parts (item d ds) =
    option_and_then (λ part. parts_onto (scenario_place part.scenario + 1) (parts ++ part ∷ []) ds)
    (option_and_then (from_place least) (part_in d))

-- the report of a value
abbrev pub report_in : Data → Option Report
report_in d =
    option_map (λ parts. record { parts = parts }) (option_and_then (parts_onto 0 []) (list_at (codes "scenarios") d))
