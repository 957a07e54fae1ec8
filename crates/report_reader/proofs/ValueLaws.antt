-- The text of a readable report is UTF-8, and read as its value.
use Rattle.std.proofs.Common.{◌≡◌, ℕ, ◌^◌, ◌<◌, true, List, [], ◌∷◌, map, refl, arith, IsUtf8}
use Rattle.std.specs.Prelude.{codes}
use Rattle.std.specs.List.{list_all, join_with_byte}
use Rattle.std.proofs.lemmas.Bool.{and_parts}
use Rattle.json.proofs.Printed.Utf8.{are_ascii, IsUtf8-are_ascii}
use Rattle.serde_json.specs.Data.{string}
use Rattle.serde_json.specs.View.{items_of}
use Rattle.shown_texts.specs.Marks.{mark_text}
use Rattle.feature_trees.specs.declared.value.Value.{Value}
use Rattle.feature_trees.specs.declared.version.Version.{Version}
use Rattle.tree_clauses.specs.declared.clause.Clause.{Clause}
use Rattle.tree_clauses.specs.ClauseRead.{is_clause}
use Rattle.tree_clauses.specs.ClauseText.{literal_content}
use Rattle.outcome_report.specs.declared.outcome_report.Report.{Report}
use Rattle.outcome_report.specs.declared.outcome_report.ReportEntry.{ReportEntry}
use Rattle.outcome_report.specs.declared.outcome_report.ReportPart.{ReportPart}
use Rattle.dpkg_scenarios.specs.Names.{scenario_name}
use Rattle.report_text.specs.ReportText.{result_text, call_content}
use Rattle.report_text.specs.Whole.{IsRepresentableTree, IsRepresentableEntry, AllRepresentable, AllPartsRepresentable}
use Rattle.report_text.proofs.PieceReading.{scenario_shown}
use Rattle.report_json.specs.ReportJson.{texts_json, clause_json, version_lines, entry_json, part_json, json_of, version_text}
use Rattle.report_json.proofs.Ascii.{low_utf8}
use Rattle.report_json.proofs.ValueDepth.{report_depth}
use Rattle.report_json.proofs.ValueRead.{clause_parts, number_small, verdict_small, report_same}
use Rattle.report_json.proofs.Versions.{lines_low}
use Rattle.report_reader.specs.JsonAnswers.{Reads, IsReadable}
use Rattle.report_reader.proofs.JsonLaws.{Tame, TameItems, value_read}
use Rattle.report_text.proofs.LowPieces.{result_low, trace_low, calls_low, literals_low}
use Rattle.report_text.proofs.LowTexts.{low, shown_low}

-- ---- texts

key_tame : (key : List ℕ) → are_ascii key ≡ true → IsUtf8 key
key_tame key h = IsUtf8-are_ascii key h

texts_tame : (texts : List (List ℕ)) → list_all low texts ≡ true → TameItems (items_of (map string texts))
texts_tame [] h = tt
texts_tame (t ∷ texts) h = let k = and_parts (low t) (list_all low texts) h in (low_utf8 t k.0, texts_tame texts k.1)

-- ---- clauses

clause_tame : (version : Version) (clause : Clause) → is_clause clause ≡ true → Tame (clause_json version clause)
unfolding clause_json
clause_tame version clause h =
    let k = clause_parts clause h in
    let literals = texts_tame (map (literal_content version) clause.literals) (literals_low version clause.literals k.literals) in
    (key_tame (codes "literals") refl, literals, (key_tame (codes "now") refl, k.now, (key_tame (codes "start") refl, k.start, tt)))

-- ---- entries

tree_tame : (version : Version) (v : Value) → IsRepresentableTree v → Tame (texts_json (version_lines version v))
tree_tame version v h = texts_tame (version_lines version v) (lines_low version v h)

entry_tame : (version : Version) (e : ReportEntry) → IsRepresentableEntry e → Tame (entry_json version e)
unfolding entry_json
entry_tame version e h =
    let calls = texts_tame (map call_content e.replayed.calls) (calls_low e.replayed.calls h.calls) in
    let number : e.outcome.number < 2 ^ 64 = omega (arith, h.number) in (
      key_tame (codes "after") refl,
      tree_tame version e.replayed.after h.after,
      (
        key_tame (codes "calls") refl,
        calls,
        (
          key_tame (codes "clause") refl,
          clause_tame version e.outcome.clause h.clause,
          (
            key_tame (codes "confirmed") refl,
            tt,
            (
              key_tame (codes "number") refl,
              number,
              (
                key_tame (codes "result") refl,
                low_utf8 (result_text e.outcome.ending) (result_low e.outcome.ending h.ending),
                (
                  key_tame (codes "shown") refl,
                  tree_tame version e.outcome.shown h.shown,
                  (key_tame (codes "trace") refl, low_utf8 (join_with_byte 32 (map mark_text e.outcome.trace)) (trace_low e.outcome.trace h.trace), tt),
                ),
              ),
            ),
          ),
        ),
      ),
    )

entries_tame : (version : Version) (es : List ReportEntry) → AllRepresentable es → TameItems (items_of (map (entry_json version) es))
entries_tame version [] h = tt
entries_tame version (e ∷ es) h = (entry_tame version e h.0, entries_tame version es h.1)

-- ---- parts

part_tame : (version : Version) (p : ReportPart) → AllRepresentable p.entries → Tame (part_json version p)
unfolding part_json
part_tame version p h = (
  key_tame (codes "name") refl,
  low_utf8 (scenario_name p.scenario) (shown_low (scenario_name p.scenario) (scenario_shown p.scenario)),
  (key_tame (codes "outcomes") refl, entries_tame version p.entries h, tt),
)

parts_tame : (version : Version) (ps : List ReportPart) → AllPartsRepresentable ps → TameItems (items_of (map (part_json version) ps))
parts_tame version [] h = tt
parts_tame version (p ∷ ps) h = (part_tame version p h.0, parts_tame version ps h.1)

-- ---- the report

report_tame : (version : Version) (report : Report) → IsReadable report → Tame (json_of version report)
unfolding json_of
report_tame version report r = (
  key_tame (codes "colis") refl,
  number_small version,
  (
    key_tame (codes "scenarios") refl,
    parts_tame version report.parts r.representable,
    (key_tame (codes "verdict") refl, verdict_small report, tt),
  ),
)

-- the JSON text of a readable report is read as its value
pub text_reads : (version : Version) (report : Report) → IsReadable report → Reads (version_text version report) (json_of version report)
text_reads version report r =
    value_read (json_of version report) (report_tame version report r) (report_same version report r.representable) (report_depth version report)
