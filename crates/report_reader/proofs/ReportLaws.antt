-- The value of a readable report is read as the report, in each version of which it has a text.
use Rattle.std.proofs.Common.{inl, inr, refl, ◌≡◌, ℕ, suc, ◌+◌, ◌≤◌, true, List, [], ◌∷◌, ◌++◌, map, Some, sym, ap, subst, ◌∙◌, arith, append_assoc, append-nil}
use Rattle.std.specs.Prelude.{None, if◌then◌else◌}
use Rattle.std.specs.Option.{option_map, option_and_then}
use Rattle.std.proofs.lemmas.Bool.{and_parts, le-leb}
use Rattle.serde_json.specs.Data.{Data}
use Rattle.serde_json.specs.View.{items_of}
use Rattle.dpkg_scenarios.specs.Scenarios.{is_checked}
use Rattle.dpkg_scenarios.proofs.Named.{scenario_read}
use Rattle.tree_clauses.specs.ClauseRead.{has_text as has_clause_text}
use Rattle.feature_trees.specs.declared.version.Version.{Version}
use Rattle.feature_trees.specs.declared.version.Version.TheVariants.{First, Second}
use Rattle.scenario_outcomes.specs.declared.outcome.Outcome.{Outcome}
use Rattle.outcome_report.specs.declared.outcome_report.Report.{Report}
use Rattle.outcome_report.specs.declared.outcome_report.ReportEntry.{ReportEntry}
use Rattle.outcome_report.specs.declared.outcome_report.ReportPart.{ReportPart}
use Rattle.outcome_report.specs.declared.replay.Replay.{Replay}
use Rattle.report_text.specs.Numbered.{AreNumbered, AllNumbered}
use Rattle.report_text.specs.Whole.{IsRepresentableEntry, AllRepresentable, AllPartsRepresentable, IsWholeEntry, AllWhole, AllPartsWhole, AreInOrder, scenario_place}
use Rattle.report_text.proofs.PieceReading.{result_read, trace_read}
use Rattle.report_json.specs.FirstVersion.{has_text}
use Rattle.report_json.specs.ReportJson.{entry_json, part_json, json_of}
use Rattle.report_json.proofs.Told.{have_clause_texts, have_texts, clauses_told}
use Rattle.report_reader.specs.ReportRead.{outcome_in, replay_in, entry_in, entries_onto, part_in, from_place, parts_onto, version_of, version_in, report_in}
use Rattle.report_reader.specs.JsonAnswers.{HasShortPaths, AllShort, AllPartsShort, AllChecked, IsReadable, HasValue}
use Rattle.report_reader.proofs.ClauseFacts.{short_is}
use Rattle.report_reader.proofs.MemberLaws.{tree_back, calls_back, clause_back}

-- ---- entries

outcome_back : (version : Version) (e : ReportEntry) → IsRepresentableEntry e → IsWholeEntry e → HasShortPaths e → has_clause_text version e.outcome.clause ≡ true
    → outcome_in e.outcome.number (entry_json version e) ≡ Some e.outcome
unfolding entry_json
outcome_back version e h w s t =
    λ i. option_and_then (λ ending. option_and_then (λ trace. option_and_then (λ clause. option_map
    (λ shown. let made : Outcome = record { number = e.outcome.number; ending = ending; trace = trace; clause = clause; shown = shown } in made)
    (tree_back version e.outcome.shown w.shown h.shown s.shown i)) (clause_back version e.outcome.clause h.clause t i))
    (trace_read e.outcome.trace h.trace i)) (result_read e.outcome.ending h.ending i)

replay_back : (version : Version) (e : ReportEntry) → IsRepresentableEntry e → IsWholeEntry e → HasShortPaths e → replay_in (entry_json version e) ≡ Some e.replayed
unfolding entry_json
replay_back version e h w s =
    (λ i. option_and_then (λ ending. option_and_then (λ trace. option_and_then (λ after. option_map
    (λ calls. let made : Replay = record { ending = ending; trace = trace; after = after; calls = calls } in made)
    (calls_back e.replayed.calls h.calls i)) (tree_back version e.replayed.after w.after h.after s.after i))
    (trace_read e.outcome.trace h.trace i)) (result_read e.outcome.ending h.ending i))
    ∙ λ i. let made : Replay = record { ending = sym w.agrees.ending i; trace = sym w.agrees.trace i; after = e.replayed.after; calls = e.replayed.calls } in Some made

entry_back : (version : Version) (n : ℕ) (e : ReportEntry) → e.outcome.number ≡ n → IsRepresentableEntry e → IsWholeEntry e → HasShortPaths e → has_clause_text version e.outcome.clause ≡ true
    → entry_in n (entry_json version e) ≡ Some e
entry_back version n e number h w s t =
    ap (λ m. entry_in m (entry_json version e)) (sym number)
    ∙ (λ i. option_and_then (λ outcome. option_map (λ replayed. let made : ReportEntry = record { outcome = outcome; replayed = replayed; confirmed = true } in made)
    (replay_back version e h w s i)) (outcome_back version e h w s t i))
    ∙ λ i. let made : ReportEntry = record { outcome = e.outcome; replayed = e.replayed; confirmed = sym w.confirmed i } in Some made

entries_back : (version : Version) (n : ℕ) (done es : List ReportEntry) → AllRepresentable es → AllWhole es → AllShort es → AreNumbered n es → have_clause_texts version es ≡ true
    → entries_onto n done (items_of (map (entry_json version) es)) ≡ Some (done ++ es)
entries_back version n done [] h w s m t = ap Some (sym (append-nil done))
entries_back version n done (e ∷ es) h w s m t =
    let k = and_parts (has_clause_text version e.outcome.clause) (have_clause_texts version es) t in
    let small = short_is n (omega (arith, m.0, h.0.number)) in
    let next : suc n ≡ n + 1 = omega arith in
    ap (option_and_then (λ number. option_and_then (λ entry. entries_onto (number + 1) (done ++ entry ∷ []) (items_of (map (entry_json version) es))) (entry_in number (entry_json version e)))) small
    ∙ ap (option_and_then (λ (entry : ReportEntry). entries_onto (n + 1) (done ++ entry ∷ []) (items_of (map (entry_json version) es)))) (entry_back version n e m.0 h.0 w.0 s.0 k.0)
    ∙ entries_back version (n + 1) (done ++ e ∷ []) es h.1 w.1 s.1 (subst (λ k. AreNumbered k es) next m.1) k.1 ∙ ap Some (append_assoc done (e ∷ []) es)

-- ---- parts

part_back : (version : Version) (p : ReportPart) → is_checked p.scenario ≡ true → AllRepresentable p.entries → AllWhole p.entries → AllShort p.entries → AreNumbered 1 p.entries → have_clause_texts version p.entries ≡ true
    → part_in (part_json version p) ≡ Some p
unfolding part_json
part_back version p c h w s m t =
    λ i. option_and_then (λ scenario. option_map (λ entries. let made : ReportPart = record { scenario = scenario; entries = entries } in made)
    (entries_back version 1 [] p.entries h w s m t i)) (scenario_read p.scenario c i)

in_place : (least : ℕ) (p : ReportPart) → least ≤ scenario_place p.scenario → from_place least p ≡ Some p
in_place least p le = ap (λ t. if t then Some p else None) (le-leb least (scenario_place p.scenario) le)

parts_back : (version : Version) (least : ℕ) (done ps : List ReportPart) → AllChecked ps → AllPartsRepresentable ps → AllPartsWhole ps → AllPartsShort ps → AllNumbered ps → AreInOrder least ps
    → have_texts version ps ≡ true → parts_onto least done (items_of (map (part_json version) ps)) ≡ Some (done ++ ps)
parts_back version least done [] c h w s m o t = ap Some (sym (append-nil done))
parts_back version least done (p ∷ ps) c h w s m o t =
    let k = and_parts (have_clause_texts version p.entries) (have_texts version ps) t in
    let next : suc (scenario_place p.scenario) ≡ scenario_place p.scenario + 1 = omega arith in
    ap (λ found. option_and_then (λ (part : ReportPart). parts_onto (scenario_place part.scenario + 1) (done ++ part ∷ []) (items_of (map (part_json version) ps)))
    (option_and_then (from_place least) found)) (part_back version p c.0 h.0 w.0 s.0 m.0 k.0)
    ∙ ap (option_and_then (λ (part : ReportPart). parts_onto (scenario_place part.scenario + 1) (done ++ part ∷ []) (items_of (map (part_json version) ps)))) (in_place least p o.0)
    ∙ parts_back version (scenario_place p.scenario + 1) (done ++ p ∷ []) ps c.1 h.1 w.1 s.1 m.1 (subst (λ k. AreInOrder k ps) next o.1) k.1 ∙ ap Some (append_assoc done (p ∷ []) ps)

-- the value of a readable report is read as the report
pub report_back : (version : Version) (report : Report) → IsReadable report → has_text version report ≡ true → report_in (json_of version report) ≡ Some report
unfolding json_of
report_back version report r t =
    ap (option_map (λ parts. let made : Report = record { parts = parts } in made))
    (parts_back version 0 [] report.parts r.checked r.representable r.whole.entries r.short r.whole.numbered r.whole.order (clauses_told version report t))

-- and the version is that which it names
pub version_back : (version : Version) (report : Report) → version_in (json_of version report) ≡ Some version
unfolding json_of
version_back First report = ap (option_and_then version_of) (short_is 1 (omega arith))
version_back Second report = ap (option_and_then version_of) (short_is 2 (omega arith))

-- a value of a report is its value in a version of which it has a text
pub by_version : {A : Type 0} (report : Report) (d : Data) → HasValue report d
    → ((version : Version) → has_text version report ≡ true → json_of version report ≡ d → A) → A
by_version report d (inl e) more = more Second refl e
by_version report d (inr h) more = more First h.0 h.1

-- and so the other way round
pub has_value : (version : Version) (report : Report) (d : Data) → has_text version report ≡ true → json_of version report ≡ d → HasValue report d
has_value First report d t e = inr (t, e)
has_value Second report d t e = inl e
