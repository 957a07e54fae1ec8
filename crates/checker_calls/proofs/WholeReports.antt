-- What is reported of packages is a whole report, which its plain text tells.
use Rattle.std.proofs.Common.{◌≡◌, ℕ, zero, suc, ◌+◌, ◌≤◌, Bool, true, ◌&&◌, List, [], ◌∷◌, map, Option, Some, None, refl, sym, ap, ◌∙◌, subst, arith}
use Rattle.std.specs.Prelude.{slice_get, nat_le}
use Rattle.std.proofs.lemmas.Bool.{and_parts, leb-true}
use Rattle.feature_trees.specs.declared.value.Value.{Value}
use Rattle.feature_trees.specs.declared.kind.Kind.TheVariants.{Dir}
use Rattle.feature_trees.specs.Tree.{kind_of}
use Rattle.dpkg_scenarios.specs.declared.scenario.Scenario.{Scenario}
use Rattle.dpkg_scenarios.specs.Scenarios.{checked_scenarios}
use Rattle.checker_input.specs.declared.package.Packages.{Packages}
use Rattle.scenario_runs.specs.declared.replayed.Replayed.{Replayed}
use Rattle.package_jobs.specs.StartTrees.{IsStartTree}
use Rattle.package_jobs.specs.Written.{written_run}
use Rattle.scenario_outcomes.specs.declared.outcome.Outcome.{Outcome}
use Rattle.scenario_outcomes.specs.Outcomes.{IsExact}
use Rattle.outcome_report.specs.declared.outcome_report.ReportEntry.{ReportEntry}
use Rattle.outcome_report.specs.declared.outcome_report.ReportPart.{ReportPart}
use Rattle.outcome_report.specs.declared.replay.Replay.{Replay}
use Rattle.report_text.specs.Numbered.{AreNumbered, AllNumbered}
use Rattle.outcome_report.specs.OutcomeReport.{IsEntryOf, AllEntries, IsPart}
use Rattle.report_text.specs.Whole.{IsWholeEntry, AllWhole, AllPartsWhole, AreInOrder, scenario_place}
use Rattle.report_text.specs.TextLaws.{TextsTellReports}
use Rattle.report_json.specs.Laws as json
use Rattle.checker_calls.specs.Reports.{AreParts, chosen}
use Rattle.checker_calls.specs.Laws.{WholeReports, PlainTextsTellReports, JsonTextsTellReports}
use Rattle.outcome_report.proofs.Entries.{same_run}

-- ---- an entry

-- the outcome shows a directory, and the run from there leaves one
pub record ShowsTrees (run : Value → Option Replayed) (outcome : Outcome) : Type 0 where
  pub shown : kind_of outcome.shown ≡ Dir
  pub after : (replayed : Replayed) → run outcome.shown ≡ Some replayed → kind_of replayed.after ≡ Dir

shows_at : (run : Value → Option Replayed) (start : Value → Type 0) → ((tree : Value) → start tree → kind_of tree ≡ Dir)
    → (outcomes : List Outcome) → IsExact run start outcomes → (place : ℕ) (outcome : Outcome)
    → slice_get outcomes place ≡ Some outcome → ShowsTrees run outcome
shows_at run start dirs outcomes exact place outcome at =
    let covers = exact.shown place outcome at in
    let both = exact.runs place outcome outcome.shown covers.0 at covers.1 in
    let ends = both.1 in
    record {
      shown = dirs outcome.shown both.0;
      after = λ replayed is_run.
          ap (λ (r : Replayed). kind_of r.after) (same_run (run outcome.shown) replayed ends.replayed is_run ends.is_run)
          ∙ ap kind_of ends.after ∙ covers.1.tree;
    }

whole_entry : (run : Value → Option Replayed) (entry : ReportEntry) → ShowsTrees run entry.outcome → IsEntryOf run entry
    → IsWholeEntry entry
whole_entry run entry shows is = record {
  shown = shows.shown;
  after = ap (λ (r : Replay). kind_of r.after) is.kept ∙ shows.after is.whole is.replayed;
  agrees = is.agrees;
  confirmed = is.confirmed;
}

-- ---- a part

whole_entries : (run : Value → Option Replayed) (entries : List ReportEntry)
    → ((place : ℕ) (outcome : Outcome) → slice_get (map (λ (e : ReportEntry). e.outcome) entries) place ≡ Some outcome
    → ShowsTrees run outcome)
    → AllEntries run entries → AllWhole entries
whole_entries run [] shows all = tt
whole_entries run (entry ∷ entries) shows all = (
  whole_entry run entry (shows zero entry.outcome refl) all.0,
  whole_entries run entries (λ place outcome at. shows (suc place) outcome at) all.1,
)

numbered_from : (n : ℕ) (entries : List ReportEntry)
    → ((place : ℕ) (outcome : Outcome) → slice_get (map (λ (e : ReportEntry). e.outcome) entries) place ≡ Some outcome
    → outcome.number ≡ place + n)
    → AreNumbered n entries
numbered_from n [] each = tt
numbered_from n (entry ∷ entries) each = (
  each zero entry.outcome refl ∙ (let h : zero + n ≡ n = omega arith in h),
  numbered_from (suc n) entries (λ place outcome at.
      each (suc place) outcome at ∙ (let h : suc place + n ≡ place + suc n = omega arith in h)),
)

-- ---- the parts of scenarios

-- the scenarios are different and in their order, from a place on
abbrev pub AreRising : ℕ → List Scenario → Type 0
AreRising least [] = Unit {0}
AreRising least (scenario ∷ scenarios) =
    (least ≤ scenario_place scenario) × AreRising (suc (scenario_place scenario)) scenarios

module _ (packages : Packages) (turns limit : ℕ) where
  whole_part : (scenario : Scenario) (part : ReportPart)
      → IsPart (written_run scenario packages turns) (IsStartTree scenario packages) part
      → AllWhole part.entries × AreNumbered 1 part.entries
  whole_part scenario part is =
      let run = written_run scenario packages turns in
      let shows = shows_at run (IsStartTree scenario packages) (λ tree is_start. is_start.is_tree.dir)
      (map (λ (e : ReportEntry). e.outcome) part.entries) is.exact in
      (whole_entries run part.entries shows is.entries, numbered_from 1 part.entries is.exact.numbered)

  pub whole_parts : (scenarios : List Scenario) (parts : List ReportPart) → AreParts packages turns limit scenarios parts
      → AllPartsWhole parts × AllNumbered parts
  whole_parts [] [] are = (tt, tt)
  whole_parts [] (part ∷ parts) are = absurd are
  whole_parts (scenario ∷ scenarios) [] are = absurd are
  whole_parts (scenario ∷ scenarios) (part ∷ parts) are =
      let here = whole_part scenario part are.0.exact in
      let later = whole_parts scenarios parts are.1 in
      ((here.0, later.0), (here.1, later.1))

  in_order : (least : ℕ) (scenarios : List Scenario) (parts : List ReportPart) → AreParts packages turns limit scenarios parts
      → AreRising least scenarios → AreInOrder least parts
  in_order least [] [] are rising = tt
  in_order least [] (part ∷ parts) are rising = absurd are
  in_order least (scenario ∷ scenarios) [] are rising = absurd are
  in_order least (scenario ∷ scenarios) (part ∷ parts) are rising =
      let same = are.0.of_scenario in (
        subst (λ (s : Scenario). least ≤ scenario_place s) (sym same) rising.0,
        in_order (suc (scenario_place part.scenario)) scenarios parts are.1
            (subst (λ (s : Scenario). AreRising (suc (scenario_place s)) scenarios) (sym same) rising.1),
      )

abbrev rises : ℕ → List Scenario → Bool
rises least [] = true
rises least (scenario ∷ scenarios) =
    nat_le least (scenario_place scenario) && rises (suc (scenario_place scenario)) scenarios

rising_by : (least : ℕ) (scenarios : List Scenario) → rises least scenarios ≡ true → AreRising least scenarios
rising_by least [] e = tt
rising_by least (scenario ∷ scenarios) e =
    let place = scenario_place scenario in
    let both = and_parts (nat_le least place) (rises (suc place) scenarios) e in
    (leb-true least place both.0, rising_by (suc place) scenarios both.1)

chosen_rise : (which : Option Scenario) → AreRising 0 (chosen which)
chosen_rise (Some scenario) = (omega arith, tt)
chosen_rise None = rising_by 0 checked_scenarios refl

pub whole_reports : WholeReports
whole_reports packages turns limit which report are =
    let parts = whole_parts packages turns limit (chosen which) report.parts are in
    record {
      entries = parts.0;
      numbered = parts.1;
      order = in_order packages turns limit 0 (chosen which) report.parts are (chosen_rise which);
    }

pub plain_texts_tell : TextsTellReports → PlainTextsTellReports
plain_texts_tell tell packages other_packages turns other_turns limit other_limit which other_which text status other_status a b =
    tell a.report b.report a.representable b.representable (whole_reports packages turns limit which a.report a.parts)
    (whole_reports other_packages other_turns other_limit other_which b.report b.parts) (sym a.text_is ∙ b.text_is)

pub json_texts_tell : json.JsonTextsTellReports → JsonTextsTellReports
json_texts_tell tell packages other_packages turns other_turns limit other_limit which other_which text status other_status a b =
    tell a.report b.report a.representable b.representable (whole_reports packages turns limit which a.report a.parts)
    (whole_reports other_packages other_turns other_limit other_which b.report b.parts) (sym a.text_is ∙ b.text_is)
