-- The text of a report in a layout, and its verdict.
use Rattle.std.proofs.Common.{◌≡◌, ℕ, ◌≤◌, List, refl, sym, ◌∙◌, subst}
use Rattle.dpkg_scenarios.specs.declared.scenario.Scenario.{Scenario}
use Rattle.command_words.specs.declared.request.Layout.{Layout}
use Rattle.checker_input.specs.declared.package.Packages.{Packages}
use Rattle.outcome_report.specs.declared.outcome_report.Report.{Report}
use Rattle.report_text.specs.declared.told_part.Telling.{Telling}
use Rattle.report_text.specs.declared.told_part.Telling.TheVariants.{Wholly, Briefly}
use Rattle.report_text.specs.declared.told_part.ToldPart.{ToldPart}
use Rattle.outcome_report.specs.OutcomeReport.{report_has, verdict_of}
use Rattle.report_text.specs.Told.{report_lines, Tells, AreTold}
use Rattle.report_text.specs.Whole.{IsRepresentable}
use Rattle.report_text.proofs.Joined.{all_representable}
use Rattle.checker_calls.specs.Accounts.{AreAccountsOf}
use Rattle.checker_calls.specs.Reports.{layout_text, layout_of, AreParts, IsReportOf}
use Rattle.checker_calls.proofs.Loaded.{small}

module _ (packages : Packages) (turns limit : ℕ) (scenarios : List Scenario) where
  pub report_of : (layout : Layout) (report : Report) (text : List ℕ) (status : ℕ)
      → AreParts packages turns limit scenarios report.parts → IsRepresentable report → text ≡ layout_text layout report
      → status ≡ verdict_of report → IsReportOf packages turns limit scenarios layout text status
  report_of layout report text status parts representable text_is status_is = record {
    report = report;
    parts = parts;
    representable = representable;
    text_is = text_is;
    status_is = status_is;
    small = subst (λ n. n ≤ 2) (sym status_is) (small (report_has 1 report) (report_has 2 report));
  }

  -- the same, in the layout that was asked for
  pub asked_report : (asked layout : Layout) (report : Report) (text : List ℕ) (status : ℕ) → asked ≡ layout
      → AreParts packages turns limit scenarios report.parts → IsRepresentable report → text ≡ layout_text layout report
      → status ≡ verdict_of report → IsReportOf packages turns limit scenarios asked text status
  asked_report asked layout report text status same parts representable text_is status_is =
      let Q : Layout → Type 0 = λ l. IsReportOf packages turns limit scenarios l text status in
      subst Q (sym same) (report_of layout report text status parts representable text_is status_is)

  -- ---- from what is told of the parts

  lines_so : (telling : Telling) (report : Report) → report_lines telling report ≡ layout_text (layout_of telling) report
  lines_so Wholly report = refl
  lines_so Briefly report = refl

  pub told_report : (telling : Telling) (told : List ToldPart) (text : List ℕ) (status : ℕ)
      → AreAccountsOf (Tells telling) packages turns limit scenarios told
      → ((report : Report) → AreTold telling report.parts told → text ≡ report_lines telling report)
      → ((report : Report) → AreTold telling report.parts told → status ≡ verdict_of report)
      → IsReportOf packages turns limit scenarios (layout_of telling) text status
  told_report telling told text status are text_is status_is =
      report_of (layout_of telling) are.report text status are.parts (all_representable telling are.report.parts told are.tell)
      (text_is are.report are.tell ∙ lines_so telling are.report) (status_is are.report are.tell)
