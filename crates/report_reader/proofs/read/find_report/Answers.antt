use Rattle.std.proofs.Common.{◌≡◌, Bool, true, false, Some, None, sym, ap, ◌∙◌}
use Rattle.serde_json.specs.Data.{Data}
use Rattle.serde_json.specs.View.{view}
use Rattle.feature_trees.specs.declared.version.Version.{Version}
use Rattle.outcome_report.specs.declared.outcome_report.Report.{Report}
use Rattle.report_json.specs.FirstVersion.{has_text}
use Rattle.report_json.specs.ReportJson.{json_of}
use Rattle.report_reader.specs.ReportRead.{version_in, report_in}
use Rattle.report_reader.specs.JsonAnswers.{IsReadable, HasValue, IsNoReport}
use Rattle.report_reader.proofs.FoundFacts.{report_found}
use Rattle.report_reader.proofs.ReportLaws.{report_back, version_back, by_version, has_value}
use Rattle.report_reader.proofs.read.find_report.Goals as goal

-- what a value of a readable report is read as
record IsRead (d : Data) (report : Report) : Type 0 where
  version : Version
  named : version_in d ≡ Some version
  text : has_text version report ≡ true
  is : json_of version report ≡ d
  found : report_in d ≡ Some report

is_read : (d : Data) (report : Report) → IsReadable report → HasValue report d → IsRead d report
is_read d report h x =
    by_version report d x (λ v t e. record {
      version = v;
      named = ap version_in (sym e) ∙ version_back v report;
      text = t;
      is = e;
      found = ap report_in (sym e) ∙ report_back v report h t;
    })

no_version : (d : Data) → None ≡ version_in d → IsNoReport d
no_version d e report h x = let r = (is_read d report h x).named in cc

no_report : (d : Data) → None ≡ report_in d → IsNoReport d
no_report d e report h x = let r = (is_read d report h x).found in cc

-- the version and the report that are read of a value
module _ (d : Data) (version : Version) (found : Report) (v : Some version ≡ version_in d) (f : Some found ≡ report_in d) where
  same_version : (report : Report) (r : IsRead d report) → r.version ≡ version
  same_version report r = let e = r.named in cc

  same_report : (report : Report) (r : IsRead d report) → report ≡ found
  same_report report r = let e = r.found in cc

  no_text : has_text version found ≡ false → IsNoReport d
  no_text n report h x =
      let r = is_read d report h x in
      let same : has_text version found ≡ true = (λ i. has_text (sym (same_version report r) i) (sym (same_report report r) i)) ∙ r.text in
      cc

  not_same : (json_of version found ≡ d → ⊥) → IsNoReport d
  not_same n report h x =
      let r = is_read d report h x in
      n ((λ i. json_of (sym (same_version report r) i) (sym (same_report report r) i)) ∙ r.is)

pub returns-in-None : goal.returns-in-None
returns-in-None c = no_version (view c.args.value.now) (sym c.in-None.is ∙ c.version_in.ensures)

pub returns-in-None-2 : goal.returns-in-None-2
returns-in-None-2 c = no_report (view c.args.value.now) (sym c.in-None-2.is ∙ c.in_ok-report.ensures)

pub returns-then-not-fits : goal.returns-then-not-fits
returns-then-not-fits c =
    no_text (view c.args.value.now) c.in-Some.version c.in-Some-2.report (sym c.in-Some.is ∙ c.version_in.ensures)
    (sym c.in-Some-2.is ∙ c.in_ok-report.ensures) (sym c.has_text-fits.ensures ∙ c.if-not-fits.true)

pub returns-in-true : goal.returns-in-true
returns-in-true c =
    let d = view c.args.value.now in
    let version = c.in-Some.version in
    let report = c.in-Some-2.report in (
      report_found d report (sym (sym c.in-Some-2.is ∙ c.in_ok-report.ensures)),
      has_value version report d (sym c.has_text-fits.ensures ∙ c.if-not-fits.false) (c.in_ok-has_value.ensures.0 c.in-true.is),
    )

wrong : {A : Type 0} (b : Bool) → b ≡ true → b ≡ false → A
wrong b e f = cc

pub returns-in-false : goal.returns-in-false
returns-in-false c =
    not_same (view c.args.value.now) c.in-Some.version c.in-Some-2.report (sym c.in-Some.is ∙ c.version_in.ensures)
    (sym c.in-Some-2.is ∙ c.in_ok-report.ensures)
    (λ e. wrong c.in_ok-has_value.field-0 (c.in_ok-has_value.ensures.1 e) c.in-false.is)
