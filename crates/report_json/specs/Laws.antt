-- What the JSON value of a report tells, and its text.
use Rattle.std.specs.Prelude.{◌≡◌, IsTrue}
use Rattle.feature_trees.specs.declared.version.Version.{Version}
use Rattle.feature_trees.specs.declared.version.Version.TheVariants.{First, Second}
use Rattle.outcome_report.specs.declared.outcome_report.Report.{Report}
use Rattle.report_text.specs.Whole.{IsRepresentable, IsWhole}
use Rattle.report_json.specs.FirstVersion.{has_text}
use Rattle.report_json.specs.ReportJson.{json_of, json_text}

-- two whole reports that the program's types represent, with the same value in a version of which they
-- have a text, are the same
abbrev pub ValuesTellReports : Type 0
ValuesTellReports =
    (version : Version) (a b : Report) → IsRepresentable a → IsRepresentable b → IsWhole a → IsWhole b
    → IsTrue (has_text version a) → IsTrue (has_text version b) → json_of version a ≡ json_of version b → a ≡ b

-- no value is one of both versions
abbrev pub VersionsAreApart : Type 0
VersionsAreApart = (a b : Report) → ¬ (json_of First a ≡ json_of Second b)

-- two whole reports that the program's types represent, with the same JSON text, are the same
abbrev pub JsonTextsTellReports : Type 0
JsonTextsTellReports =
    (a b : Report) → IsRepresentable a → IsRepresentable b → IsWhole a → IsWhole b → json_text a ≡ json_text b → a ≡ b
