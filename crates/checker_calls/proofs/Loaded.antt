-- The packages of a load are one, and the summary of a report on them is that of the load.
use Rattle.std.proofs.Common.{◌≡◌, ℕ, ◌≤◌, Bool, true, false, List, Option, None, refl, sym, subst, ◌∙◌, arith}
use Rattle.system_base.specs.declared.base.Base.{Base}
use Rattle.checker_input.specs.declared.package.Package.{Package}
use Rattle.checker_input.specs.declared.package.Packages.{Packages}
use Rattle.load_maker.proofs.OnePackage.{one_package}
use Rattle.outcome_report.specs.declared.outcome_report.Report.{Report}
use Rattle.outcome_report.specs.OutcomeReport.{report_has, verdict_of}
use Rattle.dpkg_scenarios.specs.Verdicts.{joint_verdict}
use Rattle.load_summary.specs.Summary.{summary_text}
use Rattle.checker_calls.specs.declared.loads.TheConstants.{TURNS}
use Rattle.checker_calls.specs.Reports.{chosen, AreParts}
use Rattle.checker_calls.specs.Loads.{AreLoaded, IsLoadOf}

same_packages : {a b : Package} {x y : Option Package} {l m : Base} {s t : List ℕ} → a ≡ b → x ≡ y → l ≡ m → s ≡ t
    → ◌≡◌ {A = Packages} (record { new_package = a; old_package = x; base = l; name = s })
    (record { new_package = b; old_package = y; base = m; name = t })
same_packages e f g h = rw (e, f, g, h) refl

pub one_loaded : (number : ℕ) (one other : Packages) → AreLoaded number one → AreLoaded number other → one ≡ other
one_loaded number one other x y =
    same_packages (one_package number one.new_package other.new_package x.made y.made) (x.alone ∙ sym y.alone) (x.on ∙ sym y.on) (x.nameless ∙ sym y.nameless)

pub small : (failed unfinished : Bool) → joint_verdict failed unfinished ≤ 2
small true unfinished = omega arith
small false true = omega arith
small false false = omega arith

-- the summary of a report on the packages of a load is that of the load
pub load_is : (number limit : ℕ) (packages : Packages) (report : Report) (text : List ℕ) (status : ℕ) → AreLoaded number packages
    → AreParts packages TURNS limit (chosen None) report.parts → text ≡ summary_text number report → status ≡ verdict_of report
    → IsLoadOf number limit text status
load_is number limit packages report text status loaded parts text_is status_is = record {
  packages = packages;
  loaded = loaded;
  report = report;
  parts = parts;
  text_is = text_is;
  status_is = status_is;
  small = subst (λ n. n ≤ 2) (sym status_is) (small (report_has 1 report) (report_has 2 report));
}
