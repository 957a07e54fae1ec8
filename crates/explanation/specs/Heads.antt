-- What is said first, and first of a scenario: the package, how the scenario ends, and how often.
use Rattle.std.specs.Prelude.{ℕ, ◌==◌, List, [], ◌++◌, length, codes, Option, Some, None, if◌then◌else◌}
use Rattle.std.specs.Fmt.{decimal}
use Rattle.shown_texts.specs.Lines.{line}
use Rattle.shown_texts.specs.Show.{show}
use Rattle.dpkg_scenarios.specs.declared.scenario.Scenario.{Scenario}
use Rattle.dpkg_scenarios.specs.declared.scenario.Side.TheVariants.{New}
use Rattle.dpkg_scenarios.specs.Names.{scenario_name}
use Rattle.checker_input.specs.declared.package.Package.{Package}
use Rattle.checker_input.specs.declared.package.Packages.{Packages}
use Rattle.checker_input.specs.declared.sources.Sources.{Sources}
use Rattle.outcome_report.specs.declared.outcome_report.ReportEntry.{ReportEntry}
use Rattle.explanation.specs.Counting.{count_so, counted_text}
use Rattle.explanation.specs.Scripts.{folder_of}

-- what stands before all that is said: what an outcome is, how far it is known, and what is left out
unfoldable pub legend_text : List ℕ
legend_text =
    line (codes "An outcome stands for all systems on which a scenario goes the same way, act by act.")
    ++ line (codes "An undecided one is known up to its place: what it does from there is not, nor how the package is left.")
    ++ line (codes "Lines that are known not to be reached stand at the end of a scenario; of others nothing is said.")
    ++ line (codes "In the line of a script [..] stands for what is left out.")
    ++ line []

-- the version of the old package, where there is one
abbrev pub over : Option Package → List ℕ
over None = []
over (Some own) = codes " over " ++ show own.version

-- the same of packages
abbrev pub over_text : Packages → List ℕ
over_text packages = over packages.old_package

-- the package's folder and version
unfoldable pub package_text : Sources → Packages → List ℕ
package_text sources packages =
    show (folder_of sources New) ++ codes " " ++ show packages.new_package.version ++ over_text packages

-- the same, and the scenario
unfoldable pub name_text : Sources → Packages → Scenario → List ℕ
name_text sources packages scenario = package_text sources packages ++ codes ", " ++ scenario_name scenario

-- the first line of a scenario, which ends in these words
unfoldable pub head_line : Sources → Packages → Scenario → List ℕ → List ℕ
head_line sources packages scenario words =
    line (name_text sources packages scenario ++ codes ": " ++ words)

-- what is said of a scenario that has this verdict
abbrev pub verdict_words : ℕ → List ℕ
verdict_words verdict =
    if verdict == 0 then codes "ends well"
    else (if verdict == 1 then codes "FAILS on some systems" else codes "UNDECIDED")

-- how many fail
unfoldable pub failing_text : ℕ → List ℕ
failing_text count = decimal count ++ codes " failing, "

-- how many are undecided
unfoldable pub undecided_text : ℕ → List ℕ
undecided_text count = decimal count ++ codes " undecided, "

-- how many end well
unfoldable pub well_text : ℕ → List ℕ
well_text count = line (decimal count ++ codes " ending well")

-- how many outcomes there are, and how many end in each way
unfoldable pub counts_line : List ReportEntry → List ℕ
counts_line entries =
    counted_text (length entries) ++ codes ": " ++ failing_text (count_so 1 entries)
    ++ undecided_text (count_so 2 entries) ++ well_text (count_so 0 entries)
