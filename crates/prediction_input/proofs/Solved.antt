-- A report that was read has clauses in solved order alone.
use Rattle.std.proofs.Common.{◌≡◌, ℕ, List, Option, Some, None, Result, Ok, Err, IfOk}
use Rattle.std.specs.Prelude.{All}
use Rattle.script_names.specs.declared.memory.Memory.{Memory}
use Rattle.checker_io.specs.declared.stop.Stop.{Stop}
use Rattle.checker_input.specs.declared.faults.FileFault.{FileFault}
use Rattle.checker_input.specs.declared.faults.InputRefusal.{InputRefusal}
use Rattle.checker_input.specs.Input.{of_file}
use Rattle.checker_input.proofs.Files.{good_file}
use Rattle.outcome_report.specs.declared.outcome_report.Report.{Report}
use Rattle.prediction_text.specs.PredictionText.{AreSolved}
use Rattle.prediction_input.specs.PredictionInput.{ReportComes}

abbrev IsSolvedReport : Report → Type 0
IsSolvedReport report = All AreSolved report.parts

solved_by : (found : Option (List ℕ)) (came : Result Report FileFault) → ReportComes found came → IfOk came IsSolvedReport
solved_by found (Err wrong) comes = tt
solved_by None (Ok report) comes = absurd (cc comes)
solved_by (Some text) (Ok report) comes = comes.1

solved_came : (found : Option (List ℕ)) (came : Result (Result Report FileFault) Memory) → IfOk came (ReportComes found)
    → IfOk came (λ (read : Result Report FileFault). IfOk read IsSolvedReport)
solved_came found (Ok came) comes = solved_by found came comes
solved_came found (Err missing) comes = tt

pub came_solved : (name : List ℕ) (found : Option (List ℕ)) (came : Result (Result Report FileFault) Memory)
    (result : Result Report (Stop (List ℕ) InputRefusal)) → IfOk came (ReportComes found) → result ≡ of_file name came
    → IfOk result IsSolvedReport
came_solved name found came result comes same = good_file IsSolvedReport name came result (solved_came found came comes) same
