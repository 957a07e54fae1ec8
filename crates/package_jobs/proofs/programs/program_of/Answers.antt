use Rattle.std.proofs.Common.{Some, ap, sym, ◌∙◌}
use Rattle.std.specs.Prelude.{option_map}
use Rattle.std.specs.Option.{option_copied}
use Rattle.scenario_runs.specs.Runs.{program_meaning}
use Rattle.package_jobs.specs.Written.{script_meaning}
use Rattle.package_jobs.proofs.programs.program_of.Goals as goal

pub returns-in_ok-slot-in-Some : goal.returns-in_ok-slot-in-Some
returns-in_ok-slot-in-Some c =
    ap (option_map program_meaning) c.in_ok-slot-in-Some.ensures
    ∙ ap Some c.in_ok-program-in-Some.ensures
    ∙ ap (λ o. option_map script_meaning (option_copied o)) (sym c.in-Some.is)
    ∙ ap (option_map script_meaning) c.get.ensures
