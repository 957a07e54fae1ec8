use Rattle.std.proofs.Common.{Option, Ok, Err, subst}
use Rattle.clause_solver.specs.Stands.{Seen}
use Rattle.case_paths.specs.declared.state.PathsFault.{PathsFault}
use Rattle.case_paths.specs.Paths.{Explored}
use Rattle.start_trees.specs.Needs.{AreStarts}
use Rattle.scenario_runs.specs.Deciding.{decision_of}
use Rattle.scenario_outcomes.proofs.Answering.{paths_found, over_answer}
use Rattle.scenario_outcomes.proofs.listing.job_paths.Goals as goal

pub explore-requires : goal.explore-requires
explore-requires c =
    let P : Option Seen → Type 0 = λ found. AreStarts found c.args.needs.now in
    let starts = subst P c.in-Some.is c.in_ok-store.ensures in
    record { same = λ t u pair. ((starts.0 t u).0 pair).1 }

pub returns-in-Ok : goal.returns-in-Ok
returns-in-Ok c =
    let P : Option Seen → Type 0 = λ found. AreStarts found c.args.needs.now in
    let starts = subst P c.in-Some.is c.in_ok-store.ensures in
    let of = c.of-runs.result.job.now in
    let files = c.of-runs.result.performed in
    paths_found c.args.job.now of c.of-runs.ensures files c.scenario_runs_are_decided.ensures.played c.args.needs.now c.args.limit
    c.in-Some.store starts c.in-Ok.paths c.in-Ok.ensures

pub returns-in-Err-Over : goal.returns-in-Err-Over
returns-in-Err-Over c =
    let P : Option Seen → Type 0 = λ found. AreStarts found c.args.needs.now in
    let starts = subst P c.in-Some.is c.in_ok-store.ensures in
    let of = c.of-runs.result.job.now in
    let files = c.of-runs.result.performed in
    let R : PathsFault → Type 0 = λ fault. Explored (decision_of of files) c.in-Some.store c.args.limit (Err fault) in
    over_answer c.args.job.now of c.of-runs.ensures files c.scenario_runs_are_decided.ensures.played c.args.needs.now c.args.limit
    c.in-Some.store starts (subst R c.in-Err-Over.field-0-is c.in-Err-Over.ensures)
