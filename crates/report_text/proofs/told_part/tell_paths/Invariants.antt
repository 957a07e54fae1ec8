use Rattle.std.proofs.Common.{length}
use Rattle.scenario_runs.specs.Runs.{scenario_run}
use Rattle.report_text.specs.ReportText.{heading}
use Rattle.report_text.proofs.PathsTold.{ToldSoFar}
use Rattle.report_text.proofs.told_part.tell_paths.Given as goal

abbrev pub invariant-loop-path : goal.invariant-loop-path
invariant-loop-path l =
    ToldSoFar l.fn.telling (scenario_run l.job) l.fn.paths l.yielded l.path-iterator.rest.items (heading l.job.scenario (length l.fn.paths))
    l.number l.told l.places
