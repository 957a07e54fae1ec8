use Rattle.package_jobs.proofs.WrittenTurns.{written_same}
use Rattle.package_jobs.proofs.theorems.more_turns_change_no_written_run.Goals as goal

pub returns : goal.returns
returns c = written_same c.runs_are_lawful.ensures.more c.programs_do_the_same.ensures c.more_turns_change_nothing.ensures.plans
