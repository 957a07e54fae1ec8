use Rattle.package_jobs.proofs.Plans.{meaning_same}
use Rattle.package_jobs.proofs.programs.translated.Goals as goal

pub returns : goal.returns
returns c =
    meaning_same c.args.script.now c.in_ok-program.program c.in_ok-program.ensures.flag c.in_ok-program.ensures.same
