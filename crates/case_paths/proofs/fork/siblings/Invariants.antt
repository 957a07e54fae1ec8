use Rattle.case_paths.proofs.Forking.{AreSoFar}
use Rattle.case_paths.proofs.fork.siblings.Given as goal

abbrev pub invariant-loop-case : goal.invariant-loop-case
invariant-loop-case l = AreSoFar l.given l.site l.state l.cases l.case-index l.forks
