use Rattle.std.proofs.Common.{Err}
use Rattle.checker_io.specs.DirShelf.{FileGives}
use Rattle.checker_io.proofs.Rests.{or_no_memory}
use Rattle.checker_io.proofs.dir_shelf.DirShelfShelf.read.Goals as goal

pub returns-in-Err-clause-gives : goal.returns-in-Err-clause-gives
returns-in-Err-clause-gives g c =
    or_no_memory (FileGives (λ f. g.R.File.Read.remaining f) c.args.max) (Err c.in-Err.fault) c.in-Err.ensures
