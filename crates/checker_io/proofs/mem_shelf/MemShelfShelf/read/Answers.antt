use Rattle.std.proofs.Common.{rules}
use Rattle.checker_io.proofs.MemShelves.{answers_by_file}
use Rattle.checker_io.proofs.mem_shelf.MemShelfShelf.read.Goals as goal

pub returns-clause-exact : goal.returns-clause-exact
returns-clause-exact c = answers_by_file c.args.self.now _ c.args.name.now c.args.max c.copy_file.result (search rules) (search rules) (search rules) c.copy_file.ensures.never
