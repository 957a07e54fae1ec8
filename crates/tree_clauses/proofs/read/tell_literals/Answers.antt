use Rattle.tree_clauses.proofs.ToldLines.{other_length}
use Rattle.tree_clauses.proofs.read.tell_literals.Goals as goal

pub returns-then-literals-lines : goal.returns-then-literals-lines
returns-then-literals-lines c = other_length c.args.literals.now c.args.lines.now c.if-literals-lines.true
