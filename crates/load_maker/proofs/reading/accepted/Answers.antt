use Rattle.load_maker.proofs.Accepting.{not_refused}
use Rattle.load_maker.proofs.reading.accepted.Goals as goal

pub unreachable-requires : goal.unreachable-requires
unreachable-requires c = not_refused c.args.text.now c.requires c.in-Err._fault (rw c.in-Err.is at c.in_ok-came.ensures)
