use Rattle.checker_io.proofs.Readings.{reads_stop, reads_next, answer_once}
use Rattle.checker_io.proofs.reading.readings_follow.Goals as goal

pub returns-clause-stop : goal.returns-clause-stop
returns-clause-stop g c name old new stop = reads_stop name old new g.P.Following.first g.P.Following.next stop

pub returns-clause-next : goal.returns-clause-next
returns-clause-next g c name old mid new value result = reads_next name old mid new g.P.Following.first g.P.Following.next value result

pub returns-clause-once : goal.returns-clause-once
returns-clause-once g c contents one other = answer_once contents g.P.Following.first one other
