use Rattle.report_text.proofs.Counted.{count_here, none_here}
use Rattle.report_text.proofs.places.count_of.Goals as goal

pub returns-in-Some : goal.returns-in-Some
returns-in-Some c = count_here c.args.counts.now.entries c.args.place.now _ c.in-Some.ensures.value

pub returns-in-None : goal.returns-in-None
returns-in-None c = none_here c.args.counts.now.entries c.args.place.now c.in-None.ensures.value
