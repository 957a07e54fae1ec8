use Rattle.colis_interp.proofs.Answering.{decided}
use Rattle.shell_words.specs.Patterns.{pattern_letters}
use Rattle.colis_interp.specs.Places.{place_of}
use Rattle.colis_interp.proofs.strings.pattern_answer.Goals as goal

pub returns-in-Ok : goal.returns-in-Ok
returns-in-Ok c = λ s. decided (pattern_letters c.args.pattern.now) c.args.subject.now c.in-Ok.yes (place_of c.args.place) s c.in-Ok.ensures
