use Rattle.std.proofs.Common.{◌≡◌, ◌++◌, drop}
use Rattle.explanation.specs.Courses.{acts_text}
use Rattle.explanation.proofs.courses.put_acts.Given as goal

abbrev pub invariant-loop-i : goal.invariant-loop-i
invariant-loop-i l =
    l.text ++ acts_text l.sources l.spot l.site l.deeds l.i (drop l.i l.trace)
    ≡ l.initial.text ++ acts_text l.sources l.spot l.site l.deeds 0 l.trace
