use Rattle.std.proofs.Common.{◌≡◌, ◌++◌, drop}
use Rattle.explanation.specs.OutcomeTexts.{all_acts}
use Rattle.explanation.proofs.outcome_text.put_all_acts.Given as goal

abbrev pub invariant-loop-i : goal.invariant-loop-i
invariant-loop-i l =
    l.text ++ all_acts l.sources l.scenario l.deeds l.i (drop l.i l.trace)
    ≡ l.initial.text ++ all_acts l.sources l.scenario l.deeds 0 l.trace
