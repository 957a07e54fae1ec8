use Rattle.std.proofs.Common.{◌≡◌, ◌++◌, take}
use Rattle.std.specs.List.{flat_map}
use Rattle.explanation.specs.Braces.{told_line}
use Rattle.explanation.proofs.braces.put_facts.Given as goal

abbrev pub invariant-loop-fact : goal.invariant-loop-fact
invariant-loop-fact l = l.text ≡ l.initial.text ++ flat_map (told_line l.facts) (take l.fact-index l.facts)
