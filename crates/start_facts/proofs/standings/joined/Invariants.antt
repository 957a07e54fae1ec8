use Rattle.std.proofs.Common.{◌≡◌, ◌++◌, take}
use Rattle.start_facts.proofs.standings.joined.Given as goal

abbrev pub invariant-loop-f : goal.invariant-loop-f
invariant-loop-f l = l.both ≡ l.names ++ take l.f-index l.more
