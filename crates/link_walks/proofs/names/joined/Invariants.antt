use Rattle.std.proofs.Common.{◌≡◌, ◌++◌, take}
use Rattle.link_walks.proofs.names.joined.Given as goal

abbrev pub invariant-loop-name : goal.invariant-loop-name
invariant-loop-name l = l.all ≡ l.front ++ take l.name-index l.back
