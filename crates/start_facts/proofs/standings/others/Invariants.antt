use Rattle.std.proofs.Common.{◌≡◌, ◌++◌, not, length}
use Rattle.std.specs.List.{filter}
use Rattle.std.specs.Str.{bytes_eq}
use Rattle.start_facts.proofs.standings.others.Given as goal

abbrev pub invariant-loop-left : goal.invariant-loop-left
invariant-loop-left l =
    l.others ++ filter (λ g. not (bytes_eq l.f g)) l.left ≡ filter (λ g. not (bytes_eq l.f g)) l.names

abbrev pub decreases-loop-left : goal.decreases-loop-left
decreases-loop-left l = length l.left
