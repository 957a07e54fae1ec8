use Rattle.std.proofs.Common.{◌≡◌, drop, map}
use Rattle.link_walks.specs.Links.{if_names}
use Rattle.link_walks.proofs.Named.{onto}
use Rattle.link_walks.proofs.known_link.read_names.Given as goal

abbrev pub invariant-loop-part : goal.invariant-loop-part
invariant-loop-part l =
    onto l.names (map (λ part. part.now) (drop l.part-index l.parts)) ≡ if_names (map (λ part. part.now) l.parts)
