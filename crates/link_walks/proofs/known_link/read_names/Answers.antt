use Rattle.std.proofs.Common.{map}
use Rattle.link_walks.proofs.Named.{onto_none}
use Rattle.link_walks.proofs.known_link.read_names.Goals as goal

pub loop-part-init : goal.loop-part-init
loop-part-init c = rw c.new-names.ensures (onto_none (map (λ part. part.now) c.args.parts.now))
