use Rattle.std.proofs.Common.{◌≡◌, [], drop, map}
use Rattle.shown_texts.specs.Paths.{names_onto}
use Rattle.shown_texts.proofs.path.read_each.Given as goal

abbrev pub invariant-loop-part : goal.invariant-loop-part
invariant-loop-part l = names_onto l.names (map (λ part. part.now) (drop l.part-index l.parts)) ≡ names_onto [] (map (λ part. part.now) l.parts)
