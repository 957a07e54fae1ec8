use Rattle.std.proofs.Common.{[], subst, arith}
use Rattle.std.proofs.lemmas.List.{append-nil}
use Rattle.tree_predictions.specs.Chunks.{Follow}
use Rattle.tree_predictions.proofs.chunks.chunks_of.Goals as goal

pub returns : goal.returns
returns c =
    let le = c.loop-from.invariant.0 in
    let out = c.loop-from-test.false in
    subst (Follow 0 c.args.count) (append-nil c.loop-from.chunks) (c.loop-from.invariant.1 [] (omega (arith, le, out)))
