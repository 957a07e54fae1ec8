use Rattle.checker_input.proofs.Files.{within_read, within_unread}
use Rattle.prediction_input.specs.declared.read.TheConstants.{MOST_BYTES}
use Rattle.prediction_input.specs.PredictionInput.{TreesCome, trees_in}
use Rattle.prediction_input.proofs.read.read_trees.Goals as goal

pub returns-in-Err : goal.returns-in-Err
unfolding trees_in
returns-in-Err g c =
    within_unread MOST_BYTES TreesCome c.args.trees.now (g.S.Shelf.state c.args.shelf.now) (g.S.Shelf.state c.read_file.new.shelf)
    c.in-Err.stop c.in-Err.ensures

pub returns : goal.returns
unfolding trees_in
returns g c =
    within_read MOST_BYTES TreesCome c.args.trees.now (g.S.Shelf.state c.args.shelf.now) (g.S.Shelf.state c.read_file.new.shelf)
    c.in-Ok.found c.named_trees-came.result c.of_file.result c.in-Ok.ensures c.named_trees-came.ensures c.of_file.ensures
