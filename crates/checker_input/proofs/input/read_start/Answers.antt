use Rattle.checker_input.specs.Input.{StartComes, start_in}
use Rattle.checker_input.proofs.Files.{file_read, file_unread, good_file}
use Rattle.feature_trees.specs.Sound.{IsTree}
use Rattle.checker_input.proofs.input.read_start.Goals as goal

pub returns-in-Err-clause-reads : goal.returns-in-Err-clause-reads
unfolding start_in
returns-in-Err-clause-reads g c =
    file_unread StartComes c.args.tree.now (g.S.Shelf.state c.args.shelf.now) (g.S.Shelf.state c.read_named.new.shelf) c.in-Err.stop c.in-Err.ensures

pub returns-clause-reads : goal.returns-clause-reads
unfolding start_in
returns-clause-reads g c =
    file_read StartComes c.args.tree.now (g.S.Shelf.state c.args.shelf.now) (g.S.Shelf.state c.read_named.new.shelf)
    c.in-Ok.found c.start_tree-came.result c.of_file.result c.in-Ok.ensures c.start_tree-came.ensures.comes c.of_file.ensures

pub returns-clause-tree : goal.returns-clause-tree
returns-clause-tree g c =
    good_file IsTree c.in-Ok.found.name c.start_tree-came.result c.of_file.result c.start_tree-came.ensures.tree c.of_file.ensures
