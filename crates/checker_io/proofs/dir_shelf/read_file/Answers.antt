use Rattle.checker_io.proofs.dir_shelf.read_file.Goals as goal

pub returns : goal.returns
returns g c = (c.open-opened.result, c.read_opened.new.opened, c.read_opened.ensures)
