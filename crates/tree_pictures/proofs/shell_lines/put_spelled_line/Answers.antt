use Rattle.std.proofs.Common.{[], codes}
use Rattle.tree_pictures.specs.ShellLines.{spelled_between, piped}
use Rattle.tree_pictures.proofs.Said.{behind}
use Rattle.tree_pictures.proofs.shell_lines.put_spelled_line.Goals as goal

pub returns : goal.returns
returns c =
    behind c.put_piped.result c.args.text.now c.put_spelled_between.new.text c.put_piped.new.text
    (spelled_between (codes "      printf '%s") c.args.path.now []) (piped c.args.command.now)
    c.in_ok-put_spelled_between.ensures c.put_piped.ensures
