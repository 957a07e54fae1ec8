use Rattle.std.proofs.Common.{codes}
use Rattle.tree_pictures.specs.ShellLines.{quoted_behind, rooted}
use Rattle.tree_pictures.proofs.Said.{behind}
use Rattle.tree_pictures.proofs.shell_lines.put_plain_link.Goals as goal

pub returns : goal.returns
returns c =
    behind c.put_rooted.result c.args.text.now c.put_quoted_behind.new.text c.put_rooted.new.text
    (quoted_behind (codes "      ln -s -- ") c.args.target.now) (rooted c.args.path.now)
    c.in_ok-put_quoted_behind.ensures c.put_rooted.ensures
