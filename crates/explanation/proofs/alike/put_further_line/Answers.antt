use Rattle.std.proofs.Common.{codes}
use Rattle.explanation.specs.AlikeGroups.{titled_place, count_end}
use Rattle.explanation.proofs.Said.{behind}
use Rattle.explanation.proofs.alike.put_further_line.Goals as goal

pub returns : goal.returns
returns c =
    behind c.put_count_end.result c.args.text.now c.put_titled_place.new.text c.put_count_end.new.text
    (titled_place (codes "  The same at ") c.args.sources.now c.args.spot) (count_end c.args.count)
    c.in_ok-put_titled_place.ensures c.put_count_end.ensures
