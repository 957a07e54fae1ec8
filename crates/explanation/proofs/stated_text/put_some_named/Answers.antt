use Rattle.std.proofs.Common.{codes, ◌++◌, []}
use Rattle.shown_texts.specs.Lines.{line}
use Rattle.explanation.proofs.Said.{behind}
use Rattle.explanation.proofs.stated_text.put_some_named.Goals as goal

pub returns : goal.returns
returns c =
    behind c.extend-3.result c.args.text.now c.extend.new.self c.extend-3.new.self
    (codes "  Stated commands that the scripts name:") (c.args.names.now ++ line []) c.in_ok-extend.ensures.ok
    (behind c.extend-3.result c.extend.new.self c.extend-2.new.self c.extend-3.new.self c.args.names.now (line [])
    c.in_ok-extend-2.ensures.ok c.extend-3.ensures.ok)
