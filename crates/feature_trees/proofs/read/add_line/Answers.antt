use Rattle.std.proofs.Common.{sym, ◌∙◌}
use Rattle.feature_trees.proofs.LinesStand.{said_facts}
use Rattle.feature_trees.proofs.read.add_line.Goals as goal

pub put_line-requires-clause-there : goal.put_line-requires-clause-there
put_line-requires-clause-there c = (said_facts c.args.text.now c.in-Some.line (sym c.in_ok-line.ensures ∙ c.in-Some.is)).there

pub put_line-requires-clause-no_entries : goal.put_line-requires-clause-no_entries
put_line-requires-clause-no_entries c = (said_facts c.args.text.now c.in-Some.line (sym c.in_ok-line.ensures ∙ c.in-Some.is)).no_entries
