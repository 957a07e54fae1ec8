use Rattle.std.proofs.Common.{rules}
use Rattle.package_lists.proofs.Few.{answer_few}
use Rattle.package_lists.proofs.list.read_list.Goals as goal

pub returns-clause-few : goal.returns-clause-few
returns-clause-few c = answer_few c.args.text.now c.in_ok-entries.entries (search rules)
