use Rattle.shell_rules.proofs.LawfulRules as r
use Rattle.shell_rules.proofs.WholeRuns.{whole_keeps}
use Rattle.shell_rules.proofs.theorems.rules_are_lawful.Goals as goal

pub returns-clause-expansions : goal.returns-clause-expansions
returns-clause-expansions c = r.expansions_lawful

pub returns-clause-commands : goal.returns-clause-commands
returns-clause-commands c = r.commands_lawful

pub returns-clause-loops : goal.returns-clause-loops
returns-clause-loops c = r.loops_lawful

pub returns-clause-calls : goal.returns-clause-calls
returns-clause-calls c = r.calls_lawful

pub returns-clause-whole : goal.returns-clause-whole
returns-clause-whole c = whole_keeps
