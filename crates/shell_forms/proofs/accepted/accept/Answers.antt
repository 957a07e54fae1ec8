use Rattle.std.proofs.Common.{sym, ◌∙◌}
use Rattle.shell_forms.specs.First.{script_forms}
use Rattle.shell_forms.proofs.Firsts.{is_first, there_is_none}
use Rattle.shell_forms.proofs.accepted.accept.Goals as goal

pub invariant_of-result : goal.invariant_of-result
invariant_of-result c = (c.requires.spelled, there_is_none (script_forms c.args.script.body) (sym c.in-Ok.ensures ∙ c.in-None.is))

pub returns-in-None-clause-none : goal.returns-in-None-clause-none
returns-in-None-clause-none c = there_is_none (script_forms c.args.script.body) (sym c.in-Ok.ensures ∙ c.in-None.is)

pub returns-in-Some-clause-fault : goal.returns-in-Some-clause-fault
returns-in-Some-clause-fault c = is_first (script_forms c.args.script.body) (c.in-Some.form, c.in-Some.at) (sym c.in-Ok.ensures ∙ c.in-Some.is)
