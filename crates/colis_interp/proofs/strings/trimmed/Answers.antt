use Rattle.std.proofs.Common.{ap, sym, ◌∙◌}
use Rattle.shell_rules.specs.Expansion.{or_empty}
use Rattle.shell_rules.specs.Expansion.{trimmed}
use Rattle.shell_rules.proofs.Trimming.{trimmed_is}
use Rattle.colis_interp.proofs.strings.trimmed.Goals as goal

pub returns-in-Some : goal.returns-in-Some
returns-in-Some c = trimmed_is c.in-Some.text c.trim_newlines.new.text c.trim_newlines.ensures ∙ ap (λ o. trimmed (or_empty o)) (sym c.in-Some.is)
