use Rattle.std.proofs.Common.{sym, ◌∙◌}
use Rattle.checker_calls.proofs.top.finish.Goals as goal

pub returns-in-Ok-clause-write_failed : goal.returns-in-Ok-clause-write_failed
returns-in-Ok-clause-write_failed g c e = rw c.in-Ok.is (c.run_words.ensures.write_failed (sym c.from.ensures ∙ e))
