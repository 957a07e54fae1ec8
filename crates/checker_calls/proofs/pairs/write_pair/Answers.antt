use Rattle.std.proofs.Common.{sym, ◌∙◌}
use Rattle.checker_calls.proofs.pairs.write_pair.Goals as goal

pub report_pair-requires : goal.report_pair-requires
report_pair-requires g c = (
  c.type_bounds.sync-R,
  (c.type_bounds.sync-G, sym c.in_ok-kept.ensures ∙ c.in-None.is),
)

pub returns-in-Some : goal.returns-in-Some
returns-in-Some g c = sym c.in_ok-kept.ensures ∙ c.in-Some.is
