use Rattle.std.proofs.Common.{◌∙◌}
use Rattle.checker_calls.proofs.Paired.{pair_fault, pair_report}
use Rattle.checker_calls.proofs.pairs.report_pair.Goals as goal

pub returns-in-Err : goal.returns-in-Err
returns-in-Err g c =
    pair_fault c.args.packages.now c.args.turns c.args.limit c.args.scenario c.requires c.in-Err.fault c.in-Err.ensures

pub returns : goal.returns
returns g c =
    pair_report c.args.packages.now c.args.turns c.args.limit c.args.scenario c.requires c.in-Ok.report c.written.result.text
    c.written.result.status c.in-Ok.ensures c.written.ensures.representable (c.written.ensures.text ∙ c.in_ok-text.ensures)
    c.written.ensures.status
