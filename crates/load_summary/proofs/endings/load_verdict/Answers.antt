use Rattle.std.proofs.Common.{◌∙◌, ap}
use Rattle.load_summary.specs.Endings.{endings_verdict}
use Rattle.load_summary.proofs.Told.{verdict_told}
use Rattle.load_summary.proofs.endings.load_verdict.Goals as goal

pub returns : goal.returns
returns c report has =
    c.endings_verdict.ensures ∙ ap endings_verdict c.as_slice.ensures ∙ verdict_told report c.args.scenarios.now has
