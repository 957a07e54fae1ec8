use Rattle.std.proofs.Common.{List, ◌∙◌, ap}
use Rattle.load_summary.specs.declared.endings.ScenarioEndings.{ScenarioEndings}
use Rattle.load_summary.specs.Endings.{endings_verdict}
use Rattle.load_summary.specs.Summary.{lines_text}
use Rattle.load_summary.proofs.Told.{summary_told}
use Rattle.load_summary.proofs.summary.render_load.Goals as goal

pub returns : goal.returns
returns c report has =
    c.in_ok-text.ensures
    ∙ ap (λ (all : List ScenarioEndings). lines_text c.args.number all (endings_verdict all)) c.as_slice.ensures
    ∙ summary_told c.args.number report c.args.scenarios.now has
