use Rattle.std.proofs.Common.{◌≡◌, List, false, sym, subst, ◌∙◌}
use Rattle.std.specs.List.{list_any}
use Rattle.checker_calls.specs.Explanations.{Section, is_missing, sections_text, sections_verdict}
use Rattle.checker_calls.specs.Reports.{chosen}
use Rattle.checker_calls.proofs.Explained.{explained}
use Rattle.checker_calls.proofs.explanations.write_explanation.Goals as goal

pub returns : goal.returns
returns g c =
    explained c.args.packages.now c.args.sources.now c.args.turns c.args.view c.args.limit (chosen c.args.scenario)
    c.in_ok-sections.sections c.in_ok-text.text c.sections_verdict-status.result c.in_ok-sections.ensures
    (subst (λ (all : List Section). list_any is_missing all ≡ false) c.as_slice-all.ensures
    (sym c.some_missing.ensures ∙ c.if-some_missing.false))
    (subst (λ (all : List Section). c.in_ok-text.text ≡ sections_text c.args.packages.now c.args.sources.now c.args.turns c.args.view all)
    c.as_slice-all.ensures c.in_ok-text.ensures)
    (subst (λ (all : List Section). c.sections_verdict-status.result ≡ sections_verdict all) c.as_slice-all.ensures
    c.sections_verdict-status.ensures)
