use Rattle.std.proofs.Common.{◌≡◌, ◌++◌, ◌∙◌, OnOk, codes, ap, subst}
use Rattle.shown_texts.specs.Lines.{line}
use Rattle.explanation.specs.OutcomeTexts.{calls_text, acts_behind}
use Rattle.explanation.proofs.Said.{behind}
use Rattle.explanation.proofs.outcome_text.put_course.Goals as goal

pub returns : goal.returns
returns c =
    behind c.put_titled_acts.result c.args.text.now c.put_titled_calls.new.text c.put_titled_acts.new.text
    (calls_text (line (codes "  The scripts that are called:")) c.args.entry.now.replayed.calls)
    (acts_behind (line (codes "  What is done:")) c.args.sources.now c.args.scenario c.args.entry.now.outcome.trace c.args.deeds.now)
    (c.in_ok-put_titled_calls.ensures
    ∙ ap (λ calls. c.args.text.now ++ calls_text (line (codes "  The scripts that are called:")) calls) c.as_slice-calls.ensures)
    (subst
    (λ trace. OnOk c.put_titled_acts.result
    (c.put_titled_acts.new.text ≡ c.put_titled_calls.new.text ++ acts_behind (line (codes "  What is done:")) c.args.sources.now c.args.scenario trace c.args.deeds.now))
    c.as_slice-trace.ensures c.put_titled_acts.ensures)
