use Rattle.std.proofs.Common.{◌≡◌, List, ◌++◌, length, refl, ap, ◌∙◌, arith}
use Rattle.scenario_runs.specs.Runs.{scenario_run}
use Rattle.report_text.specs.declared.places.EndPlace.{EndPlace}
use Rattle.report_text.specs.ReportText.{heading}
use Rattle.report_text.specs.Telling.{end_lines}
use Rattle.report_text.proofs.PathsTold.{told_more, all_told}
use Rattle.report_text.proofs.told_part.tell_paths.Goals as goal

pub loop-path-preserved : goal.loop-path-preserved
loop-path-preserved c =
    told_more c.args.telling (scenario_run c.args.job.now) c.args.paths c.loop-path.yielded c.loop-path.path-iterator.rest.items
    c.next.new.self.rest.items c.in-Some.path (heading c.args.job.now.scenario (length c.args.paths)) c.loop-path.number
    c.in-Some.ensures.steps.0 c.loop-path.told c.tell_path.new.told c.loop-path.places c.tell_path.new.places
    c.in_ok-tell_path.ensures c.loop-path.invariant

pub returns : goal.returns
returns c =
    let told = c.loop-path.told in
    let left = c.loop-path.path-iterator.rest.items in
    let none : length left ≡ 0 = omega (arith, c.in-None.ensures.steps.0) in
    let lines = λ (places : List EndPlace). told.text ++ end_lines c.args.telling places in
    all_told c.args.telling (scenario_run c.args.job.now) c.args.job.now.scenario c.args.paths c.loop-path.yielded left c.loop-path.number told
    (record { text = c.put_end.new.text; failed = told.failed; unfinished = told.unfinished }) c.loop-path.places none
    (c.in_ok-put_end.ensures ∙ ap lines c.as_slice.ensures) refl refl c.loop-path.invariant
