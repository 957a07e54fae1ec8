use Rattle.std.proofs.Common.{◌≡◌, [], List, refl, sym, ◌∙◌, subst}
use Rattle.scenario_runs.specs.Runs.{scenario_run}
use Rattle.scenario_outcomes.specs.declared.outcome.Outcome.{Outcome}
use Rattle.outcome_report.specs.declared.outcome_report.ReportEntry.{ReportEntry}
use Rattle.outcome_report.proofs.Entries.{EntriesSoFar, one_more, next_dir}
use Rattle.outcome_report.proofs.outcome_report.make_entries.Goals as goal

pub loop-outcome-init : goal.loop-outcome-init
loop-outcome-init c =
    let items : c.into_iter-outcome-iterator.result.rest.items ≡ c.args.outcomes = c.into_iter-outcome-iterator.ensures.into_iter_gives.0 ∙ c.into_vec-outcome-items.ensures in
    let P : List Outcome → Type 0 = λ os. EntriesSoFar (scenario_run c.args.job.now) c.args.outcomes [] os in
    let Q : List ReportEntry → Type 0 = λ es. EntriesSoFar (scenario_run c.args.job.now) c.args.outcomes es c.into_iter-outcome-iterator.result.rest.items in
    let start : P c.args.outcomes = record { joined = refl; left = c.requires; entries = tt } in
    subst Q (sym c.new-entries.ensures) (subst P (sym items) start)

pub run-requires : goal.run-requires
run-requires c =
    next_dir (scenario_run c.args.job.now) c.args.outcomes c.loop-outcome.entries c.loop-outcome.outcome-iterator.rest.items
    c.next.new.self.rest.items c.in-Some.outcome c.in-Some.ensures.steps.0 c.loop-outcome.invariant

pub loop-outcome-preserved : goal.loop-outcome-preserved
loop-outcome-preserved c =
    one_more (scenario_run c.args.job.now) c.make_entry.result c.in-Some.outcome
    c.make_entry.ensures.outcome c.in_ok-replayed.replayed c.in_ok-replayed.ensures (c.make_entry.ensures.replayed ∙ c.keep_replay.ensures)
    c.make_entry.ensures.confirmed.1 c.args.outcomes c.loop-outcome.entries
    c.add.new.self c.loop-outcome.outcome-iterator.rest.items c.next.new.self.rest.items c.in_ok-add.ensures.ok c.in-Some.ensures.steps.0 c.loop-outcome.invariant
