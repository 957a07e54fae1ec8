use Rattle.std.proofs.Common.{sym, ◌∙◌, subst}
use Rattle.scenario_runs.specs.Runs.{scenario_run}
use Rattle.scenario_outcomes.specs.declared.outcome.Outcome.{Outcome}
use Rattle.scenario_outcomes.specs.OutcomeOf.{IsOutcomeOf}
use Rattle.outcome_report.proofs.Entries.{is_entry}
use Rattle.report_text.proofs.told_part.tell_path.Goals as goal

pub run-requires : goal.run-requires
run-requires c = (c.requires.replays c.in_ok-outcome.outcome c.in_ok-outcome.ensures.outcome).dir

pub returns : goal.returns
returns c =
    let same = c.make_entry-entry.ensures.outcome in
    let P : Outcome → Type 0 = λ o. IsOutcomeOf c.args.place c.args.path o in
    record {
      entry = c.make_entry-entry.result;
      outcome = subst P (sym same) c.in_ok-outcome.ensures.outcome;
      is = is_entry (scenario_run c.args.job.now) c.make_entry-entry.result c.in_ok-outcome.outcome same
          c.in_ok-replayed.replayed c.in_ok-replayed.ensures
          (c.make_entry-entry.ensures.replayed ∙ c.keep_replay.ensures) c.make_entry-entry.ensures.confirmed.1
          (c.requires.replays c.in_ok-outcome.outcome c.in_ok-outcome.ensures.outcome);
      adds = c.in_ok-tell_entry.ensures;
    }
