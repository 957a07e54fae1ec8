-- Answers carry over to equal runs and start trees. It is a lemma, for the proofs of the crates above, since it speaks
-- of all predicates of trees, as no clause can.
use Rattle.std.proofs.Common.{ℕ, List, [], ◌∷◌, Option, Ok, Err, sym, ◌∙◌}
use Rattle.script_names.specs.declared.mark.Mark.{Mark}
use Rattle.feature_trees.specs.declared.value.Value.{Value}
use Rattle.scenario_runs.specs.declared.replayed.Replayed.{Replayed}
use Rattle.scenario_outcomes.specs.declared.outcome.Outcome.{Outcome}
use Rattle.scenario_outcomes.specs.declared.outcome.OutcomesFault.TheVariants.{NoStart, Over, Memory}
use Rattle.scenario_outcomes.specs.Outcomes.{EndsAs, IsExact, IsTrace, AreTraces, AreFew, SomeStarts}
use Rattle.scenario_outcomes.specs.Laws.{AreSame, AnswersCarryOver}

-- the other way round
abbrev pub turned : (run other : Value → Option Replayed) (start from : Value → Type 0)
    → AreSame run other start from → AreSame other run from start
turned run other start from same = record {
  runs = λ tree. sym (same.runs tree);
  starts = λ tree. ((same.starts tree).1, (same.starts tree).0);
}

module _ (run other : Value → Option Replayed) (start from : Value → Type 0) (same : AreSame run other start from) where
  pub ends_carry : (outcome : Outcome) (tree now : Value) → EndsAs run outcome tree now → EndsAs other outcome tree now
  ends_carry outcome tree now ends = record {
    replayed = ends.replayed;
    is_run = sym (same.runs tree) ∙ ends.is_run;
    ending = ends.ending;
    trace = ends.trace;
    after = ends.after;
  }

  pub exact_carry : (outcomes : List Outcome) → IsExact run start outcomes → IsExact other from outcomes
  exact_carry outcomes exact = record {
    once = λ tree is. exact.once tree ((same.starts tree).1 is);
    runs = λ place outcome tree now at covers.
        let there = exact.runs place outcome tree now at covers in
        ((same.starts tree).0 there.0, ends_carry outcome tree now there.1);
    shown = exact.shown;
    rising = exact.rising;
    numbered = exact.numbered;
  }

  trace_carry : (trace : List Mark) → IsTrace run start trace → IsTrace other from trace
  trace_carry trace is = record {
    tree = is.tree;
    is_start = (same.starts is.tree).0 is.is_start;
    replayed = is.replayed;
    is_run = sym (same.runs is.tree) ∙ is.is_run;
    is_trace = is.is_trace;
  }

  traces_carry : (traces : List (List Mark)) → AreTraces run start traces → AreTraces other from traces
  traces_carry [] are = tt
  traces_carry (trace ∷ traces) are = (trace_carry trace are.0, traces_carry traces are.1)

  pub some_carry : SomeStarts start → SomeStarts from
  some_carry some = (some.0, (same.starts some.0).0 some.1)

pub few_carry : (run other : Value → Option Replayed) (start from : Value → Type 0) → AreSame run other start from
    → (limit : ℕ) → AreFew run start limit → AreFew other from limit
few_carry run other start from same limit few traces are differ =
    few traces (traces_carry other run from start (turned run other start from same) traces are) differ

pub answers_carry_over : (run other : Value → Option Replayed) (start from : Value → Type 0) → AnswersCarryOver run other start from
answers_carry_over run other start from same limit (Ok outcomes) answers = (
  exact_carry run other start from same outcomes answers.0,
  some_carry run other start from same answers.1,
  few_carry run other start from same limit answers.2,
)
answers_carry_over run other start from same limit (Err NoStart) answers =
    λ some. answers (some_carry other run from start (turned run other start from same) some)
answers_carry_over run other start from same limit (Err Over) answers = record {
  traces = answers.traces;
  are = traces_carry run other start from same answers.traces answers.are;
  differ = answers.differ;
  count = answers.count;
}
answers_carry_over run other start from same limit (Err Memory) answers = tt
