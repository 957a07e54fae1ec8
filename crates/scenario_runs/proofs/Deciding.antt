-- The runs of a scenario are walks.
use Rattle.std.proofs.Common.{◌≡◌, ℕ, List, [], length, Some, refl, sym, ap, subst, ◌∙◌, arith}
use Rattle.script_names.specs.declared.mark.Mark.{Mark}
use Rattle.utility_calls.specs.declared.deeds.Deed.{Deed}
use Rattle.utility_calls.specs.Walks.{World, fresh, Ends, Walked, walk}
use Rattle.utility_calls.proofs.Walking.{walks_follow}
use Rattle.dpkg_scenarios.specs.declared.scenario.StepNext.{StepNext}
use Rattle.dpkg_scenarios.specs.declared.scenario.StepNext.TheVariants.{Go, Stop}
use Rattle.dpkg_scenarios.specs.Scenarios.{table}
use Rattle.dpkg_scenarios.specs.Laws.{GoesForward}
use Rattle.scenario_runs.specs.declared.call.ScriptCall.{ScriptCall}
use Rattle.scenario_runs.specs.declared.course.Reached.{Reached}
use Rattle.scenario_runs.specs.Runs.{plan_of, begun, replayed, replayed_at}
use Rattle.scenario_runs.specs.Playing.{Came, course_at}
use Rattle.scenario_runs.specs.Deciding.{decision_of, decision_performed, whole_plays, ending_of, ended, reached}
use Rattle.scenario_runs.specs.Laws.{RunsAreDecided, DecisionsArePlayed, replayed_of}
use Rattle.dpkg_scenarios.proofs.Walks.{first_step, first_turn}
use Rattle.scenario_runs.proofs.Walking.{IsEnd, Enough, come_to_end}

at_end : (next : StepNext) (calls : List ScriptCall) (turns unpacked : ℕ) (w : World) (trace : List Mark) (deeds : List Deed) → IsEnd next
    → replayed_at next (course_at calls turns unpacked w trace deeds)
    ≡ Some (replayed_of (record { value = (ending_of next, calls); world = w; trace = trace; deeds = deeds }))
at_end (Go n) calls turns unpacked w trace deeds e = absurd e
at_end (Stop ending) calls turns unpacked w trace deeds e = refl

pub decisions_played : GoesForward → DecisionsArePlayed
unfolding decision_of
decisions_played forward job files tree =
    let q : Walked (Came StepNext) = walk (whole_plays job files).decision (fresh tree) [] [] in
    let is = (whole_plays job files).plays (fresh tree) [] [] in
    let enough : Enough (plan_of job) (length (table job.scenario)) (Go 1) = (first_step job.scenario, omega (arith, first_turn job.scenario)) in
    let stops = come_to_end forward (plan_of job) (length (table job.scenario)) (reached (Go 1) (begun job.turns tree)) enough in
    ap replayed is
    ∙ at_end q.value.value q.value.calls q.value.turns q.value.unpacked q.world q.trace q.deeds (subst (λ (x : Reached). IsEnd x.next) is stops)
    ∙ ap (λ x. Some (replayed_of x)) (sym (walks_follow (whole_plays job files).decision (λ v. Ends (ended v)) (fresh tree) [] []))

pub runs_decide : GoesForward → RunsAreDecided
runs_decide forward job files = record {
  decision = decision_of job files;
  performed = decision_performed job files;
  played = decisions_played forward job files;
}
