-- How a run goes from step to step.
use Rattle.std.proofs.Common.{◌≡◌, ℕ, zero, suc, ◌+◌, ◌<◌, length, Option, Some, None, refl, sym, ap, ◌∙◌, arith}
use Rattle.feature_trees.specs.declared.value.Value.{Value}
use Rattle.dpkg_scenarios.specs.declared.scenario.Ending.{Ending}
use Rattle.dpkg_scenarios.specs.declared.scenario.StepNext.{StepNext}
use Rattle.dpkg_scenarios.specs.declared.scenario.StepNext.TheVariants.{Go, Stop}
use Rattle.dpkg_scenarios.specs.Scenarios.{Step, table}
use Rattle.dpkg_scenarios.specs.Steps.{IsStep, line, turn_of}
use Rattle.dpkg_scenarios.specs.Laws.{GoesForward}
use Rattle.dpkg_scenarios.proofs.Walks.{turns_few, first_turn}
use Rattle.scenario_runs.specs.declared.course.Course.{Course}
use Rattle.scenario_runs.specs.declared.course.Worked.{Worked}
use Rattle.scenario_runs.specs.declared.course.Reached.{Reached}
use Rattle.scenario_runs.specs.Runs.{Plan, next_behind, words_in, do_work, do_step, go_next, go_steps, begun, replayed, replayed_at, run_of}
use Rattle.scenario_runs.specs.Later.{IsLater}
use Rattle.scenario_runs.specs.Deciding.{reached}
use Rattle.scenario_runs.proofs.Lines.{has_line, behind_later}

-- ---- a step

-- the step with a line
pub stepped : (plan : Plan) (n : ℕ) (c : Course) (o : Option Step) (step : Step) (w : Worked) (next : StepNext)
    → o ≡ Some step → w ≡ do_work plan n step.work (words_in plan step) c → next ≡ next_behind plan.plain step w.end
    → reached next w.course ≡ do_step plan n o c
stepped plan n c o step w next is_line is_work is_next =
    ap (λ x. reached x w.course) is_next
    ∙ ap (λ (v : Worked). reached (next_behind plan.plain step v.end) v.course) is_work
    ∙ ap (λ o. do_step plan n o c) (sym is_line)

-- ---- a run that has come to a step

-- enough steps are left for the rest of the run
pub record Comes (plan : Plan) (tree : Value) (n : ℕ) (c : Course) : Type 0 where
  pub left : ℕ
  pub enough : length (table plan.scenario) < left + turn_of plan.scenario n
  pub is : run_of plan tree ≡ replayed (go_steps left plan (reached (Go n) c))

pub begins : (plan : Plan) (tree : Value) → Comes plan tree 1 (begun plan.turns tree)
begins plan tree =
    record { left = length (table plan.scenario); enough = omega (arith, first_turn plan.scenario); is = refl }

stays : (left : ℕ) (plan : Plan) (ending : Ending) (c : Course) → go_steps left plan (reached (Stop ending) c) ≡ reached (Stop ending) c
stays zero plan ending c = refl
stays (suc left) plan ending c = stays left plan ending c

on_at : (left : ℕ) (plan : Plan) (tree : Value) (n m : ℕ) (c d : Course)
    → length (table plan.scenario) < left + turn_of plan.scenario n
    → run_of plan tree ≡ replayed (go_steps left plan (reached (Go n) c)) → reached (Go m) d ≡ go_next plan (Go n) c
    → turn_of plan.scenario n < turn_of plan.scenario m → Comes plan tree m d
on_at zero plan tree n m c d enough is taken less = absurd (omega (arith, turns_few plan.scenario n))
on_at (suc left) plan tree n m c d enough is taken less =
    record { left = left; enough = omega arith; is = is ∙ ap (λ r. replayed (go_steps left plan r)) (sym taken) }

-- it goes on to a step of a later turn
pub goes_on : (plan : Plan) (tree : Value) (n m : ℕ) (c d : Course) → Comes plan tree n c
    → reached (Go m) d ≡ go_next plan (Go n) c → turn_of plan.scenario n < turn_of plan.scenario m → Comes plan tree m d
goes_on plan tree n m c d comes taken less = on_at comes.left plan tree n m c d comes.enough comes.is taken less

end_at : (left : ℕ) (plan : Plan) (tree : Value) (n : ℕ) (ending : Ending) (c d : Course)
    → length (table plan.scenario) < left + turn_of plan.scenario n
    → run_of plan tree ≡ replayed (go_steps left plan (reached (Go n) c)) → reached (Stop ending) d ≡ go_next plan (Go n) c
    → run_of plan tree ≡ replayed_at (Stop ending) d
end_at zero plan tree n ending c d enough is taken = absurd (omega (arith, turns_few plan.scenario n))
end_at (suc left) plan tree n ending c d enough is taken =
    is ∙ ap (λ r. replayed (go_steps left plan r)) (sym taken) ∙ ap replayed (stays left plan ending d)

-- it ends
pub ends : (plan : Plan) (tree : Value) (n : ℕ) (ending : Ending) (c d : Course) → Comes plan tree n c
    → reached (Stop ending) d ≡ go_next plan (Go n) c → run_of plan tree ≡ replayed_at (Stop ending) d
ends plan tree n ending c d comes taken = end_at comes.left plan tree n ending c d comes.enough comes.is taken

-- ---- each run ends

abbrev pub IsEnd : StepNext → Type 0
IsEnd (Go n) = ⊥
IsEnd (Stop ending) = Unit {0}

-- enough steps are left to come to an end
abbrev pub Enough : Plan → ℕ → StepNext → Type 0
Enough plan left (Go n) =
    IsStep plan.scenario n × (length (table plan.scenario) < left + turn_of plan.scenario n)
Enough plan left (Stop ending) = Unit {0}

still_enough : (plan : Plan) (left n : ℕ) (next : StepNext)
    → length (table plan.scenario) < suc left + turn_of plan.scenario n → IsLater plan.scenario n next → Enough plan left next
still_enough plan left n (Go m) enough later = (later.1, omega (arith, later.0))
still_enough plan left n (Stop ending) enough later = tt

enough_behind : GoesForward → (plan : Plan) (left n : ℕ) (c : Course) (o : Option Step) (step : Step)
    → line plan.scenario n ≡ o → o ≡ Some step
    → length (table plan.scenario) < suc left + turn_of plan.scenario n → Enough plan left (do_step plan n o c).next
enough_behind g plan left n c None step is found enough = absurd (cc)
enough_behind g plan left n c (Some other) step is found enough =
    still_enough plan left n (next_behind plan.plain other (do_work plan n other.work (words_in plan other) c).end) enough
    (behind_later g plan.scenario n plan.plain other (do_work plan n other.work (words_in plan other) c).end is)

enough_next : GoesForward → (plan : Plan) (left : ℕ) (next : StepNext) (c : Course) → Enough plan (suc left) next → Enough plan left (go_next plan next c).next
enough_next g plan left (Go n) c e =
    let f = has_line plan.scenario n e.0 in
    enough_behind g plan left n c (line plan.scenario n) f.step refl f.is e.1
enough_next g plan left (Stop ending) c e = tt

nothing_left : (plan : Plan) (next : StepNext) → Enough plan 0 next → IsEnd next
nothing_left plan (Go n) e = absurd (omega (arith, turns_few plan.scenario n, e.1))
nothing_left plan (Stop ending) e = tt

pub come_to_end : GoesForward → (plan : Plan) (left : ℕ) (r : Reached) → Enough plan left r.next → IsEnd (go_steps left plan r).next
come_to_end g plan zero r e = nothing_left plan r.next e
come_to_end g plan (suc left) r e = come_to_end g plan left (go_next plan r.next r.course) (enough_next g plan left r.next r.course e)
