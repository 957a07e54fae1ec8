-- What a step of the code says of the run.
use Rattle.std.proofs.Common.{◌≡◌, ℕ, ◌<◌, List, Some, Result, IfOk, sym, ap, subst, ◌∙◌}
use Rattle.std.proofs.lemmas.Result.{IfOk-weaker}
use Rattle.std.specs.Option.{option_map}
use Rattle.script_names.specs.declared.memory.Memory.{Memory}
use Rattle.feature_trees.specs.declared.value.Value.{Value}
use Rattle.dpkg_scenarios.specs.declared.scenario.Ending.{Ending}
use Rattle.dpkg_scenarios.specs.declared.scenario.ScriptKind.{ScriptKind}
use Rattle.dpkg_scenarios.specs.declared.scenario.Side.{Side}
use Rattle.dpkg_scenarios.specs.declared.scenario.StepWork.{StepWork}
use Rattle.dpkg_scenarios.specs.declared.scenario.StepWork.TheVariants as work
use Rattle.dpkg_scenarios.specs.declared.scenario.StepNext.TheVariants.{Go, Stop}
use Rattle.dpkg_scenarios.specs.Steps.{IsStep, line, work_of, words_of, turn_of}
use Rattle.scenario_runs.specs.declared.course.Course.{Course}
use Rattle.scenario_runs.specs.declared.course.Worked.{Worked}
use Rattle.scenario_runs.specs.declared.course.Reached.{Reached}
use Rattle.scenario_runs.specs.Runs.{Plan, words_in, call_script, do_work, go_next, replayed_at, run_of}
use Rattle.scenario_runs.specs.Later.{IsLater, Works}
use Rattle.scenario_runs.proofs.Lines.{IsTold, is_told}
use Rattle.scenario_runs.specs.Deciding.{reached}
use Rattle.scenario_runs.proofs.Walking.{Comes, goes_on, ends}

-- the call of a step's script is the work of its line
pub script_works : (plan : Plan) (n : ℕ) (c : Course) (side : Side) (script : ScriptKind) (r : Result Worked Memory) (what : StepWork)
    → work_of plan.scenario n ≡ Some what → what ≡ work.Script side script
    → ((words : List (List ℕ)) → words_of plan.scenario n plan.said ≡ Some words
    → IfOk r (λ worked. worked ≡ call_script plan.premises n side script words (plan.scripts side script) c))
    → IfOk r (λ worked. Works plan n c worked)
script_works plan n c side script r what told is calls =
    let t : IsTold (λ step. step.work) (line plan.scenario n) what = is_told (λ step. step.work) (line plan.scenario n) what told in
    let words : List (List ℕ) = words_in plan t.step in
    let spoken : words_of plan.scenario n plan.said ≡ Some words =
    ap (option_map (λ step. step.words plan.said)) t.is_line in
    IfOk-weaker r (λ worked. worked ≡ call_script plan.premises n side script words (plan.scripts side script) c) (λ worked. Works plan n c worked)
    (λ worked e. record {
      step = t.step;
      is_line = t.is_line;
      is_work = e ∙ ap (λ x. do_work plan n x words c) (sym (t.told ∙ is));
    })
    (calls words spoken)

-- what is done with files is the work of its line, which looks at no words
pub line_works : (plan : Plan) (n : ℕ) (c : Course) (r : Result Worked Memory) (what one : StepWork)
    → work_of plan.scenario n ≡ Some what → what ≡ one
    → ((words : List (List ℕ)) → IfOk r (λ worked. worked ≡ do_work plan n one words c))
    → IfOk r (λ worked. Works plan n c worked)
line_works plan n c r what one told is does =
    let t : IsTold (λ step. step.work) (line plan.scenario n) what = is_told (λ step. step.work) (line plan.scenario n) what told in
    let words : List (List ℕ) = words_in plan t.step in
    IfOk-weaker r (λ worked. worked ≡ do_work plan n one words c) (λ worked. Works plan n c worked)
    (λ worked e. record {
      step = t.step;
      is_line = t.is_line;
      is_work = e ∙ ap (λ x. do_work plan n x words c) (sym (t.told ∙ is));
    })
    (does words)

-- what a step leads to that goes on
pub record GoesOn (plan : Plan) (tree : Value) (n m : ℕ) (c : Course) : Type 0 where
  pub step : IsStep plan.scenario m
  pub turn : turn_of plan.scenario n < turn_of plan.scenario m
  pub comes : Comes plan tree m c

pub went_on : (plan : Plan) (tree : Value) (n m : ℕ) (c : Course) (r : Reached) → Comes plan tree n c
    → r ≡ go_next plan (Go n) c → r.next ≡ Go m → IsLater plan.scenario n r.next → GoesOn plan tree n m r.course
went_on plan tree n m c r comes taken is later =
    let l : (turn_of plan.scenario n < turn_of plan.scenario m) × IsStep plan.scenario m =
    subst (IsLater plan.scenario n) is later in
    record {
      step = l.1;
      turn = l.0;
      comes = goes_on plan tree n m c r.course comes (ap (λ x. reached x r.course) (sym is) ∙ taken) l.0;
    }

pub ended : (plan : Plan) (tree : Value) (n : ℕ) (ending : Ending) (c : Course) (r : Reached) → Comes plan tree n c
    → r ≡ go_next plan (Go n) c → r.next ≡ Stop ending → run_of plan tree ≡ replayed_at (Stop ending) r.course
ended plan tree n ending c r comes taken is =
    ends plan tree n ending c r.course comes (ap (λ x. reached x r.course) (sym is) ∙ taken)
