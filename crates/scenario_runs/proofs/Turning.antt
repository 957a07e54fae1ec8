-- A run that is not bound is the same run with more turns.
use Rattle.std.proofs.Common.{◌≡◌, ◌⊎◌, inl, inr, ℕ, zero, suc, ◌+◌, Bool, true, false, List, [], ◌∷◌, length, Option, Some, None, refl, sym, ap, subst, ◌∙◌}
use Rattle.std.specs.Prelude.{IsTrue}
use Rattle.std.specs.Option.{option_map}
use Rattle.utility_calls.specs.declared.acts.Act.{Act}
use Rattle.utility_calls.specs.declared.backs.Back.{Back}
use Rattle.utility_calls.specs.Acts.{row}
use Rattle.utility_calls.specs.Backs.{back_row}
use Rattle.shell_rules.specs.declared.premises.Premises.{Premises}
use Rattle.shell_rules.specs.declared.state.Conc.{Conc}
use Rattle.shell_rules.specs.declared.run.End.{End}
use Rattle.shell_rules.specs.declared.run.End.TheVariants as end
use Rattle.shell_rules.specs.Whole.{Ended}
use Rattle.shell_rules.specs.Laws.{is_bound_end, ended_with_more}
use Rattle.colis_syntax.specs.WellFormed.{ProgramParts}
use Rattle.colis_meaning.specs.Laws as programs
use Rattle.dpkg_scenarios.specs.declared.scenario.ScriptKind.{ScriptKind}
use Rattle.dpkg_scenarios.specs.declared.scenario.Side.{Side}
use Rattle.dpkg_scenarios.specs.declared.scenario.StepWork.{StepWork}
use Rattle.dpkg_scenarios.specs.declared.scenario.StepWork.TheVariants as work
use Rattle.dpkg_scenarios.specs.declared.scenario.StepNext.{StepNext}
use Rattle.dpkg_scenarios.specs.declared.scenario.StepNext.TheVariants.{Go, Stop}
use Rattle.dpkg_scenarios.specs.Scenarios.{Step, table}
use Rattle.dpkg_scenarios.specs.Steps.{line}
use Rattle.scenario_runs.specs.declared.course.Course.{Course}
use Rattle.scenario_runs.specs.declared.course.WorkEnd.{WorkEnd}
use Rattle.scenario_runs.specs.declared.course.WorkEnd.TheVariants.{Succeeded, Failed, Over}
use Rattle.scenario_runs.specs.declared.course.Worked.{Worked}
use Rattle.scenario_runs.specs.declared.course.Reached.{Reached}
use Rattle.scenario_runs.specs.declared.replayed.Replayed.{Replayed}
use Rattle.dpkg_scenarios.specs.Scripts.{script_of}
use Rattle.scenario_runs.specs.Runs.{Meaning, Plan, begun_shell, script_end, called, call_script, site_at, acted}
use Rattle.scenario_runs.specs.Runs.{ended_behind, or_more, do_files, keeping_tree, counted, returned, do_backs, restored}
use Rattle.scenario_runs.specs.Runs.{do_work, words_in, next_behind, followed, do_step, go_next, go_steps, begun}
use Rattle.scenario_runs.specs.Runs.{replayed_at, replayed, scripts_in, program_meaning, plan_of}
use Rattle.scenario_runs.specs.Laws.{is_bound, IsSameWithMore, AreSameWithMore, plan_with_more, MoreTurnsOfPlans, MoreTurns}

-- ---- with more turns left

abbrev course_more : ℕ → Course → Course
course_more n c = record c { turns = c.turns + n }

abbrev worked_more : ℕ → Worked → Worked
worked_more n w = record { end = w.end; course = course_more n w.course }

abbrev reached_more : ℕ → Reached → Reached
reached_more n r = record { next = r.next; course = course_more n r.course }

-- ---- what is bound

abbrev is_bound_work : WorkEnd → Bool
is_bound_work Succeeded = false
is_bound_work (Failed at) = false
is_bound_work (Over ending) = is_bound ending

abbrev is_bound_next : StepNext → Bool
is_bound_next (Go n) = false
is_bound_next (Stop ending) = is_bound ending

bound_script : (e : End) → IsTrue (is_bound_end e) → IsTrue (is_bound_work (script_end e))
bound_script (end.Status true) b = absurd (cc)
bound_script (end.Status false) b = absurd (cc)
bound_script (end.Stopped reason site) b = absurd (cc)
bound_script (end.Bound site) b = refl

bound_behind : (plain : Bool) (step : Step) (e : WorkEnd) → IsTrue (is_bound_work e) → IsTrue (is_bound_next (next_behind plain step e))
bound_behind plain step Succeeded b = absurd (cc)
bound_behind plain step (Failed at) b = absurd (cc)
bound_behind plain step (Over ending) b = b

bound_stays : (left : ℕ) (plan : Plan) (next : StepNext) (c : Course) → IsTrue (is_bound_next next)
    → IsTrue (is_bound_next (go_steps left plan (record { next = next; course = c })).next)
bound_stays zero plan next c b = b
bound_stays (suc left) plan (Go n) c b = absurd (cc)
bound_stays (suc left) plan (Stop ending) c b = bound_stays left plan (Stop ending) c b

-- ---- files know nothing of turns

or_more_more : (n : ℕ) (o : Option WorkEnd) (c : Course) (more : Course → Worked)
    → more (course_more n c) ≡ worked_more n (more c)
    → or_more o (course_more n c) more ≡ worked_more n (or_more o c more)
or_more_more n None c more e = e
or_more_more n (Some end) c more e = refl

files_more : (n : ℕ) (can_fail : Bool) (k at : ℕ) (acts : List Act) (c : Course)
    → do_files can_fail k at acts (course_more n c) ≡ worked_more n (do_files can_fail k at acts c)
files_more n can_fail k at [] c = refl
files_more n can_fail k at (act ∷ acts) c =
    or_more_more n (ended_behind can_fail (site_at k at) (row act c.tree).answer) (acted (site_at k at) act c)
    (do_files can_fail k (at + 1) acts) (files_more n can_fail k (at + 1) acts (acted (site_at k at) act c))

backs_more : (n k at : ℕ) (backs : List Back) (c : Course)
    → do_backs k at backs (course_more n c) ≡ worked_more n (do_backs k at backs c)
backs_more n k at [] c = refl
backs_more n k at (back ∷ backs) c =
    or_more_more n (ended_behind false (site_at k at) (back_row back c.kept c.tree).answer) (returned (site_at k at) back c)
    (do_backs k (at + 1) backs) (backs_more n k (at + 1) backs (returned (site_at k at) back c))

-- ---- a step

module _ (n : ℕ) where
  abbrev SameWork : Worked → Worked → Type 0
  SameWork w more = IsTrue (is_bound_work w.end) ⊎ (more ≡ worked_more n w)

  abbrev SameReached : Reached → Reached → Type 0
  SameReached r more = IsTrue (is_bound_next r.next) ⊎ (more ≡ reached_more n r)

call_told : (n : ℕ) (side : Side) (script : ScriptKind) (words : List (List ℕ)) (c : Course) (e more : Ended)
    → IsTrue (is_bound_end e.end) ⊎ (more ≡ ended_with_more n e)
    → SameWork n (called side script words c e) (called side script words (course_more n c) more)
call_told n side script words c e more (inl b) = inl (bound_script e.end b)
call_told n side script words c e more (inr is) = inr (ap (called side script words (course_more n c)) is)

call_more : (n : ℕ) (premises : Premises) (k : ℕ) (side : Side) (script : ScriptKind) (words : List (List ℕ)) (o : Option Meaning) (c : Course)
    → ((meaning : Meaning) → o ≡ Some meaning → IsSameWithMore meaning)
    → SameWork n (call_script premises k side script words o c) (call_script premises k side script words o (course_more n c))
call_more n premises k side script words None c same = inr refl
call_more n premises k side script words (Some meaning) c same =
    let shell : Conc = begun_shell premises script words meaning.strict c.turns in
    let more : Conc = begun_shell premises script words meaning.strict (c.turns + n) in
    call_told n side script words c (meaning.ends k shell c.tree c.trace) (meaning.ends k more c.tree c.trace)
    (same meaning refl n k shell c.tree c.trace)

module _ (n : ℕ) (plan : Plan) (same : AreSameWithMore plan) where
  work_more : (k : ℕ) (what : StepWork) (words : List (List ℕ)) (c : Course)
      → SameWork n (do_work plan k what words c) (do_work (plan_with_more n plan) k what words (course_more n c))
  work_more k (work.Script side script) words c =
      call_more n plan.premises k side script words (plan.scripts side script) c (same side script)
  work_more k work.Unpack words c = inr (ap (counted (length plan.files.unpack)) (files_more n true k 0 plan.files.unpack (keeping_tree c)))
  work_more k work.RemoveFiles words c = inr (files_more n false k 0 plan.files.remove_files c)
  work_more k work.RemoveOld words c = inr (files_more n false k 0 plan.files.remove_old c)
  work_more k work.RemoveConf words c = inr (files_more n false k 0 plan.files.remove_conf c)
  work_more k work.Restore words c = inr (backs_more n k 0 (restored plan.files.backs c.unpacked) c)

  step_told : (step : Step) (w more : Worked) → SameWork n w more
      → SameReached n (followed plan.plain step w) (followed plan.plain step more)
  step_told step w more (inl b) = inl (bound_behind plan.plain step w.end b)
  step_told step w more (inr is) = inr (ap (followed plan.plain step) is)

  step_more : (k : ℕ) (o : Option Step) (c : Course)
      → SameReached n (do_step plan k o c) (do_step (plan_with_more n plan) k o (course_more n c))
  step_more k None c = inr refl
  step_more k (Some step) c =
      let words : List (List ℕ) = words_in plan step in
      step_told step (do_work plan k step.work words c) (do_work (plan_with_more n plan) k step.work words (course_more n c))
      (work_more k step.work words c)

  next_more : (next : StepNext) (c : Course)
      → SameReached n (go_next plan next c) (go_next (plan_with_more n plan) next (course_more n c))
  next_more (Go k) c = step_more k (line plan.scenario k) c
  next_more (Stop ending) c = inr refl

  steps_told : (left : ℕ) (r more : Reached) → SameReached n r more
      → SameReached n (go_steps left plan r) (go_steps left (plan_with_more n plan) (reached_more n r))
      → SameReached n (go_steps left plan r) (go_steps left (plan_with_more n plan) more)
  steps_told left r more (inl b) rest = inl (bound_stays left plan r.next r.course b)
  steps_told left r more (inr is) rest =
      let P : Reached → Type 0 = λ x. SameReached n (go_steps left plan r) (go_steps left (plan_with_more n plan) x) in
      subst P (sym is) rest

  steps_more : (left : ℕ) (r : Reached)
      → SameReached n (go_steps left plan r) (go_steps left (plan_with_more n plan) (reached_more n r))
  steps_more zero r = inr refl
  steps_more (suc left) r =
      let next : Reached = go_next plan r.next r.course in
      steps_told left next (go_next (plan_with_more n plan) r.next (course_more n r.course)) (next_more r.next r.course)
      (steps_more left next)

-- ---- the run

replayed_more : (n : ℕ) (next : StepNext) (c : Course) → replayed_at next (course_more n c) ≡ replayed_at next c
replayed_more n (Go k) c = refl
replayed_more n (Stop ending) c = refl

pub same_run : (a b : Replayed) → Some a ≡ Some b → a ≡ b
same_run a b e = cc

bound_ending : (next : StepNext) (c : Course) (run : Replayed) → replayed_at next c ≡ Some run → IsTrue (is_bound_next next)
    → IsTrue (is_bound run.ending)
bound_ending (Go k) c run e b = absurd (cc)
bound_ending (Stop ending) c run e b =
    let made : Replayed = record { ending = ending; trace = c.trace; after = c.tree; calls = c.calls; deeds = c.deeds } in
    let P : Replayed → Type 0 = λ x. IsTrue (is_bound x.ending) in
    subst P (same_run made run e) b

run_told : (n : ℕ) (r more : Reached) (run : Replayed) → replayed r ≡ Some run → SameReached n r more
    → IsTrue (is_bound run.ending) ⊎ (replayed more ≡ Some run)
run_told n r more run e (inl b) = inl (bound_ending r.next r.course run e b)
run_told n r more run e (inr is) = inr (ap replayed is ∙ replayed_more n r.next r.course ∙ e)

pub plans_same : MoreTurnsOfPlans
plans_same plan same n tree run e =
    let first : Reached = record { next = Go 1; course = begun plan.turns tree } in
    let left : ℕ = length (table plan.scenario) in
    run_told n (go_steps left plan first) (go_steps left (plan_with_more n plan) (reached_more n first)) run e
    (steps_more n plan same left first)

programs_same : programs.MoreTurnsSameRun → (o : Option ProgramParts) (meaning : Meaning)
    → option_map program_meaning o ≡ Some meaning → IsSameWithMore meaning
programs_same law None meaning e = absurd (cc)
programs_same law (Some program) meaning e =
    subst IsSameWithMore (same_meaning (program_meaning program) meaning e)
    (λ n step conc tree trace. law n program step conc tree trace)
  where
    same_meaning : (a b : Meaning) → Some a ≡ Some b → a ≡ b
    same_meaning a b e = cc

pub jobs_same : programs.MoreTurnsSameRun → MoreTurns
jobs_same law job n tree run e =
    plans_same (plan_of job)
    (λ side script. programs_same law (script_of script (scripts_in job side)))
    n tree run e
