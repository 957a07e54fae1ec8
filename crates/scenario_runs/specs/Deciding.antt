-- The walk that the runs of a job walk, whatever the job.
use Rattle.std.proofs.Common.{ℕ, zero, suc, ◌+◌, Bool, true, false, List, [], ◌∷◌, ◌++◌, length, Option, Some, None}
use Rattle.std.proofs.Common.{sym, ap, ◌∙◌}
use Rattle.std.specs.Prelude.{All}
use Rattle.std.specs.Option.{option_map}
use Rattle.std.proofs.Math.Nat.{suc-lt_of_lt-pred, zero-lt-suc}
use Rattle.script_names.specs.declared.mark.Site.{Site}
use Rattle.script_names.specs.declared.reason.Done.{Done}
use Rattle.utility_calls.specs.declared.acts.Act.{Act}
use Rattle.utility_calls.specs.declared.backs.Back.{Back}
use Rattle.utility_calls.specs.declared.deeds.Deed.TheVariants.{Does, Returns, Keeps}
use Rattle.utility_calls.specs.Acts.{row, IsPerformed}
use Rattle.utility_calls.specs.Backs.{back_row, IsNamed}
use Rattle.utility_calls.specs.Decisions.{mark_at}
use Rattle.utility_calls.specs.Walks.{Walk, Ends, Acts, PutsBack, Keeping, Walked, AllDone, then_walk, walk_of}
use Rattle.utility_calls.specs.Walks.{back_mark, after_act, after_back, after_keep}
use Rattle.utility_calls.proofs.Walking.{then_done, walks_follow, decisions_done, decisions_walk}
use Rattle.shell_rules.specs.declared.premises.Premises.{Premises}
use Rattle.shell_rules.specs.declared.state.Conc.{Conc}
use Rattle.shell_rules.specs.declared.run.End.{End}
use Rattle.colis_syntax.specs.WellFormed.{ProgramParts}
use Rattle.colis_meaning.specs.Decided.{IsDecided}
use Rattle.dpkg_scenarios.specs.declared.scenario.ScriptKind.{ScriptKind}
use Rattle.dpkg_scenarios.specs.declared.scenario.Side.{Side}
use Rattle.dpkg_scenarios.specs.declared.scenario.StepWork.{StepWork}
use Rattle.dpkg_scenarios.specs.declared.scenario.StepWork.TheVariants as work
use Rattle.dpkg_scenarios.specs.declared.scenario.Ending.{Ending}
use Rattle.dpkg_scenarios.specs.declared.scenario.Ending.TheVariants as ending
use Rattle.dpkg_scenarios.specs.declared.scenario.StepNext.{StepNext}
use Rattle.dpkg_scenarios.specs.declared.scenario.StepNext.TheVariants.{Go, Stop}
use Rattle.dpkg_scenarios.specs.Scenarios.{Step, table}
use Rattle.dpkg_scenarios.specs.Scripts.{script_of}
use Rattle.dpkg_scenarios.specs.Steps.{line}
use Rattle.scenario_runs.specs.declared.job.Job.{Job}
use Rattle.scenario_runs.specs.declared.call.ScriptCall.{ScriptCall}
use Rattle.scenario_runs.specs.declared.course.Course.{Course}
use Rattle.scenario_runs.specs.declared.course.WorkEnd.{WorkEnd}
use Rattle.scenario_runs.specs.declared.course.WorkEnd.TheVariants.{Succeeded}
use Rattle.scenario_runs.specs.declared.course.Worked.{Worked}
use Rattle.scenario_runs.specs.declared.course.Reached.{Reached}
use Rattle.scenario_runs.specs.Runs as r
use Rattle.scenario_runs.specs.Performed.{ArePerformed}
use Rattle.scenario_runs.specs.Playing.{Came, course_at, came, made, Plays, knows, handle}
use Rattle.colis_meaning.proofs.WholeDecisions.{runs_decided}
use Rattle.scenario_runs.specs.Naming.{restored_named}

-- what follows, and how far the run has come
abbrev pub reached : StepNext → Course → Reached
reached next course = record { next = next; course = course }

-- how a step's work ended, and how far the run has come
abbrev pub worked : WorkEnd → Course → Worked
worked end c = record { end = end; course = c }

-- ---- files

module _ (calls : List ScriptCall) (turns unpacked : ℕ) where
  -- this end
  abbrev ends_as : WorkEnd → Came WorkEnd
  ends_as end = record { value = end; calls = calls; turns = turns; unpacked = unpacked }

  -- what comes behind an answer
  or_plays : (o : Option WorkEnd) (more : Course → Worked)
      → Plays worked (λ w trace deeds. more (course_at calls turns unpacked w trace deeds))
      → Plays worked (λ w trace deeds. r.or_more o (course_at calls turns unpacked w trace deeds) more)
  or_plays None more p = p
  or_plays (Some end) more p = knows worked (ends_as end)

  files_play : (can_fail : Bool) (n at : ℕ) (acts : List Act) → All IsPerformed acts
      → Plays worked (λ w trace deeds. r.do_files can_fail n at acts (course_at calls turns unpacked w trace deeds))
  files_play can_fail n at [] performed = knows worked (ends_as Succeeded)
  files_play can_fail n at (act ∷ acts) performed =
      let site : Site = r.site_at n at in
      let rest = r.do_files can_fail n (at + 1) acts in
      let more = files_play can_fail n (at + 1) acts
      (λ k d lt. performed (suc k) d (suc-lt_of_lt-pred {m = length (act ∷ acts)} lt)) in
      let behind : (answer : Done)
      → Plays worked (λ w trace deeds. r.or_more (r.ended_behind can_fail site answer)
      (course_at calls turns unpacked w trace deeds) rest) =
      λ answer. or_plays (r.ended_behind can_fail site answer) rest more in
      record {
        decision = Acts site act (λ answer. (behind answer).decision);
        performed = (performed 0 act (zero-lt-suc (length acts)), λ answer. (behind answer).performed);
        plays = λ w trace deeds.
            (behind (row act w.tree).answer).plays (after_act act w) (trace ++ mark_at site act w.tree ∷ [])
            (deeds ++ Does act ∷ []);
      }

  backs_play : (n at : ℕ) (backs : List Back) → All IsNamed backs
      → Plays worked (λ w trace deeds. r.do_backs n at backs (course_at calls turns unpacked w trace deeds))
  backs_play n at [] named = knows worked (ends_as Succeeded)
  backs_play n at (back ∷ backs) named =
      let site : Site = r.site_at n at in
      let rest = r.do_backs n (at + 1) backs in
      let more = backs_play n (at + 1) backs
      (λ k d lt. named (suc k) d (suc-lt_of_lt-pred {m = length (back ∷ backs)} lt)) in
      let behind : (answer : Done)
      → Plays worked (λ w trace deeds. r.or_more (r.ended_behind false site answer)
      (course_at calls turns unpacked w trace deeds) rest) =
      λ answer. or_plays (r.ended_behind false site answer) rest more in
      record {
        decision = PutsBack site back (λ answer. (behind answer).decision);
        performed = (named 0 back (zero-lt-suc (length backs)), λ answer. (behind answer).performed);
        plays = λ w trace deeds.
            (behind (back_row back w.kept w.tree).answer).plays (after_back back w)
            (trace ++ back_mark site back w ∷ []) (deeds ++ Returns back ∷ []);
      }

  -- the tree is kept, and acts are done
  kept_play : (n : ℕ) (acts : List Act) → All IsPerformed acts
      → Plays worked
      (λ w trace deeds. r.do_files true n 0 acts (r.keeping_tree (course_at calls turns unpacked w trace deeds)))
  kept_play n acts performed =
      let files = files_play true n 0 acts performed in
      record {
        decision = Keeping files.decision;
        performed = files.performed;
        plays = λ w trace deeds. files.plays (after_keep w) trace (deeds ++ Keeps ∷ []);
      }

  unpack_plays : (n : ℕ) (acts : List Act) → All IsPerformed acts
      → Plays worked (λ w trace deeds. r.unpack n acts (course_at calls turns unpacked w trace deeds))
  unpack_plays n acts performed =
      handle worked worked
      (λ w trace deeds. r.do_files true n 0 acts (r.keeping_tree (course_at calls turns unpacked w trace deeds)))
      (r.counted (length acts)) (kept_play n acts performed)
      (λ v. knows worked (record v { unpacked = r.done_by (length acts) v.value }))

  restore_plays : (n : ℕ) (backs : List Back) → All IsNamed backs
      → Plays worked (λ w trace deeds. r.restore n backs (course_at calls turns unpacked w trace deeds))
  restore_plays n backs named = backs_play n 0 (r.restored backs unpacked) (restored_named backs unpacked named)

-- ---- scripts

-- what a script leaves, but for the trees, the trace and the deeds
abbrev after : Side → ScriptKind → List (List ℕ) → List ScriptCall → ℕ → End × Conc → Came WorkEnd
after side script words calls unpacked v =
    let call : ScriptCall = record { side = side; script = script; words = words; how = r.call_end v.0 } in
    record { value = r.script_end v.0; calls = calls ++ call ∷ []; turns = v.1.turns; unpacked = unpacked }

module _ (premises : Premises) (n : ℕ) (side : Side) (script : ScriptKind) (words : List (List ℕ))
    (calls : List ScriptCall) (turns unpacked : ℕ) where
  program_plays : (program : ProgramParts)
      → Plays worked (λ w trace deeds. r.call_script premises n side script words (Some (r.program_meaning program))
      (course_at calls turns unpacked w trace deeds))
  program_plays program =
      let shell : Conc = r.begun_shell premises script words program.strict turns in
      let d : IsDecided program n shell = runs_decided program n shell in
      let next : End × Conc → Walk (Came WorkEnd) = λ v. Ends (after side script words calls unpacked v) in
      let over : Walked (End × Conc) → Worked =
      λ p. came worked (after side script words calls unpacked p.value) p.world p.trace p.deeds in
      record {
        decision = then_walk (walk_of d.decision) next;
        performed = then_done (walk_of d.decision) next (decisions_done d.decision d.performed) (λ v. tt);
        plays = λ w trace deeds.
            ap (r.called side script words (course_at calls turns unpacked w trace deeds)) (d.played w.tree trace)
            ∙ ap over (sym (decisions_walk d.decision w trace deeds))
            ∙ ap (made worked) (sym (walks_follow (walk_of d.decision) next w trace deeds));
      }

  script_plays : (o : Option ProgramParts)
      → Plays worked
      (λ w trace deeds. r.call_script premises n side script words (option_map r.program_meaning o)
      (course_at calls turns unpacked w trace deeds))
  script_plays None =
      knows worked (record { value = Succeeded; calls = calls; turns = turns; unpacked = unpacked })
  script_plays (Some program) = program_plays program

-- ---- steps

module _ (job : Job) (files : ArePerformed job.files) where
  work_plays : (n : ℕ) (what : StepWork) (words : List (List ℕ)) (calls : List ScriptCall) (turns unpacked : ℕ)
      → Plays worked
      (λ w trace deeds. r.do_work (r.plan_of job) n what words (course_at calls turns unpacked w trace deeds))
  work_plays n (work.Script side script) words calls turns unpacked =
      script_plays job.premises n side script words calls turns unpacked
      (script_of script (r.scripts_in job side))
  work_plays n work.Unpack words calls turns unpacked =
      unpack_plays calls turns unpacked n job.files.unpack files.unpack
  work_plays n work.RemoveFiles words calls turns unpacked =
      files_play calls turns unpacked false n 0 job.files.remove_files files.remove_files
  work_plays n work.RemoveOld words calls turns unpacked =
      files_play calls turns unpacked false n 0 job.files.remove_old files.remove_old
  work_plays n work.RemoveConf words calls turns unpacked =
      files_play calls turns unpacked false n 0 job.files.remove_conf files.remove_conf
  work_plays n work.Restore words calls turns unpacked =
      restore_plays calls turns unpacked n job.files.backs files.named

  step_plays : (n : ℕ) (o : Option Step) (calls : List ScriptCall) (turns unpacked : ℕ)
      → Plays reached
      (λ w trace deeds. r.do_step (r.plan_of job) n o (course_at calls turns unpacked w trace deeds))
  step_plays n None calls turns unpacked =
      knows reached (record { value = Go n; calls = calls; turns = turns; unpacked = unpacked })
  step_plays n (Some step) calls turns unpacked =
      let words : List (List ℕ) = r.words_in (r.plan_of job) step in
      handle worked reached
      (λ w trace deeds. r.do_work (r.plan_of job) n step.work words (course_at calls turns unpacked w trace deeds))
      (r.followed job.plain step) (work_plays n step.work words calls turns unpacked)
      (λ v. knows reached (record {
        value = r.next_behind job.plain step v.value;
        calls = v.calls;
        turns = v.turns;
        unpacked = v.unpacked;
      }))

  next_plays : (next : StepNext) (calls : List ScriptCall) (turns unpacked : ℕ)
      → Plays reached
      (λ w trace deeds. r.go_next (r.plan_of job) next (course_at calls turns unpacked w trace deeds))
  next_plays (Go n) calls turns unpacked = step_plays n (line job.scenario n) calls turns unpacked
  next_plays (Stop ending) calls turns unpacked =
      knows reached (record { value = Stop ending; calls = calls; turns = turns; unpacked = unpacked })

  steps_play : (left : ℕ) (v : Came StepNext)
      → Plays reached (λ w trace deeds. r.go_steps left (r.plan_of job) (came reached v w trace deeds))
  steps_play zero v = knows reached v
  steps_play (suc left) v =
      handle reached reached
      (λ w trace deeds. r.go_next (r.plan_of job) v.value (course_at v.calls v.turns v.unpacked w trace deeds))
      (r.go_steps left (r.plan_of job)) (next_plays v.value v.calls v.turns v.unpacked) (steps_play left)

-- ---- runs

-- the ending of a run that has ended
abbrev pub ending_of : StepNext → Ending
ending_of (Go n) = ending.Bound (r.site_at n 0)
ending_of (Stop ending) = ending

-- an ending, and the calls of scripts
abbrev pub ended : Came StepNext → Ending × List ScriptCall
ended v = (ending_of v.value, v.calls)

module _ (job : Job) (files : ArePerformed job.files) where
  pub whole_plays : Plays reached (λ w trace deeds. r.go_steps (length (table job.scenario)) (r.plan_of job)
      (came reached (record { value = Go 1; calls = []; turns = job.turns; unpacked = 0 }) w trace deeds))
  whole_plays =
      steps_play job files (length (table job.scenario))
      (record { value = Go 1; calls = []; turns = job.turns; unpacked = 0 })

  -- the walk that the runs walk
  unfoldable pub decision_of : Walk (Ending × List ScriptCall)
  decision_of = then_walk whole_plays.decision (λ v. Ends (ended v))

  pub decision_performed : AllDone decision_of
  unfolding decision_of
  decision_performed = then_done whole_plays.decision (λ v. Ends (ended v)) whole_plays.performed (λ v. tt)
