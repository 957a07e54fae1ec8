-- How outcomes end, and where: a failure where the first call of a script that failed came to its end.
use Rattle.std.specs.Prelude.{ℕ, suc, ◌-◌, Bool, true, false, not, ◌&&◌, ◌==◌, List, [], ◌∷◌, length, take, codes}
use Rattle.std.specs.Prelude.{slice_get, Option, Some, None, if◌then◌else◌}
use Rattle.std.specs.List.{find}
use Rattle.std.specs.Option.{option_map}
use Rattle.std.specs.Str.{bytes_eq}
use Rattle.script_names.specs.Paths.{is_filled}
use Rattle.script_names.specs.declared.mark.Mark.{Mark}
use Rattle.script_names.specs.declared.mark.Site.{Site}
use Rattle.script_names.specs.declared.reason.Reason.{Reason}
use Rattle.script_names.specs.declared.reason.Reason.TheVariants as reason
use Rattle.dpkg_scenarios.specs.declared.scenario.Scenario.{Scenario}
use Rattle.dpkg_scenarios.specs.declared.scenario.Side.{Side}
use Rattle.dpkg_scenarios.specs.declared.scenario.Side.TheVariants.{New, Old}
use Rattle.dpkg_scenarios.specs.declared.scenario.ScriptKind.{ScriptKind}
use Rattle.dpkg_scenarios.specs.declared.scenario.ScriptKind.TheVariants.{Preinst, Postinst, Prerm, Postrm}
use Rattle.dpkg_scenarios.specs.declared.scenario.StepWork.{StepWork}
use Rattle.dpkg_scenarios.specs.declared.scenario.StepWork.TheVariants as work
use Rattle.dpkg_scenarios.specs.declared.scenario.Ending.{Ending}
use Rattle.dpkg_scenarios.specs.declared.scenario.Ending.TheVariants as ending
use Rattle.dpkg_scenarios.specs.declared.said.Said.{Said}
use Rattle.dpkg_scenarios.specs.Steps.{work_of, words_of}
use Rattle.dpkg_scenarios.specs.declared.scenario.State.{State}
use Rattle.dpkg_scenarios.specs.declared.scenario.State.TheVariants.{Installed, Unpacked, HalfConfigured, HalfInstalled}
use Rattle.dpkg_scenarios.specs.declared.scenario.State.TheVariants.{ConfigFiles, NotInstalled}
use Rattle.scenario_runs.specs.declared.call.ScriptCall.{ScriptCall}
use Rattle.scenario_runs.specs.declared.call.CallEnd.{CallEnd}
use Rattle.scenario_runs.specs.declared.call.CallEnd.TheVariants as how
use Rattle.outcome_report.specs.declared.outcome_report.ReportEntry.{ReportEntry}
use Rattle.outcome_groups.specs.declared.ends.GroupEnd.{GroupEnd}

-- ---- the step of a call

-- the same package
abbrev pub same_side : Side → Side → Bool
same_side New New = true
same_side Old Old = true
same_side New Old = false
same_side Old New = false

-- the same script
abbrev pub same_script : ScriptKind → ScriptKind → Bool
same_script Preinst Preinst = true
same_script Postinst Postinst = true
same_script Prerm Prerm = true
same_script Postrm Postrm = true
same_script a b = false

-- what is done is a call of this script
abbrev pub is_call : Option StepWork → ScriptCall → Bool
is_call None call = false
is_call (Some (work.Script side script)) call = same_side side call.side && same_script script call.script
is_call (Some work.Unpack) call = false
is_call (Some work.RemoveFiles) call = false
is_call (Some work.RemoveOld) call = false
is_call (Some work.RemoveConf) call = false
is_call (Some work.Restore) call = false

-- the same flag
abbrev pub same_flag : Bool → Bool → Bool
same_flag true b = b
same_flag false b = not b

-- as many words, and the same ones of them are empty
abbrev pub filled_alike : List (List ℕ) → List (List ℕ) → Bool
filled_alike [] [] = true
filled_alike [] (v ∷ vs) = false
filled_alike (w ∷ ws) [] = false
filled_alike (w ∷ ws) (v ∷ vs) = same_flag (is_filled w) (is_filled v) && filled_alike ws vs

-- the same first word, and behind it as many words, of which the same ones are empty
abbrev pub begin_alike : List (List ℕ) → List (List ℕ) → Bool
begin_alike [] [] = true
begin_alike [] (v ∷ vs) = false
begin_alike (w ∷ ws) [] = false
begin_alike (w ∷ ws) (v ∷ vs) = bytes_eq w v && filled_alike ws vs

-- the words of a step are like those of a call
abbrev pub speaks : Option (List (List ℕ)) → ScriptCall → Bool
speaks None call = false
speaks (Some words) call = begin_alike words call.words

-- any versions and any name, which are not empty
abbrev pub any_said : Said
any_said = record { old_version = codes "0"; new_version = codes "0"; new_name = codes "0" }

-- whether a step of the scenario makes the call: the same script, with such words
abbrev pub makes : Scenario → ScriptCall → ℕ → Bool
makes scenario call n =
    is_call (work_of scenario n) call && speaks (words_of scenario n any_said) call

-- ---- the marks up to an end

-- the call failed
abbrev pub is_failed : CallEnd → Bool
is_failed how.Ok = false
is_failed how.Failed = true
is_failed how.Ended = false

-- the first call that failed
abbrev pub failed_call : List ScriptCall → Option ScriptCall
failed_call calls = find (λ call. is_failed call.how) calls

-- how many marks there are up to the last one of a step that makes the call; 0 where there is none. So many were found
-- among the `seen` first ones, behind which these stand
abbrev pub up_to_call : Scenario → ScriptCall → ℕ → ℕ → List Mark → ℕ
up_to_call scenario call found seen [] = found
up_to_call scenario call found seen (mark ∷ marks) =
    up_to_call scenario call (if makes scenario call mark.site.step then suc seen else found) (suc seen) marks

-- how many marks there are up to the one where a failure came: all of them, where no call failed
abbrev pub up_to_failure : Scenario → Option ScriptCall → List Mark → ℕ
up_to_failure scenario None trace = length trace
up_to_failure scenario (Some call) trace = up_to_call scenario call 0 0 trace

-- how many marks there are up to the one where the outcome of an entry came to its end
abbrev pub up_to_end : Scenario → Ending → List ScriptCall → List Mark → ℕ
up_to_end scenario (ending.Done state) calls trace = length trace
up_to_end scenario (ending.Failed state) calls trace = up_to_failure scenario (failed_call calls) trace
up_to_end scenario (ending.Incomplete reason site) calls trace = length trace
up_to_end scenario (ending.Bound site) calls trace = length trace

-- ---- the end of an outcome

-- the site of the last of so many marks
abbrev pub last_site : ℕ → List Mark → Option Site
last_site n trace = option_map (λ mark. mark.site) (slice_get (take n trace) (n - 1))

-- the site at which an outcome ends, of which so many marks stand up to its end
abbrev pub end_site : Ending → ℕ → List Mark → Option Site
end_site (ending.Done state) n trace = None
end_site (ending.Failed state) n trace = last_site n trace
end_site (ending.Incomplete reason site) n trace = Some site
end_site (ending.Bound site) n trace = Some site

-- how an entry's outcome ends, and where
abbrev pub end_of : Scenario → ReportEntry → GroupEnd
end_of scenario entry =
    let o = entry.outcome in
    record {
      ending = o.ending;
      site = end_site o.ending (up_to_end scenario o.ending entry.replayed.calls o.trace) o.trace;
    }

-- ---- which ends are the same

-- a state, numbered
abbrev pub state_number : State → ℕ
state_number Installed = 0
state_number Unpacked = 1
state_number HalfConfigured = 2
state_number HalfInstalled = 3
state_number ConfigFiles = 4
state_number NotInstalled = 5

-- a reason, numbered
abbrev pub reason_number : Reason → ℕ
reason_number reason.Call = 0
reason_number reason.Echo = 1
reason_number reason.Link = 2
reason_number reason.Slash = 3
reason_number reason.Root = 4
reason_number reason.Empty = 5
reason_number reason.DotDot = 6
reason_number reason.Dot = 7
reason_number reason.Long = 8
reason_number reason.Glob = 9
reason_number reason.Pattern = 10
reason_number reason.Pipe = 11
reason_number reason.Message = 12
reason_number reason.Strict = 13
reason_number reason.Status = 14
reason_number reason.Run = 15
reason_number reason.Same = 16
reason_number reason.Conffile = 17
reason_number reason.Restore = 18

-- the same site
abbrev pub same_site : Site → Site → Bool
same_site a b = (a.step == b.step) && (a.at == b.at)

-- the same site, or none
abbrev pub same_option : Option Site → Option Site → Bool
same_option None None = true
same_option None (Some b) = false
same_option (Some a) None = false
same_option (Some a) (Some b) = same_site a b

-- the same ending
abbrev pub same_ending : Ending → Ending → Bool
same_ending (ending.Done s) (ending.Done t) = state_number s == state_number t
same_ending (ending.Failed s) (ending.Failed t) = state_number s == state_number t
same_ending (ending.Incomplete r a) (ending.Incomplete q b) = (reason_number r == reason_number q) && same_site a b
same_ending (ending.Bound a) (ending.Bound b) = same_site a b
same_ending a b = false

-- outcomes end alike
abbrev pub same_end : GroupEnd → GroupEnd → Bool
same_end a b = same_ending a.ending b.ending && same_option a.site b.site

-- ---- which ends differ in the place alone

-- the same ending, wherever in a script; one that is done has no place
abbrev pub alike_ending : Ending → Ending → Bool
alike_ending (ending.Done s) b = false
alike_ending (ending.Failed s) (ending.Failed t) = state_number s == state_number t
alike_ending (ending.Failed s) (ending.Done t) = false
alike_ending (ending.Failed s) (ending.Incomplete q b) = false
alike_ending (ending.Failed s) (ending.Bound b) = false
alike_ending (ending.Incomplete r a) (ending.Incomplete q b) = reason_number r == reason_number q
alike_ending (ending.Incomplete r a) (ending.Done t) = false
alike_ending (ending.Incomplete r a) (ending.Failed t) = false
alike_ending (ending.Incomplete r a) (ending.Bound b) = false
alike_ending (ending.Bound a) (ending.Bound b) = true
alike_ending (ending.Bound a) (ending.Done t) = false
alike_ending (ending.Bound a) (ending.Failed t) = false
alike_ending (ending.Bound a) (ending.Incomplete q b) = false

-- both have a site, in the same step
abbrev pub same_step : Option Site → Option Site → Bool
same_step None b = false
same_step (Some a) None = false
same_step (Some a) (Some b) = a.step == b.step

-- outcomes end alike in the same step, wherever in it
abbrev pub end_alike : GroupEnd → GroupEnd → Bool
end_alike a b = alike_ending a.ending b.ending && same_step a.site b.site
