-- The names of states and answers, as a report has them.
use Rattle.std.specs.Prelude.{ℕ, List, Bool, true, false, codes}
use Rattle.dpkg_scenarios.specs.declared.scenario.Side.{Side}
use Rattle.dpkg_scenarios.specs.declared.scenario.Side.TheVariants.{New, Old}
use Rattle.dpkg_scenarios.specs.declared.scenario.State.{State}
use Rattle.dpkg_scenarios.specs.declared.scenario.State.TheVariants.{Installed, Unpacked, HalfConfigured}
use Rattle.dpkg_scenarios.specs.declared.scenario.State.TheVariants.{HalfInstalled, ConfigFiles, NotInstalled}
use Rattle.scenario_runs.specs.declared.call.CallEnd.{CallEnd}
use Rattle.scenario_runs.specs.declared.call.CallEnd.TheVariants as how

-- the name of a package's state, as dpkg spells it
abbrev pub state_name : State → List ℕ
state_name Installed = codes "Installed"
state_name Unpacked = codes "Unpacked"
state_name HalfConfigured = codes "Half-Configured"
state_name HalfInstalled = codes "Half-Installed"
state_name ConfigFiles = codes "Config-Files"
state_name NotInstalled = codes "Not-Installed"

-- whether the replay agrees, in a word
abbrev pub confirmed_name : Bool → List ℕ
confirmed_name true = codes "yes"
confirmed_name false = codes "no"

-- which package's script was called
abbrev pub side_name : Side → List ℕ
side_name Old = codes "old"
side_name New = codes "new"

-- how a call ended
abbrev pub call_end_name : CallEnd → List ℕ
call_end_name how.Ok = codes "ok"
call_end_name how.Failed = codes "failed"
call_end_name how.Ended = codes "ended"
