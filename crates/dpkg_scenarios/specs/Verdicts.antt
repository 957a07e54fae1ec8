-- The verdict on endings.
use Rattle.std.specs.Prelude.{ℕ, Bool, List, if◌then◌else◌}
use Rattle.std.specs.List.{list_any}
use Rattle.dpkg_scenarios.specs.declared.scenario.Ending.{Ending}
use Rattle.dpkg_scenarios.specs.declared.scenario.Ending.TheVariants.{Done, Failed, Incomplete, Bound}

-- the verdict on an ending alone: 1 where the scenario failed, 2 where it ended without a state, else 0
abbrev pub ending_verdict : Ending → ℕ
ending_verdict (Done state) = 0
ending_verdict (Failed state) = 1
ending_verdict (Incomplete reason site) = 2
ending_verdict (Bound site) = 2

-- the verdict on endings together: 1 where some failed, else 2 where some are incomplete or bound, else 0
abbrev pub joint_verdict : Bool → Bool → ℕ
joint_verdict failed unfinished = if failed then 1 else (if unfinished then 2 else 0)

-- the verdict on all of them together, by what each of them has: whether some ending of it failed, and whether some is
-- incomplete or bound
module _ {T : Type 0} (failed unfinished : T → Bool) where
  abbrev pub verdict_on : List T → ℕ
  verdict_on all = joint_verdict (list_any failed all) (list_any unfinished all)
