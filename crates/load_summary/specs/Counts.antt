-- How many endings of outcomes are of each way to end.
use Rattle.std.specs.Prelude.{ℕ, Bool, true, false, List, length, filter, codes}
use Rattle.dpkg_scenarios.specs.declared.scenario.Ending.{Ending}
use Rattle.dpkg_scenarios.specs.declared.scenario.Ending.TheVariants as ending
use Rattle.load_summary.specs.declared.counts.EndWay.{EndWay}
use Rattle.load_summary.specs.declared.counts.EndWay.TheVariants.{Done, Failed, Incomplete, Bound}

-- the name of a way to end
abbrev pub way_name : EndWay → List ℕ
way_name Done = codes "done"
way_name Failed = codes "failed"
way_name Incomplete = codes "incomplete"
way_name Bound = codes "bound"

-- the ending is of this way
abbrev pub ends_in : EndWay → Ending → Bool
ends_in Done (ending.Done state) = true
ends_in Failed (ending.Failed state) = true
ends_in Incomplete (ending.Incomplete reason site) = true
ends_in Bound (ending.Bound site) = true
ends_in way other = false

-- how many of these endings are of this way
abbrev pub count : EndWay → List Ending → ℕ
count way endings = length (filter (ends_in way) endings)
