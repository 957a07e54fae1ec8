-- How many outcomes end in each way.
use Rattle.std.specs.Prelude.{ℕ, Bool, ◌==◌, List, ◌++◌, length, filter, codes, if◌then◌else◌}
use Rattle.std.specs.Fmt.{decimal}
use Rattle.dpkg_scenarios.specs.Verdicts.{ending_verdict}
use Rattle.outcome_report.specs.declared.outcome_report.ReportEntry.{ReportEntry}

-- the outcome of an entry has this verdict: 0 where it is done, 1 where it failed, 2 where it is undecided
abbrev pub ends_so : ℕ → ReportEntry → Bool
ends_so verdict entry = ending_verdict entry.outcome.ending == verdict

-- how many outcomes have it
abbrev pub count_so : ℕ → List ReportEntry → ℕ
count_so verdict entries = length (filter (ends_so verdict) entries)

-- a number of outcomes
unfoldable pub counted_text : ℕ → List ℕ
counted_text count = if count == 1 then codes "1 outcome" else decimal count ++ codes " outcomes"

-- a number between texts
unfoldable pub numbered_text : List ℕ → ℕ → List ℕ → List ℕ
numbered_text before number behind = before ++ decimal number ++ behind
