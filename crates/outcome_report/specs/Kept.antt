-- What a report keeps of a run: all but its deeds, of which it tells the marks.
use Rattle.scenario_runs.specs.declared.replayed.Replayed.{Replayed}
use Rattle.outcome_report.specs.declared.replay.Replay.{Replay}

-- the ending, the marks, the tree that is left, and the calls
abbrev pub replay_of : Replayed → Replay
replay_of run = record { ending = run.ending; trace = run.trace; after = run.after; calls = run.calls }
