-- A whole run of a script or a program: how it begins, and what it comes to.
use Rattle.std.specs.Prelude.{ℕ, true, false, List, []}
use Rattle.script_names.specs.declared.mark.Mark.{Mark}
use Rattle.feature_trees.specs.declared.value.Value.{Value}
use Rattle.utility_calls.specs.declared.acts.Act.{Act}
use Rattle.shell_rules.specs.declared.state.Conc.{Conc}
use Rattle.shell_rules.specs.declared.run.End.{End}
use Rattle.shell_rules.specs.declared.run.End.TheVariants as end
use Rattle.shell_rules.specs.State as st
use Rattle.shell_rules.specs.State.{Text}

-- where the body stands, in a step of the scenario, of a script that defines functions of these names
abbrev pub place_in : ℕ → List Text → st.Place
place_in step functions = record { step = step; at = 0; functions = functions; excepted = false; inner = false }

-- the state in which a run begins; no act of it was done so far
abbrev pub begun : Conc → Value → List Mark → st.State
begun conc tree trace = record { conc = conc; tree = tree; trace = trace; acts = []; substituted = true }

-- what a run comes to: how it ended, the shell's state, the tree and the trace that it left, and the acts that it did
pub record Ended : Type 0 where
  pub end : End
  pub conc : Conc
  pub tree : Value
  pub trace : List Mark
  pub acts : List Act

-- an end in a state
abbrev pub ended : End → st.State → Ended
ended e s = record { end = e; conc = s.conc; tree = s.tree; trace = s.trace; acts = s.acts }

-- the end that a way to leave comes to: the status that holds then, a stop, or a bound
abbrev pub end_of : st.Leave → st.State → End
end_of st.Broke s = end.Status s.conc.status
end_of st.Continued s = end.Status s.conc.status
end_of st.Returned s = end.Status s.conc.status
end_of st.Exited s = end.Status s.conc.status
end_of (st.Stopped reason site) s = end.Stopped reason site
end_of (st.Bound site) s = end.Bound site

-- what the run of the body comes to: its status is that of its last command
abbrev pub ended_by : st.Run (Unit {0}) → Ended
ended_by (st.Go _ s) = ended (end.Status s.conc.status) s
ended_by (st.Left how s) = ended (end_of how s) s

-- the body of a script, run in a step from a state of the shell, a tree and a trace. The strict flag is that of the
-- state
abbrev pub whole_run : st.Action → ℕ → List Text → Conc → Value → List Mark → Ended
whole_run body step functions conc tree trace = ended_by (body (place_in step functions) (begun conc tree trace))
