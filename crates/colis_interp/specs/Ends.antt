-- The end that an answer of the body comes to.
use Rattle.std.specs.Prelude.{Bool, Result, Ok, Err}
use Rattle.script_names.specs.declared.memory.Memory.{Memory}
use Rattle.shell_rules.specs.declared.run.End.{End}
use Rattle.shell_rules.specs.declared.run.End.TheVariants as end
use Rattle.shell_rules.specs.declared.leave.Leave.TheVariants as leave
use Rattle.colis_interp.specs.declared.halt.Halt.TheVariants as halt
use Rattle.colis_interp.specs.Halts.{Answer}

-- the answer of a body that ended with this status
abbrev pub end_answer : Answer → Bool → Result End Memory
end_answer (Ok _) status = Ok (end.Status status)
end_answer (Err (halt.Left leave.Broke)) status = Ok (end.Status status)
end_answer (Err (halt.Left leave.Continued)) status = Ok (end.Status status)
end_answer (Err (halt.Left leave.Returned)) status = Ok (end.Status status)
end_answer (Err (halt.Left leave.Exited)) status = Ok (end.Status status)
end_answer (Err (halt.Left (leave.Stopped reason site))) status = Ok (end.Stopped reason site)
end_answer (Err (halt.Left (leave.Bound site))) status = Ok (end.Bound site)
end_answer (Err halt.Memory) status = Err (record {})
