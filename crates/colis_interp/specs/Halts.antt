-- What comes behind a command that was left.
use Rattle.std.specs.Prelude.{Bool, true, false, Result, Ok, Err}
use Rattle.script_names.specs.declared.reason.Reason.TheVariants as reason
use Rattle.shell_words.specs.declared.fault.WordFault.{WordFault}
use Rattle.shell_words.specs.declared.fault.WordFault.TheVariants.{Long, Glob, Pattern, Memory}
use Rattle.colis_interp.specs.declared.place.Place.{Place}
use Rattle.shell_rules.specs.declared.leave.Leave.TheVariants as leave
use Rattle.colis_interp.specs.declared.halt.Halt.{Halt}
use Rattle.colis_interp.specs.declared.halt.Halt.TheVariants as halt
use Rattle.colis_interp.specs.declared.halt.Behind.{Behind}
use Rattle.colis_interp.specs.declared.halt.Behind.TheVariants.{Holds, Ends, Again}
use Rattle.colis_interp.specs.Places.{stop_at}

-- the answer of a command
abbrev pub Answer : Type 0
Answer = Result (Unit {0}) Halt

-- `exit` ends what is run
abbrev pub ended_by_exit : Answer → Answer
ended_by_exit (Ok _) = Ok tt
ended_by_exit (Err (halt.Left leave.Exited)) = Ok tt
ended_by_exit (Err other) = Err other

-- `return` ends what is run
abbrev pub ended_by_return : Answer → Answer
ended_by_return (Ok _) = Ok tt
ended_by_return (Err (halt.Left leave.Returned)) = Ok tt
ended_by_return (Err other) = Err other

-- whether a loop goes on behind its body
abbrev pub behind_body : Answer → Result Bool Halt
behind_body (Ok _) = Ok true
behind_body (Err (halt.Left leave.Continued)) = Ok true
behind_body (Err (halt.Left leave.Broke)) = Ok false
behind_body (Err other) = Err other

-- what comes behind a condition that went on, by its status
abbrev pub by_status : Bool → Result Behind Halt
by_status true = Ok Holds
by_status false = Ok Ends

-- what comes behind a condition
abbrev pub behind_condition : Answer → Bool → Result Behind Halt
behind_condition (Ok _) status = by_status status
behind_condition (Err (halt.Left leave.Continued)) status = Ok Again
behind_condition (Err (halt.Left leave.Broke)) status = Ok Ends
behind_condition (Err other) status = Err other

-- what a word without a value stops the run for
abbrev pub halt_of : WordFault → Place → Halt
halt_of Long place = stop_at reason.Long place
halt_of Glob place = stop_at reason.Glob place
halt_of Pattern place = stop_at reason.Pattern place
halt_of Memory place = halt.Memory
