-- What reading a part of a call answers.
use Rattle.std.specs.Prelude.{◌≡◌, Option, Some, None, Result, Ok, Err}
use Rattle.script_names.specs.declared.reason.Reason.{Reason}
use Rattle.utility_calls.specs.declared.fault.CallFault.{CallFault}
use Rattle.utility_calls.specs.declared.fault.CallFault.TheVariants.{Because, Memory}

-- the value where there is no reason against it, else the reason; or want of memory
abbrev pub Gives : {A : Type 0} → Option Reason → A → Result A CallFault → Type 0
Gives why value (Ok given) = (why ≡ None) × (given ≡ value)
Gives why value (Err (Because reason)) = why ≡ Some reason
Gives why value (Err Memory) = Unit {0}
