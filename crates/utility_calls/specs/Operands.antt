-- What a utility does with its operands, each of which is a path: why one has no specified meaning, and the acts that
-- it comes to (POSIX.1-2017, XCU `mkdir`, `rmdir`, `rm`, `touch`, `chmod`, `chown`, `chgrp`).
use Rattle.std.specs.Prelude.{ℕ, zero, suc, Bool, false, not, ◌&&◌, ◌-◌, List, [], ◌∷◌, ◌++◌, length, take, map}
use Rattle.std.specs.Prelude.{Option, Some, None, if◌then◌else◌}
use Rattle.script_names.specs.declared.reason.Reason.{Reason}
use Rattle.script_names.specs.declared.reason.Reason.TheVariants as reason
use Rattle.script_names.specs.declared.path.PathFault.{PathFault}
use Rattle.script_names.specs.declared.path.PathFault.TheVariants.{Empty, Nul, DotDot, Dot, LongName, Many, Memory}
use Rattle.script_names.specs.Paths.{PathParts, path_fault, spelled_names, path_of}
use Rattle.utility_calls.specs.declared.fault.CallFault.{CallFault}
use Rattle.utility_calls.specs.declared.fault.CallFault.TheVariants as fault
use Rattle.utility_calls.specs.declared.acts.Act.{Act}
use Rattle.utility_calls.specs.declared.acts.Act.TheVariants.{MakeDir, EnsureDir, RemoveDir, Remove, Touch, Attr}
use Rattle.utility_calls.specs.declared.operands.Each.{Each}
use Rattle.utility_calls.specs.declared.operands.Each.TheVariants as each
use Rattle.utility_calls.specs.Options.{is_option}

-- the reason, where there is one, else the later one
abbrev pub first_of : Option Reason → Option Reason → Option Reason
first_of (Some why) later = Some why
first_of None later = later

-- the reason of a word that spells no path
abbrev pub fault_reason : PathFault → Reason
fault_reason Empty = reason.Empty
fault_reason Nul = reason.Call
fault_reason DotDot = reason.DotDot
fault_reason Dot = reason.Dot
fault_reason LongName = reason.Long
fault_reason Many = reason.Long
fault_reason Memory = reason.Call

-- the fault of a word that spells no path
abbrev pub call_fault : PathFault → CallFault
call_fault Empty = fault.Because reason.Empty
call_fault Nul = fault.Because reason.Call
call_fault DotDot = fault.Because reason.DotDot
call_fault Dot = fault.Because reason.Dot
call_fault LongName = fault.Because reason.Long
call_fault Many = fault.Because reason.Long
call_fault Memory = fault.Memory

-- a path without names is the root
abbrev pub root_reason : List (List ℕ) → Option Reason
root_reason [] = Some reason.Root
root_reason (name ∷ names) = None

-- why a word with this fault and these names is no path below the root
abbrev pub path_reason : Option PathFault → List (List ℕ) → Option Reason
path_reason (Some fault) names = Some (fault_reason fault)
path_reason None names = root_reason names

-- why a word is no operand: it is an option behind an operand, or no path below the root
abbrev pub operand_reason : Bool → List ℕ → Option Reason
operand_reason ended word =
    if not ended && is_option word then Some reason.Call else path_reason (path_fault word) (spelled_names word)

-- a path that ends in a slash, where it has no specified meaning
abbrev pub slash_reason : PathParts → Option Reason
slash_reason path = if path.slash then Some reason.Slash else None

-- why a word is no operand that is a file's path
abbrev pub file_reason : Bool → List ℕ → Option Reason
file_reason ended word = first_of (operand_reason ended word) (slash_reason (path_of word))

-- why a word is no operand of a utility that goes through its operands: `touch` takes no path with a slash
abbrev pub each_reason : Each → Bool → List ℕ → Option Reason
each_reason each.MakeDir ended word = operand_reason ended word
each_reason each.EnsureDirs ended word = operand_reason ended word
each_reason each.RemoveDir ended word = operand_reason ended word
each_reason (each.Remove force deep) ended word = operand_reason ended word
each_reason each.Touch ended word = file_reason ended word
each_reason each.Attr ended word = operand_reason ended word

-- the first reason among the operands
abbrev pub first_reason : Each → Bool → List (List ℕ) → Option Reason
first_reason e ended [] = None
first_reason e ended (word ∷ words) = first_of (each_reason e ended word) (first_reason e ended words)

-- the directories of the first names, from one name to so many
abbrev pub ensured : List (List ℕ) → ℕ → List Act
ensured names zero = []
ensured names (suc count) =
    ensured names count ++ EnsureDir (record { names = take (suc count) names; slash = false }) ∷ []

-- the acts of one operand; `mkdir -p` ensures each directory on the way, and the last with the path's slash
abbrev pub each_acts : Each → PathParts → List Act
each_acts each.MakeDir path = MakeDir path ∷ []
each_acts each.EnsureDirs path = ensured path.names (length path.names - 1) ++ EnsureDir path ∷ []
each_acts each.RemoveDir path = RemoveDir path ∷ []
each_acts (each.Remove force deep) path = Remove path force deep ∷ []
each_acts each.Touch path = Touch path ∷ []
each_acts each.Attr path = Attr path ∷ []

-- the acts of each operand
abbrev pub all_acts : Each → List (List ℕ) → List (List Act)
all_acts e words = map (λ word. each_acts e (path_of word)) words
