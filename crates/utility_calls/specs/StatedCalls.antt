-- Stated calls: which lists of them there are.
use Rattle.std.specs.Prelude.{◌≡◌, ℕ, Bool, true, not, ◌&&◌, List, [], ◌∷◌, Option, Some, None, Result, Ok, Err}
use Rattle.std.specs.Prelude.{if◌then◌else◌}
use Rattle.std.specs.List.{list_any}
use Rattle.std.specs.Str.{bytes_eq}
use Rattle.utility_calls.specs.StatedNames.{can_be_stated}
use Rattle.utility_calls.specs.declared.stated_call.StatedCall.{StatedCall}
use Rattle.utility_calls.specs.declared.stated_calls.StatedFault.{StatedFault}
use Rattle.utility_calls.specs.declared.stated_calls.StatedFault.TheVariants.{NoName, Before, Memory}

-- whether a call has this name
abbrev pub has_name : List ℕ → StatedCall → Bool
has_name name call = bytes_eq call.name name

-- whether one of the calls has this name
abbrev pub is_stated : List StatedCall → List ℕ → Bool
is_stated calls name = list_any (has_name name) calls

-- each of the calls has a name that can be stated, and none has that of a later one
abbrev pub are_stated : List StatedCall → Bool
are_stated [] = true
are_stated (call ∷ calls) = can_be_stated call.name && (not (is_stated calls call.name) && are_stated calls)

-- why a call of this name is not added to those, where it is not
abbrev pub added_fault : List StatedCall → List ℕ → Option StatedFault
added_fault calls name =
    if not (can_be_stated name) then Some NoName else (if is_stated calls name then Some Before else None)

-- What is answered where a call is added, given why it can't be: it is added only where it can be, and a fault is why
-- it can't be; want of memory has no such cause.
abbrev pub AddGives : Option StatedFault → Result (Unit {0}) StatedFault → Type 0
AddGives fault (Ok done) = fault ≡ None
AddGives fault (Err NoName) = fault ≡ Some NoName
AddGives fault (Err Before) = fault ≡ Some Before
AddGives fault (Err Memory) = fault ≡ None
