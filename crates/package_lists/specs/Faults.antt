-- What a reader answers: what its definition gives, or the line at fault.
use Rattle.std.specs.Prelude.{◌≡◌, Result, Ok, Err}
use Rattle.package_lists.specs.declared.fault.LineFault.{LineFault}
use Rattle.package_lists.specs.declared.fault.LineFault.TheVariants.{Line, Memory}

-- what follows a value; a fault stays
abbrev pub and_then : {A B : Type 0} → (A → Result B LineFault) → Result A LineFault → Result B LineFault
and_then next (Ok value) = next value
and_then next (Err fault) = Err fault

-- what was wanted is answered, but for want of memory
abbrev pub IsAnswer : {A : Type 0} → Result A LineFault → Result A LineFault → Type 0
IsAnswer wanted (Ok value) = wanted ≡ Ok value
IsAnswer wanted (Err (Line n why)) = wanted ≡ Err (Line n why)
IsAnswer {A} wanted (Err Memory) = Unit {0}

-- what was wanted is answered, with the value left in place, but for want of memory
abbrev pub IsLeft : {A : Type 0} → Result A LineFault → A → Result (Unit {0}) LineFault → Type 0
IsLeft wanted value (Ok done) = wanted ≡ Ok value
IsLeft wanted value (Err (Line n why)) = wanted ≡ Err (Line n why)
IsLeft {A} wanted value (Err Memory) = Unit {0}
