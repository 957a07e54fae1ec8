-- What a write into a sink takes, and what it says of the sink's count.
use Rattle.std.specs.Prelude.{◌≡◌, ℕ, ◌++◌, List, take, Option, Some, Result, Ok, Err, IfSome}
use Rattle.checker_io.specs.declared.sink.SinkFault.{SinkFault}
use Rattle.checker_io.specs.declared.sink.SinkFault.TheVariants.{Failed, Memory}
use Rattle.checker_io.specs.Faults.{Rose}

-- what a sink is seen as: the bytes that it took, where it tells them, and its count of faults
pub record SinkState : Type 0 where
  pub taken : Option (List ℕ)
  pub faults : ℕ

-- where it tells, it took just these bytes since, and tells still
abbrev pub Took : Option (List ℕ) → Option (List ℕ) → List ℕ → Type 0
Took old new bytes = IfSome old (λ before. new ≡ Some (before ++ bytes))

-- where it tells, it took the first of these bytes since, perhaps none, and tells still
abbrev pub TookPrefix : Option (List ℕ) → Option (List ℕ) → List ℕ → Type 0
TookPrefix old new bytes = IfSome old (λ before. (n : ℕ) × (new ≡ Some (before ++ take n bytes)))

-- a write takes the whole piece, or as it fails a prefix of it, or for want of memory nothing
abbrev pub WriteTakes : Option (List ℕ) → Option (List ℕ) → List ℕ → Result Unit SinkFault → Type 0
WriteTakes old new piece (Ok _) = Took old new piece
WriteTakes old new piece (Err Failed) = TookPrefix old new piece
WriteTakes old new piece (Err Memory) = new ≡ old

-- a failed write has raised the count of faults; no other answer changes it
abbrev pub WriteCause : ℕ → ℕ → Result Unit SinkFault → Type 0
WriteCause before now (Ok _) = now ≡ before
WriteCause before now (Err Failed) = Rose before now
WriteCause before now (Err Memory) = now ≡ before
