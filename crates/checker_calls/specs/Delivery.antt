-- What is written of a reply, and the status that it ends with.
use Rattle.std.specs.Prelude.{◌≡◌, ◌⊎◌, ℕ, List}
use Rattle.checker_io.specs.Faults.{Rose}
use Rattle.checker_io.specs.Sink.{SinkState, Took, TookPrefix}
use Rattle.checker_calls.specs.declared.deliver.TheConstants.{REFUSED, READ_FAILED, WRITE_FAILED, OUT_OF_MEMORY}
use Rattle.checker_calls.specs.declared.deliver.Reply.{Reply}
use Rattle.checker_calls.specs.declared.deliver.Reply.TheVariants.{Text, Refused, ReadFailed, NoMemory}
use Rattle.checker_calls.specs.ErrorLines.{write_failed_line, no_memory_line}

-- a line was written, no write failed and the status is the given one; or a write failed, or memory was missing
abbrev pub LineEnds : SinkState → SinkState → List ℕ → ℕ → ℕ → Type 0
LineEnds old new line given status =
    ((status ≡ given) × (new.faults ≡ old.faults) × Took old.taken new.taken line)
    ⊎ (((status ≡ WRITE_FAILED) × Rose old.faults new.faults × TookPrefix old.taken new.taken line)
    ⊎ ((status ≡ OUT_OF_MEMORY) × TookPrefix old.taken new.taken line))

-- memory was missing, and the line that says so was written as far as it went
abbrev pub NoMemoryEnds : SinkState → SinkState → ℕ → Type 0
NoMemoryEnds old new status = (status ≡ OUT_OF_MEMORY) × TookPrefix old.taken new.taken no_memory_line

-- what each reply leaves in the two sinks
abbrev pub Delivers : Reply → SinkState → SinkState → SinkState → SinkState → ℕ → Type 0
Delivers (Text text given) out0 out1 err0 err1 status =
    ((status ≡ given) × (out1.faults ≡ out0.faults) × Took out0.taken out1.taken text × (err1 ≡ err0))
    ⊎ ((Rose out0.faults out1.faults × TookPrefix out0.taken out1.taken text
    × LineEnds err0 err1 write_failed_line WRITE_FAILED status)
    ⊎ (TookPrefix out0.taken out1.taken text × NoMemoryEnds err0 err1 status))
Delivers (Refused line) out0 out1 err0 err1 status = (out1 ≡ out0) × LineEnds err0 err1 line REFUSED status
Delivers (ReadFailed line) out0 out1 err0 err1 status = (out1 ≡ out0) × LineEnds err0 err1 line READ_FAILED status
Delivers NoMemory out0 out1 err0 err1 status = (out1 ≡ out0) × NoMemoryEnds err0 err1 status
