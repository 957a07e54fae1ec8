-- A sink in memory: the bytes that it took, and the writes that are to fail.
use Rattle.std.specs.Prelude.{◌≡◌, ◌==◌, ◌++◌, ℕ, List, take, Option, Some, None, Result, Ok, Err}
use Rattle.std.specs.List.{find}
use Rattle.std.specs.Option.{option_map}
use Rattle.checker_io.specs.declared.mem_sink.Failing.{Failing}
use Rattle.checker_io.specs.declared.sink.SinkFault.{SinkFault}
use Rattle.checker_io.specs.declared.sink.SinkFault.TheVariants.{Failed, Memory}
use Rattle.checker_io.specs.Faults.{one_more}
use Rattle.checker_io.specs.Sink.{SinkState}

-- what a sink in memory is seen as: the bytes that it took, the writes that are to fail and how much each takes
-- before, how many writes there were, and how many failed
pub record MemBytes : Type 0 where
  pub bytes : List ℕ
  pub failing : List Failing
  pub writes : ℕ
  pub faults : ℕ

-- what any sink is seen as, of a sink in memory: it tells its bytes
abbrev pub sink_state : MemBytes → SinkState
sink_state sink = record { taken = Some sink.bytes; faults = sink.faults }

-- how many bytes the write of that number takes before it fails, where it is to fail: the first entry of that number
-- counts
abbrev pub taken_at : List Failing → ℕ → Option ℕ
taken_at failing number = option_map (λ fault. fault.taken) (find (λ fault. fault.number == number) failing)

-- the number of the next write, counted from 1
abbrev pub next_write : MemBytes → ℕ
next_write sink = one_more sink.writes

-- a sink after one more write that took these bytes
abbrev pub after_write : MemBytes → List ℕ → MemBytes
after_write sink bytes = record sink { bytes = sink.bytes ++ bytes; writes = next_write sink }

-- What the next write answers and leaves. It fails exactly where its number is to fail, once it took the piece's
-- bytes up to the number that goes with it; else it takes the whole piece. Want of memory may come in place of either.
abbrev pub MemWrites : MemBytes → MemBytes → List ℕ → Result Unit SinkFault → Type 0
MemWrites old new piece (Ok _) = (taken_at old.failing (next_write old) ≡ None) × (new ≡ after_write old piece)
MemWrites old new piece (Err Failed) =
    (count : ℕ) × (taken_at old.failing (next_write old) ≡ Some count)
    × (new ≡ record (after_write old (take count piece)) { faults = one_more old.faults })
MemWrites old new piece (Err Memory) = new ≡ record old { writes = next_write old }
