-- A sink over a writer: its writer, its count, and what a write takes.
use Rattle.std.specs.Prelude.{ℕ, Bool, true, false, List, Option, None}
use Rattle.checker_io.specs.declared.out_sink.OutSink.{OutSink}
use Rattle.checker_io.specs.Sink.{SinkState, Took, TookPrefix}

-- the writer of a sink
abbrev pub writer_of : {W : Type 0} → OutSink W → W
writer_of sink = sink.inner

-- how many of its writes failed
abbrev pub faults_of : {W : Type 0} → OutSink W → ℕ
faults_of sink = sink.faults

-- what any sink is seen as, of a sink over a writer: it tells no bytes
abbrev pub out_state : {W : Type 0} → OutSink W → SinkState
out_state sink = record { taken = None; faults = sink.faults }

-- whether a writer took a piece: where it tells its bytes, it took all of it, or else a prefix of it
abbrev pub TakesPiece : Option (List ℕ) → Option (List ℕ) → List ℕ → Bool → Type 0
TakesPiece old new piece true = Took old new piece
TakesPiece old new piece false = TookPrefix old new piece
