-- What is known of a standard stream: which one it is, the bytes that it said it took, and the counts.
use Rattle.std.specs.Prelude.{ℕ, List, [], ◌++◌, Some, option_map}
use Rattle.outside_io.specs.Sink.{SinkState}
use Rattle.outside_io.specs.declared.stream.Stream.{Stream}

pub record StreamState : Type 0 where
  pub stream : Stream
  pub state : SinkState

-- a sink that tells the bytes that it took
abbrev pub told_sink : List ℕ → ℕ → ℕ → SinkState
told_sink bytes faults refused = record { written = Some bytes; faults = faults; refused = refused }

-- a stream that took nothing yet
abbrev pub unused_stream : Stream → StreamState
unused_stream stream = record { stream = stream; state = told_sink [] 0 0 }

-- the stream with more bytes taken
abbrev pub with_taken : StreamState → List ℕ → StreamState
with_taken s bytes = record s { state = record s.state { written = option_map (λ told. told ++ bytes) s.state.written } }
