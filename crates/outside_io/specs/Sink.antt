use Rattle.std.specs.Prelude.{◌≡◌, ◌≢◌, ℕ, ◌<◌, ◌≤◌, List, [], ◌++◌, length, Option, option_map, take}
use Rattle.outside_io.specs.Count.{Rises, HasRisen}
use Rattle.outside_io.specs.declared.sink.WriteError.{WriteError}
use Rattle.outside_io.specs.declared.sink.WriteError.TheVariants.{Failed, Memory}

-- what is known of a sink from outside
pub record SinkState : Type 0 where
  pub written : Option (List ℕ)  -- all bytes that it took, where they are told
  pub faults : ℕ  -- how many writes have failed
  pub refused : ℕ  -- how many writes found no memory

-- a write has failed
abbrev pub WriteHasFailed : SinkState → SinkState → Type 0
WriteHasFailed old new = HasRisen old.faults new.faults

-- a write that takes the first `count` bytes of a piece, at least one where there is one
pub record WriteTakes (old new : SinkState) (piece : List ℕ) (count : ℕ) : Type 0 where
  pub within : count ≤ length piece
  pub some : piece ≢ [] → 0 < count
  pub written : new.written ≡ option_map (λ bytes. bytes ++ take count piece) old.written
  pub faults : new.faults ≡ old.faults
  pub refused : new.refused ≡ old.refused

-- a write that fails
pub record WriteFails (old new : SinkState) : Type 0 where
  pub written : new.written ≡ old.written
  pub faults : Rises old.faults new.faults
  pub refused : new.refused ≡ old.refused

-- a write that finds no memory
pub record WriteStarves (old new : SinkState) : Type 0 where
  pub written : new.written ≡ old.written
  pub faults : new.faults ≡ old.faults
  pub refused : Rises old.refused new.refused

abbrev pub WriteRefused : SinkState → SinkState → WriteError → Type 0
WriteRefused old new Failed = WriteFails old new
WriteRefused old new Memory = WriteStarves old new
