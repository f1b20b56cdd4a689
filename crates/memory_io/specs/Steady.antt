-- Files and a sink in memory that never fail: only memory can be wanting.
use Rattle.std.specs.Prelude.{ℕ, List, [], ◌++◌, Some, None, take, true}
use Rattle.outside_io.specs.Count.{one_more}
use Rattle.outside_io.specs.Folder.{Folder}
use Rattle.outside_io.specs.Files.{FilesState}
use Rattle.outside_io.specs.Sink.{SinkState}

-- files of which all is told and none fails; a name that is not held reads as an empty file
abbrev pub steady_files : Folder → FilesState
steady_files folder = record { held = Some folder; get_faults = 0; put_faults = 0; failed = None; lenient = true }

-- a sink that takes at most `largest` bytes at a time
pub record BoundedSink : Type 0 where
  pub bytes : List ℕ
  pub largest : ℕ
  pub refused : ℕ  -- how many writes found no memory

abbrev pub steady_sink : BoundedSink → SinkState
steady_sink sink = record { written = Some sink.bytes; faults = 0; refused = sink.refused }

-- a sink that took nothing
abbrev pub empty_bounded : ℕ → BoundedSink
empty_bounded largest = record { bytes = []; largest = largest; refused = 0 }

-- the sink after a write of a piece: it took `largest` bytes of it, or the whole piece
abbrev pub after_taking : BoundedSink → List ℕ → BoundedSink
after_taking sink piece = record sink { bytes = sink.bytes ++ take sink.largest piece }

-- the sink after a write that found no memory
abbrev pub after_want : BoundedSink → BoundedSink
after_want sink = record sink { refused = one_more sink.refused }
