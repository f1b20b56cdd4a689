-- Files and a sink in memory, of which chosen calls fail.
use Rattle.std.specs.Prelude.{◌≡◌, ◌⊎◌, ℕ, ◌==◌, Bool, List, [], ◌∷◌, ◌++◌, Option, Some, None, true, false}
use Rattle.std.specs.List.{list_any}
use Rattle.outside_io.specs.Count.{one_more}
use Rattle.outside_io.specs.Folder.{Folder, bytes_of, with_bytes}
use Rattle.outside_io.specs.Files.{FilesState}
use Rattle.outside_io.specs.Sink.{SinkState}
use Rattle.memory_io.specs.Steady.{BoundedSink, steady_sink, empty_bounded, after_taking, after_want}
use Rattle.outside_io.specs.declared.files.GetError.{GetError}
use Rattle.outside_io.specs.declared.files.GetError.TheVariants as get
use Rattle.outside_io.specs.declared.files.PutError.{PutError}
use Rattle.outside_io.specs.declared.files.PutError.TheVariants as put
use Rattle.outside_io.specs.declared.sink.WriteError.{WriteError}
use Rattle.outside_io.specs.declared.sink.WriteError.TheVariants as write

-- calls of one kind, of which some are to fail
pub record Script : Type 0 where
  pub failing : List ℕ  -- the numbers of the calls that are to fail, from 0
  pub calls : ℕ  -- how many calls were made
  pub faults : ℕ  -- how many calls have failed

abbrev pub fresh : Script
fresh = record { failing = []; calls = 0; faults = 0 }

-- the next call is to fail
abbrev pub fails_next : Script → Bool
fails_next script = list_any (λ number. number == script.calls) script.failing

-- the script after a call that did not fail
abbrev pub after_call : Script → Script
after_call script = record script { calls = one_more script.calls }

-- the script after a call that failed
abbrev pub after_fault : Script → Script
after_fault script = record script { calls = one_more script.calls; faults = one_more script.faults }

-- the script by which one more call is to fail
abbrev pub with_failing : Script → ℕ → Script
with_failing script number = record script { failing = script.failing ++ number ∷ [] }

-- files in memory: a folder, and a script for gets and for puts
pub record ScriptedFiles : Type 0 where
  pub folder : Folder
  pub gets : Script
  pub puts : Script
  pub failed : Option (List ℕ)

abbrev pub files_state : ScriptedFiles → FilesState
files_state files =
    record { held = Some files.folder; get_faults = files.gets.faults; put_faults = files.puts.faults; failed = files.failed; lenient = false }

-- a sink in memory, and a script for writes
pub record ScriptedSink : Type 0 where
  pub sink : BoundedSink
  pub writes : Script

abbrev pub sink_state : ScriptedSink → SinkState
sink_state s = record (steady_sink s.sink) { faults = s.writes.faults }

-- no file, and no call that is to fail
abbrev pub no_files : ScriptedFiles
no_files = record { folder = []; gets = fresh; puts = fresh; failed = None }

-- nothing taken, and no write that is to fail
abbrev pub empty_sink : ℕ → ScriptedSink
empty_sink largest = record { sink = empty_bounded largest; writes = fresh }

-- the files in which a name holds these bytes
abbrev pub with_file : ScriptedFiles → List ℕ → List ℕ → ScriptedFiles
with_file files name bytes = record files { folder = with_bytes files.folder name bytes }

-- the files, and the sink, of which one more call is to fail
abbrev pub with_failing_get : ScriptedFiles → ℕ → ScriptedFiles
with_failing_get files number = record files { gets = with_failing files.gets number }

abbrev pub with_failing_put : ScriptedFiles → ℕ → ScriptedFiles
with_failing_put files number = record files { puts = with_failing files.puts number }

abbrev pub with_failing_write : ScriptedSink → ℕ → ScriptedSink
with_failing_write s number = record s { writes = with_failing s.writes number }

-- the script lets the next get fail, or the name is not held
abbrev pub GetIsToFail : ScriptedFiles → List ℕ → Type 0
GetIsToFail files name = (fails_next files.gets ≡ true) ⊎ (bytes_of files.folder name ≡ None)

-- the files after a get that gave its bytes
abbrev pub after_get : ScriptedFiles → ScriptedFiles
after_get files = record files { gets = after_call files.gets }

-- the files after a get that was refused
abbrev pub after_refused_get : ScriptedFiles → List ℕ → GetError → ScriptedFiles
after_refused_get files name get.Failed = record files { gets = after_fault files.gets; failed = Some name }
after_refused_get files name get.Memory = files

-- the files after a put that was done
abbrev pub after_put : ScriptedFiles → List ℕ → List ℕ → ScriptedFiles
after_put files name bytes = record files { folder = with_bytes files.folder name bytes; puts = after_call files.puts }

-- the files after a put that was refused
abbrev pub after_refused_put : ScriptedFiles → List ℕ → PutError → ScriptedFiles
after_refused_put files name put.Failed = record files { puts = after_fault files.puts; failed = Some name }
after_refused_put files name put.Memory = files

-- the sink after a write of a piece
abbrev pub after_write : ScriptedSink → List ℕ → ScriptedSink
after_write s piece = record { sink = after_taking s.sink piece; writes = after_call s.writes }

-- the sink after a write that was refused
abbrev pub after_refused_write : ScriptedSink → WriteError → ScriptedSink
after_refused_write s write.Failed = record s { writes = after_fault s.writes }
after_refused_write s write.Memory = record s { sink = after_want s.sink }
