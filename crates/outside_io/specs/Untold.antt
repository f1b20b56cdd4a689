-- Files of which nothing is told but the counts, and what a refused call counts.
use Rattle.std.specs.Prelude.{ℕ, None, false}
use Rattle.outside_io.specs.Count.{one_more}
use Rattle.outside_io.specs.Files.{FilesState}
use Rattle.outside_io.specs.Sink.{SinkState}
use Rattle.outside_io.specs.declared.files.GetError.{GetError}
use Rattle.outside_io.specs.declared.files.GetError.TheVariants as get
use Rattle.outside_io.specs.declared.files.PutError.{PutError}
use Rattle.outside_io.specs.declared.files.PutError.TheVariants as put
use Rattle.outside_io.specs.declared.sink.WriteError.{WriteError}
use Rattle.outside_io.specs.declared.sink.WriteError.TheVariants as write

-- files of which only the counts of faults are told
abbrev pub untold_files : ℕ → ℕ → FilesState
untold_files get_faults put_faults = record { held = None; get_faults = get_faults; put_faults = put_faults; failed = None; lenient = false }

-- the files with a refused get counted
abbrev pub counted_get : FilesState → GetError → FilesState
counted_get files get.Failed = record files { get_faults = one_more files.get_faults }
counted_get files get.Memory = files

-- the files with a refused put counted
abbrev pub counted_put : FilesState → PutError → FilesState
counted_put files put.Failed = record files { put_faults = one_more files.put_faults }
counted_put files put.Memory = files

-- the sink with a refused write counted
abbrev pub counted_write : SinkState → WriteError → SinkState
counted_write sink write.Failed = record sink { faults = one_more sink.faults }
counted_write sink write.Memory = record sink { refused = one_more sink.refused }
