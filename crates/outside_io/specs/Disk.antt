-- What is known of the real files: the counts, and what passed.
use Rattle.std.specs.Prelude.{List, []}
use Rattle.outside_io.specs.Files.{FilesState}
use Rattle.outside_io.specs.Calls.{Passed}
use Rattle.outside_io.specs.Untold.{untold_files}

pub record DiskState : Type 0 where
  pub state : FilesState
  pub passed : List Passed

abbrev pub unused_disk : DiskState
unused_disk = record { state = untold_files 0 0; passed = [] }
