use Rattle.std.proofs.Common.{rules}
use Rattle.memory_io.proofs.mem_files.MemFilesFiles.get.Goals as goal

pub returns-2-clause-refused : goal.returns-2-clause-refused
returns-2-clause-refused c = search rules
