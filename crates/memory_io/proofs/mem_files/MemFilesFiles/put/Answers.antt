use Rattle.std.proofs.Common.{rules}
use Rattle.memory_io.proofs.mem_files.MemFilesFiles.put.Goals as goal

pub returns-clause-put : goal.returns-clause-put
returns-clause-put c = search rules
