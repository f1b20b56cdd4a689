use Rattle.std.proofs.Common.{ℕ, List, inl, inr, arith}
use Rattle.outside_io.specs.Count.{Rises}
use Rattle.outside_io.specs.Folder.{Folder}
use Rattle.outside_io.specs.Files.{GetFails, PutFails}
use Rattle.outside_io.specs.Sink.{WriteFails}
use Rattle.memory_io.specs.Steady.{BoundedSink, steady_files, steady_sink}

-- a count that stands at 0 has not risen
stays : Rises 0 0 → ⊥
stays rises = elim rises.has_risen [ inl less ↦ omega arith | inr full ↦ omega arith ]

-- so no call of what is steady fails
pub get_never_fails : (old new : Folder) (name : List ℕ) → GetFails (steady_files old) (steady_files new) name → ⊥
get_never_fails old new name fails = stays fails.get_faults

pub put_never_fails : (old new : Folder) (name : List ℕ) → PutFails (steady_files old) (steady_files new) name → ⊥
put_never_fails old new name fails = stays fails.put_faults

pub write_never_fails : (old new : BoundedSink) → WriteFails (steady_sink old) (steady_sink new) → ⊥
write_never_fails old new fails = stays fails.faults
