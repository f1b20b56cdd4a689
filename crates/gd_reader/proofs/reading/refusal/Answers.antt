use Rattle.std.proofs.Common.{rules}
use Rattle.gd_reader.proofs.reading.refusal.Goals as goal

pub returns-in-At-Departs : goal.returns-in-At-Departs
returns-in-At-Departs c = search rules
