use Rattle.plan_texts.proofs.SoundProblems.{listed}
use Rattle.htn_cli.proofs.problem.compiled_from.Goals as goal

pub compile-requires-clause-listed : goal.compile-requires-clause-listed
compile-requires-clause-listed c = listed c.in-Ok.read c.in-Ok.ensures.read.sound
