use Rattle.plan_texts.proofs.SoundProblems.{listed}
use Rattle.public_readers.proofs.shown_plans.compiled.Goals as goal

pub compile-requires-clause-listed : goal.compile-requires-clause-listed
compile-requires-clause-listed c = listed c.in_ok-problem.problem c.in_ok-problem.ensures.sound
