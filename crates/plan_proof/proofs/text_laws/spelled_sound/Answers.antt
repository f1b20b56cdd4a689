use Rattle.plan_proof.proofs.texts.SpelledSound.{spelled-sound}
use Rattle.plan_proof.proofs.text_laws.spelled_sound.Goals as goal

pub returns : goal.returns
returns c = spelled-sound c.args.value.now c.args.domain.now c.args.problem.now c.requires
