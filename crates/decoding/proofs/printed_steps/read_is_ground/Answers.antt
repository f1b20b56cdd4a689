use Rattle.decoding.proofs.SoundSteps.{read_is_ground}
use Rattle.decoding.proofs.printed_steps.read_is_ground.Goals as goal

pub returns : goal.returns
returns c = read_is_ground c.args.compiled.now
