use Rattle.live_parts.proofs.PrunedSound.{sound_is_numbered}
use Rattle.live_parts.proofs.pruned_sound.sound_is_numbered.Goals as goal

pub returns : goal.returns
returns c = sound_is_numbered c.args.problem.now c.requires.sound
