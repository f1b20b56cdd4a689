use Rattle.live_parts.proofs.PrunedSound.{is_sound, is_ordered}
use Rattle.live_parts.proofs.pruned_sound.pruned_is_sound.Goals as goal

pub returns-clause-sound : goal.returns-clause-sound
returns-clause-sound c = λ live kept are. is_sound c.args.problem.now c.requires.sound live kept are

pub returns-clause-ordered : goal.returns-clause-ordered
returns-clause-ordered c = λ live kept are. is_ordered c.args.problem.now c.requires.sound live kept are c.requires.ordered
