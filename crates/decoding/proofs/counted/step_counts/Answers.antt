use Rattle.decoding.proofs.Counts.{step_counts}
use Rattle.decoding.proofs.counted.step_counts.Goals as goal

pub returns : goal.returns
returns g c = step_counts g.N.Network.net c.requires.lawful
