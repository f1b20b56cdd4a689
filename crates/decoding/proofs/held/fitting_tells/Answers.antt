use Rattle.decoding.proofs.Kept.{fitting_tells}
use Rattle.decoding.proofs.held.fitting_tells.Goals as goal

pub returns : goal.returns
returns g c = fitting_tells g.N.Network.net c.requires.lawful
