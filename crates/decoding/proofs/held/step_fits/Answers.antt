use Rattle.decoding.proofs.Kept.{step_fits}
use Rattle.decoding.proofs.held.step_fits.Goals as goal

pub returns : goal.returns
returns g c = step_fits g.N.Network.net c.requires.lawful
