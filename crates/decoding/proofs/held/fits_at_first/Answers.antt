use Rattle.decoding.proofs.Kept.{fits_at_first}
use Rattle.decoding.proofs.held.fits_at_first.Goals as goal

pub returns : goal.returns
returns g c = fits_at_first g.N.Network.net
