use Rattle.decoding.proofs.KeptFronts.{keeping_tells}
use Rattle.decoding.proofs.keeping.keeping_tells.Goals as goal

pub returns : goal.returns
returns g c = keeping_tells g.N.Network.net c.requires.lawful
