use Rattle.decoding.proofs.KeptFronts.{kept_at_first}
use Rattle.decoding.proofs.keeping.kept_at_first.Goals as goal

pub returns : goal.returns
returns g c = kept_at_first g.N.Network.net c.requires.lawful
