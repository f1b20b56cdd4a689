use Rattle.decoding.proofs.Formed.{spelled_is_formed}
use Rattle.decoding.proofs.failing.spelled_is_formed.Goals as goal

pub returns : goal.returns
returns g c = spelled_is_formed g.N.Network.net
