use Rattle.decoding.proofs.Counts.{counted_at_first}
use Rattle.decoding.proofs.counted.counted_at_first.Goals as goal

pub returns : goal.returns
returns g c = counted_at_first g.N.Network.net
