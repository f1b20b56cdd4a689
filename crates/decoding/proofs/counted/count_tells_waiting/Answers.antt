use Rattle.decoding.proofs.Counts.{count_tells_waiting}
use Rattle.decoding.proofs.counted.count_tells_waiting.Goals as goal

pub returns : goal.returns
returns g c = count_tells_waiting g.N.Network.net c.requires.lawful
