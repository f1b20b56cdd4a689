use Rattle.decoding.proofs.KeptFronts.{walk_goes_up, walk_is_over}
use Rattle.decoding.proofs.keeping.walk_goes_up.Goals as goal

pub returns-clause-goes : goal.returns-clause-goes
returns-clause-goes g c = walk_goes_up g.N.Network.net c.requires.lawful

pub returns-clause-over : goal.returns-clause-over
returns-clause-over g c = walk_is_over g.N.Network.net c.requires.lawful
