use Rattle.decoding.proofs.KeptFronts.{keeps_with_children, keeps_without}
use Rattle.decoding.proofs.keeping.keeping_follows.Goals as goal

pub returns-clause-with_children : goal.returns-clause-with_children
returns-clause-with_children g c = keeps_with_children g.N.Network.net c.requires.lawful

pub returns-clause-without : goal.returns-clause-without
returns-clause-without g c = keeps_without g.N.Network.net c.requires.lawful
