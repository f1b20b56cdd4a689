use Rattle.slot_machine.proofs.SpellingSteps.{open_pending, pending_open}
use Rattle.slot_machine.proofs.laws.pending_are_open_leaves.Goals as goal

pub returns : goal.returns
returns g c tree order p s = (pending_open g.N.Network.net tree order p s, open_pending g.N.Network.net tree order p s)
