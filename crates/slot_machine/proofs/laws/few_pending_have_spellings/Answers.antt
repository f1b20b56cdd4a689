use Rattle.slot_machine.proofs.Theorem.{few_pending_have_spellings}
use Rattle.slot_machine.proofs.laws.few_pending_have_spellings.Goals as goal

pub returns : goal.returns
returns g c = few_pending_have_spellings g.N.Network.net c.requires.lawful
