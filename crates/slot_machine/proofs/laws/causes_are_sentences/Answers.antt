use Rattle.slot_machine.proofs.Theorem.{causes_are_sentences}
use Rattle.slot_machine.proofs.laws.causes_are_sentences.Goals as goal

pub returns : goal.returns
returns g c = causes_are_sentences g.N.Network.net c.requires.lawful
