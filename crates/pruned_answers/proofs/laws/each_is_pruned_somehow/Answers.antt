use Rattle.pruned_answers.proofs.OneOutcome.{pruned_somehow}
use Rattle.pruned_answers.proofs.laws.each_is_pruned_somehow.Goals as goal

pub returns : goal.returns
returns c = pruned_somehow c.args.read.now c.requires.sound
