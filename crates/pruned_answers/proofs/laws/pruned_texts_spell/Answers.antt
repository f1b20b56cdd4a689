use Rattle.pruned_answers.proofs.PrunedTexts.{pruned_texts_spell}
use Rattle.pruned_answers.proofs.laws.pruned_texts_spell.Goals as goal

pub returns : goal.returns
returns c = pruned_texts_spell c.args.domain.now c.args.problem.now c.args.read.now c.requires.spelled c.requires.sound c.requires.ordered
