use Rattle.command_words.proofs.Numerals.{past_all}
use Rattle.command_words.proofs.bounds.bound_of.Goals as goal

pub returns-in-Err : goal.returns-in-Err
returns-in-Err c = past_all c.args.word.now c.in-Err.ensures.value.0 c.requires.digits c.requires.some
