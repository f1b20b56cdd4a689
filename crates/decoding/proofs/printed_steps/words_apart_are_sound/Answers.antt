use Rattle.decoding.proofs.SoundSteps.{words_apart_are_sound}
use Rattle.decoding.proofs.printed_steps.words_apart_are_sound.Goals as goal

pub returns : goal.returns
returns c = words_apart_are_sound c.args.compiled.now
