use Rattle.plan_encoder.proofs.Telling.{words_tell}
use Rattle.plan_encoder.proofs.laws.words_tell.Goals as goal

pub returns : goal.returns
returns c = λ h mode of. words_tell c.args.compiled.now h mode of.sound of.compiled
