use Rattle.plan_text.proofs.Exactly.{exactly}
use Rattle.plan_text.proofs.Folded.{printable}
use Rattle.plan_text.proofs.laws.faultless_texts_spell_plans.Goals as goal

pub returns : goal.returns
returns c = record { exactly = exactly c.args.text.now; printable = printable c.args.text.now }
