use Rattle.first_slots.proofs.Plans.{first_texts}
use Rattle.first_slots.proofs.plan_laws.first_texts_are_faithful.Goals as goal

pub returns : goal.returns
returns c = first_texts c.args.problem.now c.args.checks.now c.args.compiled.now c.args.slots c.args.style.now c.args.value.now c.requires.ordered c.requires.printed
