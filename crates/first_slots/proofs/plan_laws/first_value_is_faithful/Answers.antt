use Rattle.first_slots.proofs.Plans.{first_faithful}
use Rattle.first_slots.proofs.plan_laws.first_value_is_faithful.Goals as goal

pub returns : goal.returns
returns c = first_faithful c.args.problem.now c.args.checks.now c.args.compiled.now c.args.slots c.args.style.now c.args.value.now c.requires.ordered c.requires.printed
