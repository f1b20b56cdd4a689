use Rattle.first_slots.proofs.Plans.{one_spelling}
use Rattle.first_slots.proofs.plan_laws.each_schedule_has_one_spelling.Goals as goal

pub returns : goal.returns
returns c = one_spelling c.args.problem.now c.args.checks.now c.args.compiled.now c.requires.ordered c.requires.compiled c.args.slots
