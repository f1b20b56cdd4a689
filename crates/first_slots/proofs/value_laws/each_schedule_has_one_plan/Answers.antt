use Rattle.first_slots.proofs.Headlines.{one_plan_for_each}
use Rattle.first_slots.proofs.value_laws.each_schedule_has_one_plan.Goals as goal

pub returns : goal.returns
returns c = one_plan_for_each c.args.domain.now c.args.problem.now c.args.read.now c.args.checks.now c.args.compiled.now c.args.slots c.args.style.now c.args.value.now c.requires.spelled c.requires.ordered c.requires.printed
