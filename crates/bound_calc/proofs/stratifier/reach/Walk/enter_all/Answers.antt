use Rattle.std.proofs.Common.{arith}
use Rattle.std.proofs.lemmas.Grind.{common_steps}
use Rattle.bound_calc.proofs.stratifier.Entering.{entered_more, one_of_more}
use Rattle.bound_calc.proofs.stratifier.reach.Walk.enter_all.Goals as goal

pub loop-task-preserved : goal.loop-task-preserved
loop-task-preserved c = entered_more (one_of_more c.args.tasks.now c.loop-task.task-index _ c.loop-task-test.true) c.args.self.now c.loop-task.self c.enter.new.self c.loop-task.invariant c.in_ok-enter.ensures.entered

pub loop-task-init : goal.loop-task-init
loop-task-init c = grind (arith, common_steps)

pub offset_bounds-tasks-task-index : goal.offset_bounds-tasks-task-index
offset_bounds-tasks-task-index c = grind (arith, common_steps)

pub enter-requires : goal.enter-requires
enter-requires c = grind (arith, common_steps)

pub returns : goal.returns
returns c = grind (arith, common_steps)
