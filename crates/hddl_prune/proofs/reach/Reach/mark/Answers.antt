use Rattle.std.proofs.lemmas.Result.{on_ok_weaker}
use Rattle.hddl_prune.specs.Search.{kept_of}
use Rattle.hddl_prune.proofs.ReachSteps.{marks_task, marks_action}
use Rattle.hddl_prune.proofs.reach.Reach.mark.Goals as goal

pub returns-in-Task : goal.returns-in-Task
returns-in-Task c = on_ok_weaker c.mark.result (marks_task (kept_of c.args.self.now) c.args.head c.in-Task.task c.mark.new.self c.in-Task.is) c.mark.ensures.marked

pub returns-in-Action : goal.returns-in-Action
returns-in-Action c = on_ok_weaker c.mark-in-Action.result (marks_action (kept_of c.args.self.now) c.args.head c.in-Action.action c.mark-in-Action.new.self c.in-Action.is) c.mark-in-Action.ensures.marked
