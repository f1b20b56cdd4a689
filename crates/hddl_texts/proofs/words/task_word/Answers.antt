use Rattle.std.proofs.Common.{sym}
use Rattle.plan_texts.specs.Declared.{named}
use Rattle.plan_model.specs.declared.schemas.TaskSchema.{TaskSchema}
use Rattle.pddl_printer.proofs.Places.{at-none}
use Rattle.hddl_texts.proofs.words.task_word.Goals as goal

pub returns-in-None : goal.returns-in-None
returns-in-None c = sym (at-none (λ (t : TaskSchema). named c.args.p.now.pddl.names t.name) c.args.p.now.tasks c.args.task c.in-None.ensures.item)
