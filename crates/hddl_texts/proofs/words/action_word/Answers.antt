use Rattle.std.proofs.Common.{sym}
use Rattle.plan_texts.specs.Declared.{named}
use Rattle.plan_model.specs.declared.schemas.ActionSchema.{ActionSchema}
use Rattle.pddl_printer.proofs.Places.{at-none}
use Rattle.hddl_texts.proofs.words.action_word.Goals as goal

pub returns-in-None : goal.returns-in-None
returns-in-None c = sym (at-none (λ (a : ActionSchema). named c.args.p.now.pddl.names a.name) c.args.p.now.pddl.actions c.args.action c.in-None.ensures.item)
