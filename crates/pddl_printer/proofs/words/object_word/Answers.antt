use Rattle.std.proofs.Common.{sym}
use Rattle.plan_texts.specs.Declared.{named}
use Rattle.plan_model.specs.declared.types.Object.{Object}
use Rattle.pddl_printer.proofs.Places.{at-none}
use Rattle.pddl_printer.proofs.words.object_word.Goals as goal

pub returns-in-None : goal.returns-in-None
returns-in-None c = sym (at-none (λ (x : Object). named c.args.p.now.names x.name) c.args.p.now.objects c.args.object c.in-None.ensures.item)
