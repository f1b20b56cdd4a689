use Rattle.std.proofs.Common.{sym}
use Rattle.plan_texts.specs.Declared.{named}
use Rattle.pddl_printer.proofs.Places.{at-none}
use Rattle.pddl_printer.proofs.words.type_word.Goals as goal

pub returns-in-None : goal.returns-in-None
returns-in-None c = sym (at-none (named c.args.p.now.names) c.args.p.now.types.names c.args.ty c.in-None.ensures.item)
