use Rattle.std.proofs.Common.{sym}
use Rattle.pddl_printer.proofs.Places.{word-none}
use Rattle.pddl_printer.proofs.words.name_word.Goals as goal

pub returns-in-None : goal.returns-in-None
returns-in-None c = sym (word-none c.args.p.now.names c.args.name.number c.in-None.ensures.word)
