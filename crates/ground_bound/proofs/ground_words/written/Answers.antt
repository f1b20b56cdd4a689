use Rattle.std.proofs.Common.{sym}
use Rattle.bound_calc.proofs.Cycles.{none_there}
use Rattle.ground_bound.proofs.ground_words.written.Goals as goal

pub returns-in-None : goal.returns-in-None
returns-in-None c = sym (none_there c.args.c.now.hddl.names c.args.name.number (sym c.in-None.ensures.word))
