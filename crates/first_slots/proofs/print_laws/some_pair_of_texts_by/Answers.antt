use Rattle.first_slots.proofs.Texts.{some_pair}
use Rattle.first_slots.proofs.print_laws.some_pair_of_texts_by.Goals as goal

pub returns : goal.returns
returns c = some_pair c.args.rule.now c.args.domain.now c.args.problem.now c.args.read.now c.args.checks.now c.args.slots c.args.style.now c.requires.spelled c.requires.sound c.requires.ordered
