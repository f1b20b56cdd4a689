use Rattle.first_slots.proofs.Texts.{are_texts}
use Rattle.first_slots.proofs.print_laws.printed_texts_are_the_pair_by.Goals as goal

pub returns : goal.returns
returns c = are_texts c.args.domain.now c.args.problem.now c.args.read.now c.args.checks.now c.args.compiled.now c.args.slots c.args.style.now c.args.value.now c.requires.spelled c.args.rule.now c.requires.printed c.requires.words
