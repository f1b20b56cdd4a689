use Rattle.first_slots.proofs.Texts.{one_pair}
use Rattle.first_slots.proofs.print_laws.one_pair_of_texts_by.Goals as goal

pub returns : goal.returns
returns c = one_pair c.args.rule.now c.args.domain.now c.args.problem.now c.args.checks.now c.args.slots c.args.style.now
