use Rattle.hddl_texts.proofs.DomainNames.{of_two_texts}
use Rattle.hddl_texts.proofs.laws.spelled_are_of_two_texts.Goals as goal

pub returns : goal.returns
returns c = of_two_texts c.args.domain.now c.args.problem.now c.args.value.now c.requires.spelled c.requires.sound.value
