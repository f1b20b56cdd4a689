use Rattle.stack_machine.proofs.StackPlans.{has_one_schedule, has_some_schedule}
use Rattle.stack_machine.proofs.laws.one_schedule.Goals as goal

pub returns-clause-one : goal.returns-clause-one
returns-clause-one g c = has_one_schedule g.N.Network.net c.requires.lawful c.requires.total

pub returns-clause-some : goal.returns-clause-some
returns-clause-some g c = has_some_schedule g.N.Network.net c.requires.lawful c.requires.total
