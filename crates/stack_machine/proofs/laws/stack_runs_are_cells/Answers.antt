use Rattle.stack_machine.proofs.StackPlans.{stack_runs_are_cells, stack_tells_front, tip_test_is_wait_test}
use Rattle.stack_machine.proofs.laws.stack_runs_are_cells.Goals as goal

pub returns-clause-runs : goal.returns-clause-runs
returns-clause-runs g c = stack_runs_are_cells g.N.Network.net c.requires.lawful c.requires.total

pub returns-clause-tells : goal.returns-clause-tells
returns-clause-tells g c = stack_tells_front g.N.Network.net c.requires.lawful c.requires.total

pub returns-clause-tests : goal.returns-clause-tests
returns-clause-tests g c = tip_test_is_wait_test g.N.Network.net c.requires.lawful c.requires.total
